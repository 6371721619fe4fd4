-- Two chunks under one pair.
use Rattle.std.proofs.Common.{◌≡◌, ℕ, zero, suc, ◌+◌, ◌-◌, ◌/◌, ◌^◌, ◌≤◌, List, [], ◌∷◌, length, refl, ap, arith}
use Rattle.std.proofs.lemmas.List.Sums.{sum_by-cons}
use Rattle.std.proofs.lemmas.Nat.{pow_pos}
use Rattle.ssz_chunk.specs.Tree.{merkle_pairs}
use Rattle.ssz_chunk.proofs.Growing.{div_ceil-one}
use Rattle.ssz_arena.specs.declared.node.NodeId.{NodeId}
use Rattle.ssz_arena.specs.Content.{ArenaContent}
use Rattle.ssz_value.specs.Trees.{chunks}
use Rattle.ssz_merkle.specs.Packing.{packed_chunk}
use Rattle.ssz_making.specs.Parts.{MadePart, whole_of, costs, part_nodes}
use Rattle.ssz_tree.specs.Added.{AddsNodes, IsPartNode, MakesNode}
use Rattle.ssz_tree.proofs.Adding.{Adds-then, Adds-within, IsPart-kept, IsPart-one, IsPart-join, MakesPair}

-- one pair is above two places
pub one-pair : merkle_pairs 1 2 ≡ 1
unfolding merkle_pairs
one-pair = refl

-- the full tree of depth 1 over two parts
pub Makes-two : (old first second new : ArenaContent) (a b : MadePart) (left right id : NodeId)
    → MakesNode old first a left → MakesNode first second b right
    → MakesPair second new left right id
    → MakesNode old new (whole_of 1 (a ∷ b ∷ [])) id
Makes-two old first second new a b left right id made_left made_right made =
    let parts : List MadePart = a ∷ b ∷ [] in
    let cost : costs parts ≡ a.cost + b.cost =
    omega (
      arith,
      sum_by-cons (λ (part : MadePart). part.cost) a (b ∷ []),
      sum_by-cons (λ (part : MadePart). part.cost) b [],
    ) in
    let nodes : part_nodes parts ≡ a.nodes + b.nodes =
    omega (
      arith,
      sum_by-cons (λ (part : MadePart). part.nodes) a (b ∷ []),
      sum_by-cons (λ (part : MadePart). part.nodes) b [],
    ) in
    record {
      is = IsPart-join second new 0 parts left right id (omega arith) (omega arith)
          (IsPart-one second a left
          (IsPart-kept first second a left made_right.adds.keeps made_left.is))
          (IsPart-one second b right made_right.is) made.node made.tree made.todo;
      adds = Adds-within _ _ _ _ old new
          (Adds-then _ _ 1 1 old second new
          (Adds-then _ _ _ _ old first second made_left.adds made_right.adds) made.adds)
          (omega (arith, nodes, one-pair)) (omega (arith, cost, one-pair));
    }

-- one part is the full tree of depth 0 over it
pub Makes-one : (old new : ArenaContent) (part : MadePart) (id : NodeId)
    → MakesNode old new part id → MakesNode old new (whole_of 0 (part ∷ [])) id
Makes-one old new part id made = record {
  is = IsPart-one new part id made.is;
  adds = Adds-within _ _ _ _ old new made.adds
      (omega (arith, sum_by-cons (λ (p : MadePart). p.nodes) part []))
      (omega (arith, sum_by-cons (λ (p : MadePart). p.cost) part []));
}

-- one part, or two, have a pair on each level above them
pub one-each : (d : ℕ) → merkle_pairs d 1 ≡ d
unfolding merkle_pairs
one-each zero = refl
one-each (suc d) =
    omega (arith, one-each d, div_ceil-one 1 (2 ^ suc d) (omega arith) (pow_pos (suc d)))

pub two-each : (d : ℕ) → 1 ≤ d → merkle_pairs d 2 ≡ d
unfolding merkle_pairs
two-each zero some = absurd (omega arith)
two-each (suc zero) some = refl
two-each (suc (suc d)) some = omega (
  arith,
  two-each (suc d) (omega arith),
  div_ceil-one 2 (2 ^ suc (suc d)) (omega arith) (omega (arith, pow_pos d)),
)

-- the full tree with zero trees beside it, up to a depth
pub Makes-beside : (old first new : ArenaContent) (parts : List MadePart) (from to : ℕ)
    (node id : NodeId) → MakesNode old first (whole_of from parts) node
    → merkle_pairs to (length parts) ≡ merkle_pairs from (length parts) + (to - from)
    → IsPartNode new (whole_of to parts) id → AddsNodes (to - from) (to - from) first new
    → MakesNode old new (whole_of to parts) id
Makes-beside old first new parts from to node id made pairs is adds = record {
  is = is;
  adds = Adds-within _ _ _ _ old new (Adds-then _ _ _ _ old first new made.adds adds)
      (omega (arith, pairs)) (omega (arith, pairs));
}

-- the chunks of 33 to 64 bytes
pub two-chunks : (b : List ℕ) → (length b + 31) / 32 ≡ 2
    → chunks ((length b + 31) / 32) b ≡ packed_chunk b 0 ∷ packed_chunk b 1 ∷ []
two-chunks b two = ap (λ n. chunks n b) two
