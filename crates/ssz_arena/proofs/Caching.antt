-- Roots of several pairs are cached one after another.
use Rattle.std.proofs.Common.{◌≡◌, ◌≢◌, ℕ, ◌+◌, ◌*◌, ◌<◌, ◌≤◌, List, [], ◌∷◌, ◌++◌, length, get_or, set, take, refl, sym, ap, ◌∙◌, subst, slice_get, Some, None, ⊎_elim, inl, inr, Bool, append_assoc, arith, length-set}
use Rattle.std.specs.Option.{option_and_then}
use Rattle.std.proofs.lemmas.Bool.{cases_eq, cases_lt}
use Rattle.std.proofs.lemmas.Option.{slice_get_within}
use Rattle.std.proofs.lemmas.Grind.{take_at_read, take-set_at}
use Rattle.ssz_chunk.specs.Tree.{leaf, root}
use Rattle.ssz_chunk.specs.declared.Chunk.{Chunk}
use Rattle.ssz_arena.specs.declared.node.NodeId.{NodeId}
use Rattle.ssz_arena.specs.declared.node.Node.{Node}
use Rattle.ssz_arena.specs.declared.node.Node.TheVariants.{Pair}
use Rattle.ssz_arena.specs.Content.{ArenaContent, child}
use Rattle.ssz_arena.specs.Invariant.{IsArena}
use Rattle.ssz_arena.specs.Batches.{NodesAreBelow, AreDistinct, HasRoot, Wrote, id_at, kids, left_child, node_of, right_child}
use Rattle.ssz_arena.proofs.Following.{child-cached}
use Rattle.ssz_arena.proofs.Places.{slice_get-set_same, slice_get-set_other}
use Rattle.ssz_arena.proofs.Nodes.{due, due-cached, due-set, trees-set, unhashed-set}
use Rattle.ssz_arena.proofs.Sound.{arena-set}

-- the root of a pair is kept, if it had none
abbrev pub KeepsRoot : ArenaContent → ArenaContent → NodeId → Chunk → Type 0
KeepsRoot old new id chunk = (new.spare ≡ old.spare) × (length new.nodes ≡ length old.nodes)
    × ((left right : NodeId) → slice_get old.nodes id.0 ≡ Some (Pair left right None)
    → new.nodes ≡ set old.nodes id.0 (Pair left right (Some chunk)))

-- those from place n on are as they were
abbrev pub AreLeft : ℕ → List NodeId → List Node → List Node → Type 0
AreLeft n ids old now = (k : ℕ) → n ≤ k → k < length ids
    → slice_get now (id_at ids k).0 ≡ slice_get old (id_at ids k).0

-- nothing is cached yet
pub Wrote-none : (p : List ℕ → List ℕ → List ℕ) (limit : ℕ) (ids : List NodeId) (nodes : List Node)
    → IsArena p nodes → Wrote p limit 0 ids nodes nodes × AreLeft 0 ids nodes nodes
Wrote-none p limit ids nodes arena = (
  record {
    arena = arena;
    fills = record {
      count = refl;
      trees = refl;
      todo = λ j. omega arith;
      children = λ j step. refl;
      behind = λ j h. refl;
    };
    fewer = omega arith;
    hashed = λ j below. absurd (omega arith);
  },
  λ k from within. refl,
)

-- the children of a pair that is cached now
children-set : (now : List Node) (i : ℕ) (left right : NodeId) (chunk : Chunk) (j : ℕ) (step : Bool)
    → slice_get now i ≡ Some (Pair left right None)
    → option_and_then (child step) (slice_get (set now i (Pair left right (Some chunk))) j)
    ≡ option_and_then (child step) (slice_get now j)
children-set now i left right chunk j step found = elim (cases_eq j i) [
  | inl same ↦
      ap (λ n. option_and_then (child step)
      (slice_get (set now i (Pair left right (Some chunk))) n)) same
      ∙ ap (option_and_then (child step))
      (slice_get-set_same now i _ (slice_get_within now i _ found))
      ∙ child-cached step left right (Some chunk) None
      ∙ ap (option_and_then (child step)) (sym found)
      ∙ ap (λ n. option_and_then (child step) (slice_get now n)) (sym same)
  | inr other ↦ ap (option_and_then (child step)) (slice_get-set_other now i j _ other)
]

-- one more
pub Wrote-more : (p : List ℕ → List ℕ → List ℕ) (limit n : ℕ) (ids : List NodeId)
    (old now new : List Node) (chunk : Chunk)
    → AreDistinct ids → NodesAreBelow limit ids → n < length ids
    → HasRoot p old (id_at ids n).0 chunk.0
    → ((left right : NodeId) → slice_get now (id_at ids n).0 ≡ Some (Pair left right None)
    → new ≡ set now (id_at ids n).0 (Pair left right (Some chunk)))
    → Wrote p limit n ids old now × AreLeft n ids old now
    → Wrote p limit (n + 1) ids old new × AreLeft (n + 1) ids old new
Wrote-more p limit n ids old now new chunk distinct below more has sets before =
    subst (λ ns. Wrote p limit (n + 1) ids old ns × AreLeft (n + 1) ids old ns)
    (sym (sets has.left has.right found)) (written, left)
  where
    i : ℕ
    i = (id_at ids n).0

    wrote : Wrote p limit n ids old now
    wrote = before.0

    found : slice_get now i ≡ Some (Pair has.left has.right None)
    found = before.1 n (omega arith) more ∙ has.found

    filled : List Node
    filled = set now i (Pair has.left has.right (Some chunk))

    within : i < length now
    within = slice_get_within now i _ found

    written : Wrote p limit (n + 1) ids old filled
    written = record {
      arena = arena-set p now i has.left has.right chunk found (record {
        root = has.root ∙ ap (λ ts. root p (get_or ts i (leaf []))) (sym wrote.fills.trees);
        left_hashed = omega (arith, wrote.fills.todo has.left.0, has.left_hashed);
        right_hashed = omega (arith, wrote.fills.todo has.right.0, has.right_hashed);
      }) wrote.arena;
      fills = record {
        count = length-set now i _ ∙ wrote.fills.count;
        trees = trees-set now i has.left has.right None (Some chunk) found ∙ wrote.fills.trees;
        todo = λ j. omega (
          arith,
          due-set now i has.left has.right chunk j,
          wrote.fills.todo j,
        );
        children = λ j step. children-set now i has.left has.right chunk j step found
            ∙ wrote.fills.children j step;
        behind = λ j h.
            let under : i < limit = below n more in
            let ne : j ≢ i = omega (arith, under) in
            slice_get-set_other now i j _ ne ∙ wrote.fills.behind j h;
      };
      fewer = omega (arith, unhashed-set now i has.left has.right chunk found, wrote.fewer);
      hashed = λ j under. ⊎_elim
          (λ (earlier : j < n). omega (
            arith,
            due-set now i has.left has.right chunk (id_at ids j).0,
            wrote.hashed j earlier,
          ))
          (λ (here : n ≤ j).
          let same : n ≡ j = omega arith in
          subst (λ k. due filled (id_at ids k).0 ≡ 0) same
          (due-cached filled i has.left has.right chunk (slice_get-set_same now i _ within)))
          (cases_lt j n);
    }

    left : AreLeft (n + 1) ids old filled
    left k from inside =
        let ne : (id_at ids k).0 ≢ i = λ same. distinct n k (omega arith) inside (sym same) in
        slice_get-set_other now i (id_at ids k).0 _ ne ∙ before.1 k (omega arith) inside

-- the children of one more node
kids-push : (nodes : List Node) (ids : List NodeId) (id : NodeId)
    → kids nodes (ids ++ id ∷ [])
    ≡ kids nodes ids ++ left_child (node_of nodes id) ∷ right_child (node_of nodes id) ∷ []
kids-push nodes [] id = refl
kids-push nodes (first ∷ ids) id =
    ap (λ (rest : List NodeId).
    left_child (node_of nodes first) ∷ right_child (node_of nodes first) ∷ rest)
    (kids-push nodes ids id)

pub kids_more : (nodes : List Node) (ids found : List NodeId) (i : ℕ) (left right : NodeId)
    → i < length ids → 2 * i + 1 < length found
    → left ≡ left_child (node_of nodes (id_at ids i))
    → right ≡ right_child (node_of nodes (id_at ids i))
    → take (2 * i) found ≡ kids nodes (take i ids)
    → take (2 * (i + 1)) (set (set found (2 * i) left) (2 * i + 1) right)
    ≡ kids nodes (take (i + 1) ids)
kids_more nodes ids found i left right more room is_left is_right before =
    let first : take (2 * i + 1) (set found (2 * i) left) ≡ take (2 * i) found ++ left ∷ [] =
    take-set_at found (2 * i) (2 * i + 1) left refl (omega arith) in
    let long : length (set found (2 * i) left) ≡ length found = length-set found (2 * i) left in
    let second : take (2 * (i + 1)) (set (set found (2 * i) left) (2 * i + 1) right)
    ≡ take (2 * i + 1) (set found (2 * i) left) ++ right ∷ [] =
    take-set_at (set found (2 * i) left) (2 * i + 1) (2 * (i + 1)) right (omega arith)
    (omega (arith, long)) in
    let ids_more : take (i + 1) ids ≡ take i ids ++ id_at ids i ∷ [] =
    (take_at_read ids i (record { 0 = 0 }) more).1 in
    second ∙ ap (λ (l : List NodeId). l ++ right ∷ []) (first
    ∙ ap (λ (l : List NodeId). l ++ left ∷ []) before)
    ∙ append_assoc (kids nodes (take i ids)) (left ∷ []) (right ∷ [])
    ∙ (λ j. kids nodes (take i ids) ++ is_left j ∷ is_right j ∷ [])
    ∙ sym (ap (kids nodes) ids_more ∙ kids-push nodes (take i ids) (id_at ids i))
