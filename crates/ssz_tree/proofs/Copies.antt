-- Copies of one part, each whole subtree of which is made once.
use Rattle.std.proofs.Common.{◌≡◌, ◌≢◌, ℕ, zero, suc, ◌+◌, ◌-◌, ◌*◌, ◌/◌, ◌%◌, ◌^◌, ◌<◌, ◌≤◌, min, List, length, take, drop, replicate, slice_set, sym, ap, subst, ◌∙◌, ⊎_elim, arith}
use Rattle.std.specs.Int.{bit_at}
use Rattle.std.proofs.Math.Nat.{div-eq_of_lt, pow-le-pow_right, mod-add-div', mod-lt}
use Rattle.std.proofs.lemmas.Bool.{cases_lt, cases_eq}
use Rattle.std.proofs.lemmas.List.{take-replicate, drop-replicate, length-replicate, get_or-set_same, get_or-set_other, length-set}
use Rattle.std.proofs.lemmas.Nat.{pow_pos}
use Rattle.ssz_chunk.specs.Tree.{merkle_pairs}
use Rattle.ssz_arena.specs.declared.node.NodeId.{NodeId}
use Rattle.ssz_arena.specs.Content.{ArenaContent, IsNodeOf}
use Rattle.ssz_merkle.specs.Frontier.{whole_pairs}
use Rattle.ssz_merkle.proofs.Blocks.{start, start-right, start-within}
use Rattle.ssz_tree.specs.Added.{AddsNodes, IsPartNode}
use Rattle.ssz_making.specs.Parts.{MadePart, whole_of}
use Rattle.ssz_tree.specs.Stack.{Stack, LevelsAreNodes, StackHolds, part_block, stack_node}
use Rattle.ssz_tree.proofs.Adding.{IsPart-one, IsPart-join, IsPart-kept, AreNodes-kept, Adds-none, Adds-then, Adds-within, MakesPair}
use Rattle.ssz_tree.proofs.Holding.{AreNodes-set, AreNodes-one}

-- the block of a binary digit 1
block-copies : (n k : ℕ) (part : MadePart) → bit_at n k ≡ 1
    → part_block k (replicate n part) ≡ replicate (2 ^ k) part
block-copies n k part one =
    let fits : start n (suc k) + 2 ^ k ≤ n =
    omega (arith, start-right n k one, start-within n k) in
    ap (λ m. take (2 ^ k) (drop (m / 2 ^ suc k * 2 ^ suc k) (replicate n part)))
    (length-replicate n part)
    ∙ ap (take (2 ^ k)) (drop-replicate (start n (suc k)) n part)
    ∙ take-replicate (2 ^ k) (n - start n (suc k)) part (omega arith)

-- twice as many copies
pub IsPart-twice : (old new : ArenaContent) (k : ℕ) (part : MadePart) (node id : NodeId)
    → IsPartNode old (whole_of k (replicate (2 ^ k) part)) node → MakesPair old new node node id
    → IsPartNode new (whole_of (suc k) (replicate (2 ^ suc k) part)) id
IsPart-twice old new k part node id is made =
    let power : 2 ^ suc k ≡ 2 ^ k + 2 ^ k = omega arith in
    let all : List MadePart = replicate (2 ^ suc k) part in
    let left : take (2 ^ k) (replicate (2 ^ suc k) part) ≡ replicate (2 ^ k) part =
    take-replicate (2 ^ k) (2 ^ suc k) part (omega (arith, power)) in
    let rest : 2 ^ suc k - 2 ^ k ≡ 2 ^ k = omega (arith, power) in
    let right : drop (2 ^ k) (replicate (2 ^ suc k) part) ≡ replicate (2 ^ k) part =
    drop-replicate (2 ^ k) (2 ^ suc k) part ∙ ap (λ n. replicate n part) rest in
    IsPart-join old new k all node node id
    (omega (arith, length-replicate (2 ^ suc k) part, pow_pos (suc k)))
    (omega (arith, length-replicate (2 ^ suc k) part))
    (subst (λ ps. IsPartNode old (whole_of k ps) node) (sym left) is)
    (subst (λ ps. IsPartNode old (whole_of k ps) node) (sym right) is)
    made.node made.tree made.todo

-- the whole subtrees up to a level were made
pub record HasCopies (start now : ArenaContent) (count level : ℕ) (node copies : NodeId)
    (nodes : List NodeId) : Type 0 where
  pub length_is : length nodes ≡ 64
  pub inside : IsNodeOf now copies
  pub all : LevelsAreNodes now nodes
  pub some : level ≤ whole_pairs level count
  pub adds : AddsNodes level level start now
  pub top : (part : MadePart) → IsPartNode start part node
      → IsPartNode now (whole_of level (replicate (2 ^ level) part)) copies
  pub wholes : (part : MadePart) → IsPartNode start part node → (k : ℕ) → k ≤ level
      → IsPartNode now (whole_of k (replicate (2 ^ k) part)) (stack_node nodes k)

pub HasCopies-more : (start now new : ArenaContent) (count level : ℕ) (node copies id : NodeId)
    (nodes : List NodeId) → HasCopies start now count level node copies nodes
    → 0 < count / 2 ^ (level + 1) → level + 1 < 64 → MakesPair now new copies copies id
    → HasCopies start new count (level + 1) node id (slice_set nodes (level + 1) id)
unfolding whole_pairs
HasCopies-more start now new count level node copies id nodes h more room made =
    let next : suc level ≡ level + 1 = omega arith in
    let top : (part : MadePart) → IsPartNode start part node
    → IsPartNode new (whole_of (level + 1) (replicate (2 ^ (level + 1)) part)) id =
    λ part is. subst (λ j. IsPartNode new (whole_of j (replicate (2 ^ j) part)) id) next
    (IsPart-twice now new level part copies id (h.top part is) made) in
    let some : suc level ≤ whole_pairs (suc level) count = omega (
      arith,
      h.some,
      more,
      ap (λ j. count / 2 ^ j) next,
    ) in
    record {
      length_is = length_set nodes (level + 1) id ∙ h.length_is;
      inside = made.node;
      all = AreNodes-set new nodes (level + 1) id
          (AreNodes-kept now new nodes made.adds.keeps h.all) made.node;
      some = subst (λ j. j ≤ whole_pairs j count) next some;
      adds = Adds-then level level 1 1 start now new h.adds made.adds;
      top = top;
      wholes = λ part is k below. ⊎_elim
          (λ (here : k ≡ level + 1).
          subst (λ j. IsPartNode new (whole_of j (replicate (2 ^ j) part))
          (stack_node (slice_set nodes (level + 1) id) j)) (sym here)
          (subst (λ n. IsPartNode new (whole_of (level + 1) (replicate (2 ^ (level + 1)) part)) n)
          (sym (get_or-set_same nodes (level + 1) id (record { 0 = 0 })
          (omega (arith, h.length_is)))) (top part is)))
          (λ (other : k ≢ level + 1).
          subst (λ n. IsPartNode new (whole_of k (replicate (2 ^ k) part)) n)
          (sym (get_or-set_other nodes (level + 1) k id (record { 0 = 0 }) other))
          (IsPart-kept now new _ _ made.adds.keeps (h.wholes part is k (omega arith))))
          (cases_eq k (level + 1));
    }
  where
    length_set : (nodes : List NodeId) (k : ℕ) (id : NodeId)
        → length (slice_set nodes k id) ≡ length nodes
    length_set nodes k id = length-set nodes k id

-- on more levels stand no fewer whole pairs
whole_pairs-deeper : (d k n : ℕ) → whole_pairs d n ≤ whole_pairs (d + k) n
unfolding whole_pairs
whole_pairs-deeper d zero n = let same : d ≡ d + 0 = omega arith in
    subst (λ j. whole_pairs d n ≤ whole_pairs j n) same (omega arith)
whole_pairs-deeper d (suc k) n = let more : suc (d + k) ≡ d + suc k = omega arith in
    subst (λ j. whole_pairs d n ≤ whole_pairs j n) more (omega (arith, whole_pairs-deeper d k n))

pub HasCopies-adds : (start now : ArenaContent) (count level depth : ℕ) (node copies : NodeId)
    (nodes : List NodeId) → HasCopies start now count level node copies nodes → level ≤ depth
    → AddsNodes depth (min depth (whole_pairs depth count)) start now
HasCopies-adds start now count level depth node copies nodes h within =
    let deeper : whole_pairs level count ≤ whole_pairs depth count = omega (
      arith,
      whole_pairs-deeper level (depth - level) count,
      ap (λ d. whole_pairs d count)
          (let sum : level + (depth - level) ≡ depth = omega arith in sum),
    ) in
    Adds-within level level depth (min depth (whole_pairs depth count)) start now h.adds within
    (omega (arith, h.some, deeper, within))

pub HasCopies-holds : (start now : ArenaContent) (count level : ℕ) (node copies : NodeId)
    (nodes : List NodeId) (stack : Stack) (part : MadePart)
    → HasCopies start now count level node copies nodes → count / 2 ^ (level + 1) ≤ 0
    → stack.pushed ≡ count → stack.nodes ≡ nodes → IsPartNode start part node
    → StackHolds now (replicate count part) stack
HasCopies-holds start now count level node copies nodes stack part h last pushed same is = record {
  number = pushed ∙ sym (length-replicate count part);
  nodes = subst (LevelsAreNodes now) (sym same) h.all;
  wholes = λ k one.
      let digit : bit_at count k ≡ 1 =
      ap (λ n. bit_at n k) (sym (length-replicate count part)) ∙ one in
      let below : k ≤ level = ⊎_elim
      (λ (within : k < level + 1). let low : k ≤ level = omega arith in low)
      (λ (above : level + 1 ≤ k). absurd (none count level k last above digit))
      (cases_lt k (level + 1)) in
      subst (λ n. IsPartNode now (whole_of k (part_block k (replicate count part))) n)
      (ap (λ (ns : List NodeId). stack_node ns k) (sym same))
      (subst (λ ps. IsPartNode now (whole_of k ps) (stack_node nodes k))
      (sym (block-copies count k part digit)) (h.wholes part is k below));
}
  where
    none : (count level k : ℕ) → count / 2 ^ (level + 1) ≤ 0 → level + 1 ≤ k
        → bit_at count k ≡ 1 → ⊥
    none count level k last above digit =
        let up : 2 ^ (level + 1) ≤ 2 ^ k = pow-le-pow_right (omega arith) above in
        let small : count < 2 ^ (level + 1) = below_power count (2 ^ (level + 1))
        (pow_pos (level + 1)) last in
        let zero : count / 2 ^ k ≡ 0 = div-eq_of_lt (let less : count < 2 ^ k = omega arith in less)
        in
        omega (arith, digit, zero)
      where
        below_power : (n m : ℕ) → 0 < m → n / m ≤ 0 → n < m
        below_power n m some none =
            let zero : n / m ≡ 0 = omega arith in
            let parts : n % m + n / m * m ≡ n = mod-add-div' n m in
            omega (arith, parts, ap (λ q. q * m) zero, mod-lt n some)

-- the end makes at most a pair a level
pub grow-few : (d n : ℕ) → merkle_pairs d n - whole_pairs d n ≤ d
unfolding merkle_pairs whole_pairs
grow-few zero n = omega arith
grow-few (suc d) n = omega (arith, grow-few d n)

-- a whole subtree of copies is no deeper than the tree
pub level-within : (count level depth : ℕ) → 0 < count / 2 ^ (level + 1) → count ≤ 2 ^ depth
    → level + 1 ≤ depth
level-within count level depth some few = ⊎_elim
    (λ (deep : depth < level + 1).
    let low : 2 ^ depth ≤ 2 ^ level = pow-le-pow_right (omega arith) (omega arith) in
    let power : 2 ^ (level + 1) ≡ 2 * 2 ^ level = ap (λ n. 2 ^ n)
    (let e : level + 1 ≡ suc level = omega arith in e) ∙ omega arith in
    let zero : count / 2 ^ (level + 1) ≡ 0 = div-eq_of_lt
    (let less : count < 2 ^ (level + 1) = omega (arith, power, pow_pos level) in less) in
    absurd (omega arith))
    (λ (within : level + 1 ≤ depth). within)
    (cases_lt depth (level + 1))

-- one copy
pub HasCopies-start : (start : ArenaContent) (count : ℕ) (node : NodeId) → IsNodeOf start node
    → HasCopies start start count 0 node node (replicate 64 node)
HasCopies-start start count node inside = record {
  length_is = length-replicate 64 node;
  inside = inside;
  all = AreNodes-one start 64 node inside;
  some = omega arith;
  adds = Adds-none start;
  top = λ part is. IsPart-one start part node is;
  wholes = λ part is k low. first part is k low;
}
  where
    first : (part : MadePart) → IsPartNode start part node → (k : ℕ) → k ≤ 0
        → IsPartNode start (whole_of k (replicate (2 ^ k) part)) (stack_node (replicate 64 node) k)
    first part is zero low = IsPart-one start part node is
    first part is (suc k) low = absurd (omega arith)
