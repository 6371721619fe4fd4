-- What a builder keeps as nodes are pushed, and what it has at the end.
use Rattle.std.proofs.Common.{◌≡◌, ◌≢◌, ℕ, suc, ◌+◌, ◌-◌, ◌*◌, ◌/◌, ◌%◌, ◌^◌, ◌<◌, ◌≤◌, List, [], ◌∷◌, ◌++◌, length, take, drop, slice_set, replicate, sym, ap, subst, ◌∙◌, ⊎_elim, arith, length-append, length-drop}
use Rattle.std.specs.Int.{bit_at}
use Rattle.std.proofs.lemmas.Bool.{cases_lt, cases_eq}
use Rattle.std.proofs.lemmas.List.{take_all, take-append-le, drop-append-le, get_or-set_same, get_or-set_other, length-set, length-replicate, get_or-replicate}
use Rattle.std.proofs.lemmas.Nat.{pow_pos}
use Rattle.ssz_arena.specs.declared.node.NodeId.{NodeId}
use Rattle.ssz_arena.specs.Content.{ArenaContent, IsNodeOf, KeepsNodes}
use Rattle.ssz_merkle.proofs.Binary.{IsFollowed, shr-above, digit-low, digit-below, digit-at}
use Rattle.ssz_merkle.proofs.Blocks.{start, start-left, start-right, start-within, start-near}
use Rattle.ssz_making.specs.Parts.{MadePart, whole_of}
use Rattle.ssz_tree.specs.Added.{IsPartNode}
use Rattle.ssz_tree.specs.Stack.{Stack, LevelsAreNodes, StackHolds, part_block, stack_node}
use Rattle.ssz_tree.proofs.Adding.{IsPart-kept, AreNodes-kept}
use Rattle.ssz_tree.proofs.Blocks.{IsTop, IsTop-right, Joins}

-- no node was pushed
pub Holds-none : (arena : ArenaContent) (stack : Stack) → stack.pushed ≡ 0
    → LevelsAreNodes arena stack.nodes → StackHolds arena [] stack
Holds-none arena stack none nodes = record {
  number = none;
  nodes = nodes;
  wholes = λ k one. absurd (omega (arith, one, pow_pos k));
}

-- and in an arena with more nodes
pub Holds-kept : (old new : ArenaContent) (parts : List MadePart) (stack : Stack)
    → KeepsNodes old new
    → StackHolds old parts stack → StackHolds new parts stack
Holds-kept old new parts stack keeps held = record {
  number = held.number;
  nodes = AreNodes-kept old new stack.nodes keeps held.nodes;
  wholes = λ k one. IsPart-kept old new _ _ keeps (held.wholes k one);
}

-- a block with a part behind it
block-before : (parts : List MadePart) (part : MadePart) (k : ℕ) → bit_at (length parts) k ≡ 1
    → part_block k parts ≡ take (2 ^ k) (drop (start (length parts) (suc k)) (parts ++ part ∷ []))
block-before parts part k one =
    let n : ℕ = length parts in
    let from : ℕ = start n (suc k) in
    let fits : from + 2 ^ k ≤ n = omega (arith, start-right n k one, start-within n k) in
    let count : length (drop from parts) ≡ n - from = length-drop from parts in
    sym (ap (take (2 ^ k)) (drop-append-le from parts (part ∷ []) (omega arith))
    ∙ take-append-le (2 ^ k) (drop from parts) (part ∷ []) (omega arith))

-- the block that the last part is the end of
block-last : (parts : List MadePart) (last low q : ℕ) → length parts ≡ last + 1
    → IsFollowed last low q → part_block low parts ≡ drop (start last low) parts
block-last parts last low q count is =
    let left : start last low ≡ start last (suc low) =
    start-left last low (digit-low last low q is) in
    let from : start (length parts) (suc low) ≡ start last low =
    ap (λ n. start n (suc low)) count ∙ ap (λ a. a * 2 ^ suc low)
    (shr-above last low q (suc low) is (omega arith)) ∙ sym left in
    let few : length (drop (start last low) parts) ≤ 2 ^ low =
    omega (arith, length-drop (start last low) parts, count, start-near last low) in
    ap (λ n. take (2 ^ low) (drop n parts)) from
    ∙ take_all (2 ^ low) (drop (start last low) parts) few

-- a carried node with the node to its left
pub IsTop-carry : (first old new : ArenaContent) (parts : List MadePart) (stack : Stack)
    (part : MadePart)
    (carry node : NodeId) (k : ℕ) → StackHolds first parts stack → KeepsNodes first old
    → bit_at stack.pushed k ≡ 1 → IsTop old stack.pushed k (parts ++ part ∷ []) carry
    → Joins old new (stack_node stack.nodes k) carry node
    → IsTop new stack.pushed (k + 1) (parts ++ part ∷ []) node
IsTop-carry first old new parts stack part carry node k held keeps one top joins =
    let here : bit_at (length parts) k ≡ 1 = ap (λ n. bit_at n k) (sym held.number) ∙ one in
    let block_is : part_block k parts
    ≡ take (2 ^ k) (drop (start stack.pushed (suc k)) (parts ++ part ∷ [])) =
    block-before parts part k here
    ∙ ap (λ n. take (2 ^ k) (drop (start n (suc k)) (parts ++ part ∷ []))) (sym held.number) in
    let left = subst (λ ps. IsPartNode old (whole_of k ps) (stack_node stack.nodes k)) block_is
    (IsPart-kept first old _ _ keeps (held.wholes k here)) in
    IsTop-right old new stack.pushed k (parts ++ part ∷ [])
    (stack_node stack.nodes k) carry node one
    (length-append parts (part ∷ []) ∙ ap (λ n. n + 1) (sym held.number)) left top joins

-- the nodes with another one among them
pub AreNodes-set : (arena : ArenaContent) (nodes : List NodeId) (low : ℕ) (node : NodeId)
    → LevelsAreNodes arena nodes → IsNodeOf arena node
    → LevelsAreNodes arena (slice_set nodes low node)
AreNodes-set arena nodes low node all inside = record {
  each = λ k within. ⊎_elim
      (λ (here : k ≡ low). subst (IsNodeOf arena)
      (sym (ap (stack_node (slice_set nodes low node)) here
      ∙ get_or-set_same nodes low node (record { 0 = 0 })
      (omega (arith, within, length-set nodes low node, here)))) inside)
      (λ (other : k ≢ low). subst (IsNodeOf arena)
      (sym (get_or-set_other nodes low k node (record { 0 = 0 }) other))
      (all.each k (omega (arith, within, length-set nodes low node))))
      (cases_eq k low);
}

-- one more node, carried up to its place
pub Holds-push : (first arena : ArenaContent) (parts : List MadePart) (old new : Stack)
    (part : MadePart)
    (carry : NodeId) (low q : ℕ) → StackHolds first parts old → KeepsNodes first arena
    → IsFollowed old.pushed low q → low < length old.nodes
    → IsTop arena old.pushed low (parts ++ part ∷ []) carry
    → new.pushed ≡ old.pushed + 1 → new.nodes ≡ slice_set old.nodes low carry
    → StackHolds arena (parts ++ part ∷ []) new
Holds-push first arena parts old new part carry low q held keeps is within top more set = record {
  number = more ∙ ap (λ n. n + 1) held.number ∙ sym count;
  nodes = subst (LevelsAreNodes arena) (sym set) (AreNodes-set arena old.nodes low carry
      (AreNodes-kept first arena old.nodes keeps held.nodes) top.node);
  wholes = λ k one. ⊎_elim
      (λ (below : k < low).
      absurd (omega (
        arith,
        digit-below last low q k followed below,
        ap (λ n. bit_at n k) (sym count) ∙ one,
      )))
      (λ (reached : low ≤ k). ⊎_elim
      (λ (here : k ≡ low). at_low k here)
      (λ (other : k ≢ low). above k one reached other)
      (cases_eq k low))
      (cases_lt k low);
}
  where
    last : ℕ
    last = length parts

    all : List MadePart
    all = parts ++ part ∷ []

    count : length all ≡ last + 1
    count = length-append parts (part ∷ [])

    followed : IsFollowed last low q
    followed = subst (λ n. IsFollowed n low q) held.number is

    at_low : (k : ℕ) → k ≡ low
        → IsPartNode arena (whole_of k (part_block k all)) (stack_node new.nodes k)
    at_low k here =
        let node : stack_node new.nodes low ≡ carry =
        ap (λ (nodes : List NodeId). stack_node nodes low) set
        ∙ get_or-set_same old.nodes low carry (record { 0 = 0 }) within in
        let parts_are : drop (start old.pushed low) all ≡ part_block low all =
        ap (λ n. drop (start n low) all) held.number
        ∙ sym (block-last all last low q count followed) in
        subst (λ j. IsPartNode arena (whole_of j (part_block j all)) (stack_node new.nodes j))
        (sym here)
        (subst (λ id. IsPartNode arena (whole_of low (part_block low all)) id) (sym node)
        (subst (λ ps. IsPartNode arena (whole_of low ps) carry) parts_are top))

    above : (k : ℕ) → bit_at (length all) k ≡ 1 → low ≤ k → k ≢ low
        → IsPartNode arena (whole_of k (part_block k all)) (stack_node new.nodes k)
    above k one reached other =
        let same : (last + 1) / 2 ^ k ≡ last / 2 ^ k =
        shr-above last low q k followed (omega arith) in
        let higher : (last + 1) / 2 ^ suc k ≡ last / 2 ^ suc k =
        shr-above last low q (suc k) followed (omega arith) in
        let digit : bit_at last k ≡ 1 = ap (λ a. a % 2) (sym same)
        ∙ ap (λ n. bit_at n k) (sym count)
        ∙ one in
        let node : stack_node new.nodes k ≡ stack_node old.nodes k =
        ap (λ (nodes : List NodeId). stack_node nodes k) set
        ∙ get_or-set_other old.nodes low k carry (record { 0 = 0 }) other in
        let parts_are : part_block k parts ≡ part_block k all =
        block-before parts part k digit
        ∙ ap (λ a. take (2 ^ k) (drop (a * 2 ^ suc k) all))
        (sym higher ∙ ap (λ n. n / 2 ^ suc k) (sym count)) in
        subst (λ id. IsPartNode arena (whole_of k (part_block k all)) id) (sym node)
        (subst (λ ps. IsPartNode arena (whole_of k ps) (stack_node old.nodes k)) parts_are
        (IsPart-kept first arena _ _ keeps (held.wholes k digit)))

-- the node of the last block
pub IsTop-first : (arena : ArenaContent) (parts : List MadePart) (stack : Stack) (last low q : ℕ)
    → StackHolds arena parts stack → stack.pushed ≡ last + 1 → IsFollowed last low q
    → IsTop arena last low parts (stack_node stack.nodes low)
IsTop-first arena parts stack last low q held number is =
    let count : length parts ≡ last + 1 = sym held.number ∙ number in
    subst (λ ps. IsPartNode arena (whole_of low ps) (stack_node stack.nodes low))
    (block-last parts last low q count is)
    (held.wholes low (ap (λ n. bit_at n low) count ∙ digit-at last low q is))

-- and of the pair with the node to its left
pub IsTop-next : (first old new : ArenaContent) (parts : List MadePart) (stack : Stack)
    (last low q k : ℕ) (right node : NodeId)
    → StackHolds first parts stack → KeepsNodes first old → stack.pushed ≡ last + 1
    → IsFollowed last low q → low ≤ k → bit_at last k ≡ 1 → IsTop old last k parts right
    → Joins old new (stack_node stack.nodes k) right node → IsTop new last (k + 1) parts node
IsTop-next first old new parts stack last low q k right node held keeps number is reached one top
    joins =
    let count : length parts ≡ last + 1 = sym held.number ∙ number in
    let above : low < k = ⊎_elim
    (λ (more : low < k). more)
    (λ (same : k ≤ low). let here : k ≡ low = omega arith in
    absurd (omega (arith, one, ap (bit_at last) here, digit-low last low q is)))
    (cases_lt low k) in
    let digit : bit_at (length parts) k ≡ 1 = ap (λ n. bit_at n k) count
    ∙ ap (λ a. a % 2) (shr-above last low q k is above) ∙ one in
    let from : start (length parts) (suc k) ≡ start last (suc k) =
    ap (λ n. start n (suc k)) count ∙ ap (λ a. a * 2 ^ suc k)
    (shr-above last low q (suc k) is (omega arith)) in
    IsTop-right old new last k parts (stack_node stack.nodes k) right node one count
    (subst (λ ps. IsPartNode old (whole_of k ps) (stack_node stack.nodes k))
    (ap (λ n. take (2 ^ k) (drop n parts)) from)
    (IsPart-kept first old _ _ keeps (held.wholes k digit))) top joins

-- one node for each level
pub AreNodes-one : (arena : ArenaContent) (count : ℕ) (node : NodeId) → IsNodeOf arena node
    → LevelsAreNodes arena (replicate count node)
AreNodes-one arena count node inside = record {
  each = λ k within. subst (IsNodeOf arena)
      (sym (get_or-replicate count k node (record { 0 = 0 })
      (omega (arith, within, length-replicate count node)))) inside;
}
