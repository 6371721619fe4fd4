-- Where the way down from a node parts: two children to be hashed.
use Rattle.std.proofs.Common.{◌≡◌, ℕ, zero, suc, ◌+◌, ◌<◌, ◌≤◌, List, [], ◌∷◌, length, take, refl, ap, ◌∙◌, subst, slice_get, true, false, Option, Some, None, arith, length-take}
use Rattle.std.specs.Option.{option_and_then}
use Rattle.std.proofs.lemmas.List.{get_or-take}
use Rattle.std.proofs.lemmas.Option.{same_Some, slice_get-get_or}
use Rattle.ssz_arena.specs.declared.node.NodeId.{NodeId}
use Rattle.ssz_arena.specs.declared.node.Node.{Node}
use Rattle.ssz_arena.specs.declared.node.Node.TheVariants.{Leaf, Pair}
use Rattle.ssz_arena.specs.Content.{child}
use Rattle.ssz_arena.specs.Invariant.{IsArena}
use Rattle.ssz_arena.specs.Filled.{FillsUpTo}
use Rattle.ssz_arena.specs.Batches.{NodesAreBelow, AreHashed, id_at, is_due, node_of, todo_all}
use Rattle.ssz_arena.proofs.Nodes.{due, due-cached, due-pair, none_due}
use Rattle.ssz_arena.proofs.Together.{todo-cons}

-- a pair has at most one pair more to be hashed than its children
at_most_one_more : (nodes : List Node) (i : ℕ) (left right : NodeId) → left.0 < i → right.0 < i
    → (found : Option Node) → slice_get nodes i ≡ found
    → option_and_then (child false) found ≡ Some left
    → option_and_then (child true) found ≡ Some right
    → due nodes i ≤ 1 + due nodes left.0 + due nodes right.0
at_most_one_more nodes i left right low_left low_right None is to_left to_right = cc
at_most_one_more nodes i left right low_left low_right (Some (Leaf chunk)) is to_left to_right = cc
at_most_one_more nodes i left right low_left low_right (Some (Pair a b (Some chunk))) is to_left
    to_right =
    omega (arith, due-cached nodes i a b chunk is)
at_most_one_more nodes i left right low_left low_right (Some (Pair a b None)) is to_left to_right =
    let found : slice_get nodes i ≡ Some (Pair left right None) =
    is ∙ ap (λ (n : NodeId). Some (Pair n b None)) (same_Some _ _ to_left)
    ∙ ap (λ (n : NodeId). Some (Pair left n None)) (same_Some _ _ to_right) in
    omega (arith, due-pair nodes i left right found low_left low_right)

-- for a node that is not due nothing is to be hashed
pub not_due : (nodes : List Node) (id : NodeId) → id.0 < length nodes → is_due nodes id ≡ false
    → due nodes id.0 ≡ 0
not_due nodes id inside is =
    none_due nodes id.0 (node_of nodes id) (slice_get-get_or nodes id.0 _ inside) is

module _ (p : List ℕ → List ℕ → List ℕ) (nodes : List Node) (id left right : NodeId)
    (arena : IsArena p nodes) (found : slice_get nodes id.0 ≡ Some (Pair left right None))
  where
    pub left_low : left.0 < id.0
    left_low = (arena.sound.each _ _ found).0

    pub right_low : right.0 < id.0
    right_low = (arena.sound.each _ _ found).1

    pub due_now : due nodes id.0 ≡ 1 + due nodes left.0 + due nodes right.0
    due_now = due-pair nodes id.0 left right found left_low right_low

    -- whatever was cached since
    pub due_then : (limit : ℕ) (after : List Node) → FillsUpTo limit nodes after
        → due after id.0 ≤ 1 + due after left.0 + due after right.0
    due_then limit after fills =
        at_most_one_more after id.0 left right left_low right_low (slice_get after id.0) refl
        (fills.children id.0 false ∙ ap (option_and_then (child false)) found)
        (fills.children id.0 true ∙ ap (option_and_then (child true)) found)

-- the pairs to be hashed for two
pub todo-two : (nodes : List Node) (left right : NodeId)
    → todo_all nodes (left ∷ right ∷ []) ≡ due nodes left.0 + due nodes right.0
todo-two nodes left right =
    omega (arith, todo-cons nodes left (right ∷ []), todo-cons nodes right [])

pub two_below : (limit : ℕ) (left right : NodeId) → left.0 < limit → right.0 < limit
    → NodesAreBelow limit (left ∷ right ∷ [])
two_below limit left right low_left low_right zero within = low_left
two_below limit left right low_left low_right (suc zero) within = low_right
two_below limit left right low_left low_right (suc (suc j)) within = absurd (omega arith)

-- ---- one node alone is due

module _ (result : List NodeId) (n : ℕ) (one : n ≡ 1) where
  pub first_is : id_at (take n result) 0 ≡ id_at result 0
  first_is = get_or-take n result 0 (record { 0 = 0 }) (omega arith)

  pub one_below : (limit : ℕ) → length result ≡ 64 → NodesAreBelow limit (take n result)
      → (id_at result 0).0 < limit
  one_below limit long below =
      subst (λ (id : NodeId). id.0 < limit) first_is
      (below 0 (omega (arith, length-take n result)))

  pub one_hashed : (nodes : List Node) → due nodes (id_at result 0).0 ≡ 0
      → AreHashed nodes (take n result)
  one_hashed nodes none j within =
      let here : j ≡ 0 = omega (arith, length-take n result) in
      ap (λ k. due nodes (id_at (take n result) k).0) here
      ∙ ap (λ (id : NodeId). due nodes id.0) first_is ∙ none

pub one_sum : (nodes : List Node) (result : List NodeId) (n : ℕ) → n ≡ 1 → length result ≡ 64
    → todo_all nodes (take n result) ≡ due nodes (id_at result 0).0
one_sum nodes [] n one long = absurd (omega arith)
one_sum nodes (id ∷ ids) zero one long = absurd (omega arith)
one_sum nodes (id ∷ ids) (suc zero) one long = omega (arith, todo-cons nodes id [])
one_sum nodes (id ∷ ids) (suc (suc n)) one long = absurd (omega arith)

pub fills_wider : (low limit : ℕ) (one two : List Node) → low ≤ limit → FillsUpTo low one two
    → FillsUpTo limit one two
fills_wider low limit one two within fills = record {
  count = fills.count;
  trees = fills.trees;
  todo = fills.todo;
  children = fills.children;
  behind = λ j high. fills.behind j (omega arith);
}
