-- The places of full trees of depth 1 and 2, put at the front of a row.
use Rattle.std.proofs.Common.{◌≡◌, ℕ, zero, suc, ◌^◌, ◌<◌, ◌≤◌, List, [], ◌∷◌, length, take, drop, set, refl, ap, ◌∙◌, arith}
use Rattle.ssz_chunk.specs.Tree.{Tree, pair, merkle_tree, place}
use Rattle.ssz_chunk.proofs.Trees.{full-zero, full-suc}
use Rattle.ssz_chunk.proofs.FullTrees.{place-take, place-drop}
use Rattle.ssz_arena.specs.declared.node.NodeId.{NodeId}
use Rattle.ssz_arena.specs.Content.{ArenaContent, row_node, tree_of}
use Rattle.ssz_nodes.specs.Ahead.{IsRowOf}

-- these are the children of the node, if it is a pair
pub record HaveHalves (arena : ArenaContent) (node first second : NodeId) : Type 0 where
  pub left : (l r : Tree) → tree_of arena node ≡ pair l r → tree_of arena first ≡ l
  pub right : (l r : Tree) → tree_of arena node ≡ pair l r → tree_of arena second ≡ r

-- the children of a full tree have the first places and the others
module _ (arena : ArenaContent) (node first second : NodeId)
    (h : HaveHalves arena node first second) (trees : List Tree) where
  first_half : (depth : ℕ) → tree_of arena node ≡ merkle_tree (suc depth) trees
      → tree_of arena first ≡ merkle_tree depth (take (2 ^ depth) trees)
  first_half depth is = h.left _ _ (is ∙ full-suc depth trees)

  second_half : (depth : ℕ) → tree_of arena node ≡ merkle_tree (suc depth) trees
      → tree_of arena second ≡ merkle_tree depth (drop (2 ^ depth) trees)
  second_half depth is = h.right _ _ (is ∙ full-suc depth trees)

  first_place : tree_of arena node ≡ merkle_tree 1 trees → tree_of arena first ≡ place trees 0
  first_place is = first_half 0 is ∙ full-zero (take (2 ^ 0) trees)
      ∙ place-take 1 0 trees (omega arith)

  second_place : tree_of arena node ≡ merkle_tree 1 trees → tree_of arena second ≡ place trees 1
  second_place is = second_half 0 is ∙ full-zero (drop (2 ^ 0) trees) ∙ place-drop 1 0 trees

two_put : (row : List NodeId) (first second : NodeId) → 2 ≤ length row
    → set (set row 0 first) 1 second ≡ first ∷ second ∷ drop 2 row
two_put [] first second room = absurd (omega (arith, room))
two_put (n ∷ []) first second room = absurd (omega (arith, room))
two_put (n ∷ m ∷ rest) first second room = refl

four_put : (row : List NodeId) (first second third fourth : NodeId) → 4 ≤ length row
    → set (set (set (set row 0 first) 1 second) 2 third) 3 fourth
    ≡ first ∷ second ∷ third ∷ fourth ∷ drop 4 row
four_put [] first second third fourth room = absurd (omega (arith, room))
four_put (n ∷ []) first second third fourth room = absurd (omega (arith, room))
four_put (n ∷ m ∷ []) first second third fourth room = absurd (omega (arith, room))
four_put (n ∷ m ∷ o ∷ []) first second third fourth room = absurd (omega (arith, room))
four_put (n ∷ m ∷ o ∷ p ∷ rest) first second third fourth room = refl

pub IsRowOf-two : (arena : ArenaContent) (node first second : NodeId) (row : List NodeId)
    → 2 ≤ length row → HaveHalves arena node first second
    → IsRowOf arena 1 (tree_of arena node) (set (set row 0 first) 1 second)
IsRowOf-two arena node first second row room h trees is i below =
    ap (λ r. tree_of arena (row_node r i)) (two_put row first second room) ∙ each i below
  where
    each : (i : ℕ) → i < 2
        → tree_of arena (row_node (first ∷ second ∷ drop 2 row) i) ≡ place trees i
    each zero below = first_place arena node first second h trees is
    each (suc zero) below = second_place arena node first second h trees is
    each (suc (suc i)) below = absurd (omega (arith, below))

pub IsRowOf-four : (arena : ArenaContent) (node left right first second third fourth : NodeId)
    (row : List NodeId) → 4 ≤ length row
    → HaveHalves arena node left right → HaveHalves arena left first second
    → HaveHalves arena right third fourth
    → IsRowOf arena 2 (tree_of arena node)
    (set (set (set (set row 0 first) 1 second) 2 third) 3 fourth)
IsRowOf-four arena node left right first second third fourth row room both front back trees is i
    below = ap (λ r. tree_of arena (row_node r i))
    (four_put row first second third fourth room) ∙ each i below
  where
    low : tree_of arena left ≡ merkle_tree 1 (take 2 trees)
    low = first_half arena node left right both trees 1 is

    high : tree_of arena right ≡ merkle_tree 1 (drop 2 trees)
    high = second_half arena node left right both trees 1 is

    each : (i : ℕ) → i < 4 → tree_of arena
        (row_node (first ∷ second ∷ third ∷ fourth ∷ drop 4 row) i) ≡ place trees i
    each zero below = first_place arena left first second front (take 2 trees) low
        ∙ place-take 2 0 trees (omega arith)
    each (suc zero) below = second_place arena left first second front (take 2 trees) low
        ∙ place-take 2 1 trees (omega arith)
    each (suc (suc zero)) below = first_place arena right third fourth back (drop 2 trees) high
        ∙ place-drop 2 0 trees
    each (suc (suc (suc zero))) below =
        second_place arena right third fourth back (drop 2 trees) high ∙ place-drop 2 1 trees
    each (suc (suc (suc (suc i)))) below = absurd (omega (arith, below))
