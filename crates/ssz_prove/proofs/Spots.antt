-- Nodes of an arena at places of a tree.
use Rattle.std.proofs.Common.{◌≡◌, ◌≢◌, ℕ, zero, suc, ◌+◌, ◌*◌, ◌/◌, ◌%◌, ◌^◌, ◌<◌, true, false, List, [], ◌∷◌, Some, None, is_some, sym, ap, ◌∙◌, subst, arith}
use Rattle.std.specs.List.{AllByRecursion}
use Rattle.std.proofs.lemmas.Bool.{false≢true}
use Rattle.ssz_chunk.specs.Tree.{leaf}
use Rattle.ssz_chunk.specs.Index.{at, at_way, digits, way}
use Rattle.ssz_chunk.proofs.Digits.{way-left, way-one, way-right}
use Rattle.ssz_chunk.proofs.Ways.{at-way, at_way-append_some}
use Rattle.ssz_arena.specs.declared.node.NodeId.{NodeId}
use Rattle.ssz_arena.specs.Content.{ArenaContent, IsNodeOf, KeepsNodes, node_at, tree_of}
use Rattle.ssz_arena.specs.Shown.{HasChildren}
use Rattle.ssz_arena.proofs.Following.{node_at-append}
use Rattle.ssz_gindex.specs.Helpers.{is_within}
use Rattle.ssz_gindex.specs.Laws.{IsIn}
use Rattle.ssz_gindex.proofs.HelperNodes.{first_digit}
use Rattle.ssz_gindex.proofs.Within.{below_from, way_below, within_least}
use Rattle.ssz_prove.specs.declared.finding.Spot.{Spot}
use Rattle.ssz_prove.specs.Found.{IsSpot}

module _ (arena : ArenaContent) (top : NodeId) where
  pub spot_root : IsNodeOf arena top → (spot : Spot) → spot.index ≡ 1 → spot.node ≡ top
      → IsSpot arena top spot
  spot_root is spot one same = record {
    positive = omega (arith, one);
    node_of = subst (IsNodeOf arena) (sym same) is;
    follows = ap (λ k. node_at arena.nodes top (way k)) one
        ∙ ap (node_at arena.nodes top) way-one ∙ ap Some (sym same);
    tree = ap (at (tree_of arena top)) one ∙ at-way (tree_of arena top) 1 (omega arith)
        ∙ ap (at_way (tree_of arena top)) way-one
        ∙ ap (λ (id : NodeId). Some (tree_of arena id)) (sym same);
  }

  module _ (spot : Spot) (is : IsSpot arena top spot) where
    at_place : at_way (tree_of arena top) (way spot.index) ≡ Some (tree_of arena spot.node)
    at_place = sym (at-way (tree_of arena top) spot.index is.positive) ∙ is.tree

    module _ (left right : NodeId) (has : HasChildren arena spot.node left right) where
      pub spot_left : IsSpot arena top (record { index = 2 * spot.index; node = left })
      spot_left =
          let tree = tree_of arena top in
          let positive : 0 < spot.index = is.positive in
          record {
            positive = omega (arith, positive);
            node_of = has.left_node;
            follows = ap (node_at arena.nodes top) (way-left spot.index positive)
                ∙ node_at-append arena.nodes top spot.node (way spot.index) (false ∷ []) is.follows
                ∙ has.to_left;
            tree = at-way tree (2 * spot.index) (omega (arith, positive))
                ∙ ap (at_way tree) (way-left spot.index positive)
                ∙ at_way-append_some tree (tree_of arena spot.node) (way spot.index) (false ∷ [])
                at_place
                ∙ ap (λ t. at_way t (false ∷ [])) has.tree;
          }

      pub spot_right : IsSpot arena top (record { index = 2 * spot.index + 1; node = right })
      spot_right =
          let tree = tree_of arena top in
          let positive : 0 < spot.index = is.positive in
          record {
            positive = omega (arith, positive);
            node_of = has.right_node;
            follows = ap (node_at arena.nodes top) (way-right spot.index positive)
                ∙ node_at-append arena.nodes top spot.node (way spot.index) (true ∷ []) is.follows
                ∙ has.to_right;
            tree = at-way tree (2 * spot.index + 1) (omega (arith, positive))
                ∙ ap (at_way tree) (way-right spot.index positive)
                ∙ at_way-append_some tree (tree_of arena spot.node) (way spot.index) (true ∷ [])
                at_place
                ∙ ap (λ t. at_way t (true ∷ [])) has.tree;
          }

    -- below a leaf the tree has no node
    pub leaf_below : (chunk : List ℕ) → tree_of arena spot.node ≡ leaf chunk → (b : ℕ)
        → is_within spot.index b ≡ true → spot.index ≢ b → IsIn (tree_of arena top) b → ⊥
    leaf_below chunk ends b within apart inside =
        let below = below_from spot.index b within in
        go below.n below.high
      where
        go : (n : ℕ) → b / 2 ^ n ≡ spot.index → ⊥
        go zero high = apart (let e : spot.index ≡ b = omega arith in e)
        go (suc m) high =
            let tree = tree_of arena top in
            let digit = first_digit m (b % 2 ^ suc m) in
            let none : at tree b ≡ None =
            at-way tree b (omega (arith, within_least spot.index b within, is.positive))
            ∙ ap (at_way tree) (way_below spot.index b (suc m) is.positive high)
            ∙ at_way-append_some tree (leaf chunk) (way spot.index)
            (digits (suc m) (b % 2 ^ suc m)) (at_place ∙ ap Some ends)
            ∙ ap (at_way (leaf chunk)) digit.2 in
            false≢true (sym (ap is_some none) ∙ inside.node)

-- the spots of a tree are those of an arena with more of its roots, too
pub spots_kept : (old new : ArenaContent) (top : NodeId) (spots : List Spot) → KeepsNodes old new
    → IsNodeOf old top → AllByRecursion (IsSpot old top) spots
    → AllByRecursion (IsSpot new top) spots
spots_kept old new top [] keeps is all = tt
spots_kept old new top (spot ∷ spots) keeps is all = (
  record {
    positive = all.0.positive;
    node_of = omega (arith, keeps.count, all.0.node_of);
    follows = keeps.ways top is (way spot.index) ∙ all.0.follows;
    tree = ap (λ t. at t spot.index) (keeps.trees top is) ∙ all.0.tree
        ∙ ap Some (sym (keeps.trees spot.node all.0.node_of));
  },
  spots_kept old new top spots keeps is all.1,
)
