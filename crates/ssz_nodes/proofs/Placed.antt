-- How the node of a place of a full tree is come down to.
use Rattle.std.proofs.Common.{◌≡◌, ℕ, suc, ◌+◌, ◌*◌, ◌/◌, ◌%◌, ◌^◌, ◌<◌, ◌≤◌, List, take, drop, sym, ap, ◌∙◌, inl, inr, arith}
use Rattle.std.proofs.Math.Nat.{mod-eq_of_lt, mod-lt}
use Rattle.std.proofs.lemmas.Bool.{cases_lt}
use Rattle.std.proofs.lemmas.Nat.{pow_pos, mod-pow-add}
use Rattle.ssz_chunk.specs.Tree.{Tree, pair, merkle_tree, place}
use Rattle.ssz_chunk.proofs.Trees.{full-suc, full-zero}
use Rattle.ssz_chunk.proofs.FullTrees.{place-take, place-drop}
use Rattle.ssz_arena.specs.declared.node.NodeId.{NodeId}
use Rattle.ssz_arena.specs.Content.{ArenaContent, tree_of}

-- The tree that is sought, at place i of a full tree of this depth, stands at the place that the
-- low digits of i name, in the subtree of this level that was come down to.
pub record Nearer (arena : ArenaContent) (trees : List Tree) (i level : ℕ) (here : NodeId)
    : Type 0 where
  pub below : List Tree
  pub tree : tree_of arena here ≡ merkle_tree level below
  pub same : place below (i % 2 ^ level) ≡ place trees i

pub Nearer-start : (arena : ArenaContent) (trees : List Tree) (i depth : ℕ) (node : NodeId)
    → i < 2 ^ depth → tree_of arena node ≡ merkle_tree depth trees → Nearer arena trees i depth node
Nearer-start arena trees i depth node inside is = record {
  below = trees;
  tree = is;
  same = ap (place trees) (mod-eq_of_lt inside);
}

-- what the two halves of a pair are, where place i stands in one of them
pub record Halved (arena : ArenaContent) (i level : ℕ) (node half : NodeId) : Type 0 where
  pub first : (left right : Tree) → tree_of arena node ≡ pair left right → i / 2 ^ level % 2 ≡ 0
      → tree_of arena half ≡ left
  pub second : (left right : Tree) → tree_of arena node ≡ pair left right → i / 2 ^ level % 2 ≡ 1
      → tree_of arena half ≡ right

-- one level further
pub Nearer-more : (arena : ArenaContent) (trees : List Tree) (i level : ℕ) (here next : NodeId)
    → Nearer arena trees i (suc level) here → Halved arena i level here next
    → Nearer arena trees i level next
Nearer-more arena trees i level here next h halved =
    let both = h.tree ∙ full-suc level h.below in
    let next_level : suc level ≡ 1 + level = omega arith in
    let digits : i % 2 ^ suc level ≡ i / 2 ^ level % 2 * 2 ^ level + i % 2 ^ level =
    ap (λ n. i % 2 ^ n) next_level ∙ mod-pow-add i 1 level in
    elim (cases_lt (i / 2 ^ level % 2) 1) [
      | inl less ↦
          (let none : i / 2 ^ level % 2 ≡ 0 = omega (arith, less) in
          let low : i % 2 ^ suc level ≡ i % 2 ^ level =
          digits ∙ ap (λ n. n * 2 ^ level + i % 2 ^ level) none ∙ no_more (2 ^ level) _ in
          record {
            below = take (2 ^ level) h.below;
            tree = halved.first _ _ both none;
            same = place-take (2 ^ level) (i % 2 ^ level) h.below
                (mod-lt i (pow_pos level))
                ∙ ap (place h.below) (sym low) ∙ h.same;
          })
      | inr more ↦
          (let one : i / 2 ^ level % 2 ≡ 1 = digit_one (i / 2 ^ level) more in
          let low : 2 ^ level + i % 2 ^ level ≡ i % 2 ^ suc level =
          sum (2 ^ level) (i % 2 ^ level)
          ∙ sym (digits ∙ ap (λ n. n * 2 ^ level + i % 2 ^ level) one) in
          record {
            below = drop (2 ^ level) h.below;
            tree = halved.second _ _ both one;
            same = place-drop (2 ^ level) (i % 2 ^ level) h.below
                ∙ ap (place h.below) low ∙ h.same;
          })
    ]
  where
    digit_one : (n : ℕ) → 1 ≤ n % 2 → n % 2 ≡ 1
    digit_one n more = omega arith

    no_more : (n m : ℕ) → 0 * n + m ≡ m
    no_more n m = omega arith

    sum : (n m : ℕ) → n + m ≡ 1 * n + m
    sum n m = omega arith

-- the whole way down, it is the tree at the place
pub Nearer-end : (arena : ArenaContent) (trees : List Tree) (i : ℕ) (here : NodeId)
    → Nearer arena trees i 0 here → tree_of arena here ≡ place trees i
Nearer-end arena trees i here h = h.tree ∙ full-zero h.below ∙ ap (place h.below) (whole i) ∙ h.same
  where
    whole : (n : ℕ) → 0 ≡ n % 1
    whole n = omega arith
