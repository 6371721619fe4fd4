-- How all places of a full tree are come down to together, level by level.
use Rattle.std.proofs.Common.{◌≡◌, ℕ, suc, ◌+◌, ◌-◌, ◌*◌, ◌/◌, ◌%◌, ◌^◌, ◌<◌, ◌≤◌, List, take, drop, sym, ap, ◌∙◌, subst, inl, inr, arith, mul_assoc, mul_comm, add-mul, one-mul, suc-mul, pow-suc, mul-le-mul_right}
use Rattle.std.proofs.lemmas.Bool.{cases_lt}
use Rattle.std.proofs.lemmas.List.{drop-drop}
use Rattle.ssz_chunk.specs.Tree.{Tree, pair, merkle_tree, place}
use Rattle.ssz_chunk.proofs.Trees.{full-zero}
use Rattle.ssz_chunk.proofs.FullTrees.{full-Agree, place-take, place-drop}
use Rattle.ssz_arena.specs.declared.node.NodeId.{NodeId}
use Rattle.ssz_arena.specs.Content.{ArenaContent, row_node, tree_of}
use Rattle.ssz_nodes.proofs.Taking.{halves_of}

-- The subtrees of the tree of node k stand at its part of the row, as many as the level has.
pub record Spread (arena : ArenaContent) (trees : List Tree) (depth level k : ℕ)
    (row : List NodeId) : Type 0 where
  pub rest : ℕ
  pub levels : rest + level ≡ depth
  pub each : (p : ℕ) → p < 2 ^ level
      → tree_of arena (row_node row (k * 2 ^ level + p))
      ≡ merkle_tree rest (take (2 ^ rest) (drop (p * 2 ^ rest) trees))

pub Spread-start : (arena : ArenaContent) (trees : List Tree) (depth k : ℕ) (row : List NodeId)
    → tree_of arena (row_node row k) ≡ merkle_tree depth trees → Spread arena trees depth 0 k row
Spread-start arena trees depth k row is = record {
  rest = depth;
  levels = omega arith;
  each = λ p below.
      let first : 0 ≡ p = omega (arith, below) in
      subst (λ j. tree_of arena (row_node row (k * 1 + j))
      ≡ merkle_tree depth (take (2 ^ depth) (drop (j * 2 ^ depth) trees))) first
      (ap (λ j. tree_of arena (row_node row j)) (whole k) ∙ is
      ∙ full-Agree depth (take (2 ^ depth) (drop (0 * 2 ^ depth) trees)) trees
      (λ i within. sym (place-take (2 ^ depth) i (drop (0 * 2 ^ depth) trees) within
      ∙ place-drop (0 * 2 ^ depth) i trees
      ∙ ap (place trees) (none (2 ^ depth) i))));
}
  where
    none : (n i : ℕ) → 0 * n + i ≡ i
    none n i = omega arith

    whole : (n : ℕ) → n * 1 + 0 ≡ n
    whole n = omega arith

-- a place of the part k of a row stands before the end of all parts
pub part_inside : (k count n i : ℕ) → k < count → i < n → k * n + i < count * n
part_inside k count n i below within =
    let next : suc k ≤ count = omega arith in
    let all : suc k * n ≤ count * n = mul-le-mul_right n next in
    let more : suc k * n ≡ k * n + n = ap (λ m. m) (suc-mul k n) in
    omega arith

-- the children of the subtree p are the subtrees 2 p and 2 p + 1 of the next level
module _ (trees : List Tree) (rest p : ℕ) where
  first_half : take (2 ^ rest) (drop (p * 2 ^ suc rest) trees)
      ≡ take (2 ^ rest) (drop (2 * p * 2 ^ rest) trees)
  first_half = ap (λ n. take (2 ^ rest) (drop n trees))
      (ap (λ n. p * n) (pow-suc 2 rest) ∙ double p (2 ^ rest))
    where
      double : (p n : ℕ) → p * (n * 2) ≡ 2 * p * n
      double p n = ap (λ k. p * k) (mul_comm n 2) ∙ sym (mul_assoc p 2 n)
          ∙ ap (λ k. k * n) (mul_comm p 2)

  second_half : take (2 ^ rest) (drop (2 ^ rest) (drop (p * 2 ^ suc rest) trees))
      ≡ take (2 ^ rest) (drop ((2 * p + 1) * 2 ^ rest) trees)
  second_half = ap (take (2 ^ rest)) (drop-drop (2 ^ rest) (p * 2 ^ suc rest) trees)
      ∙ ap (λ n. take (2 ^ rest) (drop n trees))
      (ap (λ n. p * n + 2 ^ rest) (pow-suc 2 rest) ∙ double p (2 ^ rest))
    where
      double : (p n : ℕ) → p * (n * 2) + n ≡ (2 * p + 1) * n
      double p n = ap (λ k. k + n) (ap (λ k. p * k) (mul_comm n 2) ∙ sym (mul_assoc p 2 n)
          ∙ ap (λ k. k * n) (mul_comm p 2)) ∙ ap (λ k. 2 * p * n + k) (sym (one-mul n))
          ∙ sym (add-mul (2 * p) 1 n)

-- one level further
module _ (arena : ArenaContent) (trees : List Tree) (depth level k count : ℕ)
    (old new : List NodeId) (here : k < count) (below : level < depth)
    (h : Spread arena trees depth level k old)
    (left_is : (i : ℕ) (left right : Tree) → i < count * 2 ^ level
    → tree_of arena (row_node old i) ≡ pair left right
    → tree_of arena (row_node new (2 * i)) ≡ left)
    (right_is : (i : ℕ) (left right : Tree) → i < count * 2 ^ level
    → tree_of arena (row_node old i) ≡ pair left right
    → tree_of arena (row_node new (2 * i + 1)) ≡ right) where
  both : (rest i : ℕ) → h.rest ≡ suc rest → i < 2 ^ level
      → tree_of arena (row_node old (k * 2 ^ level + i))
      ≡ pair (merkle_tree rest (take (2 ^ rest) (drop (i * 2 ^ suc rest) trees)))
      (merkle_tree rest (take (2 ^ rest) (drop (2 ^ rest) (drop (i * 2 ^ suc rest) trees))))
  both rest i is within =
      subst (λ n. tree_of arena (row_node old (k * 2 ^ level + i))
      ≡ merkle_tree n (take (2 ^ n) (drop (i * 2 ^ n) trees)))
      is (h.each i within)
      ∙ halves_of rest (drop (i * 2 ^ suc rest) trees)

  -- where the children of the node of a place stand
  wider : k * 2 ^ suc level ≡ 2 * (k * 2 ^ level)
  wider = ap (λ n. k * n) (pow-suc 2 level) ∙ sym (mul_assoc k (2 ^ level) 2)
      ∙ mul_comm (k * 2 ^ level) 2

  each_half : (rest p : ℕ) → h.rest ≡ suc rest → p < 2 ^ suc level
      → tree_of arena (row_node new (k * 2 ^ suc level + p))
      ≡ merkle_tree rest (take (2 ^ rest) (drop (p * 2 ^ rest) trees))
  each_half rest p is within =
      let room : 2 ^ suc level ≡ 2 ^ level * 2 = pow-suc 2 level in
      let half : p / 2 < 2 ^ level = omega (arith, within, room) in
      let inside = part_inside k count (2 ^ level) (p / 2) here half in
      elim (cases_lt (p % 2) 1) [
        | inl even ↦
            (let same : 2 * (p / 2) ≡ p = omega (arith, even) in
            let at : 2 * (k * 2 ^ level + p / 2) ≡ k * 2 ^ suc level + p =
            omega (arith, same, wider) in
            subst (λ j. tree_of arena (row_node new (k * 2 ^ suc level + p))
            ≡ merkle_tree rest (take (2 ^ rest) (drop (j * 2 ^ rest) trees))) same
            (ap (λ j. tree_of arena (row_node new j)) (sym at)
            ∙ left_is (k * 2 ^ level + p / 2) _ _ inside (both rest (p / 2) is half)
            ∙ ap (merkle_tree rest) (first_half trees rest (p / 2))))
        | inr odd ↦
            (let same : 2 * (p / 2) + 1 ≡ p = omega (arith, odd) in
            let at : 2 * (k * 2 ^ level + p / 2) + 1 ≡ k * 2 ^ suc level + p =
            omega (arith, same, wider) in
            subst (λ j. tree_of arena (row_node new (k * 2 ^ suc level + p))
            ≡ merkle_tree rest (take (2 ^ rest) (drop (j * 2 ^ rest) trees))) same
            (ap (λ j. tree_of arena (row_node new j)) (sym at)
            ∙ right_is (k * 2 ^ level + p / 2) _ _ inside (both rest (p / 2) is half)
            ∙ ap (merkle_tree rest) (second_half trees rest (p / 2))))
      ]

  pub Spread-more : Spread arena trees depth (level + 1) k new
  Spread-more =
      let is : h.rest ≡ suc (h.rest - 1) = omega (arith, h.levels) in
      let next : suc level ≡ level + 1 = omega arith in
      record {
        rest = h.rest - 1;
        levels = omega (arith, h.levels);
        each = λ p within.
            subst (λ n. tree_of arena (row_node new (k * 2 ^ n + p))
            ≡ merkle_tree (h.rest - 1)
            (take (2 ^ (h.rest - 1)) (drop (p * 2 ^ (h.rest - 1)) trees)))
            next (each_half (h.rest - 1) p is (subst (λ n. p < 2 ^ n) (sym next) within));
      }

-- the whole way down, they are the trees at the places
pub Spread-end : (arena : ArenaContent) (trees : List Tree) (depth level k i : ℕ)
    (row : List NodeId) → Spread arena trees depth level k row → depth ≤ level → i < 2 ^ depth
    → tree_of arena (row_node row (k * 2 ^ depth + i)) ≡ place trees i
Spread-end arena trees depth level k i row h all within =
    let none : h.rest ≡ 0 = omega (arith, h.levels, all) in
    let same : level ≡ depth = omega (arith, h.levels, all) in
    subst (λ n. tree_of arena (row_node row (k * 2 ^ n + i)) ≡ place trees i) same
    (subst (λ n. tree_of arena (row_node row (k * 2 ^ level + i))
    ≡ merkle_tree n (take (2 ^ n) (drop (i * 2 ^ n) trees)))
    none (h.each i (subst (λ n. i < 2 ^ n) (sym same) within))
    ∙ full-zero (take (2 ^ 0) (drop (i * 2 ^ 0) trees))
    ∙ place-take 1 0 (drop (i * 1) trees) (omega arith)
    ∙ place-drop (i * 1) 0 trees ∙ ap (place trees) (whole i))
  where
    whole : (n : ℕ) → n * 1 + 0 ≡ n
    whole n = omega arith
