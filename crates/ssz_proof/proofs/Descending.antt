-- One step of the calculation: from an index that is not known to both of its children.
use Rattle.std.proofs.Common.{◌≡◌, ℕ, suc, ◌+◌, ◌*◌, ◌^◌, ◌<◌, ◌≤◌, List, [], ◌∷◌, ◌++◌, sym, ap, ap₂, ◌∙◌, subst, Some, None, arith, inl, inr, lit<}
use Rattle.std.specs.List.{AllByRecursion}
use Rattle.std.proofs.Math.Nat.{pow-le-pow_right}
use Rattle.std.proofs.lemmas.Bool.{cases_lt}
use Rattle.ssz_chunk.specs.Index.{levels}
use Rattle.ssz_chunk.proofs.Digits.{has_levels}
use Rattle.ssz_proof.specs.Calculation.{Known, PairOf, indices_of, chunk_at, deepest, calculate_root}
use Rattle.ssz_proof.specs.Multiproof.{IsOrdered}
use Rattle.ssz_proof.specs.Descent.{IsReached, IsAscending, IsDescending, levels_below}
use Rattle.ssz_proof.proofs.Within.{child_levels}
use Rattle.ssz_proof.proofs.KnownChunks.{unknown-left, apart_unknown}
use Rattle.ssz_proof.proofs.HelperIndices.{on_if_unknown, IsDescending-helpers}
use Rattle.ssz_proof.proofs.Calculating.{within-known, leaf_below, children_reached, deeper, calculated-down, root_reached}
use Rattle.ssz_proof.proofs.Levels.{levels_below-pair}
use Rattle.ssz_proof.proofs.Searching.{IsAscending-from}

-- both children of an index that is not known
pub record GoesDown (pair_of : PairOf) (leaves nodes : Known) (g : ℕ) : Type 0 where
  pub left : IsReached leaves nodes (2 * g)
  pub right : IsReached leaves nodes (2 * g + 1)
  pub above : levels g < deepest (indices_of leaves)
  pub left_levels : levels (2 * g) ≡ levels g + 1
  pub right_levels : levels (2 * g + 1) ≡ levels g + 1
  pub fits : 2 * g + 1 < 2 ^ 128
  pub chunk : calculate_root pair_of (leaves ++ nodes) g
      ≡ pair_of (calculate_root pair_of (leaves ++ nodes) (2 * g))
      (calculate_root pair_of (leaves ++ nodes) (2 * g + 1))
  pub pairs : levels_below (2 * g) (indices_of leaves)
      + levels_below (2 * g + 1) (indices_of leaves) + 1 ≤ levels_below g (indices_of leaves)

-- indices of 128 bits have at most 127 levels
levels-fits : (g : ℕ) → 0 < g → g < 2 ^ 128 → levels g < 128
levels-fits g positive fits = elim (cases_lt (levels g) 128) [
  | inl less ↦ less
  | inr more ↦
      (let low = (has_levels g positive).low in
      let high : 2 ^ 128 ≤ 2 ^ levels g = pow-le-pow_right {n = 2} (lit< tt) more in
      absurd (omega arith))
]

deepest-fits : (indices : List ℕ) → AllByRecursion (λ index. 0 < index) indices
    → AllByRecursion (λ index. index < 2 ^ 128) indices → deepest indices < 128
deepest-fits [] positive fits = omega arith
deepest-fits (g ∷ indices) positive fits =
    omega (arith, levels-fits g positive.0 fits.0, deepest-fits indices positive.1 fits.1)

child-fits : (g : ℕ) → 0 < g → levels g < 127 → 2 * g + 1 < 2 ^ 128
child-fits g positive less =
    let high = (has_levels g positive).high in
    let top : 2 ^ suc (levels g) ≤ 2 ^ 127 =
    pow-le-pow_right {n = 2} (lit< tt) {i = suc (levels g)} {j = 127} (omega arith) in
    omega arith

module _ (leaves nodes : Known)
    (ordered : IsOrdered (record { leaves = leaves; nodes = nodes })) where
  pub ascends : IsAscending (indices_of leaves)
  ascends = IsAscending-from 0 (indices_of leaves) ordered.ascends

  pub descends : IsDescending (indices_of nodes)
  descends =
      subst (λ indices. IsDescending indices) (sym ordered.is.complete)
      (IsDescending-helpers (indices_of leaves))

  pub starts : IsReached leaves nodes 1
  starts = root_reached leaves nodes ordered.is.complete ordered.is.some ordered.is.positive

  pub known_is : (pair_of : PairOf) (g : ℕ) (chunk : List ℕ)
      → Some chunk ≡ chunk_at (leaves ++ nodes) g
      → chunk ≡ calculate_root pair_of (leaves ++ nodes) g
  known_is pair_of g chunk e =
      sym (within-known pair_of (deepest (indices_of (leaves ++ nodes))) (leaves ++ nodes) g chunk
      (sym e))

  pub goes_down : (pair_of : PairOf) (g : ℕ) → 0 < g
      → IsReached leaves nodes g → None ≡ chunk_at (leaves ++ nodes) g
      → GoesDown pair_of leaves nodes g
  goes_down pair_of g positive reached none =
      let complete = ordered.is.complete in
      let unknown : chunk_at (leaves ++ nodes) g ≡ None = sym none in
      let below = leaf_below leaves nodes complete g reached unknown in
      let both = children_reached leaves nodes complete g positive below in
      let above : levels g < deepest (indices_of leaves) = deeper leaves nodes complete g below in
      let all_fit : deepest (indices_of leaves) < 128 =
      deepest-fits (indices_of leaves) ordered.is.positive ordered.fits in
      let left : g * 2 + 0 ≡ 2 * g = omega arith in
      let right : g * 2 + 1 ≡ 2 * g + 1 = omega arith in
      record {
        left = subst (λ (k : ℕ). IsReached leaves nodes k) left both.0;
        right = subst (λ (k : ℕ). IsReached leaves nodes k) right both.1;
        above = above;
        left_levels = ap (λ k. levels k) (sym left) ∙ child_levels g 0 positive (omega arith);
        right_levels = ap (λ k. levels k) (sym right) ∙ child_levels g 1 positive (omega arith);
        fits = child-fits g positive (omega arith);
        chunk = calculated-down leaves nodes complete pair_of g positive reached unknown
            ∙ ap₂ (λ l r. pair_of (calculate_root pair_of (leaves ++ nodes) l)
            (calculate_root pair_of (leaves ++ nodes) r)) left right;
        pairs = levels_below-pair g (indices_of leaves) positive
            (apart_unknown leaves g (unknown-left leaves nodes g unknown))
            (on_if_unknown leaves nodes complete g reached unknown);
      }
