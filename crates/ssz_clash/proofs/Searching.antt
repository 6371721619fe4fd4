-- The search from an index down finds the first clash in preorder.
use Rattle.std.proofs.Common.{◌≡◌, ◌≢◌, ℕ, zero, suc, ◌+◌, ◌*◌, ◌/◌, ◌^◌, ◌<◌, ◌≤◌, true, false, not, eqb, ◌&&◌, ◌||◌, List, [], ◌∷◌, refl, sym, ap, ap₂, subst, ◌∙◌, Option, Some, None, is_some, arith, ◌⊎◌, inl, inr}
use Rattle.std.specs.Prelude.{sum_by}
use Rattle.std.specs.Option.{option_or}
use Rattle.std.proofs.lemmas.Bool.{and_from, and_parts, cases_Bool, cond-true, cond-false, eqb-false, eqb-true, false≢true, ne_eqb, not-true, or_left, or_right}
use Rattle.std.proofs.lemmas.List.Sums.{sum_by-cons}
use Rattle.std.proofs.lemmas.Option.{none-some, same_Some}
use Rattle.std.proofs.lemmas.Slice.Eq.{bytes_eq-Decides}
use Rattle.ssz_chunk.specs.Index.{levels}
use Rattle.ssz_gindex.specs.Helpers.{is_within}
use Rattle.ssz_gindex.proofs.Within.{below_from, within_self}
use Rattle.ssz_proof.specs.Calculation.{Known, PairOf, calculate_root, chunk_at, indices_of}
use Rattle.ssz_proof.specs.Multiproof.{Multiproof, known_of}
use Rattle.ssz_proof.proofs.KnownChunks.{any_from, any_known}
use Rattle.ssz_proof.proofs.Within.{child_levels, levels_one, root_within}
use Rattle.ssz_clash.specs.Clashes.{IsAbove, IsClash, IsFirstClash, IsNotBehind, pair_at}
use Rattle.ssz_clash.specs.Compared.{clash_below_root, clashes_at, differ_at, first_clash, is_above}
use Rattle.ssz_clash.proofs.Below.{below_left, below_right, same_index, to_left, to_right, where_below}
use Rattle.ssz_clash.proofs.Leaves.{true-from_not}
use Rattle.ssz_clash.proofs.Preorder.{not_behind_above, not_behind_right}

-- ---- an index above a leaf, by its test

above-is : (leaves : Known) (g : ℕ) → 0 < g → is_above (indices_of leaves) g ≡ true
    → IsAbove leaves g
above-is leaves g positive e =
    let leaf = any_known (λ k. is_within g k && not (eqb g k)) leaves e in
    let both = and_parts (is_within g leaf.0) (not (eqb g leaf.0)) leaf.1 in
    record {
      positive = positive;
      leaf = leaf.0;
      there = leaf.2;
      within = both.0;
      apart = eqb-false g leaf.0 (not-true (eqb g leaf.0) both.1);
    }

is-above : (leaves : Known) (g : ℕ) → IsAbove leaves g → is_above (indices_of leaves) g ≡ true
is-above leaves g above =
    any_from (λ k. is_within g k && not (eqb g k)) leaves above.leaf above.there
    (and_from (is_within g above.leaf) (not (eqb g above.leaf)) above.within
    (ap not (ne_eqb g above.leaf above.apart)))

-- what is above a leaf has fewer levels than all leaves together
leaf-levels : (leaves : Known) (g : ℕ) → is_some (chunk_at leaves g) ≡ true
    → levels g ≤ sum_by levels (indices_of leaves)
leaf-levels [] g e = absurd (false≢true e)
leaf-levels (entry ∷ leaves) g e = elim (cases_Bool (eqb entry.index g)) [
  | inl here ↦
      (let same : levels entry.index ≡ levels g =
      ap (λ k. levels k) (eqb-true entry.index g here) in
      omega (arith, same, sum_by-cons levels entry.index (indices_of leaves)))
  | inr later ↦
      (let rest : levels g ≤ sum_by levels (indices_of leaves) = leaf-levels leaves g
      (ap is_some (sym (cond-false (eqb entry.index g) (Some entry.chunk.0) (chunk_at leaves g)
      later)) ∙ e) in
      omega (arith, rest, sum_by-cons levels entry.index (indices_of leaves)))
]

above-levels : (leaves : Known) (g : ℕ) → IsAbove leaves g
    → levels g < sum_by levels (indices_of leaves)
above-levels leaves g above =
    let below = below_from g above.leaf above.within in
    let deep = leaf-levels leaves above.leaf above.there in
    elim below.n as (λ (n : ℕ). levels above.leaf ≡ levels g + n → above.leaf / 2 ^ n ≡ g
    → levels g < sum_by levels (indices_of leaves)) [
      | zero ↦ (λ same high. absurd (above.apart (omega (arith, high))))
      | suc n ↦ (λ more high. omega (arith, more, deep))
    ] below.levels below.high

child-left : (k : ℕ) → 0 < k → levels (2 * k) ≡ levels k + 1
child-left k positive =
    let e : 2 * k ≡ k * 2 + 0 = omega arith in
    ap (λ (n : ℕ). levels n) e ∙ child_levels k 0 positive (omega arith)

child-right : (k : ℕ) → 0 < k → levels (2 * k + 1) ≡ levels k + 1
child-right k positive =
    let e : 2 * k + 1 ≡ k * 2 + 1 = omega arith in
    ap (λ (n : ℕ). levels n) e ∙ child_levels k 1 positive (omega arith)

-- ---- a clash, by its test

module _ (pair_of : PairOf) (one other : Multiproof) where
  abbrev one_at : ℕ → List ℕ
  one_at g = calculate_root pair_of (known_of one) g

  abbrev other_at : ℕ → List ℕ
  other_at g = calculate_root pair_of (known_of other) g

  pub same-is : (g : ℕ) → differ_at pair_of one other g ≡ false → one_at g ≡ other_at g
  same-is g e = (bytes_eq-Decides (one_at g) (other_at g)).0 (true-from_not _ e)

  pub is-same : (g : ℕ) → one_at g ≡ other_at g → differ_at pair_of one other g ≡ false
  is-same g same = ap not ((bytes_eq-Decides (one_at g) (other_at g)).1 same)

  pub differ-is : (g : ℕ) → one_at g ≢ other_at g → differ_at pair_of one other g ≡ true
  differ-is g unlike = elim (cases_Bool (differ_at pair_of one other g)) [
    | inl differ ↦ differ
    | inr same ↦ absurd (unlike (same-is g same))
  ]

  pair-same : (g : ℕ) → one_at (2 * g) ≡ other_at (2 * g)
      → one_at (2 * g + 1) ≡ other_at (2 * g + 1) → pair_at pair_of one g ≡ pair_at pair_of other g
  pair-same g left right = ap₂ (λ (a b : List ℕ). (a, b)) left right

  no-differ : (g : ℕ) → differ_at pair_of one other (2 * g) ≡ false
      → differ_at pair_of one other (2 * g + 1) ≡ false
      → (differ_at pair_of one other (2 * g) || differ_at pair_of one other (2 * g + 1)) ≡ false
  no-differ g left right = rw (left, right) refl

  clash-is : (g : ℕ) → 0 < g → clashes_at pair_of one other g ≡ true → IsClash pair_of one other g
  clash-is g positive e =
      let parts = and_parts
      (is_above (indices_of one.leaves) g && not (differ_at pair_of one other g)) _ e in
      let first = and_parts (is_above (indices_of one.leaves) g) _ parts.0 in
      record {
        above = above-is one.leaves g positive first.0;
        same = same-is g (not-true _ first.1);
        unlike = λ pairs. false≢true
            (sym (no-differ g (is-same (2 * g) (ap (λ (p : List ℕ × List ℕ). p.0) pairs))
            (is-same (2 * g + 1) (ap (λ (p : List ℕ × List ℕ). p.1) pairs))) ∙ parts.1);
      }

  is-clash : (g : ℕ) → IsClash pair_of one other g → clashes_at pair_of one other g ≡ true
  is-clash g clash =
      and_from (is_above (indices_of one.leaves) g && not (differ_at pair_of one other g)) _
      (and_from (is_above (indices_of one.leaves) g) _ (is-above one.leaves g clash.above)
      (ap not (is-same g clash.same)))
      (elim (cases_Bool (differ_at pair_of one other (2 * g))) [
        | inl left ↦ or_left _ _ left
        | inr same ↦ or_right _ _ (differ-is (2 * g + 1)
            (λ right. clash.unlike (pair-same g (same-is (2 * g) same) right)))
      ])

  -- ---- the search

  abbrev search-from : ℕ → ℕ → Option ℕ
  search-from down i = first_clash pair_of one other down i

  found-or : (a b : Option ℕ) (h : ℕ) → option_or a b ≡ Some h → (a ≡ Some h) ⊎ (b ≡ Some h)
  found-or None b h e = inr e
  found-or (Some k) b h e = inl e

  -- what is found is a clash at or below the index
  sound : (down i h : ℕ) → 0 < i → search-from down i ≡ Some h
      → IsClash pair_of one other h × (is_within i h ≡ true)
  unfolding first_clash
  sound zero i h positive e = absurd (none-some h e)
  sound (suc down) i h positive e = elim (cases_Bool (clashes_at pair_of one other i)) [
    | inl here ↦
        (let same : i ≡ h = same_Some i h (sym (cond-true _ (Some i) _ here) ∙ e) in
        subst (λ (k : ℕ). IsClash pair_of one other k × (is_within i k ≡ true)) same
        (clash-is i positive here, within_self i))
    | inr below ↦ elim (found-or (search-from down (2 * i)) (search-from down (2 * i + 1)) h
        (sym (cond-false _ (Some i) _ below) ∙ e)) [
          | inl left ↦
              (let rest = sound down (2 * i) h (omega arith) left in
              (rest.0, below_left i h positive rest.1))
          | inr right ↦
              (let rest = sound down (2 * i + 1) h (omega arith) right in
              (rest.0, below_right i h positive rest.1))
        ]
  ]

  module _ (g : ℕ) (clash : IsClash pair_of one other g)
      (least : (h : ℕ) → IsClash pair_of one other h → IsNotBehind g h) where
    -- none is found to the left of the first
    none-left : (down i : ℕ) → 0 < i → is_within (2 * i + 1) g ≡ true
        → search-from down (2 * i) ≡ None
    none-left down i positive right = by (search-from down (2 * i)) refl
      where
        by : (found : Option ℕ) → search-from down (2 * i) ≡ found
            → search-from down (2 * i) ≡ None
        by None is = is
        by (Some h) is =
            let there = sound down (2 * i) h (omega arith) is in
            absurd (not_behind_right i g h positive there.1 right (least h there.0))

    -- the first clash is found where the search goes as deep
    finds : (down i : ℕ) → 0 < i → is_within i g ≡ true → levels g < levels i + down
        → search-from down i ≡ Some g
    unfolding first_clash
    finds zero i positive within deep =
        let below = below_from i g within in
        absurd (omega (arith, below.levels, deep))
    finds (suc down) i positive within deep =
        elim (cases_Bool (clashes_at pair_of one other i)) [
          | inl here ↦
              cond-true _ (Some i) _ here
              ∙ ap (λ (k : ℕ). Some k)
              (not_behind_above i g within (least i (clash-is i positive here)))
          | inr below ↦
              cond-false _ (Some i) _ below
              ∙ (elim (where_below i g positive within) [
                | same_index same ↦ absurd (false≢true (sym below
                    ∙ subst (λ (k : ℕ). clashes_at pair_of one other k ≡ true) (sym same)
                    (is-clash g clash)))
                | to_left left ↦
                    ap (λ (o : Option ℕ). option_or o (search-from down (2 * i + 1)))
                    (finds down (2 * i) (omega arith) left
                    (deeper (2 * i) (child-left i positive)))
                | to_right right ↦
                    ap (λ (o : Option ℕ). option_or o (search-from down (2 * i + 1)))
                    (none-left down i positive right)
                    ∙ finds down (2 * i + 1) (omega arith) right
                    (deeper (2 * i + 1) (child-right i positive))
              ])
        ]
      where
        deeper : (k : ℕ) → levels k ≡ levels i + 1 → levels g < levels k + down
        deeper k child = omega (arith, child, deep)

  pub finds-first : (g : ℕ) → IsFirstClash pair_of one other g
      → clash_below_root pair_of one other ≡ Some g
  finds-first g first =
      finds g first.clash first.least (sum_by levels (indices_of one.leaves)) 1 (omega arith)
      (root_within g first.clash.above.positive)
      (omega (arith, levels_one, above-levels one.leaves g first.clash.above))
