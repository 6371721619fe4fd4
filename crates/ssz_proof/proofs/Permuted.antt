-- Leaves in another order are as much a multiproof.
use Rattle.std.proofs.Common.{◌≡◌, ◌≢◌, ℕ, zero, suc, ◌+◌, ◌^◌, ◌<◌, ◌≤◌, false, eqb, leb, not, ◌&&◌, List, [], ◌∷◌, length, filter, refl, sym, ap, ap₂, ◌∙◌, arith, inl, inr}
use Rattle.std.specs.Prelude.{nat_eq}
use Rattle.std.specs.List.{AllByRecursion, IsDistinct}
use Rattle.std.specs.List.Sorted.{IsPermutation, IsNonDecreasingBy}
use Rattle.std.proofs.lemmas.Bool.{cases_Bool, eqb-true, eq-eqb, ne_eqb, false≢true}
use Rattle.std.proofs.lemmas.List.Elements.{All-from_recursion, recursion_from_All, filter_agree}
use Rattle.std.proofs.lemmas.List.Sorted.{IsPermutation-sym, IsPermutation-map, All-permutation, Contains-permutation, list_any-IsPermutation, length_permutation}
use Rattle.std.proofs.lemmas.Map.Keys.{IsDistinct-IsPermutation}
use Rattle.ssz_gindex.specs.Helpers.{sibling, is_within, is_helper, descending, greatest, helpers, AreFlat}
use Rattle.ssz_proof.specs.declared.entry.Entry.{Entry}
use Rattle.ssz_proof.specs.Calculation.{Known, indices_of}
use Rattle.ssz_proof.specs.Multiproof.{IsMultiproof, AreComplete, AscendFrom, IsProofOf}

-- the greatest of numbers
greatest-above : (m : ℕ) (xs : List ℕ) → greatest xs ≤ m → AllByRecursion (λ k. k ≤ m) xs
greatest-above m [] le = tt
greatest-above m (k ∷ xs) le = (omega arith, greatest-above m xs (omega arith))

greatest-least : (m : ℕ) (xs : List ℕ) → AllByRecursion (λ k. k ≤ m) xs → greatest xs ≤ m
greatest-least m [] all = omega arith
greatest-least m (k ∷ xs) all =
    let here : k ≤ m = all.0 in
    omega (arith, greatest-least m xs all.1)

all-permuted : (P : ℕ → Type 0) (xs ys : List ℕ) → IsPermutation xs ys → AllByRecursion P xs
    → AllByRecursion P ys
all-permuted P xs ys same all =
    recursion_from_All P ys (All-permutation P xs ys same (All-from_recursion P xs all))

greatest-permuted : (xs ys : List ℕ) → IsPermutation xs ys → greatest ys ≤ greatest xs
greatest-permuted xs ys same =
    greatest-least (greatest xs) ys
    (all-permuted (λ k. k ≤ greatest xs) xs ys same (greatest-above (greatest xs) xs (omega arith)))

is_helper-permuted : (xs ys : List ℕ) → IsPermutation xs ys → (g : ℕ)
    → is_helper xs g ≡ is_helper ys g
is_helper-permuted xs ys same g =
    ap₂ (λ one other. leb 2 g && not one && other)
    (list_any-IsPermutation (is_within g) xs ys same)
    (list_any-IsPermutation (is_within (sibling g)) xs ys same)

-- the helpers of the same indices in another order
helpers-permuted : (xs ys : List ℕ) → IsPermutation xs ys → helpers xs ≡ helpers ys
helpers-permuted xs ys same =
    let top : greatest xs ≡ greatest ys =
    omega (
      arith,
      greatest-permuted xs ys same,
      greatest-permuted ys xs (IsPermutation-sym xs ys same),
    ) in
    ap (λ m. filter (is_helper xs) (descending (m + 2))) top
    ∙ filter_agree (is_helper xs) (is_helper ys) (is_helper-permuted xs ys same)
    (descending (greatest ys + 2))

flat-permuted : (xs ys : List ℕ) → IsPermutation xs ys → AreFlat xs → AreFlat ys
flat-permuted xs ys same flat a b nested =
    let back = IsPermutation-sym xs ys same in
    flat a b (record {
      upper = Contains-permutation ys xs a back nested.upper;
      lower = Contains-permutation ys xs b back nested.lower;
      within = nested.within;
      apart = nested.apart;
    })

flips : (x y : ℕ) → eqb x y ≡ eqb y x
flips x y = elim (cases_Bool (eqb x y)) [
  | inl same ↦ same ∙ sym (eq-eqb y x (sym (eqb-true x y same)))
  | inr other ↦
      other ∙ sym (ne_eqb y x (λ e. false≢true (sym other ∙ eq-eqb x y (sym e))))
]

none_left : (xs ys : Known) → IsPermutation xs ys → xs ≢ [] → ys ≢ []
none_left [] ys same some e = some refl
none_left (x ∷ xs) ys same some e =
    let long : length ys ≡ suc (length xs) = length_permutation (x ∷ xs) ys same in
    let short : length ys ≡ 0 = ap (λ l. length l) e in
    omega arith

-- a multiproof with its leaves in another order
pub permuted : (xs ys nodes : Known) → IsPermutation xs ys
    → IsMultiproof (record { leaves = xs; nodes = nodes })
    → IsMultiproof (record { leaves = ys; nodes = nodes })
permuted xs ys nodes same is =
    let indices : IsPermutation (indices_of xs) (indices_of ys) =
    IsPermutation-map (λ (entry : Entry). entry.index) xs ys same in
    record {
      some = none_left xs ys same is.some;
      positive = all-permuted (λ index. 0 < index) (indices_of xs) (indices_of ys) indices
          is.positive;
      distinct = IsDistinct-IsPermutation nat_eq flips (indices_of xs) (indices_of ys) indices
          is.distinct;
      flat = flat-permuted (indices_of xs) (indices_of ys) indices is.flat;
      complete = is.complete ∙ helpers-permuted (indices_of xs) (indices_of ys) indices;
    }

-- what ascends is above 0 and distinct

ascends-above : (low top : ℕ) (indices : List ℕ) → low ≤ top → AscendFrom top indices
    → AllByRecursion (λ index. low < index) indices
ascends-above low top [] le ascends = tt
ascends-above low top (index ∷ indices) le ascends =
    let rise = ascends.0 in
    (omega arith, ascends-above low index indices (omega arith) ascends.1)

all_unlike : (first : ℕ) (indices : List ℕ) → AllByRecursion (λ index. first < index) indices
    → AllByRecursion (λ index. nat_eq first index ≡ false) indices
all_unlike first [] all = tt
all_unlike first (index ∷ indices) all =
    (ne_eqb first index (λ e. let above = all.0 in omega arith), all_unlike first indices all.1)

ascends-distinct : (low : ℕ) (indices : List ℕ) → AscendFrom low indices
    → IsDistinct nat_eq indices
unfolding IsDistinct
ascends-distinct low [] ascends = tt
ascends-distinct low (index ∷ indices) ascends = (
  all_unlike index indices (ascends-above index index indices (omega arith) ascends.1),
  ascends-distinct index indices ascends.1,
)

-- what a sort leaves ascends where it is above low and distinct

tail-sorted : (x : Entry) (xs : Known) → IsNonDecreasingBy (λ entry. entry.index) (x ∷ xs)
    → IsNonDecreasingBy (λ entry. entry.index) xs
tail-sorted x xs sorted i j d le within = sorted (suc i) (suc j) d (omega arith) (omega arith)

all_above : (low : ℕ) (xs : Known) (x : Entry) → low < x.index
    → IsNonDecreasingBy (λ entry. entry.index) (x ∷ xs)
    → AllByRecursion (λ index. nat_eq x.index index ≡ false) (indices_of xs)
    → AllByRecursion (λ index. x.index < index) (indices_of xs)
all_above low [] x above sorted apart = tt
all_above low (y ∷ xs) x above sorted apart =
    let le : x.index ≤ y.index = sorted 0 1 x (omega arith) (omega arith) in
    let unlike : x.index ≢ y.index = λ e. false≢true (sym apart.0 ∙ eq-eqb x.index y.index e) in (
      omega arith,
      all_above low xs x above (skip sorted) apart.1,
    )
  where
    skip : IsNonDecreasingBy (λ entry. entry.index) (x ∷ y ∷ xs)
        → IsNonDecreasingBy (λ entry. entry.index) (x ∷ xs)
    skip h zero zero d le within = omega arith
    skip h zero (suc j) d le within = h zero (suc (suc j)) d (omega arith) (omega arith)
    skip h (suc i) zero d le within = absurd (omega arith)
    skip h (suc i) (suc j) d le within =
        h (suc (suc i)) (suc (suc j)) d (omega arith) (omega arith)

rises : (low : ℕ) (xs : Known) → IsNonDecreasingBy (λ entry. entry.index) xs
    → AllByRecursion (λ index. low < index) (indices_of xs)
    → IsDistinct nat_eq (indices_of xs) → AscendFrom low (indices_of xs)
unfolding IsDistinct
rises low [] sorted above distinct = tt
rises low (x ∷ xs) sorted above distinct = (
  above.0,
  rises x.index xs (tail-sorted x xs sorted)
      (all_above low xs x above.0 sorted distinct.0) distinct.1,
)

-- the sorted leaves that ascend and have these helpers
module _ (xs ys nodes : Known) (same : IsPermutation xs ys) where
  back : IsPermutation ys xs
  back = IsPermutation-sym xs ys same

  pub made : AreComplete ys nodes → AllByRecursion (λ index. index < 2 ^ 128) (indices_of ys)
      → IsProofOf (record { leaves = xs; nodes = nodes }) (record { leaves = ys; nodes = nodes })
  made complete fits =
      let is : IsMultiproof (record { leaves = ys; nodes = nodes }) = record {
        some = complete.some;
        positive = ascends-above 0 0 (indices_of ys) (omega arith) complete.ascends;
        distinct = ascends-distinct 0 (indices_of ys) complete.ascends;
        flat = complete.helpers.flat;
        complete = complete.helpers.are;
      } in
      record {
        given = permuted ys xs nodes back is;
        ordered = record { is = is; ascends = complete.ascends; fits = fits };
        leaves = same;
        nodes = refl;
      }

  -- what a multiproof has
  pub has_complete : IsNonDecreasingBy (λ entry. entry.index) ys
      → IsMultiproof (record { leaves = xs; nodes = nodes }) → AreComplete ys nodes
  has_complete sorted is =
      let there = permuted xs ys nodes same is in
      record {
        some = there.some;
        ascends = rises 0 ys sorted there.positive there.distinct;
        helpers = record { flat = there.flat; are = there.complete };
      }
