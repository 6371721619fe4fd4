-- The start of a walk: the indices in descending order, each once.
use Rattle.std.proofs.Common.{◌≡◌, ℕ, suc, ◌+◌, ◌*◌, ◌<◌, ◌≤◌, true, eqb, List, [], ◌∷◌, ◌++◌, reverse, take, length, get_or, sym, ap, ◌∙◌, subst, arith, inl, inr}
use mathlib.Core.List.{reverse-cons}
use Rattle.std.specs.Prelude.{Contains}
use Rattle.std.specs.List.{AllByRecursion, dedup}
use Rattle.std.specs.List.Sorted.{IsPermutation, IsSorted, IsStrictlySortedBy}
use Rattle.std.specs.Ordering.{nat_cmp}
use Rattle.std.specs.declared.cmp.Ordering.TheVariants.{Less}
use Rattle.std.proofs.Math.Seq.{take-length, take-suc}
use Rattle.std.proofs.lemmas.Cmp.{ranked}
use Rattle.std.proofs.lemmas.Bool.{or_cases, eqb-true, false≢true}
use Rattle.std.proofs.lemmas.List.Kept.{Contains-dedup_nat, Contains-from_dedup}
use Rattle.std.proofs.lemmas.List.Sorted.{Contains-permutation, IsPermutation-sym, IsPermutation-reverse}
use Rattle.std.proofs.lemmas.Map.Keys.{sorted_from_strictly_increasing, IsStrictlyIncreasing-dedup}
use Rattle.ssz_gindex.specs.Helpers.{sibling, greatest}
use Rattle.ssz_gindex.specs.Laws.{IsDescending, contains}
use Rattle.ssz_gindex.specs.Walk.{WalksHelpers}
use Rattle.ssz_gindex.proofs.Within.{on_paths-small}
use Rattle.ssz_gindex.proofs.Walking.{contains_from, contains_is, contains-append, descending-append, helper_is, same_tests, sibling_near}

-- In descending order.

above_all : (x : ℕ) (ys : List ℕ) (k : ℕ) → AllByRecursion (λ y. nat_cmp x y ≡ Less) ys
    → contains ys k ≡ true → x < k
above_all x [] k all e = absurd (false≢true e)
above_all x (y ∷ ys) k all e = elim (or_cases (eqb y k) (contains ys k) e) [
  | inl here ↦ omega (arith, eqb-true y k here, ranked x y Less (sym all.0))
  | inr later ↦ above_all x ys k all.1 later
]

contains_in : (xs ys : List ℕ) → ((k : ℕ) → Contains xs k → Contains ys k) → (k : ℕ)
    → contains xs k ≡ true → contains ys k ≡ true
contains_in xs ys into k e =
    let there = into k (contains_is xs k e) in contains_from ys there.0 k there.1 there.2

contains_reverse : (xs : List ℕ) (k : ℕ) → contains (reverse xs) k ≡ true → contains xs k ≡ true
contains_reverse xs =
    contains_in (reverse xs) xs (λ k.
    Contains-permutation (reverse xs) xs k
    (IsPermutation-sym xs (reverse xs) (IsPermutation-reverse xs)))

-- numbers that rise fall the other way round
reverse-falls : (xs : List ℕ) → IsStrictlySortedBy nat_cmp xs → IsDescending (reverse xs)
unfolding IsStrictlySortedBy
reverse-falls [] sorted = tt
reverse-falls (x ∷ xs) sorted =
    subst IsDescending (sym (reverse-cons x xs))
    (descending-append (reverse xs) x (reverse-falls xs sorted.1)
    (λ k e. above_all x xs k sorted.0 (contains_reverse xs k e)))

pub falls_from : (sorted list : List ℕ) → IsSorted nat_cmp sorted
    → list ≡ reverse (dedup eqb sorted) → IsDescending list
falls_from sorted list rises is =
    subst IsDescending (sym is) (reverse-falls (dedup eqb sorted)
    (sorted_from_strictly_increasing (dedup eqb sorted) (IsStrictlyIncreasing-dedup sorted rises)))

-- the same numbers
pub same_from : (given copy sorted list : List ℕ) → copy ≡ given → IsPermutation copy sorted
    → list ≡ reverse (dedup eqb sorted) → (k : ℕ) → contains list k ≡ contains given k
same_from given copy sorted list copied moved is k =
    let kept = dedup eqb sorted in
    ap (λ (xs : List ℕ). contains xs k) is
    ∙ same_tests (contains (reverse kept) k) (contains copy k)
    (contains_in (reverse kept) copy (λ g h.
    Contains-permutation sorted copy g (IsPermutation-sym copy sorted moved)
    (Contains-from_dedup eqb sorted g
    (Contains-permutation (reverse kept) kept g
    (IsPermutation-sym kept (reverse kept) (IsPermutation-reverse kept)) h))) k)
    (contains_in copy (reverse kept) (λ g h.
    Contains-permutation kept (reverse kept) g (IsPermutation-reverse kept)
    (Contains-dedup_nat sorted g (Contains-permutation copy sorted g moved h))) k)
    ∙ ap (λ (xs : List ℕ). contains xs k) copied

-- None is 0.

pub positive-next : (indices : List ℕ) (i index : ℕ) → 0 < index → i < length indices
    → index ≡ get_or indices i index
    → ((k : ℕ) → contains (take i indices) k ≡ true → 0 < k)
    → (k : ℕ) → contains (take (i + 1) indices) k ≡ true → 0 < k
positive-next indices i index some below is before k e =
    let longer : take (i + 1) indices ≡ take i indices ++ index ∷ [] =
    ap (λ n. take n indices) (let e : i + 1 ≡ suc i = omega arith in e)
    ∙ take-suc indices i index below
    ∙ ap (λ n. take i indices ++ n ∷ []) (sym is) in
    elim (contains-append (take i indices) index k
    (sym (ap (λ (xs : List ℕ). contains xs k) longer) ∙ e)) [
      | inl front ↦ before k front
      | inr last ↦ omega (arith, last, some)
    ]

pub positive-all : (indices : List ℕ) (i : ℕ) → i ≡ length indices
    → ((k : ℕ) → contains (take i indices) k ≡ true → 0 < k)
    → (k : ℕ) → contains indices k ≡ true → 0 < k
positive-all indices i all before k e =
    let whole : take i indices ≡ indices = ap (λ n. take n indices) all ∙ take-length indices in
    before k (ap (λ (xs : List ℕ). contains xs k) whole ∙ e)

-- Nothing was met.

contains-small : (indices : List ℕ) (k : ℕ) → contains indices k ≡ true → k ≤ greatest indices
contains-small [] k e = absurd (false≢true e)
contains-small (i ∷ indices) k e = elim (or_cases (eqb i k) (contains indices k) e) [
  | inl here ↦ omega (arith, eqb-true i k here)
  | inr later ↦ omega (arith, contains-small indices k later)
]

-- all indices wait, and no helper was found
pub starts : (indices waiting parents : List ℕ)
    → ((k : ℕ) → contains indices k ≡ true → 0 < k) → IsDescending waiting
    → ((k : ℕ) → contains waiting k ≡ contains indices k) → parents ≡ []
    → WalksHelpers indices waiting parents []
starts indices waiting parents positive falls same none =
    subst (λ (xs : List ℕ). WalksHelpers indices waiting xs []) (sym none) (
      2 * (greatest indices + 1),
      record {
        even = omega arith;
        positive = positive;
        falls = falls;
        index = λ k e.
            let is : contains indices k ≡ true = sym (same k) ∙ e in
            (omega (arith, contains-small indices k is), is);
        index_waits = λ k e below. same k ∙ e;
        parents_fall = tt;
        parent = λ k e. absurd (false≢true e);
        parent_waits = λ k on far large below.
            absurd (omega (arith, on_paths-small indices k on, far));
        flat = λ a b nested. omega (
          arith,
          contains-small indices a
              (contains_from indices nested.upper.0 a nested.upper.1 nested.upper.2),
        );
        down = tt;
        helper = λ k e. absurd (false≢true e);
        all = λ k e far.
            let helper = helper_is indices k e in
            let near = sibling_near k helper.large in
            absurd (omega (arith, near.0, on_paths-small indices (sibling k) helper.beside));
      },
    )
