-- The test of a multiproof is true exactly where there is one.
use Rattle.std.proofs.Common.{◌≡◌, ◌≢◌, ℕ, zero, suc, ◌<◌, Bool, true, false, not, ◌&&◌, List, [], ◌∷◌, refl, sym, ap, ◌∙◌, arith, inl, inr}
use Rattle.std.specs.Prelude.{nat_eq, nat_lt, Contains}
use Rattle.std.specs.List.{list_any, list_all, AllByRecursion, IsDistinct}
use Rattle.std.proofs.lemmas.Bool.{and_parts, and_from, or_parts, or_from, or_cases, or_left, or_right, not-true, not_from_false, ltb-true, lt-ltb, eqb-false, ne_eqb, false≢true, false_from_ne_true}
use Rattle.std.proofs.lemmas.Slice.Eq.{bytes_eq-Decides}
use Rattle.ssz_gindex.specs.Helpers.{is_within, helpers, AreNested}
use Rattle.ssz_proof.specs.Calculation.{Known, indices_of}
use Rattle.ssz_proof.specs.Multiproof.{Multiproof, IsMultiproof}
use Rattle.ssz_proof.specs.Judgement.{is_some_known, are_distinct, is_below_one, are_flat, is_multiproof, LawOfJudgement}

-- what a test of each element says of each
each-from : {X : Type 0} (test : X → Bool) (P : X → Type 0) → ((x : X) → test x ≡ true → P x)
    → (xs : List X) → list_all test xs ≡ true → AllByRecursion P xs
each-from test P says [] all = tt
each-from test P says (x ∷ xs) all =
    let parts = and_parts (test x) (list_all test xs) all in
    (says x parts.0, each-from test P says xs parts.1)

each-to : {X : Type 0} (test : X → Bool) (P : X → Type 0) → ((x : X) → P x → test x ≡ true)
    → (xs : List X) → AllByRecursion P xs → list_all test xs ≡ true
each-to test P says [] all = refl
each-to test P says (x ∷ xs) all =
    and_from (test x) (list_all test xs) (says x all.0) (each-to test P says xs all.1)

-- no element passes a test that each fails
none-from : {X : Type 0} (test : X → Bool) (xs : List X) → list_any test xs ≡ false
    → AllByRecursion (λ x. test x ≡ false) xs
none-from test [] none = tt
none-from test (x ∷ xs) none =
    let parts = or_parts (test x) (list_any test xs) none in (parts.0, none-from test xs parts.1)

none-to : {X : Type 0} (test : X → Bool) (xs : List X) → AllByRecursion (λ x. test x ≡ false) xs
    → list_any test xs ≡ false
none-to test [] none = refl
none-to test (x ∷ xs) none = or_from (test x) (list_any test xs) none.0 (none-to test xs none.1)

-- an element that passes the test
any-to : (test : ℕ → Bool) (xs : List ℕ) (x : ℕ) → Contains xs x → test x ≡ true
    → list_any test xs ≡ true
any-to test [] x (k, below, is) passes = absurd (omega arith)
any-to test (y ∷ xs) x (zero, below, is) passes =
    or_left (test y) (list_any test xs) (ap test is ∙ passes)
any-to test (y ∷ xs) x (suc k, below, is) passes =
    or_right (test y) (list_any test xs) (any-to test xs x (k, omega arith, is) passes)

Contains-more : (y x : ℕ) (xs : List ℕ) → Contains xs x → Contains (y ∷ xs) x
Contains-more y x xs has = (suc has.0, omega (arith, has.1), has.2)

any-from : (test : ℕ → Bool) (xs : List ℕ) → list_any test xs ≡ true
    → (x : ℕ) × Contains xs x × (test x ≡ true)
any-from test [] passes = absurd (false≢true passes)
any-from test (y ∷ xs) passes = elim (or_cases (test y) (list_any test xs) passes) [
  | inl here ↦ (y, (0, omega arith, refl), here)
  | inr later ↦ (let found = any-from test xs later in
      (found.0, Contains-more y found.0 xs found.1, found.2))
]

distinct-from : (ks : List ℕ) → are_distinct ks ≡ true → IsDistinct nat_eq ks
unfolding IsDistinct
distinct-from [] yes_distinct = tt
distinct-from (k ∷ ks) yes_distinct =
    let parts = and_parts (not (list_any (nat_eq k) ks)) (are_distinct ks) yes_distinct in
    (none-from (nat_eq k) ks (not-true _ parts.0), distinct-from ks parts.1)

distinct-to : (ks : List ℕ) → IsDistinct nat_eq ks → are_distinct ks ≡ true
unfolding IsDistinct
distinct-to [] is = refl
distinct-to (k ∷ ks) is =
    and_from (not (list_any (nat_eq k) ks)) (are_distinct ks)
    (not_from_false _ (none-to (nat_eq k) ks is.0)) (distinct-to ks is.1)

-- nested indices are found
nested-found : (indices : List ℕ) (a b : ℕ) → AreNested indices a b
    → list_any (is_below_one indices) indices ≡ true
nested-found indices a b nested =
    any-to (is_below_one indices) indices b nested.lower
    (any-to (λ c. is_within c b && not (nat_eq c b)) indices a nested.upper
    (and_from (is_within a b) (not (nat_eq a b)) nested.within
    (not_from_false _ (ne_eqb a b nested.apart))))

pub flat-from : (indices : List ℕ) → are_flat indices ≡ true → (a b : ℕ) → ¬ AreNested indices a b
flat-from indices flat a b nested =
    false≢true (sym (not-true _ flat) ∙ nested-found indices a b nested)

-- what is found is nested
nested-from : (indices : List ℕ) → list_any (is_below_one indices) indices ≡ true
    → (a : ℕ) × (b : ℕ) × AreNested indices a b
nested-from indices found =
    let lower = any-from (is_below_one indices) indices found in
    let upper = any-from (λ c. is_within c lower.0 && not (nat_eq c lower.0)) indices lower.2 in
    let parts = and_parts (is_within upper.0 lower.0) (not (nat_eq upper.0 lower.0)) upper.2 in (
      upper.0,
      lower.0,
      record {
        upper = upper.1;
        lower = lower.1;
        within = parts.0;
        apart = eqb-false upper.0 lower.0 (not-true _ parts.1);
      },
    )

flat-to : (indices : List ℕ) → ((a b : ℕ) → ¬ AreNested indices a b) → are_flat indices ≡ true
flat-to indices flat =
    not_from_false _ (false_from_ne_true _ (λ found.
    let nested = nested-from indices found in flat nested.0 nested.1 nested.2))

some-from : (known : Known) → is_some_known known ≡ true → known ≢ []
some-from [] yes_some same = false≢true yes_some
some-from (entry ∷ known) yes_some same = false≢true (ap is_some_known (sym same))

some-to : (known : Known) → known ≢ [] → is_some_known known ≡ true
some-to [] some = absurd (some refl)
some-to (entry ∷ known) some = refl

multiproof-from : (lists : Multiproof) → is_multiproof lists ≡ true → IsMultiproof lists
unfolding is_multiproof
multiproof-from lists yes_is =
    let leaves = indices_of lists.leaves in
    let complete = and_parts _ _ yes_is in
    let flat = and_parts _ _ complete.0 in
    let distinct = and_parts _ _ flat.0 in
    let leading = and_parts _ _ distinct.0 in
    record {
      some = some-from lists.leaves leading.0;
      positive = each-from (nat_lt 0) (λ index. 0 < index) (λ index. ltb-true 0 index) leaves
          leading.1;
      distinct = distinct-from leaves distinct.1;
      flat = flat-from leaves flat.1;
      complete = (bytes_eq-Decides (indices_of lists.nodes) (helpers leaves)).0 complete.1;
    }

multiproof-to : (lists : Multiproof) → IsMultiproof lists → is_multiproof lists ≡ true
unfolding is_multiproof
multiproof-to lists is =
    let leaves = indices_of lists.leaves in
    and_from _ _ (and_from _ _ (and_from _ _ (and_from _ _ (some-to lists.leaves is.some)
    (each-to (nat_lt 0) (λ index. 0 < index) (λ index. lt-ltb 0 index) leaves is.positive))
    (distinct-to leaves is.distinct)) (flat-to leaves is.flat))
    ((bytes_eq-Decides (indices_of lists.nodes) (helpers leaves)).1 is.complete)

pub lists-judged : LawOfJudgement
lists-judged lists = (multiproof-from lists, multiproof-to lists)
