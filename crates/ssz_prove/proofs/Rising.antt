-- Numbers that ascend, as the helpers do the other way round.
use Rattle.std.proofs.Common.{◌≡◌, ℕ, ◌<◌, true, eqb, List, [], ◌∷◌, ◌++◌, reverse, refl, sym, ap, ◌∙◌, subst, arith, inl, inr}
use mathlib.Core.List.{reverse-cons}
use Rattle.std.specs.List.{AllByRecursion}
use Rattle.std.proofs.lemmas.Bool.{or_cases, or_right, eqb-true, false≢true}
use Rattle.ssz_gindex.specs.Helpers.{helpers, is_helper}
use Rattle.ssz_gindex.specs.Laws.{IsDescending, contains}
use Rattle.ssz_gindex.proofs.HelperLists.{IsDescending-helpers, contains-helpers, has_first}
use Rattle.ssz_gindex.proofs.Walking.{append-front, append-last, contains-append, helper_is, same_tests}
use Rattle.ssz_proof.specs.Multiproof.{AscendFrom}
use Rattle.ssz_prove.proofs.Taking.{all_pushed}

pub has_later : (x y : ℕ) (xs : List ℕ) → contains xs y ≡ true → contains (x ∷ xs) y ≡ true
has_later x y xs e = or_right (eqb x y) (contains xs y) e

pub above_low : (low : ℕ) (xs : List ℕ) (k : ℕ) → AscendFrom low xs → contains xs k ≡ true
    → low < k
above_low low [] k rise e = absurd (false≢true e)
above_low low (x ∷ xs) k rise e = elim (or_cases (eqb x k) (contains xs k) e) [
  | inl here ↦ omega (arith, eqb-true x k here, rise.0)
  | inr later ↦ omega (arith, above_low x xs k rise.1 later, rise.0)
]

pub ascend-append : (low : ℕ) (xs : List ℕ) (s : ℕ) → AscendFrom low xs
    → AllByRecursion (λ k. k < s) xs → low < s → AscendFrom low (xs ++ s ∷ [])
ascend-append low [] s rise all less = (less, tt)
ascend-append low (x ∷ xs) s rise all less =
    (rise.0, ascend-append x xs s rise.1 all.1 all.0)

pub all_reverse : {X : Type 0} (P : X → Type 0) (xs : List X) → AllByRecursion P xs
    → AllByRecursion P (reverse xs)
all_reverse P [] all = tt
all_reverse P (x ∷ xs) all =
    subst (AllByRecursion P) (sym (reverse-cons x xs))
    (all_pushed P (reverse xs) x (all_reverse P xs all.1) all.0)

pub all_map : {X : Type 0} (P Q : X → Type 0) → ((x : X) → P x → Q x) → (xs : List X)
    → AllByRecursion P xs → AllByRecursion Q xs
all_map P Q f [] all = tt
all_map P Q f (x ∷ xs) all = (f x all.0, all_map P Q f xs all.1)

pub all_contained : (P : ℕ → Type 0) (xs : List ℕ) (k : ℕ) → AllByRecursion P xs
    → contains xs k ≡ true → P k
all_contained P [] k all e = absurd (false≢true e)
all_contained P (x ∷ xs) k all e = elim (or_cases (eqb x k) (contains xs k) e) [
  | inl here ↦ subst P (eqb-true x k here) all.0
  | inr later ↦ all_contained P xs k all.1 later
]

-- the other way round
pub ascend-reverse : (low : ℕ) (xs : List ℕ) → AllByRecursion (λ k. low < k) xs → IsDescending xs
    → AscendFrom low (reverse xs)
ascend-reverse low [] all falls = tt
ascend-reverse low (x ∷ xs) all falls =
    subst (AscendFrom low) (sym (reverse-cons x xs))
    (ascend-append low (reverse xs) x (ascend-reverse low xs all.1 falls.1)
    (all_reverse (λ k. k < x) xs falls.0) all.0)

contains-reverse : (xs : List ℕ) (k : ℕ) → contains (reverse xs) k ≡ contains xs k
contains-reverse [] k = refl
contains-reverse (x ∷ xs) k =
    ap (λ ys. contains ys k) (reverse-cons x xs)
    ∙ same_tests (contains (reverse xs ++ x ∷ []) k) (contains (x ∷ xs) k)
    (λ e. elim (contains-append (reverse xs) x k e) [
      | inl front ↦ has_later x k xs (sym (contains-reverse xs k) ∙ front)
      | inr last ↦ subst (λ n. contains (x ∷ xs) n ≡ true) last (has_first x xs)
    ])
    (λ e. elim (or_cases (eqb x k) (contains xs k) e) [
      | inl here ↦ subst (λ n. contains (reverse xs ++ x ∷ []) n ≡ true) (eqb-true x k here)
          (append-last (reverse xs) x)
      | inr later ↦ append-front (reverse xs) x k (contains-reverse xs k ∙ later)
    ])

-- the helpers in ascending order
pub rise_helpers : (asked list : List ℕ) → list ≡ reverse (helpers asked) → AscendFrom 0 list
rise_helpers asked list is =
    subst (AscendFrom 0) (sym is)
    (ascend-reverse 0 (helpers asked)
    (all_from (helpers asked) (λ k e. let helper = helper_is asked k
    (sym (contains-helpers asked k) ∙ e) in omega (arith, helper.large)))
    (IsDescending-helpers asked))
  where
    all_from : (xs : List ℕ) → ((k : ℕ) → contains xs k ≡ true → 0 < k)
        → AllByRecursion (λ k. 0 < k) xs
    all_from [] h = tt
    all_from (x ∷ xs) h = (h x (has_first x xs), all_from xs (λ k e. h k (has_later x k xs e)))

pub same_helpers : (asked list : List ℕ) → list ≡ reverse (helpers asked) → (k : ℕ)
    → contains list k ≡ is_helper asked k
same_helpers asked list is k =
    ap (λ xs. contains xs k) is ∙ contains-reverse (helpers asked) k ∙ contains-helpers asked k
