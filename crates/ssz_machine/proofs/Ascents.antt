-- The numbers of a list in ascending order, each once.
use Rattle.std.proofs.Common.{ℕ, zero, suc, ◌<◌, ◌≤◌, ◌≡◌, ◌==◌, true, false, cond, List, [], ◌∷◌, refl, subst, arith}
use Rattle.std.specs.Prelude.{nat_lt, nat_eq, Contains}
use Rattle.std.specs.List.{AllByRecursion, IsDistinct}
use Rattle.std.proofs.lemmas.Bool.Decides.{nat_tests}
use Rattle.ssz_proof.specs.Multiproof.{AscendFrom}
use Rattle.ssz_machine.specs.Asking.{with_number, ascending}

-- what is so of each number is so of each in order

all-with_number : (P : ℕ → Type 0) (n : ℕ) (ns : List ℕ) → P n → AllByRecursion P ns
    → AllByRecursion P (with_number n ns)
all-with_number P n [] is all = (is, tt)
all-with_number P n (m ∷ ms) is all =
    elim (n == m) as (λ same. AllByRecursion P
    (cond same (m ∷ ms) (cond (nat_lt n m) (n ∷ m ∷ ms) (m ∷ with_number n ms)))) [
      | true ↦ all
      | false ↦ elim (nat_lt n m) as
          (λ less. AllByRecursion P (cond less (n ∷ m ∷ ms) (m ∷ with_number n ms))) [
            | true ↦ (is, all)
            | false ↦ (all.0, all-with_number P n ms is all.1)
          ]
    ]

pub all-ascending : (P : ℕ → Type 0) (ns : List ℕ) → AllByRecursion P ns
    → AllByRecursion P (ascending ns)
all-ascending P [] all = tt
all-ascending P (n ∷ ns) all =
    all-with_number P n (ascending ns) all.0 (all-ascending P ns all.1)

-- they ascend

after-both : (n m : ℕ) → (n == m) ≡ false → nat_lt n m ≡ false → m < n
after-both n m apart more = grind (arith, nat_tests)

before-one : (n m : ℕ) → nat_lt n m ≡ true → n < m
before-one n m less = grind (arith, nat_tests)

ascends-with : (low n : ℕ) (ns : List ℕ) → low < n → AscendFrom low ns
    → AscendFrom low (with_number n ns)
ascends-with low n [] above all = (above, tt)
ascends-with low n (m ∷ ms) above all =
    elim (n == m) as (λ same. (n == m) ≡ same → AscendFrom low
    (cond same (m ∷ ms) (cond (nat_lt n m) (n ∷ m ∷ ms) (m ∷ with_number n ms)))) [
      | true ↦ λ _. all
      | false ↦ λ apart. elim (nat_lt n m) as (λ less. nat_lt n m ≡ less → AscendFrom low
          (cond less (n ∷ m ∷ ms) (m ∷ with_number n ms))) [
            | true ↦ λ less. (above, (before-one n m less, all.1))
            | false ↦ λ more.
                (all.0, ascends-with m n ms (after-both n m apart more) all.1)
          ] refl
    ] refl

pub ascends : (ns : List ℕ) → AllByRecursion (λ n. 0 < n) ns → AscendFrom 0 (ascending ns)
ascends [] all = tt
ascends (n ∷ ns) all = ascends-with 0 n (ascending ns) all.0 (ascends ns all.1)

-- there is one where there was one
some-with_number : (n : ℕ) (ns : List ℕ) → (with_number n ns ≡ [] → ⊥)
some-with_number n [] none = cc
some-with_number n (m ∷ ms) none =
    (elim (n == m) as (λ same.
    (cond same (m ∷ ms) (cond (nat_lt n m) (n ∷ m ∷ ms) (m ∷ with_number n ms))) ≡ [] → ⊥) [
      | true ↦ λ empty. cc
      | false ↦ elim (nat_lt n m) as
          (λ less. (cond less (n ∷ m ∷ ms) (m ∷ with_number n ms)) ≡ [] → ⊥) [
            | true ↦ λ empty. cc
            | false ↦ λ empty. cc
          ]
    ]) none

pub some-ascending : (ns : List ℕ) → (ns ≡ [] → ⊥) → (ascending ns ≡ [] → ⊥)
some-ascending [] some = some
some-ascending (n ∷ ns) some = some-with_number n (ascending ns)

-- each is one of the list

all-within : (xs ys : List ℕ) → ((x : ℕ) → Contains xs x → Contains ys x)
    → AllByRecursion (Contains ys) xs
all-within [] ys into = tt
all-within (x ∷ xs) ys into = (
  into x (0, omega arith, refl),
  all-within xs ys (λ z has. into z (suc has.0, omega (arith, has.1), has.2)),
)

pub all-at : (P : ℕ → Type 0) (xs : List ℕ) (x : ℕ) → AllByRecursion P xs → Contains xs x → P x
all-at P [] x all (k, below, is) = absurd (omega arith)
all-at P (y ∷ xs) x all (zero, below, is) = subst P is all.0
all-at P (y ∷ xs) x all (suc k, below, is) = all-at P xs x all.1 (k, omega arith, is)

pub ascending-has : (ns : List ℕ) (n : ℕ) → Contains (ascending ns) n → Contains ns n
ascending-has ns n has =
    all-at (Contains ns) (ascending ns) n
    (all-ascending (Contains ns) ns (all-within ns ns (λ x is. is))) has

-- numbers that ascend are distinct

all-above : (low lower : ℕ) (ns : List ℕ) → lower ≤ low → AscendFrom low ns
    → AllByRecursion (λ n. nat_eq lower n ≡ false) ns
all-above low lower [] less all = tt
all-above low lower (n ∷ ns) less all =
    (unlike lower n (omega (arith, all.0)), all-above n lower ns (omega (arith, all.0)) all.1)
  where
    unlike : (a b : ℕ) → a < b → nat_eq a b ≡ false
    unlike a b below = grind (arith, nat_tests)

pub ascends-distinct : (low : ℕ) (ns : List ℕ) → AscendFrom low ns → IsDistinct nat_eq ns
unfolding IsDistinct
ascends-distinct low [] all = tt
ascends-distinct low (n ∷ ns) all =
    (all-above n n ns (omega arith) all.1, ascends-distinct n ns all.1)
