-- The exponent of the next power of two, a halving at a time.
use Rattle.std.proofs.Common.{ℕ, zero, suc, ◌+◌, ◌*◌, ◌/◌, ◌%◌, ◌^◌, ◌<◌, ◌≤◌, ◌≡◌, refl, ap, ◌∙◌, inl, inr, arith, pow-suc, pow-add}
use Rattle.std.proofs.lemmas.Bool.{cond-true, cond-false, le-leb, lt-leb, cases_lt}
use Rattle.ssz_types.specs.Sizes.{exponent, depth_of}

pub exponent-small : (fuel count : ℕ) → count ≤ 1 → exponent fuel count ≡ 0
unfolding exponent
exponent-small zero count h = refl
exponent-small (suc fuel) count h = cond-true _ _ _ (le-leb count 1 h)

pub exponent-large : (fuel count : ℕ) → 1 < count
    → exponent (suc fuel) count ≡ exponent fuel ((count + 1) / 2) + 1
unfolding exponent
exponent-large fuel count h = cond-false _ _ _ (lt-leb count 1 h)

-- fuel that is not below the count suffices
pub exponent-enough : (fuel more count : ℕ) → count ≤ suc fuel → count ≤ suc more
    → exponent fuel count ≡ exponent more count
exponent-enough zero more count a b = exponent-small zero count (omega arith)
    ∙ sym_small more count (omega arith)
  where
    sym_small : (more count : ℕ) → count ≤ 1 → 0 ≡ exponent more count
    sym_small more count h = omega (arith, exponent-small more count h)
exponent-enough (suc fuel) zero count a b =
    omega (
      arith,
      exponent-small (suc fuel) count (omega arith),
      exponent-small zero count (omega arith),
    )
exponent-enough (suc fuel) (suc more) count a b = elim (cases_lt 1 count) [
  | inl large ↦ omega (
    arith,
    exponent-large fuel count large,
    exponent-large more count large,
    exponent-enough fuel more ((count + 1) / 2) (omega arith) (omega arith),
  )
  | inr small ↦ omega (
    arith,
    exponent-small (suc fuel) count small,
    exponent-small (suc more) count small,
  )
]

-- the depth of a count that is halved
pub depth_of-small : (count : ℕ) → count ≤ 1 → depth_of count ≡ 0
unfolding depth_of
depth_of-small count h = exponent-small count count h

pub depth_of-large : (count : ℕ) → 1 < count → depth_of count ≡ depth_of ((count + 1) / 2) + 1
unfolding depth_of
depth_of-large zero h = absurd (omega arith)
depth_of-large (suc n) h =
    let half = (suc n + 1) / 2 in
    omega (
      arith,
      exponent-large n (suc n) h,
      exponent-enough n half half (omega arith)
          (omega arith),
    )

-- Below, count is at most suc fuel, which the induction is over.

small_power : (count : ℕ) → count ≤ 1 → 2 ^ depth_of count ≡ 1
small_power count small = ap (λ d. 2 ^ d) (depth_of-small count small)

large_power : (count : ℕ) → 1 < count → 2 ^ depth_of count ≡ 2 ^ depth_of ((count + 1) / 2) * 2
large_power count large = ap (λ d. 2 ^ d) (depth_of-large count large)
    ∙ pow-add 2 (depth_of ((count + 1) / 2)) 1

holds : (fuel count : ℕ) → count ≤ suc fuel → count ≤ 2 ^ depth_of count
holds zero count enough = omega (arith, small_power count enough)
holds (suc fuel) count enough =
    let rest = holds fuel ((count + 1) / 2) in
    elim (cases_lt 1 count) [
      | inl large ↦ omega (arith, large_power count large, rest (omega arith))
      | inr small ↦ omega (arith, small_power count small)
    ]

-- two to the depth of a count is not below the count
pub depth_of-holds : (count : ℕ) → count ≤ 2 ^ depth_of count
depth_of-holds count = holds count count (omega arith)

least_within : (fuel count d : ℕ) → count ≤ suc fuel → count ≤ 2 ^ d → depth_of count ≤ d
least_within zero count d enough fits = omega (arith, depth_of-small count enough)
least_within (suc fuel) count zero enough fits = omega (arith, depth_of-small count (omega arith))
least_within (suc fuel) count (suc d) enough fits =
    let rest = least_within fuel ((count + 1) / 2) d in
    let twice = pow-suc 2 d in
    elim (cases_lt 1 count) [
      | inl large ↦ omega (arith, depth_of-large count large, rest (omega arith) (omega arith))
      | inr small ↦ omega (arith, depth_of-small count small)
    ]

-- and no lower power is
pub depth_of-least : (count d : ℕ) → count ≤ 2 ^ d → depth_of count ≤ d
depth_of-least count d fits = least_within count count d (omega arith) fits

-- what a loop that halves keeps
pub halved : (depth rest total : ℕ) → 1 < rest → depth + depth_of rest ≡ total
    → depth + 1 + depth_of (rest / 2 + rest % 2) ≡ total
halved depth rest total large e =
    let half : (rest + 1) / 2 ≡ rest / 2 + rest % 2 = omega arith in
    omega (arith, depth_of-large rest large, ap depth_of half, e)
