-- The digits of numbers below 16.
use Rattle.std.proofs.Common.{◌≡◌, ℕ, zero, suc, ◌+◌, ◌-◌, ◌<◌, ◌≤◌, ◌==◌, Bool, true, ◌&&◌, inl, inr, slice_index, refl, ap, ◌∙◌, arith}
use Rattle.std.proofs.lemmas.Bool.{and_parts, cases_lt, eqb-true}
use Rattle.hex.specs.Hex.{lower_digits}

-- a test of the first numbers
abbrev all_below : (ℕ → Bool) → ℕ → Bool
all_below test zero = true
all_below test (suc n) = test n && all_below test n

-- one of them passed
below_at : (test : ℕ → Bool) (n k : ℕ) → all_below test n ≡ true → k < n → test k ≡ true
below_at test zero k passed below = absurd (omega arith)
below_at test (suc n) k passed below =
    let parts = and_parts (test n) (all_below test n) passed in
    elim (cases_lt k n) [
      | inl less ↦ below_at test n k parts.1 less
      | inr last ↦
          let same : k ≡ n = omega arith in
          rw same parts.0
    ]

-- the digits below 10
pub low_digit : (n : ℕ) → n < 10 → 48 + n ≡ slice_index lower_digits n
low_digit n small =
    eqb-true (48 + n) (slice_index lower_digits n)
    (below_at (λ k. 48 + k == slice_index lower_digits k) 10 n refl small)

-- the letters
pub high_digit : (n : ℕ) → n < 16 → 10 ≤ n → 87 + n ≡ slice_index lower_digits n
high_digit n small letter =
    let same : 10 + (n - 10) ≡ n = omega arith in
    let code : 87 + n ≡ 97 + (n - 10) = omega arith in
    code
    ∙ eqb-true (97 + (n - 10)) (slice_index lower_digits (10 + (n - 10)))
    (below_at (λ k. 97 + k == slice_index lower_digits (10 + k)) 6 (n - 10) refl (omega arith))
    ∙ ap (slice_index lower_digits) same
