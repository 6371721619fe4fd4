-- Bits of bytes.
use Rattle.std.proofs.Common.{ℕ, zero, suc, ◌+◌, ◌-◌, ◌*◌, ◌/◌, ◌%◌, ◌^◌, ◌<◌, ◌≡◌, List, [], ◌∷◌, get_or, inl, inr, sym, ap, ap₂, ◌∙◌, arith, pow-add}
use Rattle.std.proofs.lemmas.Bool.{cases_lt}
use Rattle.std.proofs.Math.Nat.{div-div-eq-div-mul}
use Rattle.ssz_bytes.specs.Bytes.{IsBytes, le_number}

-- a bit of the first byte
first_byte : (x m i : ℕ) → i < 8 → (x + 256 * m) / 2 ^ i % 2 ≡ x / 2 ^ i % 2
first_byte x m zero h = omega arith
first_byte x m (suc zero) h = omega arith
first_byte x m (suc (suc zero)) h = omega arith
first_byte x m (suc (suc (suc zero))) h = omega arith
first_byte x m (suc (suc (suc (suc zero)))) h = omega arith
first_byte x m (suc (suc (suc (suc (suc zero))))) h = omega arith
first_byte x m (suc (suc (suc (suc (suc (suc zero)))))) h = omega arith
first_byte x m (suc (suc (suc (suc (suc (suc (suc zero))))))) h = omega arith
first_byte x m (suc (suc (suc (suc (suc (suc (suc (suc i)))))))) h = absurd (omega arith)

-- a bit of a later byte
later_byte : (x m i : ℕ) → x < 256 → (x + 256 * m) / 2 ^ (8 + i) ≡ m / 2 ^ i
later_byte x m i h =
    let rest : (x + 256 * m) / 256 ≡ m = omega arith in
    ap (λ d. (x + 256 * m) / d) (pow-add 2 8 i) ∙ sym (div-div-eq-div-mul (x + 256 * m) 256 (2 ^ i))
    ∙ ap (λ n. n / 2 ^ i) rest

pub bit_of_bytes : (b : List ℕ) (i : ℕ) → IsBytes b
    → get_or b (i / 8) 0 / 2 ^ (i % 8) % 2 ≡ le_number b / 2 ^ i % 2
bit_of_bytes [] i fit = omega arith
bit_of_bytes (x ∷ b) i fit = elim (cases_lt i 8) [
  | inl low ↦ (let place : i / 8 ≡ 0 = omega arith in let bit : i % 8 ≡ i = omega arith in
      ap₂ (λ p j. get_or (x ∷ b) p 0 / 2 ^ j % 2) place bit
      ∙ sym (first_byte x (le_number b) i low))
  | inr high ↦ (let place : i / 8 ≡ suc ((i - 8) / 8) =
      omega arith in let bit : i % 8 ≡ (i - 8) % 8 = omega arith in
      let all : 8 + (i - 8) ≡ i = omega arith in
      ap₂ (λ p j. get_or (x ∷ b) p 0 / 2 ^ j % 2) place bit
      ∙ bit_of_bytes b (i - 8) (λ j. fit (suc j))
      ∙ sym (ap (λ n. n % 2) (ap (λ n. (x + 256 * le_number b) / 2 ^ n) (sym all)
      ∙ later_byte x (le_number b) (i - 8) (fit zero))))
]
