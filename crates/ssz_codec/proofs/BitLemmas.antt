-- Bits of a number, one more.
use Rattle.std.proofs.Common.{ℕ, zero, suc, ◌+◌, ◌/◌, ◌%◌, ◌^◌, ◌≡◌, ◌==◌, [], ◌∷◌, ◌++◌, sym, ap, ◌∙◌, arith}
use Rattle.std.proofs.Math.Nat.{div-div-eq-div-mul, pow-succ'}
use Rattle.ssz_bytes.specs.Bytes.{bits_of_number}

pub bits_of_number-more : (i x : ℕ)
    → bits_of_number (i + 1) x ≡ bits_of_number i x ++ (x / 2 ^ i % 2 == 1) ∷ []
bits_of_number-more zero x = ap (λ n. (n % 2 == 1) ∷ []) (omega arith)
bits_of_number-more (suc i) x =
    let one : suc i + 1 ≡ suc (i + 1) = omega arith in
    ap (λ n. bits_of_number n x) one
    ∙ ap (λ bits. (x % 2 == 1) ∷ bits) (bits_of_number-more i (x / 2))
    ∙ ap (λ n. (x % 2 == 1) ∷ (bits_of_number i (x / 2) ++ (n % 2 == 1) ∷ []))
    (div-div-eq-div-mul x 2 (2 ^ i) ∙ ap (λ d. x / d) (sym (pow-succ' 2 i)))
