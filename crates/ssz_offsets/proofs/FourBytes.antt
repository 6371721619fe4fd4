-- A number of four bytes, as byteorder and as the standard's definitions say it.
use Rattle.std.proofs.Common.{ℕ, ◌≡◌, ◌/◌, ◌%◌, ◌^◌, List, [], ◌∷◌, ◌++◌, length, drop, ap₂, ◌∙◌, arith}
use Rattle.std.proofs.lemmas.List.{drop_all, append-nil}
use Rattle.byteorder.specs.Endian.{little_number, little_bytes}
use Rattle.ssz_bytes.specs.Bytes.{le_bytes, le_number}

-- read
pub four_read : (bytes : List ℕ) → length bytes ≡ 4 → little_number 4 bytes ≡ le_number bytes
four_read [] e = absurd (omega (arith, e))
four_read (a ∷ []) e = absurd (omega (arith, e))
four_read (a ∷ b ∷ []) e = absurd (omega (arith, e))
four_read (a ∷ b ∷ c ∷ []) e = absurd (omega (arith, e))
four_read (a ∷ b ∷ c ∷ d ∷ []) e = omega arith
four_read (a ∷ b ∷ c ∷ d ∷ x ∷ more) e = absurd (omega (arith, e))

-- written
four_bytes : (n : ℕ) → little_bytes 4 n ≡ le_bytes 4 n
four_bytes n =
    let second : n / 256 ^ 1 % 256 ≡ n / 256 % 256 = omega arith in
    let third : n / 256 ^ 2 % 256 ≡ n / 256 / 256 % 256 = omega arith in
    let fourth : n / 256 ^ 3 % 256 ≡ n / 256 / 256 / 256 % 256 = omega arith in
    ap₂ (λ b rest. n % 256 ∷ b ∷ rest) second
    (ap₂ (λ c d. c ∷ d ∷ []) third fourth)

-- over all of four bytes
pub four_written : (n : ℕ) (old new : List ℕ) → length old ≡ 4
    → new ≡ little_bytes 4 n ++ drop 4 old → new ≡ le_bytes 4 n
four_written n old new e is =
    is ∙ ap₂ (λ front back. front ++ back) (four_bytes n) (drop_all 4 old (omega (arith, e)))
    ∙ append-nil (le_bytes 4 n)
