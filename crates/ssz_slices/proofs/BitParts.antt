-- Steps to bits.
use Rattle.std.proofs.Common.{ℕ, zero, suc, ◌*◌, ◌/◌, ◌%◌, ◌^◌, ◌<◌, ◌≡◌, Bool, true, false, cond, eqb, ltb, ltb-true, ltb-false, List, slice_get, Option, Some, None, option_map, refl, ap, ◌∙◌, arith}
use Rattle.std.proofs.Math.Nat.{div-div-eq-div-mul}
use Rattle.std.proofs.lemmas.Option.{slice_get_past}
use Rattle.ssz_bytes.specs.Bytes.{bits_of_number, le_number}
use Rattle.ssz_bytes.proofs.Bits.{length-bits_of_number}
use Rattle.ssz_value.specs.Values.{truth}
use Rattle.ssz_slices.specs.declared.held.Held.{Held}
use Rattle.ssz_slices.specs.declared.held.Held.TheVariants.{Bit}

bit_of_number : (count n i : ℕ) → i < count
    → slice_get (bits_of_number count n) i ≡ Some (eqb (n / 2 ^ i % 2) 1)
bit_of_number zero n i below = absurd (omega arith)
bit_of_number (suc count) n zero below =
    let one : n ≡ n / 2 ^ 0 = omega arith in ap (λ m. Some (eqb (m % 2) 1)) one
bit_of_number (suc count) n (suc i) below =
    let power : 2 * 2 ^ i ≡ 2 ^ suc i = omega arith in
    bit_of_number count (n / 2) i (omega arith)
    ∙ ap (λ m. Some (eqb (m % 2) 1)) (div-div-eq-div-mul n 2 (2 ^ i) ∙ ap (λ p. n / p) power)

-- bit i of count bits of the number of these bytes
abbrev pub IsBit : ℕ → List ℕ → ℕ → Option Held → Type 0
IsBit count b i None =
    option_map truth (slice_get (bits_of_number count (le_number b)) i) ≡ None
IsBit count b i (Some (Bit bit)) =
    option_map truth (slice_get (bits_of_number count (le_number b)) i) ≡ Some (truth bit)
IsBit count b i (Some held) = ⊥

pub bit_leads : (count i : ℕ) (b : List ℕ)
    → IsBit count b i (cond (ltb i count) (Some (Bit (eqb (le_number b / 2 ^ i % 2) 1))) None)
bit_leads count i b = go (ltb i count) refl
  where
    go : (below : Bool) → ltb i count ≡ below
        → IsBit count b i (cond below (Some (Bit (eqb (le_number b / 2 ^ i % 2) 1))) None)
    go true e = ap (option_map truth) (bit_of_number count (le_number b) i (ltb-true i count e))
    go false e =
        ap (option_map truth) (slice_get_past (bits_of_number count (le_number b)) i
        (omega (arith, ltb-false i count e, length-bits_of_number count (le_number b))))
