-- Each string is read as what it was written for.
use Rattle.std.proofs.Common.{◌≡◌, ℕ, zero, suc, ◌<◌, ◌^◌, Bool, true, false, not, eqb, cond, List, [], ◌∷◌, length, Some, None, decimal, refl, sym, ap, ◌∙◌, arith}
use Rattle.std.specs.List.{list_all}
use Rattle.std.specs.Char.{is_ascii_uppercase}
use Rattle.std.specs.Result.{result_ok}
use Rattle.std.proofs.lemmas.Bool.{and_parts, and_from, cond-false, ne_eqb}
use Rattle.std.proofs.lemmas.Fmt.{decimal_digit}
use Rattle.std.proofs.lemmas.List.Elements.{All-from_recursion}
use Rattle.std.proofs.lemmas.List.Sums.{list_all-from_AllPass}
use Rattle.hex.specs.Hex.{encode_lower, lower_digits, decode_of}
use Rattle.hex.proofs.HexLemmas.{decode_of-encode_lower}
use Rattle.ssz_decimal.specs.Decimal.{is_digit, digits_below, number_below}
use Rattle.ssz_decimal.proofs.NumbersLemmas.{digits_below-some}
use Rattle.ssz_bytes.specs.Bytes.{IsBytes}
use Rattle.ssz_json_text.specs.Strings.{hex_text, bits_text}
use Rattle.ssz_value_json.specs.Strings.{hex_bytes, is_decimal, text_bits, is_bit_digit}
use Rattle.ssz_json_text.proofs.Digits.{IsDecimalOf, decimal_is, all_passed, hex_pass}

-- ---- decimal digits

number_is : (n bound : ℕ) (ds : List ℕ) → n < bound → (n ≡ 0 → length ds ≡ 1) → IsDecimalOf n ds
    → (is_decimal ds ≡ true) × (number_below bound ds ≡ Some n)
number_is n bound [] fits lone is = absurd (let some = is.some in omega arith)
number_is n bound (b ∷ []) fits lone is = (
  (and_parts (is_digit b) true is.digits).0,
  sym (digits_below-some n bound (b ∷ []) is.digits (sym is.value) fits),
)
number_is n bound (b ∷ c ∷ ds) fits lone is =
    let positive : 0 < n = some_number n (λ none. let one = lone none in omega arith) in
    let first : 48 < b = is.first positive in
    let other : eqb b 48 ≡ false = ne_eqb b 48 (λ e. omega arith) in (
      and_from (not (eqb b 48)) (list_all is_digit (b ∷ c ∷ ds)) (ap not other) is.digits,
      cond-false (eqb b 48) None (digits_below bound (b ∷ c ∷ ds)) other
          ∙ sym (digits_below-some n bound (b ∷ c ∷ ds) is.digits (sym is.value) fits),
    )
  where
    some_number : (n : ℕ) → (n ≡ 0 → ⊥) → 0 < n
    some_number zero other = absurd (other refl)
    some_number (suc n) other = omega arith

pub decimal_read : (n bound : ℕ) → n < bound → n < 2 ^ 128
    → (is_decimal (decimal n) ≡ true) × (number_below bound (decimal n) ≡ Some n)
decimal_read n bound fits small =
    number_is n bound (decimal n) fits
    (λ none. ap (λ k. length (decimal k)) none ∙ ap length (decimal_digit 0 (omega arith)))
    (decimal_is n small)

-- ---- hexadecimal digits

abbrev is_lower : ℕ → Bool
is_lower c = not (is_ascii_uppercase c)

abbrev IsLower : ℕ → Type 0
IsLower c = is_lower c ≡ true

pub hex_read : (bytes : List ℕ) → IsBytes bytes → hex_bytes (hex_text bytes) ≡ Some bytes
unfolding hex_bytes
hex_read bytes small =
    let digits = hex_pass IsLower (all_passed is_lower IsLower (λ c e. e) lower_digits refl) bytes
    small in
    let lower = list_all-from_AllPass is_lower (encode_lower bytes)
    (All-from_recursion IsLower (encode_lower bytes) digits) in
    ap (λ b. cond b (result_ok (decode_of (encode_lower bytes))) None) lower
    ∙ ap result_ok (decode_of-encode_lower bytes small)

-- ---- bits

pub bits_are_digits : (bs : List Bool) → list_all is_bit_digit (bits_text bs) ≡ true
bits_are_digits [] = refl
bits_are_digits (true ∷ bs) = bits_are_digits bs
bits_are_digits (false ∷ bs) = bits_are_digits bs

pub bits_read : (bs : List Bool) → text_bits (bits_text bs) ≡ bs
bits_read [] = refl
bits_read (true ∷ bs) = ap (λ xs. true ∷ xs) (bits_read bs)
bits_read (false ∷ bs) = ap (λ xs. false ∷ xs) (bits_read bs)
