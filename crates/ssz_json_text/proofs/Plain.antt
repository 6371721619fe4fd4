-- Strings that stand in a text as they are, and how long their texts are.
use Rattle.std.proofs.Common.{◌≡◌, ℕ, ◌+◌, ◌*◌, ◌^◌, ◌<◌, Bool, true, false, eqb, leb, ◌&&◌, ◌||◌, List, [], ◌∷◌, ◌++◌, length, refl, ap, ap₂, ◌∙◌, arith, length-append}
use Rattle.std.specs.Prelude.{decimal}
use Rattle.std.specs.List.{AllByRecursion, list_all}
use Rattle.std.proofs.lemmas.Bool.{and_parts, or_parts, not-true, eqb-false, ltb-false}
use Rattle.std.proofs.lemmas.Bool.Decides.{nat_tests}
use Rattle.json.specs.Print.{escape_byte, escape, quoted}
use Rattle.json.specs.Run.{is_plain}
use Rattle.json.proofs.Printed.Strings.{escape_byte_plain}
use Rattle.hex.specs.Hex.{lower_digits}
use Rattle.hex.proofs.HexLemmas.{length-encode_with}
use Rattle.ssz_decimal.specs.Decimal.{is_digit}
use Rattle.ssz_bytes.specs.Bytes.{IsBytes}
use Rattle.ssz_schema.specs.Names.{is_letter, is_name_byte, IsName}
use Rattle.ssz_json_text.specs.Strings.{hex_text, bits_text}
use Rattle.ssz_json_text.proofs.Digits.{all_passed, decimal_is, hex_pass}

-- a byte that has no escape
abbrev pub IsPlain : ℕ → Type 0
IsPlain x = is_plain x ≡ true

escape_one : (x : ℕ) → IsPlain x → escape_byte x ≡ x ∷ []
escape_one x e =
    let none = or_parts ((eqb x 34) || (eqb x 92)) _ (not-true _ e) in
    let tests = or_parts (eqb x 34) _ none.0 in
    escape_byte_plain x (eqb-false x 34 tests.0) (eqb-false x 92 tests.1) (ltb-false x 32 none.1)

escape_plain : (s : List ℕ) → AllByRecursion IsPlain s → escape s ≡ s
escape_plain [] all = refl
escape_plain (x ∷ s) all =
    ap₂ (λ (a b : List ℕ). a ++ b) (escape_one x all.0) (escape_plain s all.1)

-- plain bytes stand between quotes
pub quoted_plain : (s : List ℕ) → AllByRecursion IsPlain s → quoted s ≡ 34 ∷ (s ++ 34 ∷ [])
quoted_plain s all = ap (λ e. 34 ∷ (e ++ 34 ∷ [])) (escape_plain s all)

digit_plain : (x : ℕ) → is_digit x ≡ true → IsPlain x
digit_plain x e = grind (arith, nat_tests)

pub decimal_plain : (n : ℕ) → n < 2 ^ 128 → AllByRecursion IsPlain (decimal n)
decimal_plain n small =
    all_passed is_digit IsPlain digit_plain (decimal n) (decimal_is n small).digits

pub hex_plain : (bytes : List ℕ) → IsBytes bytes → AllByRecursion IsPlain (hex_text bytes)
hex_plain bytes small = (
  refl,
  (
    refl,
    hex_pass IsPlain (all_passed is_plain IsPlain (λ x e. e) lower_digits refl)
        bytes small,
  ),
)

pub bits_plain : (bs : List Bool) → AllByRecursion IsPlain (bits_text bs)
bits_plain [] = tt
bits_plain (true ∷ bs) = (refl, bits_plain bs)
bits_plain (false ∷ bs) = (refl, bits_plain bs)

letter_plain : (x : ℕ) → is_letter x ≡ true → IsPlain x
letter_plain x e = grind (arith, nat_tests)

name_byte_plain : (x : ℕ) → is_name_byte x ≡ true → IsPlain x
name_byte_plain x e = grind (arith, nat_tests)

pub name_plain : (s : List ℕ) → IsName s → AllByRecursion IsPlain s
name_plain [] e = tt
name_plain (x ∷ s) e =
    let all = and_parts (leb (length s) 63 && is_letter x) (list_all is_name_byte s) e in
    let first = and_parts (leb (length s) 63) (is_letter x) all.0 in
    (letter_plain x first.1, all_passed is_name_byte IsPlain name_byte_plain s all.1)

-- lengths

pub length-quoted_plain : (s : List ℕ) → AllByRecursion IsPlain s
    → length (quoted s) ≡ length s + 2
length-quoted_plain s all =
    ap length (quoted_plain s all) ∙ omega (arith, length-append s (34 ∷ []))

pub length-hex_text : (bytes : List ℕ) → length (hex_text bytes) ≡ 2 * length bytes + 2
length-hex_text bytes = omega (arith, length-encode_with lower_digits bytes)
