-- What stands in strings is ASCII, and so it is text.
use Rattle.std.proofs.Common.{◌≡◌, ℕ, zero, suc, ◌^◌, ◌<◌, ◌≤◌, ◌&&◌, Bool, true, false, nat_lt, leb, List, [], ◌∷◌, length, decimal, refl, arith, lit<, lit≤}
use Rattle.std.specs.List.{AllByRecursion, list_all}
use Rattle.std.specs.Str.{IsUtf8, IsAscii}
use Rattle.std.proofs.lemmas.Bool.{and_parts, ltb-true}
use Rattle.std.proofs.lemmas.Bool.Decides.{nat_tests}
use Rattle.std.proofs.lemmas.Fmt.{IsAscii-decimal_wide}
use Rattle.std.proofs.lemmas.Str.{IsUtf8-from_ascii}
use Rattle.hex.specs.Hex.{lower_digits}
use Rattle.ssz_bytes.specs.Bytes.{IsBytes}
use Rattle.ssz_schema.specs.Names.{is_letter, is_name_byte, IsName}
use Rattle.ssz_json_text.specs.Strings.{hex_text, bits_text}
use Rattle.ssz_json_text.proofs.Digits.{all_passed, hex_pass}

abbrev IsAsciiByte : ℕ → Type 0
IsAsciiByte b = b < 128

ascii_bytes : (s : List ℕ) → AllByRecursion IsAsciiByte s → IsAscii s
ascii_bytes [] all i = lit< tt
ascii_bytes (b ∷ s) all zero = all.0
ascii_bytes (b ∷ s) all (suc i) = ascii_bytes s all.1 i

text_of : (s : List ℕ) → AllByRecursion IsAsciiByte s → IsUtf8 s
text_of s all = IsUtf8-from_ascii s (ascii_bytes s all)

pub decimal_utf8 : (n : ℕ) → n < 2 ^ 128 → IsUtf8 (decimal n)
decimal_utf8 n small =
    let fits : 2 ^ 128 ≤ 10 ^ 64 = lit≤ tt in
    IsUtf8-from_ascii (decimal n) (IsAscii-decimal_wide n (omega arith))

pub hex_utf8 : (bytes : List ℕ) → IsBytes bytes → IsUtf8 (hex_text bytes)
hex_utf8 bytes small =
    let digits = all_passed (λ b. nat_lt b 128) IsAsciiByte (λ b e. ltb-true b 128 e) lower_digits
    refl in
    text_of (hex_text bytes) (lit< tt, (lit< tt, hex_pass IsAsciiByte digits bytes small))

ascii_bits : (bs : List Bool) → AllByRecursion IsAsciiByte (bits_text bs)
ascii_bits [] = tt
ascii_bits (true ∷ bs) = (lit< tt, ascii_bits bs)
ascii_bits (false ∷ bs) = (lit< tt, ascii_bits bs)

pub bits_utf8 : (bs : List Bool) → IsUtf8 (bits_text bs)
bits_utf8 bs = text_of (bits_text bs) (ascii_bits bs)

ascii_letter : (b : ℕ) → is_letter b ≡ true → IsAsciiByte b
ascii_letter b e = grind (arith, nat_tests)

ascii_name_byte : (b : ℕ) → is_name_byte b ≡ true → IsAsciiByte b
ascii_name_byte b e = grind (arith, nat_tests)

ascii_name : (s : List ℕ) → IsName s → AllByRecursion IsAsciiByte s
ascii_name [] e = tt
ascii_name (b ∷ s) e =
    let all = and_parts (leb (length s) 63 && is_letter b) (list_all is_name_byte s) e in
    let first = and_parts (leb (length s) 63) (is_letter b) all.0 in
    (ascii_letter b first.1, all_passed is_name_byte IsAsciiByte ascii_name_byte s all.1)

pub name_utf8 : (s : List ℕ) → IsName s → IsUtf8 s
name_utf8 s e = text_of s (ascii_name s e)
