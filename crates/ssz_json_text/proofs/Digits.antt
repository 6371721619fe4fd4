-- Decimal and hexadecimal digits of numbers and bytes.
use Rattle.std.proofs.Common.{◌≡◌, ℕ, suc, ◌+◌, ◌/◌, ◌%◌, ◌^◌, ◌<◌, ◌≤◌, Bool, true, List, [], ◌∷◌, ◌++◌, length, get_or, sym, ap, ◌∙◌, append_assoc, arith, rules, lit≤}
use Rattle.std.specs.Prelude.{decimal, slice_index}
use Rattle.std.specs.List.{AllByRecursion, list_all}
use Rattle.std.proofs.lemmas.Fmt.{decimal_is_IsNumeral_wide, decimal_by_steps_wide}
use Rattle.std.proofs.lemmas.List.{get_or_append_left, length-append}
use Rattle.std.proofs.lemmas.List.Elements.{All-from_recursion, recursion_from_All, All-weaker}
use Rattle.std.proofs.lemmas.List.Sums.{AllPass-from_list_all}
use Rattle.std.proofs.lemmas.Str.Parse.{IsNumeralModel, numerals_by_fold}
use Rattle.hex.specs.Hex.{encode_lower, encode_with, lower_digits}
use Rattle.ssz_decimal.specs.Decimal.{is_digit, number_after}
use Rattle.ssz_digits.proofs.Spreading.{encode_append}
use Rattle.ssz_bytes.specs.Bytes.{IsBytes}

-- what each byte that passes a test is, all are
pub all_passed : (test : ℕ → Bool) (P : ℕ → Type 0) → ((b : ℕ) → test b ≡ true → P b)
    → (s : List ℕ) → list_all test s ≡ true → AllByRecursion P s
all_passed test P f s all =
    recursion_from_All P s
    (All-weaker (λ b. test b ≡ true) P f s (AllPass-from_list_all test s all))

-- digits and the number that they make, as std knows them
decimals : IsNumeralModel (λ ds. list_all is_digit ds ≡ true) (number_after 0)
decimals = numerals_by_fold _ (search rules) number_after (search rules)

-- some digits that make the number, the first of them no 0 unless it is alone
pub record IsDecimalOf (n : ℕ) (ds : List ℕ) : Type 0 where
  pub digits : list_all is_digit ds ≡ true
  pub value : number_after 0 ds ≡ n
  pub some : 0 < length ds
  pub first : 0 < n → 48 < get_or ds 0 0

first_digit : (n : ℕ) → n < 2 ^ 128
    → (0 < length (decimal n)) × (0 < n → 48 < get_or (decimal n) 0 0)
first_digit n small =
    let fits : 2 ^ 128 ≤ 10 ^ 64 = lit≤ tt in
    decimal_by_steps_wide (λ m ds. (0 < length ds) × (0 < m → 48 < get_or ds 0 0))
    (λ m few. (omega arith, λ positive. omega arith))
    (λ m ds many h. (
      omega (arith, length-append ds ((48 + m % 10) ∷ [])),
      λ positive. omega (
        arith,
        get_or_append_left ds ((48 + m % 10) ∷ []) 0 0 h.0,
        h.1 (omega arith),
      ),
    )) n (omega arith)

-- what is printed for a number
pub decimal_is : (n : ℕ) → n < 2 ^ 128 → IsDecimalOf n (decimal n)
decimal_is n small =
    let fits : 2 ^ 128 ≤ 10 ^ 64 = lit≤ tt in
    let numeral = decimal_is_IsNumeral_wide n (omega arith) in
    let first = first_digit n small in
    record {
      digits = decimals.from (decimal n) numeral.0.1;
      value = decimals.same (decimal n) numeral.0.1 ∙ numeral.1;
      some = first.0;
      first = first.1;
    }

-- what holds of the sixteen digits holds of each digit of some bytes
hex_digit : (P : ℕ → Type 0) → AllByRecursion P lower_digits → (d : ℕ) → d < 16
    → P (slice_index lower_digits d)
hex_digit P all d small = All-from_recursion P lower_digits all d 0 small

pub hex_pass : (P : ℕ → Type 0) → AllByRecursion P lower_digits → (bytes : List ℕ)
    → IsBytes bytes → AllByRecursion P (encode_lower bytes)
unfolding encode_with
hex_pass P all [] small = tt
hex_pass P all (b ∷ bytes) small =
    let byte : b < 256 = small 0 in (
      hex_digit P all (b / 16) (omega arith),
      (hex_digit P all (b % 16) (omega arith), hex_pass P all bytes (λ i. small (suc i))),
    )

-- the digits of the first bytes are moved from what is left to what is there
pub digits_moved : (out new digits block behind rest whole : List ℕ)
    → new ≡ out ++ digits → digits ≡ encode_lower block → rest ≡ block ++ behind
    → out ++ encode_lower rest ≡ whole → new ++ encode_lower behind ≡ whole
digits_moved out new digits block behind rest whole text is split h =
    ap (λ s. s ++ encode_lower behind) (text ∙ ap (λ s. out ++ s) is)
    ∙ append_assoc out (encode_lower block) (encode_lower behind)
    ∙ ap (λ s. out ++ s) (encode_append block behind ∙ ap encode_lower (sym split)) ∙ h
