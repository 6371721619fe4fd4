-- Texts of decimal digits: orders, and the numbers that `clap` takes.
use Rattle.std.proofs.Common.{◌≡◌, ◌<◌, ◌≤◌, ◌-◌, ◌^◌, ◌==◌, ℕ, suc, true, false, [], ◌∷◌}
use Rattle.std.proofs.Common.{map, Some, refl, arith}
use Rattle.std.specs.Prelude.{pos}
use Rattle.std.specs.Char.{digit_value}
use Rattle.std.specs.List.{AllPass}
use Rattle.std.specs.Str.Parse.{AllDigits, digits_value, without_leading_plus}
use Rattle.std.specs.Str.Parse.{starts_with_minus}
use Rattle.std.proofs.lemmas.Int.{ints}
use Rattle.std.proofs.lemmas.List.Sums.{list_all-from_AllPass}
use Rattle.clap.specs.Lexer.{without_minus}
use Rattle.clap.specs.ValueTests.{accepts}
use Rattle.clap.specs.Walk.{Text}
use Rattle.clap.specs.declared.builder.value_parser.ValueParser.TheVariants.{Signed, Unsigned}
use Rattle.clap.proofs.ValueTestLemmas.{Accepts-accepts}
use Rattle.ssz_words.specs.Laws.{IsDigits, IsOrder, is_plain_text}
use Rattle.ssz_words.specs.Values.{is_digit_below, text_number_below, order_value}

-- a digit is neither a hyphen (45) nor a plus (43)
no_hyphen_below : (n byte : ℕ) → is_digit_below n byte ≡ true → (byte == 45) ≡ false
no_hyphen_below n byte is = grind arith

no_plus_below : (n byte : ℕ) → is_digit_below n byte ≡ true → (byte == 43) ≡ false
no_plus_below n byte is = grind arith

below_none : (byte : ℕ) → is_digit_below 0 byte ≡ true → ⊥
below_none byte is = grind arith

digit_of : (byte : ℕ) → is_digit_below 10 byte ≡ true → digit_value byte < 10
digit_of byte is = grind arith

-- an order does not begin with a hyphen, and is read as it stands
pub order_plain : (n : ℕ) (text : Text) → IsOrder n text → is_plain_text text ≡ true
order_plain n [] is = refl
order_plain n (byte ∷ text) is = rw (no_hyphen_below n byte (is.1 0 byte (omega arith))) refl

pub order_read : (n : ℕ) (text : Text) → IsOrder n text
    → order_value n text ≡ Some (map (λ digit. digit - 48) text)
order_read n [] is = absurd (omega (arith, is.0))
order_read n (byte ∷ text) is =
    rw (list_all-from_AllPass (is_digit_below n) (byte ∷ text) is.1) refl

-- none is an order of no scripts
pub order_of_none : (text : Text) → IsOrder 0 text → ⊥
order_of_none [] is = omega (arith, is.0)
order_of_none (byte ∷ text) is = below_none byte (is.1 0 byte (omega arith))

-- a text of digits has no sign
no_sign : (text : Text) → IsDigits text
    → (without_minus text ≡ text) × (without_leading_plus text ≡ text)
    × (starts_with_minus text ≡ false)
no_sign [] is = absurd (omega (arith, is.0))
no_sign (byte ∷ text) is =
    let hyphen = no_hyphen_below 10 byte (is.1 0 byte (omega arith)) in
    let plus = no_plus_below 10 byte (is.1 0 byte (omega arith)) in
    (rw hyphen refl, rw plus refl, rw hyphen refl)

all_digits : (text : Text) → AllPass (is_digit_below 10) text → AllDigits 10 text
all_digits [] all = tt
all_digits (byte ∷ text) all = (
  digit_of byte (all 0 byte (omega arith)),
  all_digits text (λ k d l. all (suc k) d (omega arith)),
)

-- the numbers that the arguments of a `work` take
pub takes_seed : (text : Text) → IsDigits text → digits_value 10 text < 2 ^ 64
    → accepts false (Unsigned 0 (2 ^ 64 - 1)) text ≡ true
takes_seed text is below =
    let sign = no_sign text is in
    Accepts-accepts false (Unsigned 0 (2 ^ 64 - 1)) text
    (rw sign.1 ((is.0, all_digits text is.1), below, omega arith, omega (arith, below)))

pub takes_edits : (text : Text) → IsDigits text → digits_value 10 text ≤ 1000000
    → accepts false (Signed (pos 0) (pos 1000000)) text ≡ true
takes_edits text is most =
    let sign = no_sign text is in
    Accepts-accepts false (Signed (pos 0) (pos 1000000)) text
    (rw (sign.2, sign.1) (
      (is.0, all_digits text is.1),
      omega (arith, most),
      omega (arith, ints),
      omega (arith, ints, most),
    ))

-- and their numbers are those that the digits write
pub seed_read : (text : Text) → IsDigits text → digits_value 10 text < 2 ^ 64
    → text_number_below 64 text ≡ Some (digits_value 10 text)
seed_read text is below =
    let sign = no_sign text is in
    rw (takes_seed text is below, sign.1) refl

pub edits_read : (text : Text) → IsDigits text → digits_value 10 text ≤ 1000000
    → text_number_below 32 (without_minus text) ≡ Some (digits_value 10 text)
edits_read text is most =
    let sign = no_sign text is in
    let takes : accepts false (Unsigned 0 (2 ^ 32 - 1)) text ≡ true =
    Accepts-accepts false (Unsigned 0 (2 ^ 32 - 1)) text
    (rw sign.1 (
      (is.0, all_digits text is.1),
      omega (arith, most),
      omega arith,
      omega (arith, most),
    )) in
    rw sign.0 (rw takes (rw sign.1 refl))
