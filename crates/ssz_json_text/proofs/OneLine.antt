-- No text has a byte below 32.
use Rattle.std.proofs.Common.{◌≡◌, ℕ, ℤ, pos, negsuc, zero, suc, ◌+◌, ◌/◌, ◌%◌, ◌≤◌, ◌==◌, Bool, true, false, cond, List, [], ◌∷◌, ◌++◌, refl, arith, lit≤}
use Rattle.std.specs.Prelude.{decimal, nat_lt}
use Rattle.std.specs.Char.{digit_char}
use Rattle.std.specs.Fmt.{digits, digits_onto, digit_glyph, signed_decimal}
use Rattle.std.specs.List.{AllByRecursion}
use Rattle.std.proofs.lemmas.Bool.Decides.{nat_tests}
use Rattle.json.specs.Print.{escape_letter, escape_byte, escape, quoted}
use Rattle.serde_json.specs.Data.{Num, unsigned, negative, float, Data, null, boolean, number, string, array, object, Items, no_items, item, Members, no_members, member}
use Rattle.serde_json.specs.Written.{number_text, comma_if, compact_text, items_text, members_text}
use Rattle.ssz_json_text.specs.Laws.{TextsAreOneLine}
use Rattle.ssz_json_text.specs.Text.{json_of}

-- a byte that stands in a line
abbrev Stands : ℕ → Type 0
Stands b = 32 ≤ b

abbrev Line : List ℕ → Type 0
Line = AllByRecursion Stands

joined : (xs ys : List ℕ) → Line xs → Line ys → Line (xs ++ ys)
joined [] ys first second = second
joined (x ∷ xs) ys first second = (first.0, joined xs ys first.1 second)

-- digits

digit_stands : (n : ℕ) → Stands (digit_glyph false n)
digit_stands n =
    elim (nat_lt n 10) as (λ t. Stands (cond t (48 + n) (87 + n))) [
      | true ↦ omega arith
      | false ↦ omega arith
    ]

digits_line : (k n : ℕ) (rest : List ℕ) → Line rest → Line (digits_onto k 10 false n rest)
digits_line zero n rest is = is
digits_line (suc k) n rest is =
    let glyph = digit_glyph false (n % 10) in
    elim (n / 10 == 0) as
    (λ t. Line (cond t (glyph ∷ rest) (digits_onto k 10 false (n / 10) (glyph ∷ rest)))) [
      | true ↦ (digit_stands (n % 10), is)
      | false ↦ digits_line k (n / 10) (glyph ∷ rest) (digit_stands (n % 10), is)
    ]

decimal_line : (n : ℕ) → Line (decimal n)
unfolding digits
decimal_line n = digits_line 64 n [] tt

signed_line : (z : ℤ) → Line (signed_decimal z)
signed_line (pos n) = decimal_line n
signed_line (negsuc n) = (lit≤ tt, decimal_line (suc n))

number_line : (n : Num) → Line (number_text n)
number_line (unsigned n) = decimal_line n
number_line (negative z) = signed_line z
number_line (float x) = tt

-- strings

letter_stands : (x : ℕ) → nat_lt 0 (escape_letter x) ≡ true → Stands (escape_letter x)
letter_stands x some = grind (arith, nat_tests)

char_stands : (n : ℕ) → Stands (digit_char n)
char_stands n =
    elim (nat_lt n 10) as (λ t. Stands (cond t (48 + n) (87 + n))) [
      | true ↦ omega arith
      | false ↦ omega arith
    ]

not_below : (x : ℕ) → nat_lt x 32 ≡ false → Stands x
not_below x e = grind (arith, nat_tests)

-- a byte of a string, as it is or escaped
byte_line : (x : ℕ) → Line (escape_byte x)
unfolding escape_byte
byte_line x = by (nat_lt 0 (escape_letter x)) refl (nat_lt x 32) refl
  where
    by : (some : Bool) → nat_lt 0 (escape_letter x) ≡ some → (low : Bool) → nat_lt x 32 ≡ low
        → Line (cond some (92 ∷ escape_letter x ∷ [])
        (cond low (92 ∷ 117 ∷ 48 ∷ 48 ∷ digit_char (x / 16) ∷ digit_char (x % 16) ∷ []) (x ∷ [])))
    by true some low is = (lit≤ tt, (letter_stands x some, tt))
    by false some true is = (
      lit≤ tt,
      (
        lit≤ tt,
        (lit≤ tt, (lit≤ tt, (char_stands (x / 16), (char_stands (x % 16), tt)))),
      ),
    )
    by false some false is = (not_below x is, tt)

escape_line : (s : List ℕ) → Line (escape s)
escape_line [] = tt
escape_line (x ∷ s) = joined (escape_byte x) (escape s) (byte_line x) (escape_line s)

quoted_line : (s : List ℕ) → Line (quoted s)
quoted_line s = (lit≤ tt, joined (escape s) (34 ∷ []) (escape_line s) (lit≤ tt, tt))

comma_line : (later : Bool) → Line (comma_if later)
comma_line true = (lit≤ tt, tt)
comma_line false = tt

boolean_line : (b : Bool) → Line (compact_text (boolean b))
boolean_line true = (lit≤ tt, (lit≤ tt, (lit≤ tt, (lit≤ tt, tt))))
boolean_line false = (lit≤ tt, (lit≤ tt, (lit≤ tt, (lit≤ tt, (lit≤ tt, tt)))))

-- the text of any JSON
mutual
  pub text_line : (d : Data) → Line (compact_text d)
  text_line null = (lit≤ tt, (lit≤ tt, (lit≤ tt, (lit≤ tt, tt))))
  text_line (boolean b) = boolean_line b
  text_line (number n) = number_line n
  text_line (string s) = quoted_line s
  text_line (array ds) = (lit≤ tt, items_line false ds)
  text_line (object ms) = (lit≤ tt, members_line false ms)

  items_line : (later : Bool) (ds : Items) → Line (items_text later ds)
  items_line later no_items = (lit≤ tt, tt)
  items_line later (item d ds) =
      joined (comma_if later) (compact_text d ++ items_text true ds) (comma_line later)
      (joined (compact_text d) (items_text true ds) (text_line d) (items_line true ds))

  members_line : (later : Bool) (ms : Members) → Line (members_text later ms)
  members_line later no_members = (lit≤ tt, tt)
  members_line later (member k d ms) =
      joined (comma_if later) (quoted k ++ 58 ∷ (compact_text d ++ members_text true ms))
      (comma_line later)
      (joined (quoted k) (58 ∷ (compact_text d ++ members_text true ms)) (quoted_line k) (
        lit≤ tt,
        joined (compact_text d) (members_text true ms) (text_line d)
            (members_line true ms),
      ))

pub texts_are_one_line_lem : TextsAreOneLine
texts_are_one_line_lem t v = text_line (json_of t v)

-- what computes where a text is made
unfoldable pub text_computes : ℕ
unfolding digits escape_byte
text_computes = 0
