-- What the getters of the matches give, by the rows.
use Rattle.std.proofs.Common.{true≢false, sym, ◌∙◌, ◌≤◌, ◌-◌, arith, ◌≡◌, ◌<◌, ◌^◌, ℕ, Bool, true}
use Rattle.std.proofs.Common.{false, List, Option, Some, None, Result, Ok, Err, refl, ap, cond}
use Rattle.std.proofs.Common.{option_map}
use Rattle.std.specs.Prelude.{⊤}
use Rattle.std.specs.Option.{ok_or}
use Rattle.std.specs.Str.Parse.{IsNumeral, ParsesUnsigned, digits_value, without_leading_plus}
use Rattle.clap.specs.Matches.{ReadsOne}
use Rattle.clap.specs.ValueTests.{accepts}
use Rattle.clap.specs.declared.builder.value_parser.ValueParser.TheVariants as parser
use Rattle.clap.proofs.ValueTestLemmas.{Accepts-accepts, accepts-Accepts}
use Rattle.clap.specs.Words.{Text}
use Rattle.ssz_words.specs.Reading.{◌>>=◌, ReadsWords, ReadsBy}
use Rattle.ssz_words.specs.Values.{text_number_below}
use Rattle.ssz_words.specs.declared.faults.WordsFault.TheVariants.{NotTaken}

-- a value that may be missing, read as NotTaken where it is
pub ok_or_reads : {A B : Type 0} (view : A → B) (o : Option A) (t : Option B)
    → option_map view o ≡ t → ReadsBy view (ok_or o NotTaken) t
ok_or_reads view None t e = sym e
ok_or_reads view (Some x) t e = sym e

pub ok_or_same : {A : Type 0} (o t : Option A) → o ≡ t → ReadsWords (ok_or o NotTaken) t
ok_or_same None t e = sym e
ok_or_same (Some x) t e = sym e

-- the test of `text_number_below`
abbrev is_below : ℕ → Text → Bool
is_below k text = accepts false (parser.Unsigned 0 (2 ^ k - 1)) text

-- the powers of two up to that of 64 bits
abbrev pub IsWidth : ℕ → Type 0
IsWidth k = (0 < 2 ^ k) × (2 ^ k ≤ 2 ^ 64)

below_from : (k : ℕ) (text : Text) → IsWidth k → is_below k text ≡ true
    → IsNumeral 10 (without_leading_plus text)
    × (digits_value 10 (without_leading_plus text) < 2 ^ k)
below_from k text width e =
    let taken = accepts-Accepts false (parser.Unsigned 0 (2 ^ k - 1)) text e in
    (taken.0, omega (arith, taken.3, width.0))

below_back : (k : ℕ) (text : Text) → IsWidth k → IsNumeral 10 (without_leading_plus text)
    → digits_value 10 (without_leading_plus text) < 2 ^ k
    → is_below k text ≡ true
below_back k text width n lt = Accepts-accepts false (parser.Unsigned 0 (2 ^ k - 1)) text
    (n, omega (arith, lt, width.1), omega arith, omega (arith, lt))

parsed_number : (E : Type 0) (k : ℕ) (text : Text) (r : Option ℕ) → IsWidth k
    → ReadsOne (λ t (x : Result ℕ E). ParsesUnsigned k 10 t x) text r → r ≡ text_number_below k text
parsed_number E k text (Some n) width h =
    let yes = below_back k text width h.0.0 h.0.1 in
    rw yes (ap Some h.1)
parsed_number E k text None width h = go (is_below k text) refl
  where
    go : (b : Bool) → is_below k text ≡ b
        → None ≡ cond (is_below k text) (Some (digits_value 10 (without_leading_plus text))) None
    go true e = absurd (h.1 (below_from k text width e))
    go false e = rw e refl

only_parsed : (E : Type 0) (G : List ℕ → Result ℕ E → Type 0) (k : ℕ) (t : Text) (r : Option ℕ)
    → ((u : Text) (x : Result ℕ E) → G u x → ParsesUnsigned k 10 u x)
    → ReadsOne G t r → ReadsOne (λ u (x : Result ℕ E). ParsesUnsigned k 10 u x) t r
only_parsed E G k t (Some n) only h = only t (Ok n) h
only_parsed E G k t None only h = (h.0, only t (Err h.0) h.1)

-- `get_one` at an unsigned number
pub number_read : (E : Type 0) (G : List ℕ → Result ℕ E
    → Type 0) (k : ℕ) (o : Option Text) (r : Option ℕ) → IsWidth k
    → ((u : Text) (x : Result ℕ E) → G u x → ParsesUnsigned k 10 u x) → (o ≡ None → r ≡ None)
    → ((t : Text) → o ≡ Some t → ReadsOne G t r) → r ≡ o >>= text_number_below k
number_read E G k None r width only none some = none refl
number_read E G k (Some t) r width only none some = parsed_number E k t r width
    (only_parsed E G k t r only (some t refl))

-- `text_number_below` is what `get_one` gives
pub number_reads : (k : ℕ) (text : Text) → IsWidth k
    → ReadsOne (λ t (x : Result ℕ ⊤). ParsesUnsigned k 10 t x) text (text_number_below k text)
number_reads k text width = go (is_below k text) refl
  where
    impossible : is_below k text ≡ false → IsNumeral 10 (without_leading_plus text)
        × (digits_value 10 (without_leading_plus text) < 2 ^ k) → ⊥
    impossible fails h = true≢false (sym (below_back k text width h.0 h.1) ∙ fails)

    go : (b : Bool) → is_below k text ≡ b
        → ReadsOne (λ t (x : Result ℕ ⊤). ParsesUnsigned k 10 t x) text
        (cond (is_below k text) (Some (digits_value 10 (without_leading_plus text))) None)
    go true e = rw e (below_from k text width e, refl)
    go false e = rw e (tt, impossible e)
