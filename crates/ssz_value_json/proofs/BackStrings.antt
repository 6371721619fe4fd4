-- Numbers, booleans and bits are read back, and walked to themselves.
use Rattle.std.proofs.Common.{◌≡◌, ℕ, ◌<◌, ◌≤◌, ◌^◌, Bool, true, eqb, List, length, Ok, decimal, refl, ap, ◌∙◌, subst, arith, lit≤}
use Rattle.std.specs.Option.{ok_or}
use Rattle.std.proofs.lemmas.Bool.{eq-eqb, le-leb}
use Rattle.std.specs.Str.{IsUtf8}
use Rattle.std.proofs.lemmas.List.{length-map}
use Rattle.json.proofs.Printed.Utf8.{IsUtf8-quoted, IsUtf8-boolean}
use Rattle.serde_json.specs.Data.{boolean as json_boolean, string}
use Rattle.ssz_decimal.specs.Decimal.{number_below}
use Rattle.ssz_schema.specs.width.Width.{Width}
use Rattle.ssz_schema.specs.width.Width.TheVariants.{W8, W16, W32, W64, W128, W256}
use Rattle.ssz_bytes.specs.Bytes.{IsBytes}
use Rattle.ssz_schema.specs.Sizes.{byte_count}
use Rattle.ssz_schema.specs.Types.{uint, boolean, bitvector, bitlist}
use Rattle.ssz_value.specs.Values.{SszValue, number, wide, truth, bits, Fits, FitsWidth}
use Rattle.ssz_value_json.specs.declared.count.Count.{Count}
use Rattle.ssz_value_json.specs.declared.count.Count.TheVariants.{Exactly, AtMost}
use Rattle.ssz_json_text.specs.Strings.{hex_text, bit_digit, bits_text}
use Rattle.ssz_value_json.specs.Strings.{text_bits}
use Rattle.ssz_json_text.specs.Text.{json_of}
use Rattle.ssz_value_json.specs.Steps.{◌>>=◌, where_holds, leaf, next, allows, bad_text, bad_range, bad_count}
use Rattle.ssz_value_json.specs.Walk.{json_walk, json_number_at, decimal_at, bits_at}
use Rattle.ssz_value_json.proofs.Ascii.{decimal_utf8, hex_utf8, bits_utf8}
use Rattle.ssz_value_json.proofs.ReadBack.{ReadsBack}
use Rattle.ssz_value_json.proofs.RoundTrip.{decimal_read, hex_read, bits_are_digits, bits_read}
use Rattle.ssz_value_json.proofs.BackWords.{BackLaw, WalksTo}

-- ---- strings

pub string_back : (s : List ℕ) → IsUtf8 s → ReadsBack 1 (string s)
string_back s text = record {
  back = refl;
  numbers = tt;
  shallow = omega arith;
  utf8 = IsUtf8-quoted s text;
}

-- ---- numbers

decimal_walks : (w : Width) (k n : ℕ) → k < 256 ^ byte_count w → k < 2 ^ 128
    → decimal_at w n (decimal k) ≡ Ok (number k)
decimal_walks w k n fits small =
    let read = decimal_read k (256 ^ byte_count w) fits small in
    ap (λ b. where_holds b (decimal k) (bad_text n) >>= λ digits.
    ok_or (number_below (256 ^ byte_count w) digits) (bad_range n) >>= λ j. Ok (number j)) read.0
    ∙ ap (λ o. ok_or o (bad_range n) >>= λ j. Ok (number j)) read.1

narrow_law : (w : Width) (v : SszValue)
    → ((n : ℕ) (s : List ℕ) → json_number_at w n s ≡ decimal_at w n s)
    → 256 ^ byte_count w ≤ 2 ^ 128
    → (k : ℕ) → number k ≡ v → k < 256 ^ byte_count w
    → ReadsBack 1 (json_of (uint w) v) × WalksTo (λ n. json_walk (uint w) n (json_of (uint w) v)) v
narrow_law w v narrow few k is fits =
    let small : k < 2 ^ 128 = omega arith in
    subst (λ (u : SszValue). ReadsBack 1 (json_of (uint w) u)
    × WalksTo (λ n. json_walk (uint w) n (json_of (uint w) u)) u) is (
      string_back (decimal k) (decimal_utf8 k small),
      λ n. (next n, ap (leaf n) (narrow n (decimal k) ∙ decimal_walks w k n fits small)),
    )

wide_law : (bytes : List ℕ) → length bytes ≡ 32 → IsBytes bytes
    → ReadsBack 1 (json_of (uint W256) (wide bytes))
    × WalksTo (λ n. json_walk (uint W256) n (json_of (uint W256) (wide bytes))) (wide bytes)
wide_law bytes count small = (
  string_back (hex_text bytes) (hex_utf8 bytes small),
  λ n. (
    next n,
    ap (leaf n)
        (ap (λ o. ok_or o (bad_text n) >>= λ bs.
        where_holds (eqb (length bs) 32) (wide bs) (bad_count n)) (hex_read bytes small)
        ∙ ap (λ b. where_holds b (wide bytes) (bad_count n)) (eq-eqb (length bytes) 32 count)),
  ),
)

width_law : (w : Width) (v : SszValue) → FitsWidth w v
    → ReadsBack 1 (json_of (uint w) v) × WalksTo (λ n. json_walk (uint w) n (json_of (uint w) v)) v
width_law W8 (number k) h = narrow_law W8 (number k) (λ n s. refl) (lit≤ tt) k refl h
width_law W16 (number k) h = narrow_law W16 (number k) (λ n s. refl) (lit≤ tt) k refl h
width_law W32 (number k) h = narrow_law W32 (number k) (λ n s. refl) (lit≤ tt) k refl h
width_law W64 (number k) h = narrow_law W64 (number k) (λ n s. refl) (lit≤ tt) k refl h
width_law W128 (number k) h = narrow_law W128 (number k) (λ n s. refl) (lit≤ tt) k refl h
width_law W256 (wide bytes) h = wide_law bytes h.0 h.1
width_law W8 _ h = absurd h
width_law W16 _ h = absurd h
width_law W32 _ h = absurd h
width_law W64 _ h = absurd h
width_law W128 _ h = absurd h
width_law W256 _ h = absurd h

pub uint_back : (w : Width) → BackLaw (uint w)
uint_back w = record {
  back = λ v h. (width_law w v h).0;
  walked = λ v h. (width_law w v h).1;
}

flag_back : (b : Bool) → ReadsBack 1 (json_boolean b)
flag_back b = record { back = refl; numbers = tt; shallow = omega arith; utf8 = IsUtf8-boolean b }

flag_law : (v : SszValue) → Fits boolean v
    → ReadsBack 1 (json_of boolean v) × WalksTo (λ n. json_walk boolean n (json_of boolean v)) v
flag_law (truth b) h = (flag_back b, λ n. (next n, refl))
flag_law _ h = absurd h

pub boolean_back : BackLaw boolean
boolean_back = record { back = λ v h. (flag_law v h).0; walked = λ v h. (flag_law v h).1 }

-- ---- bits

bits_walk : (many : Count) (bs : List Bool) (n : ℕ) → allows many (length bs) ≡ true
    → bits_at many n (string (bits_text bs)) ≡ Ok (bits bs)
bits_walk many bs n few =
    ap (λ b. where_holds b (bits_text bs) (bad_text n) >>= λ digits.
    where_holds (allows many (length digits)) (bits (text_bits digits)) (bad_count n))
    (bits_are_digits bs)
    ∙ ap (λ b. where_holds b (bits (text_bits (bits_text bs))) (bad_count n))
    (ap (allows many) (length-map bs bit_digit) ∙ few)
    ∙ ap (λ xs. Ok (bits xs)) (bits_read bs)

bits_law : (many : Count) (bs : List Bool) → allows many (length bs) ≡ true
    → ReadsBack 1 (string (bits_text bs))
    × WalksTo (λ n. leaf n (bits_at many n (string (bits_text bs)))) (bits bs)
bits_law many bs few = (
  string_back (bits_text bs) (bits_utf8 bs),
  λ n. (next n, ap (leaf n) (bits_walk many bs n few)),
)

bitvector_law : (count : ℕ) (v : SszValue) → Fits (bitvector count) v
    → ReadsBack 1 (json_of (bitvector count) v)
    × WalksTo (λ n. json_walk (bitvector count) n (json_of (bitvector count) v)) v
bitvector_law count (bits bs) h = bits_law (Exactly count) bs (eq-eqb (length bs) count h)
bitvector_law count _ h = absurd h

bitlist_law : (limit : ℕ) (v : SszValue) → Fits (bitlist limit) v
    → ReadsBack 1 (json_of (bitlist limit) v)
    × WalksTo (λ n. json_walk (bitlist limit) n (json_of (bitlist limit) v)) v
bitlist_law limit (bits bs) h = bits_law (AtMost limit) bs (le-leb (length bs) limit h)
bitlist_law limit _ h = absurd h

pub bitvector_back : (count : ℕ) → BackLaw (bitvector count)
bitvector_back count = record {
  back = λ v h. (bitvector_law count v h).0;
  walked = λ v h. (bitvector_law count v h).1;
}

pub bitlist_back : (limit : ℕ) → BackLaw (bitlist limit)
bitlist_back limit = record {
  back = λ v h. (bitlist_law limit v h).0;
  walked = λ v h. (bitlist_law limit v h).1;
}
