-- What a walk gives is a value of the type.
use Rattle.std.proofs.Common.{◌≡◌, ◌⊎◌, inl, inr, ℕ, zero, suc, ◌<◌, ◌≤◌, ◌^◌, ◌&&◌, Bool, true, false, not, eqb, cond, nat_lt, List, [], ◌∷◌, length, map, Option, Some, None, Ok, refl, sym, ap, ◌∙◌, subst}
use Rattle.std.specs.Option.{ok_or}
use Rattle.std.specs.List.{AllByRecursion, list_all}
use Rattle.std.proofs.lemmas.List.{length-map}
use Rattle.std.specs.Char.{is_ascii_uppercase}
use Rattle.std.specs.Prelude.{drop, codes, nat_eq}
use Rattle.std.specs.List.{starts_with}
use Rattle.std.proofs.lemmas.Bool.{and_parts, eqb-true, leb-true, ltb-true}
use Rattle.hex.specs.Hex.{decode_of}
use Rattle.hex.proofs.HexLemmas.{decode_of-ok}
use Rattle.serde_json.specs.Data.{Data, null, boolean as json_boolean, number as json_number, string, array, object, Items, no_items, item, Members}
use Rattle.serde_json.specs.Events.{items_len}
use Rattle.serde_json.specs.Find.{as_str, as_bool, as_array, as_object, get_member}
use Rattle.ssz_decimal.specs.Decimal.{is_digit, number_after, digits_below, number_below}
use Rattle.ssz_schema.specs.width.Width.{Width}
use Rattle.ssz_schema.specs.width.Width.TheVariants.{W8, W16, W32, W64, W128, W256}
use Rattle.ssz_bytes.specs.Bytes.{IsBytes}
use Rattle.ssz_bytes.proofs.Results.{ok_of}
use Rattle.ssz_schema.specs.Legal.{field_names}
use Rattle.ssz_schema.specs.Sizes.{byte_count}
use Rattle.ssz_schema.specs.Types.{SszType, Fields, Options, uint, boolean, container, vector, list, bitvector, bitlist, union, no_fields, field, no_options, none_option, option}
use Rattle.ssz_value.specs.Values.{SszValue, number, wide, truth, sequence, bits, chosen, chosen_none, values, Fits, FitsWidth, FitFields, FitsOption, IsNoneOption}
use Rattle.ssz_value.specs.Standing.{is_byte}
use Rattle.ssz_value.proofs.FormLemmas.{byte_type}
use Rattle.ssz_value.proofs.Sequences.{items-values}
use Rattle.ssz_value_json.specs.declared.count.Count.{Count}
use Rattle.ssz_value_json.specs.declared.count.Count.TheVariants.{Exactly, AtMost}
use Rattle.ssz_value_json.specs.Strings.{hex_bytes, is_decimal, is_bit_digit, text_bits}
use Rattle.ssz_value_json.specs.Steps.{where_holds, leaf, next, allows, bad_kind, bad_text, bad_range, bad_count, bad_member}
use Rattle.ssz_value_json.specs.Walk.{json_walk, uint_at, json_number_at, decimal_at, wide_at, boolean_at, bits_at, json_bytes_at, sequence_at, elements_at, array_at, fields_at, field_walked, option_at, none_at, selected, are_members}
use Rattle.ssz_value_json.proofs.FoundLemmas.{bind_ok, or_ok, where_ok, leaf_ok, first_ok, ok_same}

pub record FitLaw (t : SszType) : Type 0 where
  pub fits : (n m : ℕ) (d : Data) (v : SszValue) → json_walk t n d ≡ Ok (v, m) → Fits t v

-- ---- numbers

if_some : (b : Bool) (n k : ℕ) → cond b (Some n) None ≡ Some k → (b ≡ true) × (n ≡ k)
if_some true n k e = (refl, cc)
if_some false n k e = absurd (cc)

digits_fit : (bound k : ℕ) (ds : List ℕ) → digits_below bound ds ≡ Some k → k < bound
digits_fit bound k ds e =
    let both = if_some (list_all is_digit ds && nat_lt (number_after 0 ds) bound)
    (number_after 0 ds) k e in
    let below = ltb-true (number_after 0 ds) bound
    (and_parts (list_all is_digit ds) (nat_lt (number_after 0 ds) bound) both.0).1 in
    subst (λ (n : ℕ). n < bound) both.1 below

unless_some : (b : Bool) (o : Option ℕ) (k : ℕ) → cond b None o ≡ Some k → o ≡ Some k
unless_some true o k e = absurd (cc)
unless_some false o k e = e

number_fits : (bound k : ℕ) (s : List ℕ) → number_below bound s ≡ Some k → k < bound
number_fits bound k [] e = absurd (cc)
number_fits bound k (b ∷ []) e = digits_fit bound k (b ∷ []) e
number_fits bound k (b ∷ c ∷ ds) e =
    digits_fit bound k (b ∷ c ∷ ds)
    (unless_some (eqb b 48) (digits_below bound (b ∷ c ∷ ds)) k e)

decimal_fits : (w : Width) (n : ℕ) (s : List ℕ) (v : SszValue) → decimal_at w n s ≡ Ok v
    → (k : ℕ) × (k < 256 ^ byte_count w) × (number k ≡ v)
decimal_fits w n s v e =
    let one = bind_ok (where_holds (is_decimal s) s (bad_text n)) _ v e in
    let two = bind_ok (ok_or (number_below (256 ^ byte_count w) one.0) (bad_range n)) _ v
    one.2 in (
      two.0,
      number_fits (256 ^ byte_count w) two.0 one.0 (or_ok _ _ two.0 two.1),
      ok_same (number two.0) v (Ok (number two.0)) refl two.2,
    )

if_some_bytes : (b : Bool) (o : Option (List ℕ)) (bytes : List ℕ) → cond b o None ≡ Some bytes
    → o ≡ Some bytes
if_some_bytes true o bytes e = e
if_some_bytes false o bytes e = absurd (cc)

hex_fits : (s bytes : List ℕ) → hex_bytes s ≡ Some bytes → IsBytes bytes
unfolding hex_bytes
hex_fits s bytes e =
    let inner = if_some_bytes (starts_with nat_eq s (codes "0x")) _ bytes e in
    let decoded = if_some_bytes (list_all (λ c. not (is_ascii_uppercase c)) (drop 2 s)) _ bytes
    inner in
    (decode_of-ok (drop 2 s) bytes (ok_of (decode_of (drop 2 s)) bytes decoded)).3

wide_fits : (n : ℕ) (s : List ℕ) (v : SszValue) → wide_at n s ≡ Ok v
    → (bytes : List ℕ) × (length bytes ≡ 32) × IsBytes bytes × (wide bytes ≡ v)
wide_fits n s v e =
    let one = bind_ok (ok_or (hex_bytes s) (bad_text n)) _ v e in
    let two = where_ok (eqb (length one.0) 32) (wide one.0) v (bad_count n) one.2 in (
      one.0,
      eqb-true (length one.0) 32 two.0,
      hex_fits s one.0 (or_ok (hex_bytes s) (bad_text n) one.0 one.1),
      two.1,
    )

narrow_fits : (w : Width) (n : ℕ) (s : List ℕ) (v : SszValue)
    → ((k : ℕ) → k < 256 ^ byte_count w → FitsWidth w (number k)) → decimal_at w n s ≡ Ok v
    → FitsWidth w v
narrow_fits w n s v fits e =
    let found = decimal_fits w n s v e in
    subst (FitsWidth w) found.2 (fits found.0 found.1)

width_fits : (w : Width) (n : ℕ) (s : List ℕ) (v : SszValue) → json_number_at w n s ≡ Ok v
    → FitsWidth w v
width_fits W8 n s v e = narrow_fits W8 n s v (λ k h. h) e
width_fits W16 n s v e = narrow_fits W16 n s v (λ k h. h) e
width_fits W32 n s v e = narrow_fits W32 n s v (λ k h. h) e
width_fits W64 n s v e = narrow_fits W64 n s v (λ k h. h) e
width_fits W128 n s v e = narrow_fits W128 n s v (λ k h. h) e
width_fits W256 n s v e =
    let found = wide_fits n s v e in
    subst (FitsWidth W256) found.3 (found.1, found.2)

uint_law : (w : Width) → FitLaw (uint w)
uint_law w = record {
  fits = λ n m d v e.
      let one = bind_ok (ok_or (as_str d) (bad_kind n)) _ v (leaf_ok n m (uint_at w n d) v e) in
      width_fits w n one.0 v one.2;
}

boolean_law : FitLaw boolean
boolean_law = record {
  fits = λ n m d v e.
      let one = bind_ok (ok_or (as_bool d) (bad_kind n)) _ v
      (leaf_ok n m (boolean_at n d) v e) in
      subst (Fits boolean) (ok_same (truth one.0) v (Ok (truth one.0)) refl one.2) tt;
}

-- ---- bits

bits_fit : (many : Count) (n m : ℕ) (d : Data) (v : SszValue)
    → leaf n (bits_at many n d) ≡ Ok (v, m)
    → (bs : List Bool) × (allows many (length bs) ≡ true) × (bits bs ≡ v)
bits_fit many n m d v e =
    let one = bind_ok (ok_or (as_str d) (bad_kind n)) _ v (leaf_ok n m (bits_at many n d) v e) in
    let two = bind_ok (where_holds (list_all is_bit_digit one.0) one.0 (bad_text n)) _ v one.2 in
    let three = where_ok (allows many (length two.0)) (bits (text_bits two.0)) v (bad_count n)
    two.2 in
    (text_bits two.0, ap (allows many) (length-map two.0 (λ c. eqb c 49)) ∙ three.0, three.1)

bitvector_law : (length : ℕ) → FitLaw (bitvector length)
bitvector_law count = record {
  fits = λ n m d v e. let found = bits_fit (Exactly count) n m d v e in
      subst (Fits (bitvector count)) found.2 (eqb-true (length found.0) count found.1);
}

bitlist_law : (limit : ℕ) → FitLaw (bitlist limit)
bitlist_law limit = record {
  fits = λ n m d v e. let found = bits_fit (AtMost limit) n m d v e in
      subst (Fits (bitlist limit)) found.2 (leb-true (length found.0) limit found.1);
}

-- ---- sequences

elements_fit : (t : SszType) → FitLaw t → (ds : Items) (n m : ℕ) (vs : List SszValue)
    → elements_at (json_walk t) n ds ≡ Ok (vs, m)
    → (length vs ≡ items_len ds) × AllByRecursion (Fits t) vs
elements_fit t law no_items n m vs e =
    let same = first_ok [] vs n m (elements_at (json_walk t) n no_items) refl e in
    (sym (ap length same), subst (AllByRecursion (Fits t)) same tt)
elements_fit t law (item d ds) n m vs e =
    let one = bind_ok (json_walk t n d) _ (vs, m) e in
    let two = bind_ok (elements_at (json_walk t) one.0.1 ds) _ (vs, m) one.2 in
    let rest = elements_fit t law ds one.0.1 two.0.1 two.0.0 two.1 in
    let same : one.0.0 ∷ two.0.0 ≡ vs =
    first_ok (one.0.0 ∷ two.0.0) vs two.0.1 m (Ok (one.0.0 ∷ two.0.0, two.0.1)) refl two.2 in (
      sym (ap length same) ∙ ap suc rest.0,
      subst (AllByRecursion (Fits t)) same (law.fits n one.0.1 d one.0.0 one.1, rest.1),
    )

numbers_fit : (bytes : List ℕ) → IsBytes bytes → AllByRecursion (Fits (uint W8)) (map number bytes)
numbers_fit [] small = tt
numbers_fit (b ∷ bytes) small = (small 0, numbers_fit bytes (λ i. small (suc i)))

abbrev IsSequenceOf : SszType → Count → SszValue → Type 0
IsSequenceOf t many v =
    (vs : List SszValue) × (sequence (values vs) ≡ v) × (allows many (length vs) ≡ true)
    × AllByRecursion (Fits t) vs

bytes_fit : (many : Count) (n m : ℕ) (d : Data) (v : SszValue)
    → leaf n (json_bytes_at many n d) ≡ Ok (v, m) → IsSequenceOf (uint W8) many v
bytes_fit many n m d v e =
    let one = bind_ok (ok_or (as_str d) (bad_kind n)) _ v
    (leaf_ok n m (json_bytes_at many n d) v e) in
    let two = bind_ok (ok_or (hex_bytes one.0) (bad_text n)) _ v one.2 in
    let three = where_ok (allows many (length two.0)) (sequence (values (map number two.0))) v
    (bad_count n) two.2 in (
      map number two.0,
      three.1,
      ap (allows many) (length-map two.0 number) ∙ three.0,
      numbers_fit two.0 (hex_fits one.0 two.0 (or_ok (hex_bytes one.0) (bad_text n) two.0 two.1)),
    )

array_fits : (t : SszType) → FitLaw t → (many : Count) (n m : ℕ) (d : Data) (v : SszValue)
    → array_at (json_walk t) many n d ≡ Ok (v, m) → IsSequenceOf t many v
array_fits t law many n m d v e =
    let one = bind_ok (ok_or (as_array d) (bad_kind n)) _ (v, m) e in
    let two = bind_ok (where_holds (allows many (items_len one.0)) one.0 (bad_count n)) _ (v, m)
    one.2 in
    let few = where_ok (allows many (items_len one.0)) one.0 two.0 (bad_count n) two.1 in
    let three = bind_ok (elements_at (json_walk t) (next n) two.0) _ (v, m) two.2 in
    let all = elements_fit t law two.0 (next n) three.0.1 three.0.0 three.1 in (
      three.0.0,
      first_ok (sequence (values three.0.0)) v three.0.1 m
          (Ok (sequence (values three.0.0), three.0.1)) refl three.2,
      ap (allows many) (all.0 ∙ ap items_len (sym few.1)) ∙ few.0,
      all.1,
    )

sequence_fits : (b : Bool) (t : SszType) → is_byte t ≡ b → FitLaw t → (many : Count) (n m : ℕ)
    (d : Data) (v : SszValue) → sequence_at b (json_walk t) many n d ≡ Ok (v, m)
    → IsSequenceOf t many v
sequence_fits true t byte law many n m d v e =
    subst (λ (u : SszType). IsSequenceOf u many v) (sym (byte_type t byte))
    (bytes_fit many n m d v e)
sequence_fits false t byte law many n m d v e = array_fits t law many n m d v e

vector_law : (t : SszType) (count : ℕ) → FitLaw t → FitLaw (vector t count)
vector_law t count law = record {
  fits = λ n m d v e.
      let found = sequence_fits (is_byte t) t refl law (Exactly count) n m d v e in
      subst (Fits (vector t count)) found.1
      (subst (λ (vs : List SszValue). (length vs ≡ count) × AllByRecursion (Fits t) vs)
      (sym (items-values found.0)) (eqb-true (length found.0) count found.2, found.3));
}

list_law : (t : SszType) (limit : ℕ) → FitLaw t → FitLaw (list t limit)
list_law t limit law = record {
  fits = λ n m d v e.
      let found = sequence_fits (is_byte t) t refl law (AtMost limit) n m d v e in
      subst (Fits (list t limit)) found.1
      (subst (λ (vs : List SszValue). (length vs ≤ limit) × AllByRecursion (Fits t) vs)
      (sym (items-values found.0)) (leb-true (length found.0) limit found.2, found.3));
}

-- ---- containers

record FieldsLaw (fs : Fields) : Type 0 where
  pub fits : (n m : ℕ) (ms : Members) (vs : List SszValue) → fields_at fs n ms ≡ Ok (vs, m)
      → FitFields fs vs

no_fields_law : FieldsLaw no_fields
no_fields_law = record {
  fits = λ n m ms vs e.
      subst (FitFields no_fields) (first_ok [] vs n m (fields_at no_fields n ms) refl e) tt;
}

member_fits : (t : SszType) → FitLaw t → (o : Option Data) (n m : ℕ) (v : SszValue)
    → field_walked (json_walk t) n o ≡ Ok (v, m) → Fits t v
member_fits t law (Some d) n m v e = law.fits n m d v e
member_fits t law None n m v e = absurd (cc)

field_law : (name : List ℕ) (t : SszType) (fs : Fields) → FitLaw t → FieldsLaw fs
    → FieldsLaw (field name t fs)
field_law name t fs law rest = record {
  fits = λ n m ms vs e.
      let one = bind_ok (field_walked (json_walk t) n (get_member name ms)) _ (vs, m) e in
      let two = bind_ok (fields_at fs one.0.1 ms) _ (vs, m) one.2 in
      subst (FitFields (field name t fs))
      (first_ok (one.0.0 ∷ two.0.0) vs two.0.1 m (Ok (one.0.0 ∷ two.0.0, two.0.1)) refl two.2) (
        member_fits t law (get_member name ms) n one.0.1 one.0.0 one.1,
        rest.fits one.0.1 two.0.1 ms two.0.0 two.1,
      );
}

container_law : (fs : Fields) → FieldsLaw fs → FitLaw (container fs)
container_law fs law = record {
  fits = λ n m d v e.
      let one = bind_ok (ok_or (as_object d) (bad_kind n)) _ (v, m) e in
      let two = bind_ok (where_holds (are_members (field_names fs) one.0) one.0 (bad_member n)) _
      (v, m) one.2 in
      let three = bind_ok (fields_at fs (next n) two.0) _ (v, m) two.2 in
      subst (Fits (container fs))
      (first_ok (sequence (values three.0.0)) v three.0.1 m
      (Ok (sequence (values three.0.0), three.0.1)) refl three.2)
      (subst (FitFields fs) (sym (items-values three.0.0))
      (law.fits (next n) three.0.1 two.0 three.0.0 three.1));
}

-- ---- unions

record OptionsLaw (os : Options) : Type 0 where
  pub fits : (left k n m : ℕ) (d : Data) (v : SszValue) → option_at os left k n d ≡ Ok (v, m)
      → ((w : SszValue) × (chosen k w ≡ v) × FitsOption os left w)
      ⊎ ((chosen_none k ≡ v) × IsNoneOption os left)

no_options_law : OptionsLaw no_options
no_options_law = record { fits = λ left k n m d v e. absurd (cc) }

none_fits : (k n m : ℕ) (d : Data) (v : SszValue) → none_at k n d ≡ Ok (v, m) → chosen_none k ≡ v
none_fits k n m null v e = first_ok (chosen_none k) v (next n) m (none_at k n null) refl e
none_fits k n m (json_boolean b) v e = absurd (cc)
none_fits k n m (json_number x) v e = absurd (cc)
none_fits k n m (string s) v e = absurd (cc)
none_fits k n m (array ds) v e = absurd (cc)
none_fits k n m (object ms) v e = absurd (cc)

none_option_fits : (os : Options) → OptionsLaw os → (left k n m : ℕ) (d : Data) (v : SszValue)
    → option_at (none_option os) left k n d ≡ Ok (v, m)
    → ((w : SszValue) × (chosen k w ≡ v) × FitsOption (none_option os) left w)
    ⊎ ((chosen_none k ≡ v) × IsNoneOption (none_option os) left)
none_option_fits os law zero k n m d v e = inr (none_fits k (next n) m d v e, tt)
none_option_fits os law (suc left) k n m d v e = law.fits left k n m d v e

option_fits : (t : SszType) (os : Options) → FitLaw t → OptionsLaw os → (left k n m : ℕ) (d : Data)
    (v : SszValue) → option_at (option t os) left k n d ≡ Ok (v, m)
    → ((w : SszValue) × (chosen k w ≡ v) × FitsOption (option t os) left w)
    ⊎ ((chosen_none k ≡ v) × IsNoneOption (option t os) left)
option_fits t os law rest zero k n m d v e =
    let one = bind_ok (json_walk t (next n) d) _ (v, m) e in
    inl (
      one.0.0,
      first_ok (chosen k one.0.0) v one.0.1 m (Ok (chosen k one.0.0, one.0.1)) refl one.2,
      law.fits (next n) one.0.1 d one.0.0 one.1,
    )
option_fits t os law rest (suc left) k n m d v e = rest.fits left k n m d v e

union_law : (os : Options) → OptionsLaw os → FitLaw (union os)
union_law os law = record {
  fits = λ n m d v e.
      let one = bind_ok (ok_or (selected d) (bad_kind n)) _ (v, m) e in
      elim (law.fits one.0.0 one.0.0 n m one.0.1 v one.2) [
        | inl h ↦ subst (Fits (union os)) h.1 h.2
        | inr h ↦ subst (Fits (union os)) h.0 h.1
      ];
}

mutual
  pub fit_law : (t : SszType) → FitLaw t
  fit_law (uint w) = uint_law w
  fit_law boolean = boolean_law
  fit_law (container fs) = container_law fs (fields_law fs)
  fit_law (vector t n) = vector_law t n (fit_law t)
  fit_law (list t limit) = list_law t limit (fit_law t)
  fit_law (bitvector n) = bitvector_law n
  fit_law (bitlist limit) = bitlist_law limit
  fit_law (union os) = union_law os (options_law os)

  fields_law : (fs : Fields) → FieldsLaw fs
  fields_law no_fields = no_fields_law
  fields_law (field name t fs) = field_law name t fs (fit_law t) (fields_law fs)

  options_law : (os : Options) → OptionsLaw os
  options_law no_options = no_options_law
  options_law (none_option os) = record { fits = none_option_fits os (options_law os) }
  options_law (option t os) = record { fits = option_fits t os (fit_law t) (options_law os) }
