-- The law at numbers, booleans and bits.
use Rattle.std.proofs.Common.{ℕ, zero, suc, ◌+◌, ◌*◌, ◌/◌, ◌%◌, ◌^◌, ◌<◌, ◌≤◌, ◌≡◌, inl, inr, true, false, ltb, List, [], ◌∷◌, ◌++◌, length, None, refl, sym, ap, ap₂, ◌∙◌, subst, arith, ltb-false, le-ltb, eqb}
use Rattle.std.proofs.lemmas.Bool.{leb-false, lt-leb, ne_eqb, cases_lt}
use Rattle.ssz_schema.specs.width.Width.{Width}
use Rattle.ssz_schema.specs.width.Width.TheVariants.{W8, W16, W32, W64, W128, W256}
use Rattle.ssz_schema.specs.Types.{uint, boolean, bitvector, bitlist}
use Rattle.ssz_schema.specs.Sizes.{byte_count}
use Rattle.ssz_bytes.specs.Bytes.{IsBytes, le_bytes, le_number, number_of_bits, bits_of_number}
use Rattle.ssz_value.specs.Values.{SszValue, number, wide, truth, bits, FitsWidth, Fits}
use Rattle.ssz_value.specs.Encoding.{serialize}
use Rattle.ssz_bytes.specs.Faults.{bool_fault, bitvector_fault, bitlist_fault, bitlist_length, last_after, highest_bit}
use Rattle.ssz_bytes.proofs.Numbers.{length-le_bytes, le_number-le_bytes, le_bytes_of, le_number_lt, IsBytes-le_bytes}
use Rattle.ssz_bytes.proofs.Bits.{length-bits_of_number, bits_of_number-number_of_bits, bits_of_number-delimited, number_of_bits-bits_of_number, number_of_bits-delimited, number_of_bits_lt, HasTop, HasTop-delimited, same_top, power_up, power_of_bytes}
use Rattle.ssz_bytes.proofs.Delimiters.{HasTop-bitlist, IsLedBy, last-leads, last_after_lt, highest_bit-is_highest}
use Rattle.ssz_value.proofs.Cut.{passed, passes}
use Rattle.ssz_value.proofs.Agree.{IsReadBack, IsWrittenBack, IsInput, Agrees, no_fault, no_faults, right_length, length_from_fault, same_some, no_some}

-- numbers

number_known : (w : Width) (s : ℕ) (v : SszValue) → FitsWidth w v → IsReadBack (uint w) s v
number_known W8 s (number n) h =
    record {
      faultless = right_length 1 s (le_bytes 1 n) refl;
      value =
          ap number (le_number-le_bytes 1 n h);
    }
number_known W16 s (number n) h =
    record {
      faultless = right_length 2 s (le_bytes 2 n) refl;
      value =
          ap number (le_number-le_bytes 2 n h);
    }
number_known W32 s (number n) h =
    record {
      faultless = right_length 4 s (le_bytes 4 n) refl;
      value =
          ap number (le_number-le_bytes 4 n h);
    }
number_known W64 s (number n) h =
    record {
      faultless = right_length 8 s (le_bytes 8 n) refl;
      value =
          ap number (le_number-le_bytes 8 n h);
    }
number_known W128 s (number n) h =
    record {
      faultless = right_length 16 s (le_bytes 16 n) refl;
      value =
          ap number (le_number-le_bytes 16 n h);
    }
number_known W256 s (wide bytes) h =
    record { faultless = right_length 32 s bytes h.0; value = refl }
number_known _ s _ h = absurd h

number_below : (w : ℕ) (b : List ℕ) → IsBytes b → length b ≡ w → le_number b < 256 ^ w
number_below w b h e = subst (λ (n : ℕ). le_number b < 256 ^ n) e (le_number_lt b h)

number_only : (w : Width) (b : List ℕ) → IsInput b → length b ≡ byte_count w
    → IsWrittenBack (uint w) b
number_only W8 b h e = record {
  fits = number_below 1 b h.bytes e;
  bytes =
      le_bytes_of 1 b h.bytes e;
}
number_only W16 b h e = record {
  fits = number_below 2 b h.bytes e;
  bytes =
      le_bytes_of 2 b h.bytes e;
}
number_only W32 b h e = record {
  fits = number_below 4 b h.bytes e;
  bytes =
      le_bytes_of 4 b h.bytes e;
}
number_only W64 b h e = record {
  fits = number_below 8 b h.bytes e;
  bytes =
      le_bytes_of 8 b h.bytes e;
}
number_only W128 b h e =
    record { fits = number_below 16 b h.bytes e; bytes = le_bytes_of 16 b h.bytes e }
number_only W256 b h e = record { fits = (e, h.bytes); bytes = refl }

pub number_sized : (w : Width) (v : SszValue) → FitsWidth w v
    → length (serialize (uint w) v) ≡ byte_count w
number_sized W8 (number n) h = refl
number_sized W16 (number n) h = refl
number_sized W32 (number n) h = refl
number_sized W64 (number n) h = refl
number_sized W128 (number n) h = refl
number_sized W256 (wide bytes) h = h.0
number_sized _ _ h = absurd h

byte_count_pos : (w : Width) → 0 < byte_count w
byte_count_pos W8 = omega arith
byte_count_pos W16 = omega arith
byte_count_pos W32 = omega arith
byte_count_pos W64 = omega arith
byte_count_pos W128 = omega arith
byte_count_pos W256 = omega arith

pub Agrees-uint : (w : Width) → Agrees (uint w)
Agrees-uint w = record {
  known = λ s v h small. number_known w s v h;
  only = λ s b h e. number_only w b h (length_from_fault (byte_count w) s b e);
  sized = λ z v e h. number_sized w v h ∙ same_some (byte_count w) z e;
  positive = λ z e. subst (λ (n : ℕ). 0 < n) (same_some (byte_count w) z e) (byte_count_pos w);
}

-- booleans

truth_known : (s : ℕ) (v : SszValue) → Fits boolean v → IsReadBack boolean s v
truth_known s (truth true) h = record { faultless = refl; value = refl }
truth_known s (truth false) h = record { faultless = refl; value = refl }
truth_known s _ h = absurd h

truth_only : (s : ℕ) (b : List ℕ) → length b ≡ 1 → bool_fault s b ≡ None → IsWrittenBack boolean b
truth_only s [] e h = cc
truth_only s (zero ∷ []) e h = record { fits = tt; bytes = refl }
truth_only s (suc zero ∷ []) e h = record { fits = tt; bytes = refl }
truth_only s (suc (suc n) ∷ []) e h =
    absurd (omega (arith, ltb-false 1 (suc (suc n)) (passes _ _ _ h).0))
truth_only s (x ∷ y ∷ b) e h = absurd (omega arith)

pub truth_sized : (v : SszValue) → Fits boolean v → length (serialize boolean v) ≡ 1
truth_sized (truth b) h = refl
truth_sized _ h = absurd h

pub Agrees-boolean : Agrees boolean
Agrees-boolean = record {
  known = λ s v h small. truth_known s v h;
  only = λ s b h e. (let parts =
      no_faults _ _ e in truth_only s b (length_from_fault 1 s b parts.0) parts.1);
  sized = λ z v e h. truth_sized v h ∙ same_some 1 z e;
  positive = λ z e. omega (arith, same_some 1 z e);
}

-- bit vectors

room_for_bits : (n : ℕ) → 2 ^ n ≤ 256 ^ ((n + 7) / 8)
room_for_bits n = subst (λ (m : ℕ). 2 ^ n ≤ m) (sym (power_of_bytes ((n + 7) / 8)))
    (power_up n (8 * ((n + 7) / 8)) (omega arith))

bitvector_known : (n s : ℕ) (v : SszValue) → Fits (bitvector n) v → IsReadBack (bitvector n) s v
bitvector_known n s (bits bs) h =
    let below : number_of_bits bs < 2 ^ n =
    subst (λ (m : ℕ). number_of_bits bs < 2 ^ m) h (number_of_bits_lt bs) in
    let again : le_number (le_bytes ((n + 7) / 8) (number_of_bits bs)) ≡ number_of_bits bs =
    le_number-le_bytes ((n + 7) / 8) (number_of_bits bs) (omega (arith, room_for_bits n)) in
    record {
      faultless = no_fault _ _
          (right_length ((n + 7) / 8) s (le_bytes ((n + 7) / 8) (number_of_bits bs))
          (length-le_bytes ((n + 7) / 8) (number_of_bits bs)))
          (passed _ _ _ (lt-leb (2 ^ n) (le_number (le_bytes ((n + 7) / 8) (number_of_bits bs)))
          (omega (arith, again))) refl);
      value = ap bits (ap (bits_of_number n) again
          ∙ subst (λ (m : ℕ). bits_of_number m (number_of_bits bs) ≡ bs) h
          (bits_of_number-number_of_bits bs));
    }
bitvector_known n s _ h = absurd h

bitvector_only : (n s : ℕ) (b : List ℕ) → IsInput b → length b ≡ (n + 7) / 8
    → bitvector_fault n s b ≡ None → IsWrittenBack (bitvector n) b
bitvector_only n s b input e h =
    let below : le_number b < 2 ^ n = leb-false (2 ^ n) (le_number b) (passes _ _ _ h).0 in
    record {
      fits = length-bits_of_number n (le_number b);
      bytes = ap (le_bytes ((n + 7) / 8)) (number_of_bits-bits_of_number n (le_number b) below)
          ∙ le_bytes_of ((n + 7) / 8) b input.bytes e;
    }

bitvector_sized : (n : ℕ) (v : SszValue) → Fits (bitvector n) v
    → length (serialize (bitvector n) v) ≡ (n + 7) / 8
bitvector_sized n (bits bs) h = length-le_bytes ((n + 7) / 8) (number_of_bits bs)
bitvector_sized n _ h = absurd h

pub Agrees-bitvector : (n : ℕ) → 0 < n → Agrees (bitvector n)
Agrees-bitvector n pos = record {
  known = λ s v h small. bitvector_known n s v h;
  only = λ s b h e. (let parts =
      no_faults _ _ e in bitvector_only n s b h
      (length_from_fault ((n + 7) / 8) s b parts.0) parts.1);
  sized = λ z v e h. bitvector_sized n v h ∙ same_some ((n + 7) / 8) z e;
  positive = λ z e. omega (arith, same_some ((n + 7) / 8) z e);
}

-- bit lists

bitlist_length-cons : (byte : ℕ) (bytes : List ℕ)
    → bitlist_length (byte ∷ bytes) ≡ 8 * length bytes + highest_bit (last_after byte bytes)
bitlist_length-cons byte bytes = ap (λ n. 8 * n + highest_bit (last_after byte bytes)) (omega arith)

nothing_led : (unit last x power : ℕ) → IsLedBy unit last x → last ≤ 0 → unit ≤ power → power ≤ x
    → ⊥
nothing_led unit last x power led none small large =
    let no : last ≡ 0 = omega arith in
    omega (arith, subst (λ (m : ℕ). x < unit * (m + 1)) no led.high)

pos_of : (n : ℕ) → eqb n 0 ≡ false → 0 < n
pos_of zero e = cc
pos_of (suc n) e = omega arith

-- what delimited bits are read as
record IsDelimited (limit s n x : ℕ) (b : List ℕ) : Type 0 where
  pub faultless : bitlist_fault limit s b ≡ None
  pub end : bitlist_length b ≡ n
  pub same : le_number b ≡ x

delimited_is : (limit s n x k : ℕ) → n / 8 ≡ k → n ≤ limit → HasTop n x
    → IsDelimited limit s n x (le_bytes (suc k) x)
delimited_is limit s n x k e fits top =
    let byte = x % 256 in
    let bytes = le_bytes k (x / 256) in
    let room : x < 256 ^ suc k =
    subst (λ (m : ℕ). x < m) (sym (power_of_bytes (suc k)))
    (omega (arith, top.high, power_up (n + 1) (8 * suc k) (omega arith))) in
    let same : le_number (byte ∷ bytes) ≡ x = le_number-le_bytes (suc k) x room in
    let few : length bytes ≡ k = length-le_bytes k (x / 256) in
    let low : byte < 256 = omega arith in
    let led = last-leads byte bytes low (IsBytes-le_bytes k (x / 256)) in
    let unit : 256 ^ length bytes ≤ 2 ^ n =
    subst (λ (m : ℕ). 256 ^ m ≤ 2 ^ n) (sym few)
    (subst (λ (m : ℕ). m ≤ 2 ^ n) (sym (power_of_bytes k)) (power_up (8 * k) n (omega arith)))
    in
    let pos : 0 < last_after byte bytes = elim (cases_lt 0 (last_after byte bytes)) [
      | inl lt ↦ lt
      | inr none ↦ absurd (nothing_led (256 ^ length bytes) (last_after byte bytes) x (2 ^ n)
          (subst (λ (m : ℕ). IsLedBy (256 ^ length bytes) (last_after byte bytes) m) same led)
          (omega arith) unit top.low)
    ] in
    let found : HasTop (8 * length bytes + highest_bit (last_after byte bytes)) x =
    subst (λ (m : ℕ). HasTop (8 * length bytes + highest_bit (last_after byte bytes)) m) same
    (HasTop-bitlist byte bytes low (IsBytes-le_bytes k (x / 256)) pos) in
    let end : bitlist_length (byte ∷ bytes) ≡ n =
    bitlist_length-cons byte bytes
    ∙ same_top (8 * length bytes + highest_bit (last_after byte bytes)) n x found top in
    record {
      faultless =
          passed _ _ _ (ne_eqb (length (byte ∷ bytes)) 0 (omega arith))
          (passed _ _ _ (ne_eqb (last_after byte bytes) 0 (omega arith))
          (passed _ _ _ (le-ltb limit (bitlist_length (byte ∷ bytes)) (omega (arith, end))) refl));
      end = end;
      same = same;
    }

bitlist_known : (limit s : ℕ) (v : SszValue) → Fits (bitlist limit) v
    → IsReadBack (bitlist limit) s v
bitlist_known limit s (bits bs) h =
    let n = length bs in
    let x = number_of_bits (bs ++ true ∷ []) in
    let one_more : suc (n / 8) ≡ n / 8 + 1 = omega arith in
    let read : IsDelimited limit s n x (le_bytes (n / 8 + 1) x) =
    subst (λ (count : ℕ). IsDelimited limit s n x (le_bytes count x)) one_more
    (delimited_is limit s n x (n / 8) refl h (HasTop-delimited bs)) in
    record {
      faultless = read.faultless;
      value = ap bits (ap₂ bits_of_number read.end read.same ∙ bits_of_number-delimited bs);
    }
bitlist_known limit s _ h = absurd h

bitlist_only : (limit s : ℕ) (b : List ℕ) → IsInput b → bitlist_fault limit s b ≡ None
    → IsWrittenBack (bitlist limit) b
bitlist_only limit s [] input h = cc
bitlist_only limit s (byte ∷ bytes) input h =
    let some = passes (eqb (length (byte ∷ bytes)) 0) _ _ h in
    let ended = passes (eqb (last_after byte bytes) 0) _ _ some.1 in
    let fits = passes (ltb limit (bitlist_length (byte ∷ bytes))) _ _ ended.1 in
    let inside : bitlist_length (byte ∷ bytes) ≤ limit =
    ltb-false limit (bitlist_length (byte ∷ bytes)) fits.0 in
    let pos : 0 < last_after byte bytes = pos_of (last_after byte bytes) ended.0 in
    let low : byte < 256 = input.bytes zero in
    let others : IsBytes bytes = λ i. input.bytes (suc i) in
    let end = bitlist_length-cons byte bytes in
    let n = bitlist_length (byte ∷ bytes) in
    let x = le_number (byte ∷ bytes) in
    let top : HasTop n x = subst (λ (m : ℕ). HasTop m x) (sym end)
    (HasTop-bitlist byte bytes low others pos) in
    let place = highest_bit-is_highest (last_after byte bytes)
    (last_after_lt byte bytes low others) pos in
    let count : length (bits_of_number n x) / 8 + 1 ≡ length (byte ∷ bytes) =
    omega (arith, length-bits_of_number n x, end, place.within) in
    record {
      fits = omega (arith, length-bits_of_number n x, inside);
      bytes = ap₂ le_bytes count (number_of_bits-delimited n x top.low top.high)
          ∙ le_bytes_of (length (byte ∷ bytes)) (byte ∷ bytes) input.bytes refl;
    }

pub Agrees-bitlist : (limit : ℕ) → Agrees (bitlist limit)
Agrees-bitlist limit = record {
  known = λ s v h small. bitlist_known limit s v h;
  only = λ s b h e. bitlist_only limit s b h e;
  sized = λ z v e h. absurd (no_some z e);
  positive = λ z e. absurd (no_some z e);
}
