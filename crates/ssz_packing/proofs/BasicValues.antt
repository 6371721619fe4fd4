-- Values of basic types, packed.
use Rattle.std.proofs.Common.{◌≡◌, ℕ, zero, suc, ◌^◌, ◌<◌, Bool, true, false, List, [], ◌∷◌, length, map, drop, get_or, Some, refl, sym, ap, subst, arith}
use Rattle.std.specs.List.{AllByRecursion}
use Rattle.std.proofs.lemmas.List.{take_at}
use Rattle.ssz_chunk.specs.Chunk.{zero_chunk}
use Rattle.ssz_schema.specs.width.Width.TheVariants.{W8, W16, W32, W64, W128, W256}
use Rattle.ssz_schema.specs.Types.{SszType, uint, boolean, container, vector, list, bitvector, bitlist, union}
use Rattle.ssz_schema.specs.Sizes.{basic_size}
use Rattle.ssz_bytes.specs.Bytes.{le_bytes, bit_value}
use Rattle.ssz_bytes.proofs.Numbers.{length-le_bytes}
use Rattle.ssz_value.specs.declared.value.Value.{Value}
use Rattle.ssz_value.specs.Values.{SszValue, number, wide, truth, sequence, bits, chosen, chosen_none, Fits}
use Rattle.ssz_value.specs.Encoding.{serialize}
use Rattle.ssz_value.specs.Standing.{value_of}
use Rattle.ssz_value.specs.Trees.{padded}
use Rattle.ssz_packing.specs.Elements.{encodings_of}
use Rattle.ssz_packing.proofs.Filling.{AreSized}
use Rattle.ssz_packing.proofs.ChunkLaws.{padded-le_bytes}

-- a basic value is a number, 32 bytes or a truth value, and its encoding has the type's size

-- a number
number_of_width : (k n : ℕ) → n < 256 ^ k → (le_bytes 32 n ≡ padded (le_bytes k n))
    × (length (le_bytes k n) ≡ k)
number_of_width k n fits = (sym (padded-le_bytes k n fits), length-le_bytes k n)

same_size : (k z n : ℕ) → Some k ≡ Some z → n ≡ k → n ≡ z
same_size k z n e is = cc

pub number_basic : (t : SszType) (z n : ℕ) → basic_size t ≡ Some z → Fits t (number n)
    → (le_bytes 32 n ≡ padded (serialize t (number n))) × (length (serialize t (number n)) ≡ z)
number_basic (uint W8) z n e fits = let h = number_of_width 1 n fits in
    (h.0, same_size 1 z (length (le_bytes 1 n)) e h.1)
number_basic (uint W16) z n e fits = let h = number_of_width 2 n fits in
    (h.0, same_size 2 z (length (le_bytes 2 n)) e h.1)
number_basic (uint W32) z n e fits = let h = number_of_width 4 n fits in
    (h.0, same_size 4 z (length (le_bytes 4 n)) e h.1)
number_basic (uint W64) z n e fits = let h = number_of_width 8 n fits in
    (h.0, same_size 8 z (length (le_bytes 8 n)) e h.1)
number_basic (uint W128) z n e fits = let h = number_of_width 16 n fits in
    (h.0, same_size 16 z (length (le_bytes 16 n)) e h.1)
number_basic (uint W256) z n e fits = absurd fits
number_basic boolean z n e fits = absurd fits
number_basic (container fs) z n e fits = cc
number_basic (vector t m) z n e fits = cc
number_basic (list t m) z n e fits = cc
number_basic (bitvector m) z n e fits = cc
number_basic (bitlist m) z n e fits = cc
number_basic (union os) z n e fits = cc

-- 32 bytes
pub wide_basic : (t : SszType) (z : ℕ) (b : List ℕ) → basic_size t ≡ Some z → Fits t (wide b)
    → (b ≡ padded (serialize t (wide b))) × (length (serialize t (wide b)) ≡ z)
wide_basic (uint W256) z b e fits = (
  sym (take_at b zero_chunk 32 fits.0),
  same_size 32 z (length b) e fits.0,
)
wide_basic (uint W8) z b e fits = absurd fits
wide_basic (uint W16) z b e fits = absurd fits
wide_basic (uint W32) z b e fits = absurd fits
wide_basic (uint W64) z b e fits = absurd fits
wide_basic (uint W128) z b e fits = absurd fits
wide_basic boolean z b e fits = absurd fits
wide_basic (container fs) z b e fits = cc
wide_basic (vector t m) z b e fits = cc
wide_basic (list t m) z b e fits = cc
wide_basic (bitvector m) z b e fits = cc
wide_basic (bitlist m) z b e fits = cc
wide_basic (union os) z b e fits = cc

-- a truth value
pub flag_basic : (t : SszType) (z : ℕ) (b : Bool) → basic_size t ≡ Some z → Fits t (truth b)
    → (le_bytes 32 (bit_value b) ≡ padded (serialize t (truth b)))
    × (length (serialize t (truth b)) ≡ z)
flag_basic boolean z false e fits = (refl, same_size 1 z 1 e refl)
flag_basic boolean z true e fits = (refl, same_size 1 z 1 e refl)
flag_basic (uint W8) z b e fits = absurd fits
flag_basic (uint W16) z b e fits = absurd fits
flag_basic (uint W32) z b e fits = absurd fits
flag_basic (uint W64) z b e fits = absurd fits
flag_basic (uint W128) z b e fits = absurd fits
flag_basic (uint W256) z b e fits = absurd fits
flag_basic (container fs) z b e fits = cc
flag_basic (vector t n) z b e fits = cc
flag_basic (list t n) z b e fits = cc
flag_basic (bitvector n) z b e fits = cc
flag_basic (bitlist n) z b e fits = cc
flag_basic (union os) z b e fits = cc

-- no other form of value is basic
abbrev pub IsOther : SszValue → Type 0
IsOther (number n) = ⊥
IsOther (wide b) = ⊥
IsOther (truth b) = ⊥
IsOther _ = Unit {0}

pub basic_only : (t : SszType) (z : ℕ) (v : SszValue) → basic_size t ≡ Some z → Fits t v → IsOther v
    → ⊥
basic_only (uint W8) z (sequence vs) e fits other = fits
basic_only (uint W8) z (bits bs) e fits other = fits
basic_only (uint W8) z (chosen k v) e fits other = fits
basic_only (uint W8) z (chosen_none k) e fits other = fits
basic_only (uint W8) z (number n) e fits other = other
basic_only (uint W8) z (wide b) e fits other = other
basic_only (uint W8) z (truth b) e fits other = other
basic_only (uint W16) z (sequence vs) e fits other = fits
basic_only (uint W16) z (bits bs) e fits other = fits
basic_only (uint W16) z (chosen k v) e fits other = fits
basic_only (uint W16) z (chosen_none k) e fits other = fits
basic_only (uint W16) z (number n) e fits other = other
basic_only (uint W16) z (wide b) e fits other = other
basic_only (uint W16) z (truth b) e fits other = other
basic_only (uint W32) z (sequence vs) e fits other = fits
basic_only (uint W32) z (bits bs) e fits other = fits
basic_only (uint W32) z (chosen k v) e fits other = fits
basic_only (uint W32) z (chosen_none k) e fits other = fits
basic_only (uint W32) z (number n) e fits other = other
basic_only (uint W32) z (wide b) e fits other = other
basic_only (uint W32) z (truth b) e fits other = other
basic_only (uint W64) z (sequence vs) e fits other = fits
basic_only (uint W64) z (bits bs) e fits other = fits
basic_only (uint W64) z (chosen k v) e fits other = fits
basic_only (uint W64) z (chosen_none k) e fits other = fits
basic_only (uint W64) z (number n) e fits other = other
basic_only (uint W64) z (wide b) e fits other = other
basic_only (uint W64) z (truth b) e fits other = other
basic_only (uint W128) z (sequence vs) e fits other = fits
basic_only (uint W128) z (bits bs) e fits other = fits
basic_only (uint W128) z (chosen k v) e fits other = fits
basic_only (uint W128) z (chosen_none k) e fits other = fits
basic_only (uint W128) z (number n) e fits other = other
basic_only (uint W128) z (wide b) e fits other = other
basic_only (uint W128) z (truth b) e fits other = other
basic_only (uint W256) z (sequence vs) e fits other = fits
basic_only (uint W256) z (bits bs) e fits other = fits
basic_only (uint W256) z (chosen k v) e fits other = fits
basic_only (uint W256) z (chosen_none k) e fits other = fits
basic_only (uint W256) z (number n) e fits other = other
basic_only (uint W256) z (wide b) e fits other = other
basic_only (uint W256) z (truth b) e fits other = other
basic_only boolean z (sequence vs) e fits other = fits
basic_only boolean z (bits bs) e fits other = fits
basic_only boolean z (chosen k v) e fits other = fits
basic_only boolean z (chosen_none k) e fits other = fits
basic_only boolean z (number n) e fits other = other
basic_only boolean z (wide b) e fits other = other
basic_only boolean z (truth b) e fits other = other
basic_only (container fs) z v e fits other = cc
basic_only (vector t m) z v e fits other = cc
basic_only (list t m) z v e fits other = cc
basic_only (bitvector m) z v e fits other = cc
basic_only (bitlist m) z v e fits other = cc
basic_only (union os) z v e fits other = cc

-- the encodings of values of a basic type have its size
pub encodings_sized : (t : SszType) (z : ℕ) (vs : List Value) → basic_size t ≡ Some z
    → AllByRecursion (Fits t) (map value_of vs) → AreSized z (encodings_of t vs)
encodings_sized t z [] e fits = tt
encodings_sized t z (v ∷ vs) e fits = (
  one t z (value_of v) e fits.0,
  encodings_sized t z vs e fits.1,
)
  where
    one : (t : SszType) (z : ℕ) (v : SszValue) → basic_size t ≡ Some z → Fits t v
        → length (serialize t v)
        ≡ z
    one t z (number n) e fits = (number_basic t z n e fits).1
    one t z (wide b) e fits = (wide_basic t z b e fits).1
    one t z (truth b) e fits = (flag_basic t z b e fits).1
    one t z (sequence vs) e fits = absurd (basic_only t z (sequence vs) e fits tt)
    one t z (bits bs) e fits = absurd (basic_only t z (bits bs) e fits tt)
    one t z (chosen k v) e fits = absurd (basic_only t z (chosen k v) e fits tt)
    one t z (chosen_none k) e fits = absurd (basic_only t z (chosen_none k) e fits tt)

-- value k of those from here on, with its encoding
pub record IsEncodedAt (t : SszType) (vs : List Value) (from k : ℕ) (v : Value) : Type 0 where
  pub fits : Fits t (value_of v)
  pub is : get_or (drop from (encodings_of t vs)) k [] ≡ serialize t (value_of v)

pub encoding_at : (t : SszType) (vs : List Value) (from k : ℕ) (v : Value) → k
    < length (drop from vs) → v ≡ get_or (drop from vs) k v
    → AllByRecursion (Fits t) (map value_of vs)
    → IsEncodedAt t vs from k v
encoding_at t vs zero k v within is fits = at vs k within is fits
  where
    at : (vs : List Value) (k : ℕ) → k < length vs → v ≡ get_or vs k v
        → AllByRecursion (Fits t) (map value_of vs) → IsEncodedAt t vs 0 k v
    at [] k within is fits = absurd (omega arith)
    at (w ∷ vs) zero within is fits = record {
      fits =
          subst (λ (x : Value). Fits t (value_of x)) (sym is) fits.0;
      is = ap (λ (x : Value). serialize t (value_of x)) (sym is);
    }
    at (w ∷ vs) (suc k) within is fits = let h = at vs k (omega arith) is fits.1 in
        record { fits = h.fits; is = h.is }
encoding_at t [] (suc from) k v within is fits = absurd (omega arith)
encoding_at t (w ∷ vs) (suc from) k v within is fits = let h =
    encoding_at t vs from k v within is fits.1 in record { fits = h.fits; is = h.is }
