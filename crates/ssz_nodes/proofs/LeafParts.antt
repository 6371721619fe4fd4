-- The values of basic types, by the bytes of a leaf that are their encoding.
use Rattle.std.proofs.Common.{ℕ, ◌+◌, ◌-◌, ◌^◌, ◌<◌, ◌≤◌, ◌≡◌, ◌≢◌, Bool, true, false, eqb, List, [], ◌∷◌, length, take, drop, get_or, slice_range, refl, sym, ap, ◌∙◌, arith}
use Rattle.std.proofs.lemmas.List.{get_or-take, get_or-drop, take_all}
use Rattle.ssz_chunk.specs.declared.Chunk.{Chunk}
use Rattle.ssz_schema.specs.width.Width.{Width}
use Rattle.ssz_schema.specs.width.Width.TheVariants.{W8, W16, W32, W64, W128, W256}
use Rattle.ssz_schema.specs.Types.{uint, boolean}
use Rattle.ssz_schema.specs.Sizes.{byte_count}
use Rattle.ssz_bytes.specs.Bytes.{le_bytes, le_number, bit_value}
use Rattle.ssz_bytes.proofs.Numbers.{le_number-le_bytes, length-le_bytes}
use Rattle.ssz_value.specs.declared.value.Value.TheVariants.{Uint, Wide, Bool as Flag}
use Rattle.ssz_value.specs.Values.{SszValue, number, wide, truth, Fits}
use Rattle.ssz_value.specs.Encoding.{serialize}
use Rattle.ssz_value.specs.Standing.{value_of}
use Rattle.ssz_value.proofs.ValueLemmas.{uint_is, wide_is, flag_is}

-- a number of at most 128 bits
pub record IsNumber (w : Width) (v : SszValue) : Type 0 where
  pub n : ℕ
  pub is : v ≡ number n
  pub small : n < 256 ^ byte_count w

pub is_number : (w : Width) (v : SszValue) → w ≢ W256 → Fits (uint w) v → IsNumber w v
is_number W8 (number n) narrow fit = record { n = n; is = refl; small = fit }
is_number W16 (number n) narrow fit = record { n = n; is = refl; small = fit }
is_number W32 (number n) narrow fit = record { n = n; is = refl; small = fit }
is_number W64 (number n) narrow fit = record { n = n; is = refl; small = fit }
is_number W128 (number n) narrow fit = record { n = n; is = refl; small = fit }
is_number W256 v narrow fit = absurd (narrow refl)
is_number W8 _ narrow fit = absurd fit
is_number W16 _ narrow fit = absurd fit
is_number W32 _ narrow fit = absurd fit
is_number W64 _ narrow fit = absurd fit
is_number W128 _ narrow fit = absurd fit

-- the number of the bytes from a place on
pub number_there : (w : Width) (v : SszValue) (chunk : List ℕ) (from : ℕ) → w ≢ W256
    → Fits (uint w) v
    → slice_range chunk from (from + length (serialize (uint w) v)) ≡ serialize (uint w) v
    → v ≡ number (le_number (slice_range chunk from (from + byte_count w)))
number_there w v chunk from narrow fit there =
    let h : IsNumber w v = is_number w v narrow fit in
    let bytes : serialize (uint w) v ≡ le_bytes (byte_count w) h.n = ap (serialize (uint w)) h.is in
    let long : length (serialize (uint w) v) ≡ byte_count w =
    ap length bytes ∙ length-le_bytes (byte_count w) h.n in
    h.is ∙ ap number (sym (ap le_number
    (ap (λ n. slice_range chunk from (from + n)) (sym long) ∙ there ∙ bytes)
    ∙ le_number-le_bytes (byte_count w) h.n h.small))

pub number_value : (w : Width) (v : SszValue) (chunk : List ℕ) (from n : ℕ) → w ≢ W256
    → Fits (uint w) v
    → slice_range chunk from (from + length (serialize (uint w) v)) ≡ serialize (uint w) v
    → n ≡ le_number (slice_range chunk from (from + byte_count w)) → value_of (Uint n) ≡ v
number_value w v chunk from n narrow fit there is =
    uint_is n ∙ ap number is ∙ sym (number_there w v chunk from narrow fit there)

-- the 32 bytes of a uint256 are the whole chunk
pub wide_value : (v : SszValue) (chunk : Chunk) (from : ℕ) → from + 32 ≤ 32
    → length chunk.0 ≡ 32 → Fits (uint W256) v
    → slice_range chunk.0 from (from + length (serialize (uint W256) v)) ≡ serialize (uint W256) v
    → value_of (Wide chunk) ≡ v
wide_value (wide bytes) chunk from room long fit there =
    let none : from ≡ 0 = omega arith in
    let all : length chunk.0 ≤ length bytes = omega (arith, fit.0) in
    let width : 0 + length bytes - 0 ≡ length bytes = omega arith in
    wide_is chunk ∙ ap wide (sym (take_all (length bytes) chunk.0 all)
    ∙ ap (λ n. take n chunk.0) (sym width)
    ∙ ap (λ n. slice_range chunk.0 n (n + length bytes)) (sym none) ∙ there)
wide_value _ chunk from room long fit there = absurd fit

flag_of : (b : Bool) → eqb (bit_value b) 1 ≡ b
flag_of true = refl
flag_of false = refl

-- the boolean of a byte
pub flag_byte : (b : Bool) (chunk : List ℕ) (from : ℕ)
    → slice_range chunk from (from + 1) ≡ bit_value b ∷ [] → get_or chunk from 0 ≡ bit_value b
flag_byte b chunk from there =
    let one : from + 1 - from ≡ 1 = omega arith in
    let here : take 1 (drop from chunk) ≡ bit_value b ∷ [] =
    ap (λ n. take n (drop from chunk)) (sym one) ∙ there in
    let same : from + 0 ≡ from = omega arith in
    sym (get_or-drop from chunk 0 0 ∙ ap (λ k. get_or chunk k 0) same)
    ∙ sym (get_or-take 1 (drop from chunk) 0 0 (omega arith)) ∙ ap (λ xs. get_or xs 0 0) here

pub flag_there : (v : SszValue) (chunk : List ℕ) (from : ℕ) → Fits boolean v
    → slice_range chunk from (from + length (serialize boolean v)) ≡ serialize boolean v
    → truth (eqb (get_or chunk from 0) 1) ≡ v
flag_there (truth b) chunk from fit there =
    ap (λ n. truth (eqb n 1)) (flag_byte b chunk from there) ∙ ap truth (flag_of b)
flag_there _ chunk from fit there = absurd fit

pub flag_value : (v : SszValue) (chunk : List ℕ) (from : ℕ) → Fits boolean v
    → slice_range chunk from (from + length (serialize boolean v)) ≡ serialize boolean v
    → value_of (Flag (eqb (get_or chunk from 0) 1)) ≡ v
flag_value v chunk from fit there =
    flag_is (eqb (get_or chunk from 0) 1) ∙ flag_there v chunk from fit there
