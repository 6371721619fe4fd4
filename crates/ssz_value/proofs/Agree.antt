-- What the law says of one type, and of fields and options.
use Rattle.std.proofs.Common.{ℕ, suc, ◌+◌, ◌-◌, ◌^◌, ◌<◌, ◌≤◌, ◌≡◌, ◌⊎◌, List, [], ◌∷◌, length, drop, slice_range, Option, Some, None, refl, ap, arith, length-drop, length-take, ltb-false, le-ltb}
use Rattle.ssz_schema.specs.Types.{SszType, Fields, Options}
use Rattle.ssz_schema.specs.Sizes.{fixed_size, part_sizes, option_count, total_size}
use Rattle.ssz_bytes.specs.declared.fault.Fault.{Fault}
use Rattle.ssz_bytes.specs.Bytes.{IsBytes}
use Rattle.ssz_value.specs.Values.{SszValue, Fits, FitFields, FitsOption, IsNoneOption, chosen, chosen_none}
use Rattle.ssz_value.specs.Encoding.{serialize, field_encodings, option_encoding}
use Rattle.ssz_value.specs.Faults.{first_fault, fields_fault, option_fault, Scope, scopes, scope_bytes, length_fault, ◌otherwise◌, next_offset, offset_at}
use Rattle.ssz_value.specs.Reading.{value_in, fields_in, option_in}
use Rattle.ssz_value.proofs.Cut.{AreParts, passed, passes}
use Rattle.ssz_bytes.proofs.Numbers.{IsBytes-drop, IsBytes-take}

-- the bytes of the value have no fault, and are read as this value
pub record IsReadBack (t : SszType) (s : ℕ) (v : SszValue) : Type 0 where
  pub faultless : first_fault t s (serialize t v) ≡ None
  pub value : value_in t (serialize t v) ≡ v

-- the bytes are the encoding of the value that is read
pub record IsWrittenBack (t : SszType) (b : List ℕ) : Type 0 where
  pub fits : Fits t (value_in t b)
  pub bytes : serialize t (value_in t b) ≡ b

-- bytes, fewer than 2 ^ 32
pub record IsInput (b : List ℕ) : Type 0 where
  pub bytes : IsBytes b
  pub short : length b < 2 ^ 32

-- the law at one type, and what its size says
pub record Agrees (t : SszType) : Type 0 where
  pub known : (s : ℕ) (v : SszValue) → Fits t v → length (serialize t v) < 2 ^ 32 → IsReadBack t s v
  pub only : (s : ℕ) (b : List ℕ) → IsInput b → first_fault t s b ≡ None → IsWrittenBack t b
  pub sized : (z : ℕ) (v : SszValue) → fixed_size t ≡ Some z → Fits t v → length (serialize t v) ≡ z
  pub positive : (z : ℕ) → fixed_size t ≡ Some z → 0 < z

abbrev pub AreShort : List Scope → Type 0
AreShort [] = Unit {0}
AreShort (part ∷ parts) = (length part.1 < 2 ^ 32) × AreShort parts

abbrev pub AreInputs : List Scope → Type 0
AreInputs [] = Unit {0}
AreInputs (part ∷ parts) = IsInput part.1 × AreInputs parts

-- the law at fields
pub record FieldsAgree (fs : Fields) : Type 0 where
  pub known : (s : ℕ) (vs : List SszValue) (parts : List Scope) → FitFields fs vs → AreShort parts
      → scope_bytes parts ≡ field_encodings fs vs
      → (fields_fault fs s parts ≡ None) × (fields_in fs (scope_bytes parts) ≡ vs)
  pub only : (s : ℕ) (parts : List Scope) → AreInputs parts → length parts ≡ length (part_sizes fs)
      → fields_fault fs s parts ≡ None
      → FitFields fs (fields_in fs (scope_bytes parts)) ×
      (field_encodings fs (fields_in fs (scope_bytes parts)) ≡ scope_bytes parts)
  pub sized : (vs : List SszValue) → FitFields fs vs
      → AreParts (part_sizes fs) (field_encodings fs vs)
  pub positive : (z : ℕ) → 0 < length (part_sizes fs) → total_size (part_sizes fs) ≡ Some z → 0 < z

-- bytes that are read as an option, which is None or has a type
pub record IsNoneRead (os : Options) (left k : ℕ) (b : List ℕ) : Type 0 where
  pub fits : IsNoneOption os left
  pub value : option_in os left k b ≡ chosen_none k
  pub bytes : b ≡ []

pub record IsChosenRead (os : Options) (left k : ℕ) (b : List ℕ) : Type 0 where
  pub inner : SszValue
  pub fits : FitsOption os left inner
  pub value : option_in os left k b ≡ chosen k inner
  pub bytes : option_encoding os left inner ≡ b

-- the law at options
pub record OptionsAgree (os : Options) : Type 0 where
  pub known : (s left k : ℕ) (v : SszValue) → FitsOption os left v
      → length (option_encoding os left v) < 2 ^ 32
      → (left < option_count os) × (option_fault os left s (option_encoding os left v) ≡ None) ×
      (option_in os left k (option_encoding os left v) ≡ chosen k v)
  pub known_none : (s left k : ℕ) → IsNoneOption os left
      → (left < option_count os) × (option_fault os left s [] ≡ None) ×
      (option_in os left k [] ≡ chosen_none k)
  pub only : (s left k : ℕ) (b : List ℕ) → IsInput b → left < option_count os
      → option_fault os left s b ≡ None
      → IsNoneRead os left k b ⊎ IsChosenRead os left k b

-- faults in a row
pub no_fault : (a b : Option Fault) → a ≡ None → b ≡ None → (a otherwise b) ≡ None
no_fault (Some f) b e k = e
no_fault None b e k = k

pub no_faults : (a b : Option Fault) → (a otherwise b) ≡ None → (a ≡ None) × (b ≡ None)
no_faults (Some f) b e = cc
no_faults None b e = (refl, e)

pub right_length : (z s : ℕ) (b : List ℕ) → length b ≡ z → length_fault z s b ≡ None
right_length z s b e = passed _ _ _ (le-ltb (length b) z (omega arith))
    (passed _ _ _ (le-ltb z (length b) (omega arith)) refl)

pub length_from_fault : (z s : ℕ) (b : List ℕ) → length_fault z s b ≡ None → length b ≡ z
length_from_fault z s b h =
    let long = passes _ _ _ h in
    let exact = passes _ _ _ long.1 in
    let low : z ≤ length b = ltb-false _ _ long.0 in
    let high : length b ≤ z = ltb-false _ _ exact.0 in
    omega arith

pub same_some : (a b : ℕ) → Some a ≡ Some b → a ≡ b
same_some a b e = cc

pub no_some : (a : ℕ) → None ≡ Some a → ⊥
no_some a e = cc

-- the parts of short bytes are short, and those of an input are inputs
short_range : (b : List ℕ) (from to : ℕ) → length b < 2 ^ 32
    → length (slice_range b from to) < 2 ^ 32
short_range b from to h = omega (arith, length-take (to - from) (drop from b), length-drop from b)

pub IsInput-range : (b : List ℕ) (from to : ℕ) → IsInput b → IsInput (slice_range b from to)
IsInput-range b from to h = record {
  bytes = IsBytes-take (to - from) (drop from b) (IsBytes-drop from b h.bytes);
  short = short_range b from to h.short;
}

pub AreShort-scopes : (sizes : List (Option ℕ)) (place : ℕ) (b : List ℕ) → length b < 2 ^ 32
    → AreShort (scopes sizes place b)
AreShort-scopes [] place b h = tt
AreShort-scopes (Some z ∷ sizes) place b h =
    (short_range b place (place + z) h, AreShort-scopes sizes (place + z) b h)
AreShort-scopes (None ∷ sizes) place b h = (
  short_range b (offset_at b place) (next_offset sizes (place + 4) b) h,
  AreShort-scopes sizes
      (place + 4) b h,
)

pub AreInputs-scopes : (sizes : List (Option ℕ)) (place : ℕ) (b : List ℕ) → IsInput b
    → AreInputs (scopes sizes place b)
AreInputs-scopes [] place b h = tt
AreInputs-scopes (Some z ∷ sizes) place b h =
    (IsInput-range b place (place + z) h, AreInputs-scopes sizes (place + z) b h)
AreInputs-scopes (None ∷ sizes) place b h = (
  IsInput-range b (offset_at b place) (next_offset sizes (place + 4) b) h,
  AreInputs-scopes sizes
      (place + 4) b h,
)

pub length-scopes : (sizes : List (Option ℕ)) (place : ℕ) (b : List ℕ)
    → length (scopes sizes place b) ≡ length sizes
length-scopes [] place b = refl
length-scopes (Some z ∷ sizes) place b = ap suc (length-scopes sizes (place + z) b)
length-scopes (None ∷ sizes) place b = ap suc (length-scopes sizes (place + 4) b)

pub length-bytes_of : (parts : List Scope) → length (scope_bytes parts) ≡ length parts
length-bytes_of [] = refl
length-bytes_of (part ∷ parts) = ap suc (length-bytes_of parts)
