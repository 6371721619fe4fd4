-- The first fault of bytes that are to be an encoding: what simple-serialize.md, Deserialization,
-- has refused, in the order and at the positions of this project. A scope is a part of the bytes
-- with the type of which it is to encode a value.
use Rattle.std.specs.Prelude.{ℕ, zero, suc, ◌+◌, ◌/◌, ◌%◌, ◌==◌, nat_lt, not, ◌||◌, if◌then◌else◌, List, [], ◌∷◌, length, replicate, take, drop, slice_range, Option, Some, None}
use Rattle.ssz_bytes.specs.declared.fault.Fault.{Fault}
use Rattle.ssz_schema.specs.Types.{SszType, Fields, Options, uint, boolean, container, vector, list, bitvector, bitlist, union, field, no_options, none_option, option}
use Rattle.ssz_schema.specs.Sizes.{offset_size, byte_count, fixed_size, part_sizes, option_count}
use Rattle.ssz_bytes.specs.Bytes.{le_number}
use Rattle.ssz_bytes.specs.Faults.{short, extra, first_offset, offset_range, offset_order, ragged, too_many, bad_selector, bool_fault, bitvector_fault, bitlist_fault}
use Rattle.ssz_value.specs.Encoding.{heads_length}

infixr 20 ◌otherwise◌
-- the first fault, or where there is none the second
abbrev pub ◌otherwise◌ : Option Fault → Option Fault → Option Fault
(Some found) otherwise other = Some found
None otherwise other = other

-- the bytes are exactly z
abbrev pub length_fault : ℕ → ℕ → List ℕ → Option Fault
length_fault z s b =
    if nat_lt (length b) z then short s
    else if nat_lt z (length b) then extra (s + z)
    else None

-- the offset that stands at this place
abbrev pub offset_at : List ℕ → ℕ → ℕ
offset_at b place = le_number (take offset_size (drop place b))

-- Below, sizes are the fixed sizes of the parts whose fixed parts begin at place.

-- the first offset there, or the end where no part is variable-size
abbrev pub next_offset : List (Option ℕ) → ℕ → List ℕ → ℕ
next_offset [] place b = length b
next_offset (Some z ∷ sizes) place b = next_offset sizes (place + z) b
next_offset (None ∷ sizes) place b = offset_at b place

-- each later offset is within the scope, and not below the one before
abbrev pub later_fault : List (Option ℕ) → ℕ → ℕ → ℕ → List ℕ → Option Fault
later_fault [] place before s b = None
later_fault (Some z ∷ sizes) place before s b = later_fault sizes (place + z) before s b
later_fault (None ∷ sizes) place before s b =
    if nat_lt (length b) (offset_at b place) then offset_range (s + place)
    else if nat_lt (offset_at b place) before then offset_order (s + place)
    else later_fault sizes (place + offset_size) (offset_at b place) s b

-- the first offset is where the fixed parts end; with no offset nothing follows them
abbrev pub first_offset_fault : List (Option ℕ) → ℕ → ℕ → ℕ → List ℕ → Option Fault
first_offset_fault [] place end s b = if nat_lt end (length b) then extra (s + end) else None
first_offset_fault (Some z ∷ sizes) place end s b = first_offset_fault sizes (place + z) end s b
first_offset_fault (None ∷ sizes) place end s b =
    if offset_at b place == end then later_fault sizes (place + offset_size) end s b
    else first_offset (s + place)

-- the head of a scope of these parts
abbrev pub head_fault : List (Option ℕ) → ℕ → List ℕ → Option Fault
head_fault sizes s b =
    if nat_lt (length b) (heads_length sizes) then short s
    else first_offset_fault sizes 0 (heads_length sizes) s b

-- A part of the bytes: where it begins, and its bytes.
abbrev pub Scope : Type 0
Scope = ℕ × List ℕ

-- the parts: a fixed-size part at its place, another from its offset to the next offset, the last
-- of these to the end
abbrev pub scopes : List (Option ℕ) → ℕ → List ℕ → List Scope
scopes [] place b = []
scopes (Some z ∷ sizes) place b =
    (place, slice_range b place (place + z)) ∷ scopes sizes (place + z) b
scopes (None ∷ sizes) place b = (
  offset_at b place,
  slice_range b (offset_at b place) (next_offset sizes (place + offset_size) b),
)
    ∷ scopes sizes (place + offset_size) b

-- the bytes of each part
abbrev pub scope_bytes : List Scope → List (List ℕ)
scope_bytes [] = []
scope_bytes (part ∷ parts) = part.1 ∷ scope_bytes parts

-- the first fault of parts of one type, whose faults are child's
abbrev pub alike_fault : (ℕ → List ℕ → Option Fault) → ℕ → List Scope → Option Fault
alike_fault child s [] = None
alike_fault child s (part ∷ parts) = child (s + part.0) part.1 otherwise alike_fault child s parts

-- of count elements of one type: of their head, then of the elements in order
abbrev pub elements_fault : (ℕ → List ℕ → Option Fault) → Option ℕ → ℕ → ℕ → List ℕ → Option Fault
elements_fault child size count s b =
    head_fault (replicate count size) s b
    otherwise alike_fault child s (scopes (replicate count size) 0 b)

-- how many elements a list has in these bytes
abbrev pub element_count : Option ℕ → List ℕ → ℕ
element_count (Some z) b = length b / z
element_count None b = offset_at b 0 / offset_size

-- what makes the number of elements wrong
abbrev pub count_fault : Option ℕ → ℕ → ℕ → List ℕ → Option Fault
count_fault (Some z) limit s b =
    if not (length b % z == 0) then ragged s
    else if nat_lt limit (length b / z) then too_many s
    else None
count_fault None limit s b =
    if length b == 0 then None
    else if nat_lt (length b) offset_size then short s
    else if offset_at b 0 == 0 || not (offset_at b 0 % offset_size == 0) then first_offset s
    else if nat_lt (length b) (offset_at b 0) then offset_range s
    else if nat_lt limit (offset_at b 0 / offset_size) then too_many s
    else None

abbrev mutual
  -- the first fault of a scope that begins at s: of its head, then of its children in order
  pub first_fault : SszType → ℕ → List ℕ → Option Fault
  first_fault (uint w) s b = length_fault (byte_count w) s b
  first_fault boolean s b = length_fault 1 s b otherwise bool_fault s b
  first_fault (container fs) s b =
      head_fault (part_sizes fs) s b otherwise fields_fault fs s (scopes (part_sizes fs) 0 b)
  first_fault (vector elem n) s b = elements_fault (first_fault elem) (fixed_size elem) n s b
  first_fault (list elem limit) s b =
      count_fault (fixed_size elem) limit s b
      otherwise elements_fault (first_fault elem) (fixed_size elem)
      (element_count (fixed_size elem) b) s b
  first_fault (bitvector n) s b = length_fault ((n + 7) / 8) s b otherwise bitvector_fault n s b
  first_fault (bitlist limit) s b = bitlist_fault limit s b
  first_fault (union os) s [] = short s
  first_fault (union os) s (k ∷ b) =
      if nat_lt k (option_count os) then option_fault os k (s + 1) b else bad_selector s

  -- of the fields, whose scopes are parts
  pub fields_fault : Fields → ℕ → List Scope → Option Fault
  fields_fault (field name t fs) s (part ∷ parts) =
      first_fault t (s + part.0) part.1 otherwise fields_fault fs s parts
  fields_fault _ s _ = None

  -- of the option of this number, whose bytes begin at s; None has none
  pub option_fault : Options → ℕ → ℕ → List ℕ → Option Fault
  option_fault no_options k s b = None
  option_fault (none_option os) zero s b = if nat_lt 0 (length b) then extra s else None
  option_fault (option t os) zero s b = first_fault t s b
  option_fault (none_option os) (suc k) s b = option_fault os k s b
  option_fault (option t os) (suc k) s b = option_fault os k s b
