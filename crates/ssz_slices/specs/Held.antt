-- What a slice holds of its part, and where a step leads from it.
use Rattle.std.specs.Prelude.{ℕ, ◌≡◌, ◌+◌, ◌-◌, ◌*◌, ◌/◌, ◌%◌, ◌^◌, ◌==◌, ◌<◌, ◌≤◌, nat_lt, if◌then◌else◌, is_some, List, [], length, replicate, take, drop, slice_range, slice_index, slice_index_or, Option, Some, None, option_map}
use Rattle.ssz_schema.specs.declared.path.PathStep.{PathStep}
use Rattle.ssz_schema.specs.declared.path.PathStep.TheVariants.{Field, Index, Len, Selector, Option as Chosen}
use Rattle.ssz_schema.specs.width.Width.TheVariants.{W64}
use Rattle.ssz_schema.specs.Types.{SszType, uint, boolean, container, vector, list, bitvector, bitlist, union}
use Rattle.ssz_schema.specs.Sizes.{fixed_size, part_sizes, head_size}
use Rattle.ssz_bytes.specs.Bytes.{le_number}
use Rattle.ssz_bytes.specs.Faults.{bitlist_length}
use Rattle.ssz_schema.specs.Paths.{field_type, field_number}
use Rattle.ssz_value.specs.Values.{SszValue, number, truth}
use Rattle.ssz_value.specs.Encoding.{heads_length}
use Rattle.ssz_value.specs.Faults.{first_fault, element_count}
use Rattle.ssz_value.specs.Reading.{value_in}
use Rattle.ssz_parts.specs.Ranges.{part_range}
use Rattle.ssz_slices.specs.declared.held.Held.{Held}
use Rattle.ssz_slices.specs.declared.held.Held.TheVariants.{Bytes, Bit, Count}
use Rattle.ssz_slices.specs.Place.{Span}

-- the part that is held
abbrev pub held_value : SszType → List ℕ → Held → SszValue
held_value t b (Bytes from to) = value_in t (slice_range b from to)
held_value t b (Bit bit) = truth bit
held_value t b (Count n) = number n

-- where its encoding stands
abbrev pub held_span : Held → Option Span
held_span (Bytes from to) = Some (from, to - from)
held_span (Bit bit) = None
held_span (Count n) = None

-- a stretch of the bytes without a fault
pub record IsStretch (t : SszType) (b : List ℕ) (from to : ℕ) : Type 0 where
  pub up : from ≤ to
  pub inside : to ≤ length b
  pub faultless : first_fault t 0 (slice_range b from to) ≡ None

-- what is held is a part of this type: a stretch of the bytes, a bit or a length
abbrev pub HeldHasType : SszType → List ℕ → Held → Type 0
HeldHasType t b (Bytes from to) = IsStretch t b from to
HeldHasType t b (Bit bit) = t ≡ boolean
HeldHasType t b (Count n) = t ≡ uint W64

-- Below, the bytes have no fault.

abbrev pub stretch : ℕ × ℕ → Held
stretch range = Bytes range.0 range.1

-- the sizes of the fields of a container
abbrev pub field_sizes : SszType → List (Option ℕ)
field_sizes (container fs) = part_sizes fs
field_sizes _ = []

-- from where to where field k lies, where parts of these sizes are the fields
abbrev pub field_range : List (Option ℕ) → ℕ → List ℕ → ℕ × ℕ
field_range sizes k b =
    part_range (slice_index_or sizes k None) (drop (k + 1) sizes) (heads_length (take k sizes)) b

-- from where to where element i of count elements of this size lies
abbrev pub element_range : Option ℕ → ℕ → ℕ → List ℕ → ℕ × ℕ
element_range size count i b =
    part_range size (replicate (count - (i + 1)) size) (i * head_size size) b

-- element i of count elements of this size, if it is present
abbrev pub element_held : Option ℕ → ℕ → ℕ → List ℕ → Option Held
element_held size count i b =
    if nat_lt i count then Some (stretch (element_range size count i b)) else None

-- bit i of n bits, if it is present
abbrev pub bit_held : ℕ → ℕ → List ℕ → Option Held
bit_held n i b = if nat_lt i n then Some (Bit (le_number b / 2 ^ i % 2 == 1)) else None

-- the part to which a step that fits leads, if it is present
abbrev pub held_at_step : SszType → List ℕ → PathStep → Option Held
held_at_step (container fs) b (Field name) =
    if is_some (field_type fs name)
    then Some (stretch (field_range (part_sizes fs) (field_number fs name) b))
    else None
held_at_step (vector elem n) b (Index i) = element_held (fixed_size elem) n i b
held_at_step (list elem limit) b (Index i) =
    element_held (fixed_size elem) (element_count (fixed_size elem) b) i b
held_at_step (list elem limit) b Len = Some (Count (element_count (fixed_size elem) b))
held_at_step (bitvector n) b (Index i) = bit_held n i b
held_at_step (bitlist limit) b (Index i) = bit_held (bitlist_length b) i b
held_at_step (bitlist limit) b Len = Some (Count (bitlist_length b))
held_at_step (union os) b Selector = Some (Bytes 0 1)
held_at_step (union os) b (Chosen k) =
    if slice_index b 0 == k then Some (Bytes 1 (length b)) else None
held_at_step _ _ _ = None

-- of a part of bytes that begin at from
abbrev pub held_moved : ℕ → Held → Held
held_moved from (Bytes start end) = Bytes (from + start) (from + end)
held_moved from (Bit bit) = Bit bit
held_moved from (Count n) = Count n

abbrev pub HasRoom : ℕ → Held → Type 0
HasRoom from (Bytes start end) = (from + start < 2 ^ 64) × (from + end < 2 ^ 64)
HasRoom from (Bit bit) = Unit {0}
HasRoom from (Count n) = Unit {0}

-- the same from a part of the bytes, if that is present; nothing goes on from a bit or a length
abbrev pub held_from : SszType → List ℕ → PathStep → Option Held → Option Held
held_from t b step (Some (Bytes from to)) =
    option_map (held_moved from) (held_at_step t (slice_range b from to) step)
held_from t b step (Some (Bit bit)) = None
held_from t b step (Some (Count n)) = None
held_from t b step None = None
