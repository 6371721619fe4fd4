-- What is read off a type alone: sizes, counts of chunks, depth, levels, nesting.
use Rattle.std.specs.Prelude.{ℕ, zero, suc, ◌+◌, ◌*◌, ◌/◌, max, Bool, if◌then◌else◌, nat_le, List, [], ◌∷◌, Option, Some, None, is_none, option_map}
use Rattle.ssz_types.specs.declared.width.Width.{Width}
use Rattle.ssz_types.specs.declared.width.Width.TheVariants.{W8, W16, W32, W64, W128, W256}
use Rattle.ssz_types.specs.Types.{SszType, Fields, Options, uint, boolean, container, vector, list, bitvector, bitlist, union, no_fields, field, no_options, none_option, option}

-- the bytes of a number of this width
abbrev pub byte_count : Width → ℕ
byte_count W8 = 1
byte_count W16 = 2
byte_count W32 = 4
byte_count W64 = 8
byte_count W128 = 16
byte_count W256 = 32

-- Fixed and variable size (simple-serialize.md, Variable-size and fixed-size).

-- the sum of the sizes, where all are fixed
abbrev pub total_size : List (Option ℕ) → Option ℕ
total_size [] = Some 0
total_size (None ∷ sizes) = None
total_size (Some z ∷ sizes) = option_map (λ rest. z + rest) (total_size sizes)

abbrev mutual
  -- the length of every encoding of a fixed-size type, or None for a variable-size type
  pub fixed_size : SszType → Option ℕ
  fixed_size (uint w) = Some (byte_count w)
  fixed_size boolean = Some 1
  fixed_size (container fs) = total_size (part_sizes fs)
  fixed_size (vector elem n) = option_map (λ z. n * z) (fixed_size elem)
  fixed_size (list elem limit) = None
  fixed_size (bitvector n) = Some ((n + 7) / 8)
  fixed_size (bitlist limit) = None
  fixed_size (union os) = None

  -- the fixed size of each field
  pub part_sizes : Fields → List (Option ℕ)
  part_sizes no_fields = []
  part_sizes (field name t fs) = fixed_size t ∷ part_sizes fs

-- lists, bitlists, unions, and each type that contains a variable-size type
abbrev pub is_variable : SszType → Bool
is_variable t = is_none (fixed_size t)

abbrev pub field_count : Fields → ℕ
field_count no_fields = 0
field_count (field name t fs) = field_count fs + 1

abbrev pub option_count : Options → ℕ
option_count no_options = 0
option_count (none_option os) = option_count os + 1
option_count (option t os) = option_count os + 1

-- Chunks (simple-serialize.md, Merkleization).

-- the size of a basic type, a number or a boolean; None for a composite type
abbrev pub basic_size : SszType → Option ℕ
basic_size (uint w) = Some (byte_count w)
basic_size boolean = Some 1
basic_size (container fs) = None
basic_size (vector elem n) = None
basic_size (list elem limit) = None
basic_size (bitvector n) = None
basic_size (bitlist limit) = None
basic_size (union os) = None

-- the chunks of n elements: packed where they are basic, one each where they are composite
abbrev pub element_chunks : Option ℕ → ℕ → ℕ
element_chunks (Some z) n = (n * z + 31) / 32
element_chunks None n = n

-- chunk_count; that of a union, used for generalized indices alone, is this project's
abbrev pub chunk_count : SszType → ℕ
chunk_count (uint w) = 1
chunk_count boolean = 1
chunk_count (container fs) = field_count fs
chunk_count (vector elem n) = element_chunks (basic_size elem) n
chunk_count (list elem limit) = element_chunks (basic_size elem) limit
chunk_count (bitvector n) = (n + 255) / 256
chunk_count (bitlist limit) = (limit + 255) / 256
chunk_count (union os) = 1

-- how often a count is halved, rounded up, until it is at most 1; at most fuel times
unfoldable pub exponent : ℕ → ℕ → ℕ
exponent zero count = 0
exponent (suc fuel) count = if nat_le count 1 then 0 else (exponent fuel ((count + 1) / 2) + 1)

-- the exponent of next_pow_of_two(count), which is 0 for 0
unfoldable pub depth_of : ℕ → ℕ
depth_of count = exponent count count

-- the depth of the tree over the chunks
abbrev pub depth : SszType → ℕ
depth t = depth_of (chunk_count t)

abbrev mutual
  -- the longest path of the type's tree
  pub type_levels : SszType → ℕ
  type_levels (uint w) = 0
  type_levels boolean = 0
  type_levels (container fs) = depth_of (field_count fs) + field_levels fs
  type_levels (vector elem n) = depth_of (element_chunks (basic_size elem) n) + type_levels elem
  type_levels (list elem limit) =
      depth_of (element_chunks (basic_size elem) limit) + type_levels elem + 1
  type_levels (bitvector n) = depth_of ((n + 255) / 256)
  type_levels (bitlist limit) = depth_of ((limit + 255) / 256) + 1
  type_levels (union os) = option_levels os + 1

  -- the greatest levels of a field
  pub field_levels : Fields → ℕ
  field_levels no_fields = 0
  field_levels (field name t fs) = max (type_levels t) (field_levels fs)

  -- the greatest levels of an option, None counting 0
  pub option_levels : Options → ℕ
  option_levels no_options = 0
  option_levels (none_option os) = option_levels os
  option_levels (option t os) = max (type_levels t) (option_levels os)

abbrev mutual
  -- how deep types stand in one another: basic types and types of bits 1, None 0
  pub nesting : SszType → ℕ
  nesting (uint w) = 1
  nesting boolean = 1
  nesting (container fs) = field_nesting fs + 1
  nesting (vector elem n) = nesting elem + 1
  nesting (list elem limit) = nesting elem + 1
  nesting (bitvector n) = 1
  nesting (bitlist limit) = 1
  nesting (union os) = option_nesting os + 1

  pub field_nesting : Fields → ℕ
  field_nesting no_fields = 0
  field_nesting (field name t fs) = max (nesting t) (field_nesting fs)

  pub option_nesting : Options → ℕ
  option_nesting no_options = 0
  option_nesting (none_option os) = option_nesting os
  option_nesting (option t os) = max (nesting t) (option_nesting os)

-- The default's encoding (simple-serialize.md, Default values, Serialization).

-- BYTES_PER_LENGTH_OFFSET
abbrev pub offset_size : ℕ
offset_size = 4

-- what a part takes among the fixed parts: itself, or an offset
abbrev pub head_size : Option ℕ → ℕ
head_size (Some z) = z
head_size None = offset_size

-- what a part of this length adds to the whole: itself, and its offset if it is variable-size
abbrev pub part_length : Option ℕ → ℕ → ℕ
part_length (Some z) n = n
part_length None n = offset_size + n

abbrev mutual
  -- the length of the encoding of the type's default
  pub default_length : SszType → ℕ
  default_length (uint w) = byte_count w
  default_length boolean = 1
  default_length (container fs) = default_fields_length fs
  default_length (vector elem n) = n * part_length (fixed_size elem) (default_length elem)
  default_length (list elem limit) = 0
  default_length (bitvector n) = (n + 7) / 8
  default_length (bitlist limit) = 1
  default_length (union os) = 1 + default_option_length os

  pub default_fields_length : Fields → ℕ
  default_fields_length no_fields = 0
  default_fields_length (field name t fs) =
      part_length (fixed_size t) (default_length t) + default_fields_length fs

  -- that of the first option's default, which is nothing for None
  pub default_option_length : Options → ℕ
  default_option_length no_options = 0
  default_option_length (none_option os) = 0
  default_option_length (option t os) = default_length t
