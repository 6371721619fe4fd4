-- Where the tree of the whole has the part at a path (merkle-proofs.md, SSZ object to index).
use Rattle.std.specs.Prelude.{ℕ, ◌+◌, ◌*◌, ◌/◌, ◌%◌, ◌^◌, [], ◌∷◌, Option, Some, None, option_and_then, unwrap_or}
use Rattle.ssz_schema.specs.declared.path.PathStep.{PathStep}
use Rattle.ssz_schema.specs.declared.path.PathStep.TheVariants.{Field, Index, Len, Selector}
use Rattle.ssz_types.specs.Types.{SszType, container, vector, list, bitvector, bitlist}
use Rattle.ssz_types.specs.Sizes.{basic_size, depth}
use Rattle.ssz_schema.specs.Paths.{Path, field_number, step_type}

-- Below, a step fits the type.

-- the chunk in which element i begins: get_item_position
abbrev pub element_position : Option ℕ → ℕ → ℕ
element_position (Some z) i = i * z / 32
element_position None i = i

-- How many levels a step goes down: the depth over the chunks, and one more
-- where the length stands beside them.
-- So 2 ^ step_levels is the standard's base_index * get_power_of_two_ceil(chunk_count).
abbrev pub step_levels : SszType → PathStep → ℕ
step_levels (container fs) step = depth (container fs)
step_levels (vector elem n) step = depth (vector elem n)
step_levels (list elem limit) (Index i) = depth (list elem limit) + 1
step_levels (bitvector n) step = depth (bitvector n)
step_levels (bitlist limit) (Index i) = depth (bitlist limit) + 1
-- a length, a selector, and the value of a union
step_levels _ _ = 1

-- which of the nodes so many levels down a step leads to, from the left
abbrev pub step_position : SszType → PathStep → ℕ
step_position (container fs) (Field name) = field_number fs name
step_position (vector elem n) (Index i) = element_position (basic_size elem) i
step_position (list elem limit) (Index i) = element_position (basic_size elem) i
step_position (bitvector n) (Index i) = i / 256
step_position (bitlist limit) (Index i) = i / 256
step_position t Len = 1
step_position t Selector = 1
-- the value of a union
step_position _ _ = 0

-- the index of the part that a step leads to, where that of the whole is k
abbrev pub step_index : ℕ → SszType → PathStep → ℕ
step_index k t step = k * 2 ^ step_levels t step + step_position t step

-- how many levels a path goes down
abbrev pub path_levels : SszType → Path → ℕ
path_levels t [] = 0
path_levels t (step ∷ path) = step_levels t step + path_levels (unwrap_or (step_type t step) t) path

-- the generalized index of the part at a path, where that of the
-- whole is k, if the path fits the type
abbrev pub generalized_index_from : ℕ → SszType → Path → Option ℕ
generalized_index_from k t [] = Some k
generalized_index_from k t (step ∷ path) =
    option_and_then (λ part. generalized_index_from (step_index k t step) part path)
    (step_type t step)

-- the generalized index of the part at a path: get_generalized_index, where the root has 1
abbrev pub generalized_index : SszType → Path → Option ℕ
generalized_index t path = generalized_index_from 1 t path

-- Where a part lies in the node of its index: it is the whole node, or it
-- begins at this byte or is this bit of a leaf.
pub data Spot : Type 0 where
  whole : Spot
  byte : ℕ → Spot
  bit : ℕ → Spot

abbrev pub element_spot : Option ℕ → ℕ → Spot
element_spot (Some z) i = byte (i * z % 32)
element_spot None i = whole

abbrev pub step_spot : SszType → PathStep → Spot
step_spot (vector elem n) (Index i) = element_spot (basic_size elem) i
step_spot (list elem limit) (Index i) = element_spot (basic_size elem) i
step_spot (bitvector n) (Index i) = bit (i % 256)
step_spot (bitlist limit) (Index i) = bit (i % 256)
step_spot _ _ = whole

-- the spot of the part at a path whose last steps are these, where
-- that of the value before them is given
abbrev pub spot_from : Spot → SszType → Path → Option Spot
spot_from spot t [] = Some spot
spot_from spot t (step ∷ path) =
    option_and_then (λ part. spot_from (step_spot t step) part path) (step_type t step)

-- the spot of the part at a path
abbrev pub spot : SszType → Path → Option Spot
spot t path = spot_from whole t path
