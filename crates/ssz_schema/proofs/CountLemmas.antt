-- How many chunks the tree of a legal type has.
use Rattle.std.proofs.Common.{ℕ, ◌^◌, ◌≤◌, ◌≡◌, Option, Some, None, refl, arith, mul-le-mul_left}
use Rattle.ssz_types.specs.declared.format.Format.{Format}
use Rattle.ssz_types.specs.declared.format.Format.TheVariants.{One, Two}
use Rattle.ssz_types.specs.Types.{SszType, uint, boolean, container, vector, list, bitvector, bitlist, union}
use Rattle.ssz_types.specs.Sizes.{byte_count, basic_size, element_chunks, chunk_count, depth}
use Rattle.ssz_types.specs.Legal.{IsLegal, greatest_limit}
use Rattle.ssz_types.proofs.DepthLemmas.{depth_of-least}
use Rattle.ssz_schema.proofs.SizeLemmas.{some_is, none_is, vector_few, fields_few}
use Rattle.ssz_types.proofs.WidthLemmas.{byte_count-small}

-- the limits of both formats
pub greatest_limit-small : (format : Format) → greatest_limit format ≤ 2 ^ 62
greatest_limit-small One = omega arith
greatest_limit-small Two = omega arith

-- a value of a basic type fits a chunk
pub basic_size-small : (t : SszType) (z : ℕ) → basic_size t ≡ Some z → z ≤ 32
basic_size-small (uint w) z e = omega (arith, byte_count-small w, some_is (byte_count w) z e)
basic_size-small boolean z e = omega (arith, some_is 1 z e)
basic_size-small (container fs) z e = absurd (none_is z e)
basic_size-small (vector t n) z e = absurd (none_is z e)
basic_size-small (list t n) z e = absurd (none_is z e)
basic_size-small (bitvector n) z e = absurd (none_is z e)
basic_size-small (bitlist n) z e = absurd (none_is z e)
basic_size-small (union os) z e = absurd (none_is z e)

-- elements have no more chunks than there are
pub element_chunks-few : (t : SszType) (n : ℕ) → element_chunks (basic_size t) n ≤ n
element_chunks-few t n = go (basic_size t) (basic_size-small t)
  where
    go : (size : Option ℕ) → ((z : ℕ) → size ≡ Some z → z ≤ 32) → element_chunks size n ≤ n
    go None small = omega arith
    go (Some z) small = omega (arith, mul-le-mul_left n (small z refl))

pub chunk_count-small : (format : Format) (t : SszType) → IsLegal format t
    → chunk_count t ≤ 2 ^ 62
chunk_count-small format (uint w) legal = omega arith
chunk_count-small format boolean legal = omega arith
chunk_count-small format (container fs) legal =
    omega (arith, fields_few format fs legal.1, legal.3.default_length)
chunk_count-small format (vector t n) legal =
    omega (arith, element_chunks-few t n, vector_few format t n legal)
chunk_count-small format (list t limit) legal =
    omega (arith, element_chunks-few t limit, legal.1, greatest_limit-small format)
chunk_count-small format (bitvector n) legal = omega (arith, legal.1.default_length)
chunk_count-small format (bitlist limit) legal =
    omega (arith, legal.0, greatest_limit-small format)
chunk_count-small format (union os) legal = omega arith

pub depth-small : (format : Format) (t : SszType) → IsLegal format t → depth t ≤ 62
depth-small format t legal = depth_of-least (chunk_count t) 62 (chunk_count-small format t legal)
