-- How long the parts of an encoding are, with their offsets.
use Rattle.std.proofs.Common.{ℕ, zero, suc, ◌+◌, ◌*◌, ◌≡◌, replicate, Option, Some, None, sym, ap, ◌∙◌, arith}
use Rattle.ssz_schema.specs.format.Format.{Format}
use Rattle.ssz_schema.specs.Types.{SszType}
use Rattle.ssz_schema.specs.Sizes.{fixed_size, head_size, part_length}
use Rattle.ssz_schema.specs.Legal.{IsLegal}
use Rattle.ssz_value.specs.Values.{SszValue, Fits}
use Rattle.ssz_value.specs.Encoding.{heads_length}
use Rattle.ssz_value.specs.Sizes.{size}
use Rattle.ssz_value.proofs.ExactLaw.{agrees}
use Rattle.ssz_value.proofs.SizeLaw.{measured}

-- the values of a fixed-size type have one size
pub fixed_length : (format : Format) (t : SszType) (z : ℕ) (v : SszValue) → IsLegal format t
    → fixed_size t ≡ Some z → Fits t v → size t v ≡ z
fixed_length format t z v legal fixed fit =
    sym ((measured t).length_is v fit) ∙ (agrees format t legal).sized z v fixed fit

pub fixed_part : (format : Format) (t : SszType) (z : ℕ) (v : SszValue) → IsLegal format t
    → fixed_size t ≡ Some z → Fits t v → part_length (fixed_size t) (size t v) ≡ z
fixed_part format t z v legal fixed fit =
    ap (λ s. part_length s (size t v)) fixed ∙ fixed_length format t z v legal fixed fit

-- a part of variable size, with its offset
pub variable_part : (t : SszType) (v : SszValue) → fixed_size t ≡ None
    → part_length (fixed_size t) (size t v) ≡ 4 + size t v
variable_part t v none = ap (λ s. part_length s (size t v)) none

-- the fixed parts of elements are all of one length
pub heads_alike : (n : ℕ) (size : Option ℕ) → heads_length (replicate n size) ≡ n * head_size size
heads_alike zero size = omega arith
heads_alike (suc n) size = omega (arith, heads_alike n size)
