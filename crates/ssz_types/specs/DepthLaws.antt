-- That the depth of a count is the exponent of next_pow_of_two(count).
use Rattle.std.specs.Prelude.{ℕ, ◌^◌, ◌≤◌}
use Rattle.ssz_types.specs.Sizes.{depth_of}

-- two to the depth of a count is not less than the count
abbrev pub DepthHolds : Type 0
DepthHolds = (count : ℕ) → count ≤ 2 ^ depth_of count

-- and it is the least such power
abbrev pub DepthIsLeast : Type 0
DepthIsLeast = (count exponent : ℕ) → count ≤ 2 ^ exponent → depth_of count ≤ exponent
