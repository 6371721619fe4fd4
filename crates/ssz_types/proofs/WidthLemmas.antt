-- How large the numbers of each width are.
use Rattle.std.proofs.Common.{◌≤◌, arith}
use Rattle.ssz_types.specs.declared.width.Width.{Width}
use Rattle.ssz_types.specs.declared.width.Width.TheVariants.{W8, W16, W32, W64, W128, W256}
use Rattle.ssz_types.specs.Sizes.{byte_count}

pub byte_count-small : (w : Width) → byte_count w ≤ 32
byte_count-small W8 = omega arith
byte_count-small W16 = omega arith
byte_count-small W32 = omega arith
byte_count-small W64 = omega arith
byte_count-small W128 = omega arith
byte_count-small W256 = omega arith
