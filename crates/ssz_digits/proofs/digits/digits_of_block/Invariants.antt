use Rattle.std.proofs.Common.{◌≡◌, ◌*◌, ◌++◌, length, take, drop}
use Rattle.hex.specs.Hex.{encode_lower}
use Rattle.ssz_digits.proofs.digits.digits_of_block.Given as goal

-- what is written, and what is to come, are all
abbrev pub invariant-loop-i : goal.invariant-loop-i
invariant-loop-i l = record {
  long : length l.digits ≡ 64;
  written : take (2 * l.i) l.digits ++ encode_lower (drop l.i l.block) ≡ encode_lower l.block;
}
