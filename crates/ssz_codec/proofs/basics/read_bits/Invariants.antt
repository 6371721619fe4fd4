use Rattle.std.proofs.Common.{◌≡◌}
use Rattle.ssz_bytes.specs.Bytes.{le_number, bits_of_number}
use Rattle.ssz_codec.proofs.basics.read_bits.Given as goal

abbrev pub invariant-loop-i : goal.invariant-loop-i
invariant-loop-i l = l.bits.items ≡ bits_of_number l.i (le_number l.bytes)
