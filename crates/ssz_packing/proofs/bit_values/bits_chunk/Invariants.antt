use Rattle.std.proofs.Common.{◌≡◌, ◌*◌, drop, length}
use Rattle.ssz_basic.proofs.PutLemmas.{BitsPut}
use Rattle.ssz_packing.proofs.bit_values.bits_chunk.Given as goal

abbrev pub invariant-loop-j : goal.invariant-loop-j
invariant-loop-j l = record {
  put : BitsPut (drop (256 * l.fn.i) l.fn.bits) l.bytes l.j (8 * l.j);
  count : length l.bytes ≡ 32;
}
