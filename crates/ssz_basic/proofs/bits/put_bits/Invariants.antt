use Rattle.ssz_bytes.specs.Bytes.{delimited}
use Rattle.ssz_basic.proofs.PutLemmas.{BitsPut}
use Rattle.ssz_basic.proofs.bits.put_bits.Given as goal

abbrev pub invariant-loop-byte : goal.invariant-loop-byte
invariant-loop-byte l = BitsPut (delimited l.delimiter l.bits) l.bytes l.byte-index l.from
