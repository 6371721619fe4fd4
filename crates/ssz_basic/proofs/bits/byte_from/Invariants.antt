use Rattle.ssz_bytes.specs.Bytes.{delimited}
use Rattle.ssz_basic.proofs.PutLemmas.{ByteOf}
use Rattle.ssz_basic.proofs.bits.byte_from.Given as goal

abbrev pub invariant-loop-k : goal.invariant-loop-k
invariant-loop-k l = ByteOf (delimited l.delimiter l.bits) l.from l.k l.byte
