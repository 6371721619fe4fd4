use Rattle.std.proofs.Common.{refl}
use Rattle.ssz_codec.proofs.EncodingLemmas.{run_writes}
use Rattle.ssz_codec.proofs.encoding.write_bytes.Goals as goal

pub returns : goal.returns
returns c = run_writes c.args.bytes.now c.copy_from_slice.new.self c.args.bytes.now _ _ refl refl
    c.copy_from_slice.ensures.after
