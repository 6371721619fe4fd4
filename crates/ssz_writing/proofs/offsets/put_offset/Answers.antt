use Rattle.std.proofs.Common.{refl}
use Rattle.ssz_writing.proofs.Rooms.{put_kept}
use Rattle.ssz_writing.proofs.offsets.put_offset.Goals as goal

pub returns-clause-kept : goal.returns-clause-kept
returns-clause-kept c = λ front within kept.
    put_kept c.args.room c.args.bytes.now _ _ front refl within kept
