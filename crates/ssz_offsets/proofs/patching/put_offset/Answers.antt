use Rattle.std.proofs.Common.{refl}
use Rattle.ssz_offsets.proofs.Patches.{offset_put, room_of_four}
use Rattle.ssz_offsets.proofs.patching.put_offset.Goals as goal

pub returns : goal.returns
returns c =
    offset_put c.args.place c.args.bytes.now c.write_u32.new.buf _ c.args.offset _
    (room_of_four c.args.bytes.now c.args.place c.requires) c.write_u32.ensures refl
