use Rattle.std.proofs.Common.{◌≡◌, ◌+◌, ◌-◌, ◌∙◌, take, drop, ap, arith}
use Rattle.ssz_bytes.specs.Bytes.{le_number}
use Rattle.ssz_offsets.proofs.Patches.{room_of_four}
use Rattle.ssz_parts.proofs.offsets.offset_at.Goals as goal

pub read_offset-requires : goal.read_offset-requires
read_offset-requires c = room_of_four c.args.bytes.now c.args.place c.requires

pub returns : goal.returns
returns c =
    let four : c.args.place + 4 - c.args.place ≡ 4 = omega arith in
    c.read_offset.ensures ∙ ap (λ n. le_number (take n (drop c.args.place c.args.bytes.now))) four
