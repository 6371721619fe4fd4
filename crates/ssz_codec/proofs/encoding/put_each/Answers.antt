use Rattle.std.proofs.Common.{◌+◌, ◌-◌, [], length, map, Some, refl, ap, arith}
use Rattle.ssz_schema.specs.format.Format.TheVariants.{One}
use Rattle.ssz_schema.specs.Types.{uint}
use Rattle.ssz_schema.specs.Sizes.{byte_count}
use Rattle.ssz_value.specs.Encoding.{serialize}
use Rattle.ssz_value.specs.Standing.{value_of}
use Rattle.ssz_value.proofs.ExactLaw.{agrees}
use Rattle.ssz_value.proofs.FormLemmas.{element_at}
use Rattle.ssz_codec.proofs.WritingLemmas.{ElementsLeft-start, ElementsLeft-room, ElementsLeft-more}
use Rattle.ssz_codec.proofs.RoomLemmas.{no_bodies, room_behind, puts_fixed, length-put}
use Rattle.ssz_codec.proofs.encoding.put_each.Goals as goal

pub loop-part-init : goal.loop-part-init
loop-part-init c =
    let none = no_bodies (length c.args.parts.now) (byte_count c.args.width)
    (map (serialize (uint c.args.width)) (map value_of c.args.parts.now)) in
    ElementsLeft-start (uint c.args.width) c.args.parts.now c.args.front.now [] c.requires.front
    (omega (arith, ap length none))

pub write_number-place-requires-clause-room : goal.write_number-place-requires-clause-room
write_number-place-requires-clause-room c =
    let value = element_at (uint c.args.width) c.args.parts.now c.loop-part.part-index
    c.part-item.result c.requires.parts c.loop-part-test.true c.part-item.is in
    let sized = (agrees One (uint c.args.width) tt).sized (byte_count c.args.width)
    (value_of c.part-item.result) refl value.fits in
    let room = ElementsLeft-room (uint c.args.width) c.args.parts.now c.loop-part.part-index
    c.part-item.result (c.loop-part.place, 0) c.loop-part.front [] c.loop-part.invariant
    c.loop-part-test.true c.part-item.is in
    omega (arith, sized, room.place, room_behind c.loop-part.front c.loop-part.place)

pub loop-part-preserved : goal.loop-part-preserved
loop-part-preserved c =
    let value = element_at (uint c.args.width) c.args.parts.now c.loop-part.part-index
    c.part-item.result c.requires.parts c.loop-part-test.true c.part-item.is in
    let sized = (agrees One (uint c.args.width) tt).sized (byte_count c.args.width)
    (value_of c.part-item.result) refl value.fits in
    let room = ElementsLeft-room (uint c.args.width) c.args.parts.now c.loop-part.part-index
    c.part-item.result (c.loop-part.place, 0) c.loop-part.front [] c.loop-part.invariant
    c.loop-part-test.true c.part-item.is in
    ElementsLeft-more (uint c.args.width) c.args.parts.now c.loop-part.part-index
    c.part-item.result (c.loop-part.place, 0) (c.loop-part.place + c.write_number-place.result, 0)
    c.loop-part.front [] _ [] c.loop-part.invariant c.loop-part-test.true c.part-item.is
    (puts_fixed (Some (byte_count c.args.width)) (byte_count c.args.width)
    c.write_number-place.result
    (serialize (uint c.args.width) (value_of c.part-item.result)) (c.loop-part.place, 0)
    c.loop-part.front [] c.write_number-place.new.room _ refl sized c.write_number-place.ensures
    (omega (arith, room.place)))
    (length-put c.loop-part.front c.write_number-place.new.room c.loop-part.place
    (length c.loop-part.front - c.loop-part.place) (omega (arith, room.place))
    c.write_number-place.auto.room)
    refl
