use Rattle.std.proofs.Common.{◌-◌, ap₂, ◌∙◌, arith}
use Rattle.ssz_schema.specs.Unfolding.{type_of}
use Rattle.ssz_edit.proofs.Slotting.{has_position, above_half, few_levels, shifted, below_positive, no_index, slot_made}
use Rattle.ssz_edit.proofs.lists.slot_at.Goals as goal

pub overflow_shl-half : goal.overflow_shl-half
overflow_shl-half g c =
    let u = type_of c.args.schema.now c.args.list.now.id in
    let position = has_position u c.args.i c.in-Some.element.index c.requires.counted
    c.in-Some.ensures.led.index_at in
    omega (
      arith,
      c.depth.ensures.exact,
      few_levels u c.args.i c.in-Some.element.index position
          (omega (arith, c.get-number.ensures.number, c.get-number.type_inv)),
    )

pub overflow_sub-rest : goal.overflow_sub-rest
overflow_sub-rest g c =
    let u = type_of c.args.schema.now c.args.list.now.id in
    let position = has_position u c.args.i c.in-Some.element.index c.requires.counted
    c.in-Some.ensures.led.index_at in
    omega (
      arith,
      above_half u c.args.i c.in-Some.element.index position,
      c.get-number.ensures.number,
      shifted u c.args.i c.in-Some.element.index position
          c.depth.result c.get-number.result c.depth.ensures.exact c.get-number.ensures.number
          c.get-number.type_inv,
    )

pub returns-in_default-new-clause-none : goal.returns-in_default-new-clause-none
returns-in_default-new-clause-none g c =
    let u = type_of c.args.schema.now c.args.list.now.id in
    let position = has_position u c.args.i c.in-Some.element.index c.requires.counted
    c.in-Some.ensures.led.index_at in
    no_index c.new.result _ c.in_default-new.is c.new.ensures.some.1
    (omega (
      arith,
      below_positive u c.args.i c.in-Some.element.index position,
      c.get-number.ensures.number,
      shifted u c.args.i c.in-Some.element.index position
          c.depth.result c.get-number.result c.depth.ensures.exact c.get-number.ensures.number
          c.get-number.type_inv,
    ))

pub returns-clause-slot : goal.returns-clause-slot
returns-clause-slot g c =
    let u = type_of c.args.schema.now c.args.list.now.id in
    let position = has_position u c.args.i c.in-Some.element.index c.requires.counted
    c.in-Some.ensures.led.index_at in
    slot_made c.args.schema.now c.args.arena.now c.args.list.now.id c.args.list.now.node
    c.args.content c.args.i c.in-Some.element c.in-Some-new.below c.requires.counted
    c.requires.content c.in-Some.ensures.led
    (c.in-Some-new.ensures.number ∙ ap₂ ◌-◌ c.get-number.ensures.number
    (shifted u c.args.i c.in-Some.element.index position
    c.depth.result c.get-number.result c.depth.ensures.exact c.get-number.ensures.number
    c.get-number.type_inv))
