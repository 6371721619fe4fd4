use Rattle.std.proofs.Common.{◌+◌, ◌*◌, ◌%◌, ◌^◌, ◌≤◌, ◌∙◌, ap, arith, is_some}
use Rattle.std.proofs.Math.Nat.{pow-le-pow_right}
use Rattle.ssz_schema.specs.Unfolding.{type_of}
use Rattle.ssz_walk.proofs.NamedFields.{no_field, no_field_node, field_place}
use Rattle.ssz_walk.proofs.field.find_field.Goals as goal

pub returns-in_default-clause-lost : goal.returns-in_default-clause-lost
returns-in_default-clause-lost g c =
    no_field (type_of c.args.schema.now c.args.id) c.args.name.now c.in_default.ensures.unfit

pub overflow_add-depth : goal.overflow_add-depth
overflow_add-depth g c =
    let small : 2 ^ c.depth.result ≤ 2 ^ 62 =
    pow-le-pow_right (omega arith) c.depth.ensures.at_most in
    omega (arith, small)

pub returns-in-Some-down-clause-found : goal.returns-in-Some-down-clause-found
returns-in-Some-down-clause-found g c =
    field_place c.args.schema.now c.args.arena.now c.args.id c.args.node c.args.name.now
    c.in-Some.lead c.in-Some.ensures.led c.args.schema.now.format c.ty-legal.ensures.legal
    c.depth.result c.depth.ensures.exact c.depth.ensures.at_most c.in-Some-new.index
    (c.in-Some-new.ensures.number ∙ ap (λ n. 1 * 2 ^ c.depth.result % 2 ^ 128 + n) c.from.ensures)
    c.in-Some-down.found
    c.in-Some-down.ensures.node c.in-Some-down.ensures.tree c.in-Some-down.ensures.found

pub returns-in-None-clause-lost : goal.returns-in-None-clause-lost
returns-in-None-clause-lost g c =
    no_field_node c.args.schema.now c.args.arena.now c.args.id c.args.node c.args.name.now
    c.in-Some.lead c.in-Some.ensures.led c.args.schema.now.format c.ty-legal.ensures.legal
    c.depth.result c.depth.ensures.exact c.depth.ensures.at_most c.in-Some-new.index
    (c.in-Some-new.ensures.number ∙ ap (λ n. 1 * 2 ^ c.depth.result % 2 ^ 128 + n) c.from.ensures)
    (c.down.ensures.none.0 (ap is_some c.in-None.is))
