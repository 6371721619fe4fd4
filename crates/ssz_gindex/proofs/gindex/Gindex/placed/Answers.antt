use Rattle.std.proofs.Common.{◌+◌, ◌<◌, ap₂, ◌∙◌, arith}
use Rattle.ssz_schema.specs.Paths.{step_type}
use Rattle.ssz_schema.specs.Indices.{step_levels}
use Rattle.ssz_schema.specs.Unfolding.{type_of}
use Rattle.ssz_gindex.proofs.StepRoom.{step_room, shifted, some_below, some_type}
use Rattle.ssz_gindex.proofs.gindex.Gindex.placed.Goals as goal

pub overflow_shl-upper : goal.overflow_shl-upper
overflow_shl-upper c =
    let t = type_of c.args.schema.now c.args.id in
    let part = some_type (step_type t c.args.step.now) c.requires.fits in
    let has = step_room c.args.self t part.0 c.args.step.now c.requires.room part.1 in
    omega (arith, has.few, c.step_levels-levels.ensures)

pub behind-requires-clause-some : goal.behind-requires-clause-some
behind-requires-clause-some c =
    let t = type_of c.args.schema.now c.args.id in
    let part = some_type (step_type t c.args.step.now) c.requires.fits in
    let has = step_room c.args.self t part.0 c.args.step.now c.requires.room part.1 in
    let upper = shifted c.args.self c.get.result (step_levels t c.args.step.now)
    c.step_levels-levels.result c.get.ensures.number c.step_levels-levels.ensures has.room in
    let some : 0 < c.args.self = omega (arith, c.get.ensures.number, c.get.ensures.positive) in
    omega (arith, upper, some_below c.args.self (step_levels t c.args.step.now) some)

pub behind-requires-clause-room : goal.behind-requires-clause-room
behind-requires-clause-room c =
    let t = type_of c.args.schema.now c.args.id in
    let part = some_type (step_type t c.args.step.now) c.requires.fits in
    let has = step_room c.args.self t part.0 c.args.step.now c.requires.room part.1 in
    let upper = shifted c.args.self c.get.result (step_levels t c.args.step.now)
    c.step_levels-levels.result c.get.ensures.number c.step_levels-levels.ensures has.room in
    omega (arith, has.room, has.place, upper, c.step_position.ensures)

pub returns : goal.returns
returns c =
    let t = type_of c.args.schema.now c.args.id in
    let part = some_type (step_type t c.args.step.now) c.requires.fits in
    let has = step_room c.args.self t part.0 c.args.step.now c.requires.room part.1 in
    let upper = shifted c.args.self c.get.result (step_levels t c.args.step.now)
    c.step_levels-levels.result c.get.ensures.number c.step_levels-levels.ensures has.room in
    c.behind.ensures ∙ ap₂ ◌+◌ upper c.step_position.ensures
