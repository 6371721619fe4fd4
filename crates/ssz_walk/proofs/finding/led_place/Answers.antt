use Rattle.std.proofs.Common.{◌+◌, ◌*◌, ◌^◌, ◌≤◌, [], ap, is_some}
use Rattle.ssz_schema.specs.Sizes.{type_levels}
use Rattle.ssz_schema.specs.Unfolding.{type_of}
use Rattle.ssz_gindex.proofs.PathWalk.{legal_levels, along-start}
use Rattle.ssz_walk.proofs.Stepping.{one_index, nowhere_below, led_step}
use Rattle.ssz_walk.proofs.Ways.{HasWayRoom, way_room, way_index}
use Rattle.ssz_walk.proofs.finding.led_place.Goals as goal

pub index_below-index-requires : goal.index_below-index-requires
index_below-index-requires g c =
    let t = type_of c.args.schema.now c.args.id in
    let whole : (c.root.result + 1) * 2 ^ type_levels t ≤ 2 ^ 127 =
    (rw c.root.ensures
    (along-start t [] (legal_levels c.args.schema.now.format t c.ty-legal.ensures.legal)).room) in
    let has : HasWayRoom c.root.result c.args.way.now =
    way_room c.args.schema.now c.args.id c.args.step.now c.args.way.now c.requires.way
    c.root.result whole in
    record { few = has.few; room = has.room; place = has.place }

pub returns-in_default-clause-none : goal.returns-in_default-clause-none
returns-in_default-clause-none g c =
    let t = type_of c.args.schema.now c.args.id in
    nowhere_below c.args.schema.now c.args.arena.now c.args.id c.args.node c.args.step.now
    c.index_below-index.result
    (one_index t c.args.step.now (type_of c.args.schema.now c.args.way.now.part) c.root.result
    c.index_below-index.result c.requires.way.typed c.root.ensures
    (way_index c.args.schema.now c.args.id c.args.step.now c.args.way.now c.requires.way
    c.root.result c.index_below-index.result c.index_below-index.ensures))
    (c.down.ensures.none.0 (ap is_some c.in_default.is))

pub returns-clause-led : goal.returns-clause-led
returns-clause-led g c =
    let t = type_of c.args.schema.now c.args.id in
    led_step c.args.schema.now c.args.arena.now c.args.id c.args.node c.args.step.now
    c.args.way.now.part c.requires.way.typed c.index_below-index.result
    (one_index t c.args.step.now (type_of c.args.schema.now c.args.way.now.part) c.root.result
    c.index_below-index.result c.requires.way.typed c.root.ensures
    (way_index c.args.schema.now c.args.id c.args.step.now c.args.way.now c.requires.way
    c.root.result c.index_below-index.result c.index_below-index.ensures))
    c.in-Some.found c.args.way.now.spot c.requires.way.known
    c.in-Some.ensures.node c.in-Some.ensures.tree c.in-Some.ensures.found
    c.requires.way.spot
