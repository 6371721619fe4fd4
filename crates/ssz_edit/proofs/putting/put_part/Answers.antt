use Rattle.std.proofs.Common.{◌≡◌, ◌+◌, ◌*◌, ap, subst, arith}
use Rattle.ssz_chunk.specs.Index.{levels}
use Rattle.ssz_schema.specs.Unfolding.{type_of}
use Rattle.ssz_value.specs.Pairs.{pairs}
use Rattle.ssz_arena.specs.Content.{tree_of, KeepsNodes}
use Rattle.ssz_arena.proofs.Keeping.{keeps_same, keeps_trans}
use Rattle.ssz_arena.proofs.Nodes.{tree}
use Rattle.ssz_places.specs.Spots.{CanHold}
use Rattle.ssz_tree.specs.Added.{AddsNodes, IsPartNode, TakesRoom}
use Rattle.ssz_tree.proofs.Adding.{Adds-then, Adds-after, Takes-after}
use Rattle.ssz_walk.specs.Found.{spot_of}
use Rattle.ssz_edit.specs.Edited.{edited_part}
use Rattle.ssz_edit.specs.Given.{given_value}
use Rattle.ssz_edit.proofs.Landing.{holds, set_made}
use Rattle.ssz_edit.proofs.Replacing.{adds_nothing, not_ok, put_made}
use Rattle.ssz_edit.proofs.putting.put_part.Goals as goal
use Rattle.ssz_edit.proofs.putting.put_part.Goals.{After-replace}

pub returns-in_err-reserve_for-clause-adds : goal.returns-in_err-reserve_for-clause-adds
returns-in_err-reserve_for-clause-adds g c =
    adds_nothing _ _ c.args.arena.now c.reserve_for.new.arena c.in_err-reserve_for.ensures.err

pub returns-in_err-reserve_for-clause-basic : goal.returns-in_err-reserve_for-clause-basic
returns-in_err-reserve_for-clause-basic g c basic enough =
    absurd (not_ok c.reserve_for.result c.in_err-reserve_for.field-0.0 c.in_err-reserve_for.was
    (c.reserve_for.ensures.basic basic (omega (arith, enough, c.levels-levels.ensures.exact))))

-- the nodes that were there are kept until the part is made
kept : (g : _) (c : After-replace g) → KeepsNodes c.args.arena.now c.part_node-part.new.arena
kept g c =
    keeps_trans (keeps_same c.args.arena.now c.reserve_for.new.arena c.reserve_for.ensures.nodes)
    c.part_node-part.ensures.adds.keeps

-- the nodes that are made in the room that was taken
made : (g : _) (c : After-replace g)
    → (let u = type_of c.args.schema.now c.args.place.now.id in
    let cost = pairs u (given_value u c.args.given.now) in
    let more = levels c.args.place.now.index in
    AddsNodes (2 * cost + 1 + more) (cost + more) c.reserve_for.new.arena c.replace.new.self)
made g c =
    let u = type_of c.args.schema.now c.args.place.now.id in
    let cost = pairs u (given_value u c.args.given.now) in
    let more = levels c.args.place.now.index in
    Adds-then (2 * cost + 1) cost more more c.reserve_for.new.arena c.part_node-part.new.arena
    c.replace.new.self c.part_node-part.ensures.adds (record {
      keeps = c.replace.ensures.keeps;
      same = c.replace.ensures.same;
      count = c.replace.ensures.count;
      unhashed = c.replace.ensures.unhashed;
      spare = c.replace.ensures.spare;
      room = λ _. c.replace.ensures.room;
    })

added : (g : _) (c : After-replace g)
    → (let u = type_of c.args.schema.now c.args.place.now.id in
    let cost = pairs u (given_value u c.args.given.now) in
    let more = levels c.args.place.now.index in
    AddsNodes (2 * cost + 1 + more) (cost + more) c.args.arena.now c.replace.new.self)
added g c =
    let u = type_of c.args.schema.now c.args.place.now.id in
    let cost = pairs u (given_value u c.args.given.now) in
    let more = levels c.args.place.now.index in
    Adds-after (2 * cost + 1 + more) (cost + more) c.args.arena.now c.reserve_for.new.arena
    c.replace.new.self c.reserve_for.ensures.nodes c.reserve_for.ensures.more
    (λ enough. c.reserve_for.ensures.stays (omega (arith, enough, c.levels-levels.ensures.exact)))
    (made g c)

taken : (g : _) (c : After-replace g)
    → (let u = type_of c.args.schema.now c.args.place.now.id in
    let cost = pairs u (given_value u c.args.given.now) in
    let more = levels c.args.place.now.index in
    TakesRoom (2 * cost + 1 + more) c.args.arena.now c.replace.new.self)
taken g c =
    let u = type_of c.args.schema.now c.args.place.now.id in
    let cost = pairs u (given_value u c.args.given.now) in
    let more = levels c.args.place.now.index in
    Takes-after (2 * cost + 1 + more) _ (cost + more) c.args.arena.now c.reserve_for.new.arena
    c.replace.new.self c.reserve_for.ensures.most (omega (arith, c.levels-levels.ensures.exact))
    (omega (arith, c.in_ok-reserve_for.ensures.ok, c.levels-levels.ensures.exact)) (made g c)

pub returns-clause-edits : goal.returns-clause-edits
returns-clause-edits g c id path v at of =
    let types = c.args.schema.now in
    let old = c.args.arena.now in
    let place = c.args.place.now in
    let u = type_of types place.id in
    let x = given_value u c.args.given.now in
    let spot = spot_of place.spot in
    let same : tree_of c.reserve_for.new.arena place.node ≡ tree_of old place.node =
    ap (λ ns. tree ns place.node.0) c.reserve_for.ensures.nodes in
    set_made types.format types old id c.args.node path place at.legal at.found
    c.replace.new.self x v c.in-Some.made c.fitting.ensures at.free of
    (put_made old c.part_node-part.new.arena (kept g c.before) c.args.node c.requires.place.top
    place.index (edited_part spot u x (tree_of old place.node)) c.part_node-part.result
    c.in-Some.made
    (subst (λ t. CanHold spot t
    → IsPartNode c.part_node-part.new.arena (edited_part spot u x t) c.part_node-part.result) same
    c.part_node-part.ensures.part
    (holds types.format types old id c.args.node path place at.legal at.found v of))
    c.replace.new.self c.in-Some.ensures.node c.in-Some.ensures.tree c.in-Some.ensures.todo)
    (added g c.before) (taken g c.before)

pub returns-clause-room : goal.returns-clause-room
returns-clause-room g c = taken g c.before

pub returns-in_err-reserve_for-clause-room : goal.returns-in_err-reserve_for-clause-room
returns-in_err-reserve_for-clause-room g c =
    omega (arith, c.reserve_for.ensures.most, c.levels-levels.ensures.exact)

pub returns-clause-adds : goal.returns-clause-adds
returns-clause-adds g c = added g c.before
