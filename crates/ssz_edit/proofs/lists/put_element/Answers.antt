use Rattle.std.proofs.Common.{◌≡◌, ◌+◌, ◌*◌, ap, subst, arith}
use Rattle.ssz_chunk.specs.Index.{levels}
use Rattle.ssz_schema.specs.Unfolding.{type_of}
use Rattle.ssz_value.specs.Pairs.{pairs}
use Rattle.ssz_value.specs.Values.{Fits}
use Rattle.ssz_arena.specs.Content.{tree_of}
use Rattle.ssz_arena.proofs.Nodes.{tree}
use Rattle.ssz_arena.proofs.Keeping.{keeps_same, keeps_trans}
use Rattle.ssz_places.specs.EditLaws.{content, count_of}
use Rattle.ssz_places.specs.Spots.{CanHold}
use Rattle.ssz_tree.specs.Added.{AddsNodes, IsPartNode, TakesRoom}
use Rattle.ssz_tree.proofs.Adding.{Adds-within, Adds-after, Takes-after}
use Rattle.ssz_walk.specs.Found.{spot_of}
use Rattle.ssz_edit.specs.Edited.{edited_part}
use Rattle.ssz_edit.specs.Given.{given_value}
use Rattle.ssz_edit.proofs.Counted.{count_small}
use Rattle.ssz_edit.proofs.ListLanding.{list_value, element_type_is, append_made}
use Rattle.ssz_edit.proofs.Growing.{list_kept, grown_kept, adds_element}
use Rattle.ssz_edit.proofs.Replacing.{adds_nothing}
use Rattle.ssz_edit.proofs.lists.put_element.Goals as goal
use Rattle.ssz_edit.proofs.lists.put_element.Goals.{After-put_list}

pub returns-in_err-reserve_for-clause-adds : goal.returns-in_err-reserve_for-clause-adds
returns-in_err-reserve_for-clause-adds g c =
    adds_nothing _ _ c.args.arena.now c.reserve_for.new.arena c.in_err-reserve_for.ensures.err

pub returns-in_err-reserve_for-clause-room : goal.returns-in_err-reserve_for-clause-room
returns-in_err-reserve_for-clause-room g c =
    omega (
      arith,
      c.reserve_for.ensures.most,
      c.levels.ensures.exact,
      c.levels-2.ensures.exact,
    )

-- the nodes that are made in the room that was taken
made : (g : _) (c : After-put_list g)
    → (let end = c.args.end.now in
    let u = type_of c.args.schema.now end.slot.element.id in
    let cost = pairs u (given_value u c.args.given.now) in
    let more = levels end.slot.below + levels end.list.index in
    AddsNodes (2 * cost + 3 + more) (cost + 1 + more) c.reserve_for.new.arena c.put_list.new.arena)
made g c =
    let end = c.args.end.now in
    let u = type_of c.args.schema.now end.slot.element.id in
    let cost = pairs u (given_value u c.args.given.now) in
    Adds-within _ _ _ _ c.reserve_for.new.arena c.put_list.new.arena
    (adds_element c.reserve_for.new.arena c.part_node-element.new.arena c.put_list.new.arena
    (2 * cost + 1) cost (levels end.slot.below) (levels end.list.index)
    c.part_node-element.ensures.adds c.put_list.ensures.adds) (omega arith) (omega arith)

added : (g : _) (c : After-put_list g)
    → (let end = c.args.end.now in
    let u = type_of c.args.schema.now end.slot.element.id in
    let cost = pairs u (given_value u c.args.given.now) in
    let more = levels end.slot.below + levels end.list.index in
    AddsNodes (2 * cost + 3 + more) (cost + 1 + more) c.args.arena.now c.put_list.new.arena)
added g c =
    Adds-after _ _ c.args.arena.now c.reserve_for.new.arena c.put_list.new.arena
    c.reserve_for.ensures.nodes c.reserve_for.ensures.more
    (λ enough. c.reserve_for.ensures.stays (omega (
      arith,
      enough,
      c.levels.ensures.exact,
      c.levels-2.ensures.exact,
    ))) (made g c)

taken : (g : _) (c : After-put_list g)
    → (let end = c.args.end.now in
    let u = type_of c.args.schema.now end.slot.element.id in
    let cost = pairs u (given_value u c.args.given.now) in
    let more = levels end.slot.below + levels end.list.index in
    TakesRoom (2 * cost + 3 + more) c.args.arena.now c.put_list.new.arena)
taken g c =
    Takes-after _ _ _ c.args.arena.now c.reserve_for.new.arena c.put_list.new.arena
    c.reserve_for.ensures.most
    (omega (arith, c.levels.ensures.exact, c.levels-2.ensures.exact))
    (omega (
      arith,
      c.in_ok-reserve_for.ensures.ok,
      c.levels.ensures.exact,
      c.levels-2.ensures.exact,
    )) (made g c)

pub put_list-requires-clause-list : goal.put_list-requires-clause-list
put_list-requires-clause-list g c =
    list_kept c.args.arena.now c.part_node-element.new.arena c.args.node c.args.end.now.list
    c.args.end.now.slot.below
    (keeps_trans (keeps_same c.args.arena.now c.reserve_for.new.arena c.reserve_for.ensures.nodes)
    c.part_node-element.ensures.adds.keeps) c.requires.end.has_list

pub returns-clause-adds : goal.returns-clause-adds
returns-clause-adds g c = added g c

pub returns-clause-room : goal.returns-clause-room
returns-clause-room g c = taken g c

pub returns-clause-edits : goal.returns-clause-edits
returns-clause-edits g c id path v at of =
    let types = c.args.schema.now in
    let old = c.args.arena.now in
    let end = c.args.end.now in
    let u = type_of types end.list.id in
    let e = type_of types end.slot.element.id in
    let x = given_value e c.args.given.now in
    let spot = spot_of end.slot.element.spot in
    let node = end.slot.element.node in
    let l = list_value types.format types old id c.args.node path end.list at.legal at.found
    at.limit at.limited v of in
    let few = count_small types.format u at.limit l.w at.limited l.legal l.fits in
    let mixed = at.counts (count_of l.w) (content u l.w) l.mixed few.1 in
    let fits = subst (λ s. Fits s x)
    (element_type_is types.format types old id c.args.node path end.list at.legal at.found
    at.limit at.limited at.content at.content_node end.count at.within end.slot at.slot)
    c.fitting.ensures in
    let same : tree_of c.reserve_for.new.arena node ≡ tree_of old node =
    ap (λ ns. tree ns node.0) c.reserve_for.ensures.nodes in
    let part = edited_part spot e x (tree_of old node) in
    append_made types.format types old id c.args.node path end.list at.legal at.found at.limit
    at.limited at.content at.content_node end.count at.within end.slot at.slot x v fits of l
    mixed.0 mixed.1 c.put_list.new.arena c.put_list.result
    (λ holds. grown_kept old c.part_node-element.new.arena c.put_list.new.arena c.args.node
    end.list end.slot.below part (end.count + 1) c.put_list.result
    (keeps_trans (keeps_same old c.reserve_for.new.arena c.reserve_for.ensures.nodes)
    c.part_node-element.ensures.adds.keeps) c.requires.end.has_list
    (c.put_list.ensures.grown part
    (subst (λ t. CanHold spot t
    → IsPartNode c.part_node-element.new.arena (edited_part spot e x t) c.part_node-element.result)
    same c.part_node-element.ensures.part holds)))
    (added g c) (taken g c)
