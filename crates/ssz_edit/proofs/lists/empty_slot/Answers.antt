use Rattle.std.proofs.Common.{◌≡◌, ◌+◌, ap, subst, arith}
use Rattle.ssz_chunk.specs.Index.{levels}
use Rattle.ssz_schema.specs.Unfolding.{type_of}
use Rattle.ssz_arena.specs.Content.{tree_of}
use Rattle.ssz_arena.proofs.Nodes.{tree}
use Rattle.ssz_arena.proofs.Keeping.{keeps_same, keeps_trans}
use Rattle.ssz_places.specs.Spots.{CanHold}
use Rattle.ssz_tree.specs.Added.{AddsNodes, IsPartNode}
use Rattle.ssz_tree.proofs.Adding.{Adds-within, Adds-after, Takes-after}
use Rattle.ssz_walk.specs.Found.{spot_of}
use Rattle.ssz_edit.specs.Edited.{part_without}
use Rattle.ssz_edit.proofs.Growing.{list_kept, grown_kept, adds_element}
use Rattle.ssz_edit.proofs.Replacing.{adds_nothing}
use Rattle.ssz_edit.proofs.lists.empty_slot.Goals as goal
use Rattle.ssz_edit.proofs.lists.empty_slot.Goals.{After-put_list}

pub returns-in_err-reserve-clause-adds : goal.returns-in_err-reserve-clause-adds
returns-in_err-reserve-clause-adds g c =
    adds_nothing _ _ c.args.arena.now c.reserve.new.self c.in_err-reserve.ensures.err

pub returns-in_err-reserve-clause-room : goal.returns-in_err-reserve-clause-room
returns-in_err-reserve-clause-room g c =
    omega (
      arith,
      c.reserve.ensures.most,
      c.levels.ensures.exact,
      c.levels-2.ensures.exact,
    )

-- the nodes that are made in the room that was taken
made : (g : _) (c : After-put_list g)
    → (let more = levels c.args.slot.now.below + levels c.args.list.now.index in
    AddsNodes (3 + more) (1 + more) c.reserve.new.self c.put_list.new.arena)
made g c =
    Adds-within _ _ _ _ c.reserve.new.self c.put_list.new.arena
    (adds_element c.reserve.new.self c.emptied_node-element.new.arena c.put_list.new.arena 1 0
    (levels c.args.slot.now.below) (levels c.args.list.now.index)
    c.emptied_node-element.ensures.adds c.put_list.ensures.adds) (omega arith) (omega arith)

pub put_list-requires-clause-list : goal.put_list-requires-clause-list
put_list-requires-clause-list g c =
    list_kept c.args.arena.now c.emptied_node-element.new.arena c.args.node c.args.list.now
    c.args.slot.now.below
    (keeps_trans (keeps_same c.args.arena.now c.reserve.new.self c.reserve.ensures.nodes)
    c.emptied_node-element.ensures.adds.keeps) c.requires.list

pub returns-clause-grown : goal.returns-clause-grown
returns-clause-grown g c holds =
    let u = type_of c.args.schema.now c.args.slot.now.element.id in
    let spot = spot_of c.args.slot.now.element.spot in
    let node = c.args.slot.now.element.node in
    let same : tree_of c.reserve.new.self node ≡ tree_of c.args.arena.now node =
    ap (λ ns. tree ns node.0) c.reserve.ensures.nodes in
    let part = part_without spot u (tree_of c.args.arena.now node) in
    grown_kept c.args.arena.now c.emptied_node-element.new.arena c.put_list.new.arena c.args.node
    c.args.list.now c.args.slot.now.below part c.args.count c.put_list.result
    (keeps_trans (keeps_same c.args.arena.now c.reserve.new.self c.reserve.ensures.nodes)
    c.emptied_node-element.ensures.adds.keeps) c.requires.list
    (c.put_list.ensures.grown part
    (subst (λ t. CanHold spot t → IsPartNode c.emptied_node-element.new.arena
    (part_without spot u t) c.emptied_node-element.result)
    same c.emptied_node-element.ensures.part holds))

pub returns-clause-adds : goal.returns-clause-adds
returns-clause-adds g c =
    Adds-after _ _ c.args.arena.now c.reserve.new.self c.put_list.new.arena
    c.reserve.ensures.nodes c.reserve.ensures.more
    (λ enough. c.reserve.ensures.stays (omega (
      arith,
      enough,
      c.levels.ensures.exact,
      c.levels-2.ensures.exact,
    ))) (made g c)

pub returns-clause-room : goal.returns-clause-room
returns-clause-room g c =
    Takes-after _ _ _ c.args.arena.now c.reserve.new.self c.put_list.new.arena
    c.reserve.ensures.most
    (omega (arith, c.levels.ensures.exact, c.levels-2.ensures.exact))
    (omega (
      arith,
      c.in_ok-reserve.ensures.ok,
      c.levels.ensures.exact,
      c.levels-2.ensures.exact,
    )) (made g c)
