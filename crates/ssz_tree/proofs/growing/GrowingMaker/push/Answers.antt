use Rattle.std.proofs.Common.{◌∙◌}
use Rattle.ssz_tree.proofs.Rooms.{can_push, few_pushed, one_more}
use Rattle.ssz_tree.proofs.growing.GrowingMaker.push.Goals as goal

pub push-requires-clause-below : goal.push-requires-clause-below
push-requires-clause-below g c =
    (can_push c.requires.start.arena.now c.requires.middle.arena.now
    c.args.self.now.arena.now c.requires.depth c.requires.before c.requires.rest c.requires.one
    c.args.rows.now c.args.out.now c.requires.pushed.1 c.requires.is.1 c.requires.few
    c.requires.space).below

pub push-requires-clause-nodes : goal.push-requires-clause-nodes
push-requires-clause-nodes g c =
    (can_push c.requires.start.arena.now c.requires.middle.arena.now
    c.args.self.now.arena.now c.requires.depth c.requires.before c.requires.rest c.requires.one
    c.args.rows.now c.args.out.now c.requires.pushed.1 c.requires.is.1 c.requires.few
    c.requires.space).nodes

pub push-requires-clause-room : goal.push-requires-clause-room
push-requires-clause-room g c =
    (can_push c.requires.start.arena.now c.requires.middle.arena.now
    c.args.self.now.arena.now c.requires.depth c.requires.before c.requires.rest c.requires.one
    c.args.rows.now c.args.out.now c.requires.pushed.1 c.requires.is.1 c.requires.few
    c.requires.space).room

pub push-requires-clause-node : goal.push-requires-clause-node
push-requires-clause-node g c = c.requires.is.1.is.node

pub push-requires-clause-counted : goal.push-requires-clause-counted
push-requires-clause-counted g c = few_pushed c.requires.middle.arena.now c.requires.before
    c.requires.rest c.requires.one c.args.rows.now c.requires.pushed.1.holds c.requires.pushed.2

pub returns : goal.returns
returns g c = λ start middle d n parts one before is. (
  is.0 ∙ before.0,
  one_more _ _ _ _ _ parts one _ _ _ before.1 is.1 c.push.ensures.depth
      c.push.ensures.holds c.push.ensures.adds,
  before.2,
)
