use Rattle.ssz_tree.proofs.Rooms.{can_finish, finished}
use Rattle.ssz_tree.proofs.growing.GrowingMaker.finish.Goals as goal

pub finish-requires-clause-nodes : goal.finish-requires-clause-nodes
finish-requires-clause-nodes g c =
    (can_finish c.requires.start.arena.now c.args.self.now.arena.now c.requires.depth
    c.requires.parts c.args.rows c.requires.pushed.1 c.requires.few c.requires.space).nodes

pub finish-requires-clause-room : goal.finish-requires-clause-room
finish-requires-clause-room g c =
    (can_finish c.requires.start.arena.now c.args.self.now.arena.now c.requires.depth
    c.requires.parts c.args.rows c.requires.pushed.1 c.requires.few c.requires.space).room

pub returns : goal.returns
returns g c = λ start d parts before. (
  before.0,
  finished _ _ _ _ parts _ _ before.1 c.finish.ensures.part c.finish.ensures.adds,
)
