use Rattle.std.proofs.Common.{arith}
use Rattle.ssz_tree.proofs.Adding.{makes_pair, Makes-joined}
use Rattle.ssz_tree.proofs.growing.GrowingMaker.join.Goals as goal

pub leaf_node-leaf-requires : goal.leaf_node-leaf-requires
leaf_node-leaf-requires g c = omega (arith, c.requires.space, c.requires.is.1.adds.spare)

pub pair-requires-clause-room : goal.pair-requires-clause-room
pair-requires-clause-room g c =
    omega (arith, c.requires.space, c.requires.is.1.adds.spare, c.leaf_node-leaf.ensures.adds.spare)

pub pair-requires-clause-left : goal.pair-requires-clause-left
pair-requires-clause-left g c =
    omega (arith, c.requires.is.1.is.node, c.leaf_node-leaf.ensures.adds.keeps.count)

pub returns : goal.returns
returns g c = λ start one made.
    let p = c.pair.ensures in (
      made.0,
      Makes-joined _ _ _ _ one c.args.chunk.now.0 _ _ _ made.1
          c.leaf_node-leaf.ensures
          (makes_pair _ _ _ _ _ p.node p.tree p.todo p.keeps p.same p.unhashed p.count p.spare),
    )
