use Rattle.std.proofs.Common.{refl}
use Rattle.ssz_tree.proofs.Adding.{Makes-none}
use Rattle.ssz_tree.proofs.growing.GrowingMaker.none.Goals as goal

pub returns : goal.returns
returns g c = let z = c.zero.ensures in (refl, Makes-none _ _ z.node z.tree z.todo)
