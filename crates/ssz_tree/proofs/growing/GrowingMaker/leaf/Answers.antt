use Rattle.std.proofs.Common.{refl}
use Rattle.ssz_tree.proofs.growing.GrowingMaker.leaf.Goals as goal

pub returns : goal.returns
returns g c = (refl, c.leaf_node.ensures)
