use Rattle.std.proofs.Common.{refl, arith}
use Rattle.ssz_tree.proofs.Rooms.{none_pushed}
use Rattle.ssz_tree.proofs.growing.GrowingMaker.start.Goals as goal

pub returns : goal.returns
returns g c = (refl, none_pushed _ _ _ c.new.ensures.depth c.new.ensures.holds, omega arith)
