use Rattle.ssz_types.proofs.DepthLemmas.{depth_of-holds, depth_of-least}
use Rattle.ssz_types.proofs.depth.depth_is_next_power.Goals as goal

pub returns-clause-holds : goal.returns-clause-holds
returns-clause-holds c = depth_of-holds

pub returns-clause-least : goal.returns-clause-least
returns-clause-least c = depth_of-least
