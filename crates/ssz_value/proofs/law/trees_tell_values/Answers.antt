use Rattle.ssz_value.proofs.TreeLaw.{tells_apart}
use Rattle.ssz_value.proofs.law.trees_tell_values.Goals as goal

pub returns : goal.returns
returns c = λ format t v w legal. (tells_apart format t legal).apart v w
