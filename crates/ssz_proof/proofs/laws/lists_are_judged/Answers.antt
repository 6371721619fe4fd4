use Rattle.ssz_proof.proofs.Judging.{lists-judged}
use Rattle.ssz_proof.proofs.laws.lists_are_judged.Goals as goal

pub returns : goal.returns
returns c = lists-judged
