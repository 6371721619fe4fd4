use Rattle.ssz_proof.proofs.Calculating.{law_of_proofs}
use Rattle.ssz_proof.proofs.laws.proofs_give_the_root.Goals as goal

pub returns : goal.returns
returns c = law_of_proofs
