use Rattle.ssz_proof.proofs.TextLaws.{law_of_texts}
use Rattle.ssz_proof.proofs.laws.texts_give_the_proof.Goals as goal

pub returns : goal.returns
returns c = law_of_texts
