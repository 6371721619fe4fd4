use Rattle.ssz_words.proofs.TakenLemmas.{takes_exactly}
use Rattle.ssz_words.proofs.laws.takes_exactly.Goals as goal

pub returns : goal.returns
returns c = takes_exactly
