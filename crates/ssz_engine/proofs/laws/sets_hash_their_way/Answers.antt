use Rattle.ssz_engine.proofs.SetsAndRoots.{law_of_sets}
use Rattle.ssz_engine.proofs.laws.sets_hash_their_way.Goals as goal

pub returns : goal.returns
returns c = law_of_sets
