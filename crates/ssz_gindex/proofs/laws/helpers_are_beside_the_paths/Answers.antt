use Rattle.ssz_gindex.proofs.HelperLists.{law_of_helpers}
use Rattle.ssz_gindex.proofs.HelperNodes.{law_of_helper_nodes}
use Rattle.ssz_gindex.proofs.laws.helpers_are_beside_the_paths.Goals as goal

pub returns : goal.returns
returns c = record { list = law_of_helpers; nodes = law_of_helper_nodes }
