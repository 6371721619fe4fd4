use Rattle.ssz_forms.proofs.TypesAlike.{same_types_are_equal_law}
use Rattle.ssz_forms.proofs.law.same_types_are_equal.Goals as goal

pub returns : goal.returns
returns c = same_types_are_equal_law
