use Rattle.ssz_typed.proofs.SliceLaw.{parts_agree, places_agree}
use Rattle.ssz_typed.proofs.law.slices_answer_as_bytes.Goals as goal

pub returns-clause-parts : goal.returns-clause-parts
returns-clause-parts c = parts_agree

pub returns-clause-places : goal.returns-clause-places
returns-clause-places c = places_agree
