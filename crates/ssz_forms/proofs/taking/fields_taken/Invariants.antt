use Rattle.ssz_forms.proofs.Taken.{TakenSoFar}
use Rattle.ssz_forms.proofs.taking.fields_taken.Given as goal

abbrev pub invariant-loop-field : goal.invariant-loop-field
invariant-loop-field l =
    TakenSoFar l.schema l.old l.new l.field-index l.taken.items l.forms
