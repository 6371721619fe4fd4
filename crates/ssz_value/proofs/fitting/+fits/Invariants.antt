use Rattle.std.proofs.Common.{◌+◌, ◌*◌}
use Rattle.ssz_schema.specs.Unfolding.{type_of}
use Rattle.ssz_value.proofs.FitLemmas.{AllFrom, FieldsFrom}
use Rattle.ssz_value.proofs.fitting.+fits.Given as goal

abbrev pub decreases-fits : goal.decreases-fits
decreases-fits l = 4 * l.id + 2

abbrev pub decreases-union_fits : goal.decreases-union_fits
decreases-union_fits l = 4 * l.id + 1

abbrev pub decreases-container_fits : goal.decreases-container_fits
decreases-container_fits l = 4 * l.id + 1

abbrev pub decreases-fields_fit : goal.decreases-fields_fit
decreases-fields_fit l = 4 * l.id

abbrev pub decreases-sequence_fits : goal.decreases-sequence_fits
decreases-sequence_fits l = 4 * l.elem + 4

abbrev pub decreases-elements_fit : goal.decreases-elements_fit
decreases-elements_fit l = 4 * l.elem + 3

abbrev pub invariant-elements_fit-loop-part : goal.invariant-elements_fit-loop-part
invariant-elements_fit-loop-part l = AllFrom (type_of l.schema l.elem) l.parts l.part-index

abbrev pub invariant-fields_fit-loop-i : goal.invariant-fields_fit-loop-i
invariant-fields_fit-loop-i l = FieldsFrom l.schema.trees l.fields l.parts l.i
