use Rattle.std.proofs.Common.{◌+◌, ◌*◌}
use Rattle.ssz_schema.specs.Unfolding.{type_of}
use Rattle.ssz_value.specs.Faults.{first_fault}
use Rattle.ssz_parts.proofs.FieldLemmas.{FieldsFrom}
use Rattle.ssz_parts.proofs.ElementFaults.{FixedFrom, VariableFrom}
use Rattle.ssz_checking.proofs.checking.+check.Given as goal

abbrev pub decreases-scope : goal.decreases-scope
decreases-scope l = 8 * l.id + 4

abbrev pub decreases-judged : goal.decreases-judged
decreases-judged l = 8 * l.id + 5

abbrev pub decreases-container : goal.decreases-container
decreases-container l = 8 * l.id + 3

abbrev pub decreases-elements : goal.decreases-elements
decreases-elements l = 8 * l.elem + 7

abbrev pub decreases-fixed_elements : goal.decreases-fixed_elements
decreases-fixed_elements l = 8 * l.elem + 6

abbrev pub decreases-variable_elements : goal.decreases-variable_elements
decreases-variable_elements l = 8 * l.elem + 6

abbrev pub decreases-list : goal.decreases-list
decreases-list l = 8 * l.elem + 8

abbrev pub invariant-fixed_elements-loop-i : goal.invariant-fixed_elements-loop-i
invariant-fixed_elements-loop-i l =
    FixedFrom (first_fault (type_of l.schema l.elem)) l.size l.count l.start l.bytes l.i

abbrev pub invariant-variable_elements-loop-i : goal.invariant-variable_elements-loop-i
invariant-variable_elements-loop-i l =
    VariableFrom (first_fault (type_of l.schema l.elem)) l.count l.start l.bytes l.i

abbrev pub invariant-container-loop-i : goal.invariant-container-loop-i
invariant-container-loop-i l = FieldsFrom l.schema.trees l.fields l.start l.bytes l.i l.place
