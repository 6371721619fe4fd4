use Rattle.ssz_schema.specs.Unfolding.{type_of}
use Rattle.ssz_value.specs.Standing.{IsValue}
use Rattle.value_rows.proofs.plain.print_value.Given as goal

abbrev pub invariant-loop-row : goal.invariant-loop-row
invariant-loop-row l =
    (goal.iterator-loop-row).can_next l.row-iterator
    × (goal.iterator-loop-row).is_finite l.row-iterator × IsValue (type_of l.schema l.id) l.value
