use Rattle.std.specs.Prelude.{IfSome}
use Rattle.edit_rows.specs.Versions.{AreRowVersions}
use Rattle.edit_rows.proofs.edit.print_rows.Given as goal

abbrev pub invariant-loop-row : goal.invariant-loop-row
invariant-loop-row l =
    (goal.iterator-loop-row).can_next l.row-iterator
    × (goal.iterator-loop-row).is_finite l.row-iterator
    × IfSome l.versions (AreRowVersions l.schema l.arena)
