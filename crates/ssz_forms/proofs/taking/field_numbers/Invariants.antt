use Rattle.std.proofs.Common.{ℕ, ◌≡◌, ◌≤◌, List, length, drop, bytes_eq}
use Rattle.std.specs.List.{position_from}
use Rattle.ssz_schema.specs.Lookup.{lookup_name}
use Rattle.ssz_schema.specs.NameTables.{names_in}
use Rattle.ssz_forms.proofs.taking.field_numbers.Given as goal

abbrev pub invariant-loop-i : goal.invariant-loop-i
invariant-loop-i l = (l.i ≤ length l.fields)
    × ((name : List ℕ) → lookup_name (names_in l.numbers) name
    ≡ position_from (λ part. bytes_eq part.0 name) l.i (drop l.i l.fields))

abbrev pub decreases-loop-i : goal.decreases-loop-i
decreases-loop-i l = l.i
