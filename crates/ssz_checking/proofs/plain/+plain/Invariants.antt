use Rattle.std.proofs.Common.{◌+◌, ◌*◌, ◌≡◌, drop}
use Rattle.ssz_schema.specs.Unfolding.{fields_over}
use Rattle.ssz_checking.specs.Plain.{are_plain}
use Rattle.ssz_checking.proofs.plain.+plain.Given as goal

abbrev pub decreases-is_plain : goal.decreases-is_plain
decreases-is_plain l = 2 * l.id + 1

abbrev pub decreases-are_plain : goal.decreases-are_plain
decreases-are_plain l = 2 * l.id

abbrev pub invariant-are_plain-loop-field : goal.invariant-are_plain-loop-field
invariant-are_plain-loop-field l =
    are_plain (fields_over l.schema.trees (drop l.field-index l.fields))
    ≡ are_plain (fields_over l.schema.trees l.fields)
