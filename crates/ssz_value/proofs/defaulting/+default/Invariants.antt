use Rattle.std.proofs.Common.{◌+◌, ◌*◌}
use Rattle.ssz_schema.specs.Unfolding.{type_of}
use Rattle.ssz_value.proofs.DefaultLemmas.{Defaults, FieldDefaults}
use Rattle.ssz_value.proofs.defaulting.+default.Given as goal

abbrev pub decreases-default_of : goal.decreases-default_of
decreases-default_of l = 2 * l.id + 1

abbrev pub decreases-default_union : goal.decreases-default_union
decreases-default_union l = 2 * l.id

abbrev pub decreases-default_container : goal.decreases-default_container
decreases-default_container l = 2 * l.id

abbrev pub decreases-default_sequence : goal.decreases-default_sequence
decreases-default_sequence l = 2 * l.elem + 2

abbrev pub invariant-default_sequence-loop-i : goal.invariant-default_sequence-loop-i
invariant-default_sequence-loop-i l = Defaults (type_of l.schema l.elem) l._i l.parts.items

abbrev pub invariant-default_container-loop-field : goal.invariant-default_container-loop-field
invariant-default_container-loop-field l =
    FieldDefaults l.schema.trees l.fields l.field-index l.parts.items
