-- Each call goes down the expression, or stays at it in a function of lower rank.
use Rattle.std.proofs.Common.{◌+◌, ◌*◌}
use Rattle.ssz_schema.proofs.WalkFields.{FieldsFrom}
use Rattle.ssz_schema.proofs.WalkOptions.{OptionsFrom}
use Rattle.ssz_schema.proofs.schema.Schema.+walk.Given as goal

abbrev pub decreases-resolve : goal.decreases-resolve
decreases-resolve l = 4 * goal.size-resolve l

abbrev pub decreases-resolve_field : goal.decreases-resolve_field
decreases-resolve_field l = 4 * goal.size-resolve_field l + 1

abbrev pub decreases-resolve_fields : goal.decreases-resolve_fields
decreases-resolve_fields l = 4 * goal.size-resolve_fields l + 2

abbrev pub decreases-resolve_container : goal.decreases-resolve_container
decreases-resolve_container l = 4 * goal.size-resolve_container l + 3

abbrev pub decreases-resolve_option : goal.decreases-resolve_option
decreases-resolve_option l = 4 * goal.size-resolve_option l + 1

abbrev pub decreases-resolve_options : goal.decreases-resolve_options
decreases-resolve_options l = 4 * goal.size-resolve_options l + 2

abbrev pub decreases-resolve_union : goal.decreases-resolve_union
decreases-resolve_union l = 4 * goal.size-resolve_union l + 3

abbrev pub invariant-resolve_fields-loop-i : goal.invariant-resolve_fields-loop-i
invariant-resolve_fields-loop-i l =
    FieldsFrom l.fn.self l.fields.items l.self l.i l.repeat l.resolved.items

abbrev pub invariant-resolve_options-loop-i : goal.invariant-resolve_options-loop-i
invariant-resolve_options-loop-i l =
    OptionsFrom l.fn.self l.options.items l.self l.i l.resolved.items
