use Rattle.std.proofs.Common.{◌+◌, ◌*◌, ◌<◌, Some}
use Rattle.std.specs.Option.{ForSome}
use Rattle.ssz_schema.specs.Unfolding.{type_of}
use Rattle.ssz_checking.specs.Clean.{AreCleanBefore}
use Rattle.ssz_checking.proofs.CleanLemmas.{CleanSoFar, FieldsSoFar}
use Rattle.ssz_checking.proofs.clean.+clean.Given as goal

abbrev pub decreases-is_clean : goal.decreases-is_clean
decreases-is_clean l = 8 * l.id + 4

abbrev pub decreases-is_fixed_clean : goal.decreases-is_fixed_clean
decreases-is_fixed_clean l = 8 * l.id + 5

abbrev pub decreases-is_part_clean : goal.decreases-is_part_clean
decreases-is_part_clean l = 8 * l.id + 5

abbrev pub decreases-is_closed_clean : goal.decreases-is_closed_clean
decreases-is_closed_clean l = 8 * l.id + 1

abbrev pub decreases-are_fields_clean : goal.decreases-are_fields_clean
decreases-are_fields_clean l = 8 * l.id + 2

abbrev pub decreases-is_container_clean : goal.decreases-is_container_clean
decreases-is_container_clean l = 8 * l.id + 3

abbrev pub decreases-first_unclean_container : goal.decreases-first_unclean_container
decreases-first_unclean_container l = 8 * l.id + 5

abbrev pub decreases-first_unclean_variable : goal.decreases-first_unclean_variable
decreases-first_unclean_variable l = 8 * l.elem + 6

abbrev pub decreases-first_unclean_alike : goal.decreases-first_unclean_alike
decreases-first_unclean_alike l = 8 * l.elem + 6

abbrev pub decreases-are_elements_clean : goal.decreases-are_elements_clean
decreases-are_elements_clean l = 8 * l.elem + 7

abbrev pub decreases-is_list_clean : goal.decreases-is_list_clean
decreases-is_list_clean l = 8 * l.elem + 9

abbrev pub decreases-is_counted_clean : goal.decreases-is_counted_clean
decreases-is_counted_clean l = 8 * l.elem + 8

abbrev pub invariant-first_unclean_alike-loop-i : goal.invariant-first_unclean_alike-loop-i
invariant-first_unclean_alike-loop-i l =
    AreCleanBefore (type_of l.schema l.elem) (Some l.size) l.count l.i l.bytes

abbrev pub invariant-first_unclean_variable-loop-i : goal.invariant-first_unclean_variable-loop-i
invariant-first_unclean_variable-loop-i l =
    CleanSoFar (type_of l.schema l.elem) l.count l.bytes l.i l.from

abbrev pub invariant-first_unclean_container-loop-i : goal.invariant-first_unclean_container-loop-i
invariant-first_unclean_container-loop-i l =
    CleanSoFar (type_of l.schema l.id) l.count l.bytes l.i l.from

abbrev pub invariant-are_fields_clean-loop-field : goal.invariant-are_fields_clean-loop-field
invariant-are_fields_clean-loop-field l = record {
  so_far : FieldsSoFar l.schema.trees l.fields l.bytes l.heads l.field-index l.place l.last l.from;
  known : ForSome l.last (λ part. part < l.id);
}
