use Rattle.std.proofs.Common.{◌+◌, ◌*◌, ◌≤◌, map, length, take, ◌≡◌, vec_len, vec_capacity}
use Rattle.std.specs.List.{AllByRecursion}
use Rattle.ssz_schema.specs.Unfolding.{type_of, fields_over}
use Rattle.ssz_value.specs.Standing.{value_of, IsFormed, FieldsFormed}
use Rattle.ssz_parts.specs.PartValues.{element_values}
use Rattle.ssz_parts.proofs.FieldLemmas.{FieldsFrom}
use Rattle.ssz_codec.proofs.ReadLemmas.{FieldsRead}
use Rattle.ssz_codec.proofs.decoding.+value.Given as goal

abbrev pub decreases-value : goal.decreases-value
decreases-value l = 8 * l.id + 4

abbrev pub decreases-chosen : goal.decreases-chosen
decreases-chosen l = 8 * l.id + 3

abbrev pub decreases-container : goal.decreases-container
decreases-container l = 8 * l.id + 3

abbrev pub decreases-put_container : goal.decreases-put_container
decreases-put_container l = 8 * l.id + 4

abbrev pub decreases-put_field : goal.decreases-put_field
decreases-put_field l = 8 * l.id + 6

abbrev pub decreases-put_other : goal.decreases-put_other
decreases-put_other l = 8 * l.id + 5

abbrev pub decreases-elements : goal.decreases-elements
decreases-elements l = 8 * l.elem + 9

abbrev pub decreases-parts_of : goal.decreases-parts_of
decreases-parts_of l = 8 * l.elem + 8

abbrev pub decreases-others : goal.decreases-others
decreases-others l = 8 * l.elem + 7

abbrev pub decreases-containers : goal.decreases-containers
decreases-containers l = 8 * l.id + 7

abbrev pub invariant-others-loop-i : goal.invariant-others-loop-i
invariant-others-loop-i l = record {
  read : map value_of l.parts.items
      ≡ take l.i (element_values (type_of l.schema l.elem) l.count l.bytes);
  formed : AllByRecursion (IsFormed (type_of l.schema l.elem)) l.parts.items;
  count : vec_len l.parts ≡ l.i;
  room : l.count ≤ vec_capacity l.parts;
}

abbrev pub invariant-containers-loop-i : goal.invariant-containers-loop-i
invariant-containers-loop-i l = record {
  read : map value_of l.parts.items
      ≡ take l.i (element_values (type_of l.schema l.id) l.count l.bytes);
  formed : AllByRecursion (IsFormed (type_of l.schema l.id)) l.parts.items;
  count : vec_len l.parts ≡ l.i;
  room : l.count ≤ vec_capacity l.parts;
}

abbrev pub invariant-container-loop-i : goal.invariant-container-loop-i
invariant-container-loop-i l = record {
  faultless : FieldsFrom l.schema.trees l.fields 0 l.bytes l.i l.place;
  read : FieldsRead l.schema.trees l.fields l.bytes l.i l.place (map value_of l.parts.items);
  formed : FieldsFormed (fields_over l.schema.trees l.fields) l.parts.items;
  items : length l.parts.items ≡ l.i;
  count : vec_len l.parts ≡ l.i;
  room : length l.fields ≤ vec_capacity l.parts;
}
