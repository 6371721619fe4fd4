-- What the fields of a slice stand for, and what they keep.
use Rattle.std.specs.Prelude.{◌<◌, ◌^◌, length}
use Rattle.ssz_schema.specs.Unfolding.{type_of}
use Rattle.ssz_bytes.specs.Bytes.{IsBytes}
use Rattle.ssz_schema.specs.Legal.{IsLegal}
use Rattle.ssz_slices.specs.declared.slice.Slice.TheInside.{Inside}
use Rattle.ssz_slices.specs.Part.{Part}
use Rattle.ssz_slices.specs.Held.{held_value, held_span, HeldHasType}

abbrev pub part_inside : Inside → Part
part_inside a = record {
  form = type_of a.schema.now a.id;
  value = held_value (type_of a.schema.now a.id) a.input.now a.held;
  input = a.input.now;
  place = held_span a.held;
}

pub record IsSlice (a : Inside) : Type 0 where
  pub known : a.id < length a.schema.now.trees
  pub legal : IsLegal a.schema.now.format (type_of a.schema.now a.id)
  pub bytes : IsBytes a.input.now
  pub short : length a.input.now < 2 ^ 32
  pub holds : HeldHasType (type_of a.schema.now a.id) a.input.now a.held
