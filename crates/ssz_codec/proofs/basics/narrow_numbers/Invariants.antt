use Rattle.std.proofs.Common.{◌*◌, map, Some}
use Rattle.std.specs.List.{AllByRecursion}
use Rattle.ssz_schema.specs.Types.{uint}
use Rattle.ssz_value.specs.Standing.{value_of, IsFormed}
use Rattle.ssz_codec.proofs.ReadLemmas.{ReadFrom}
use Rattle.ssz_codec.proofs.basics.narrow_numbers.Given as goal

abbrev pub invariant-loop-i : goal.invariant-loop-i
invariant-loop-i l = record {
  read : ReadFrom (uint l.width) (Some l.size) l.count l.bytes l.i (l.i * l.size)
      (map value_of l.parts.items);
  formed : AllByRecursion (IsFormed (uint l.width)) l.parts.items;
}
