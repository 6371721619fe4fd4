use Rattle.std.proofs.Common.{◌*◌, map, Some}
use Rattle.std.specs.List.{AllByRecursion}
use Rattle.ssz_schema.specs.width.Width.TheVariants.{W256}
use Rattle.ssz_schema.specs.Types.{uint}
use Rattle.ssz_value.specs.Standing.{value_of, IsFormed}
use Rattle.ssz_codec.proofs.ReadLemmas.{ReadFrom}
use Rattle.ssz_codec.proofs.basics.wide_numbers.Given as goal

abbrev pub invariant-loop-i : goal.invariant-loop-i
invariant-loop-i l = record {
  read : ReadFrom (uint W256) (Some 32) l.count l.bytes l.i (l.i * 32)
      (map value_of l.parts.items);
  formed : AllByRecursion (IsFormed (uint W256)) l.parts.items;
}
