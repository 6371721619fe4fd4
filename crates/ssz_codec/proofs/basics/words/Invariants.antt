use Rattle.std.proofs.Common.{◌*◌, ◌≡◌, map, Some, vec_len, vec_capacity}
use Rattle.std.specs.List.{AllByRecursion}
use Rattle.ssz_schema.specs.width.Width.TheVariants.{W64}
use Rattle.ssz_schema.specs.Types.{uint}
use Rattle.ssz_value.specs.Standing.{value_of, IsFormed}
use Rattle.ssz_codec.proofs.ReadLemmas.{ReadFrom}
use Rattle.ssz_codec.proofs.basics.words.Given as goal

abbrev pub invariant-loop-i : goal.invariant-loop-i
invariant-loop-i l = record {
  read : ReadFrom (uint W64) (Some 8) l.count l.bytes l.i (l.i * 8)
      (map value_of l.parts.items);
  formed : AllByRecursion (IsFormed (uint W64)) l.parts.items;
  count : vec_len l.parts ≡ l.i;
  room : vec_capacity l.parts ≡ l.count;
}
