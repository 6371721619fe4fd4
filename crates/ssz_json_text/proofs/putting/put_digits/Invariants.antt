use Rattle.std.proofs.Common.{◌≡◌, ◌++◌, length}
use Rattle.hex.specs.Hex.{encode_lower}
use Rattle.ssz_json_text.specs.Keeping.{Keeps}
use Rattle.ssz_json_text.proofs.putting.put_digits.Given as goal

abbrev pub decreases-blocks-2 : goal.decreases-blocks-2
decreases-blocks-2 l = length l.rest

abbrev pub invariant-blocks-2 : goal.invariant-blocks-2
invariant-blocks-2 l = record {
  text : l.out.items ++ encode_lower l.rest ≡ l.fn.out.items ++ encode_lower l.bytes;
  front : Keeps l.fn.out.items l.out.items;
}
