use Rattle.std.proofs.Common.{◌≡◌, ◌++◌, drop}
use Rattle.ssz_json_text.specs.Strings.{bits_text}
use Rattle.ssz_json_text.specs.Keeping.{Keeps}
use Rattle.ssz_json_text.proofs.putting.put_bit_digits.Given as goal

abbrev pub invariant-loop-bit : goal.invariant-loop-bit
invariant-loop-bit l = record {
  text : l.out.items ++ bits_text (drop l.bit-index l.bits)
      ≡ l.fn.out.items ++ bits_text l.bits;
  front : Keeps l.fn.out.items l.out.items;
}
