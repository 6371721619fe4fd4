use Rattle.std.proofs.Common.{[]}
use Rattle.ssz_schema.specs.Types.{uint}
use Rattle.ssz_codec.proofs.WritingLemmas.{ElementsLeft}
use Rattle.ssz_codec.proofs.encoding.put_each.Given as goal

abbrev pub invariant-loop-part : goal.invariant-loop-part
invariant-loop-part l = ElementsLeft (uint l.width) l.parts l.part-index (l.place, 0) l.front []
