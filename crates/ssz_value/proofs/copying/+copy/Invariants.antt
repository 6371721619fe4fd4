use Rattle.std.proofs.Common.{take}
use Rattle.ssz_value.proofs.CopyLemmas.{AreCopies}
use Rattle.ssz_value.proofs.copying.+copy.Given as goal

abbrev pub invariant-loop-part : goal.invariant-loop-part
invariant-loop-part l = AreCopies (take l.part-index l.part-items) l.copies.items
