use Rattle.ssz_outside.proofs.Cutting.{cut-append}
use Rattle.ssz_outside.proofs.tape.Tape.append.Goals as goal

pub returns-clause-ok : goal.returns-clause-ok
returns-clause-ok c =
    let lengths = c.self.inside.lengths.items in
    let text = c.self.inside.text.items in
    rw (
      c.push_reserved.ensures.items,
      c.reserve.ensures.items,
      c.in_ok-extend_from_slice.ensures.items,
      ← c.self.view_is,
    ) (cut-append lengths text c.args.piece.now c.self.invariant)
