use Rattle.std.proofs.Common.{sym, ap, ◌∙◌}
use Rattle.ssz_outside.specs.Pieces.{text_of_pieces}
use Rattle.ssz_outside.proofs.Cutting.{concat-cut}
use Rattle.ssz_outside.proofs.tape.Tape.text.Goals as goal

pub returns : goal.returns
returns c =
    c.deref.ensures.value
    ∙ sym (concat-cut c.self.inside.lengths.items c.self.inside.text.items c.self.invariant)
    ∙ ap text_of_pieces c.self.view_is
