use Rattle.std.proofs.Common.{[], ◌∷◌, ◌++◌, sym, ap, ◌∙◌}
use Rattle.ssz_proof.specs.Text.{line_without_feed}
use Rattle.ssz_proof.proofs.TextSteps.{line_of-end, line_of-other}
use Rattle.ssz_proof.proofs.reading.line.Goals as goal

pub returns-in-Some : goal.returns-in-Some
returns-in-Some c =
    let split = c.in-Some.ensures.cases.0 in
    sym (ap line_without_feed split
    ∙ ap (λ last. line_without_feed (c.in-Some.line.now ++ last ∷ [])) c.if-last-eq10.true
    ∙ line_of-end c.in-Some.line.now)

pub returns-in_default : goal.returns-in_default
returns-in_default c =
    let split = c.in-Some.ensures.cases.0 in
    split ∙ sym (line_of-other c.in-Some.line.now c.in-Some.last.now c.if-last-eq10.false)
    ∙ ap line_without_feed (sym split)
