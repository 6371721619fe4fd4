use Rattle.std.proofs.Common.{◌==◌, arith}
use Rattle.ssz_line.proofs.SplitLemmas.{slice_split-place, slice_split-none}
use Rattle.ssz_line.proofs.parts.split_part.Goals as goal

pub returns-then-place-text : goal.returns-then-place-text
returns-then-place-text c =
    let place = c.slash_place-place in
    rw (c.split_at-then-place-text.ensures.back, c.split_at.ensures.back, c.split_at.ensures.front)
    (slice_split-place (λ b. b == 47) place.result c.args.text.now c.if-place-text.true
    place.ensures.before (place.ensures.at c.if-place-text.true))

pub returns-else-place-text : goal.returns-else-place-text
returns-else-place-text c =
    slice_split-none (λ b. b == 47) c.args.text.now
    (λ k h. c.slash_place-place.ensures.before k (omega arith))
