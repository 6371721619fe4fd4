use Rattle.std.proofs.Common.{◌≡◌, ◌+◌, ◌-◌, ◌*◌, ◌^◌, ◌∙◌, min, refl, ap, arith}
use Rattle.ssz_chunk.specs.Tree.{merkle_pairs}
use Rattle.ssz_making.proofs.Saturating.{IsCounted-start, IsCounted-more, IsCounted-flat}
use Rattle.ssz_making.proofs.tally.pairs_above.Goals as goal

pub loop-j-init : goal.loop-j-init
loop-j-init c = IsCounted-start c.args.n

pub loop-j-preserved : goal.loop-j-preserved
loop-j-preserved c = IsCounted-more c.args.n c.loop-j.j c.loop-j.left c.loop-j.pairs _ _
    c.loop-j.invariant refl c.saturating_add-pairs.ensures

pub returns : goal.returns
returns c = omega (
  arith,
  c.loop-j.invariant.counted,
  ap (λ j. merkle_pairs j c.args.n) (let last : c.loop-j.j ≡ c.args.depth = omega arith in last),
)

pub returns-then-left-le1 : goal.returns-then-left-le1
returns-then-left-le1 c = IsCounted-flat c.args.n c.loop-j.j c.args.depth c.loop-j.left
    c.loop-j.pairs _ c.loop-j.invariant c.if-left-le1.true
    (omega (arith, c.loop-j.auto))
    (c.saturating_add.ensures
    ∙ ap (λ k. min (c.loop-j.pairs + c.loop-j.left * k) (2 ^ 64 - 1)) c.from.ensures)
