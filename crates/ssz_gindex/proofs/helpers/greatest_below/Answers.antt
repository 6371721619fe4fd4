use Rattle.std.proofs.Common.{ℕ, ◌+◌, sym, ◌∙◌, subst}
use Rattle.std.proofs.lemmas.Bool.{false≢true}
use Rattle.ssz_gindex.proofs.Lowest.{IsLowest, lowest-same, lowest-greater, lowest-all}
use Rattle.ssz_gindex.proofs.helpers.greatest_below.Goals as goal
use Rattle.ssz_gindex.proofs.helpers.greatest_below.Goals.{then-is_within, else-is_within}

pub loop-index-preserved : goal.loop-index-preserved
loop-index-preserved c = elim c.if-is_within.branch [
  | then-is_within w ↦ subst (λ (n : ℕ).
      IsLowest c.args.indices.now c.args.upper n (c.loop-index.index-index + 1)) (sym w.lowest-is)
      (lowest-greater c.args.indices.now c.args.upper c.loop-index.lowest c.loop-index.index-index
      c.index-item.result w.max-lowest.result
      c.loop-index-test.true c.index-item.is c.loop-index.invariant
      (sym c.is_within.ensures ∙ w.if-is_within.true) w.max-lowest.ensures)
  | else-is_within w ↦ subst (λ (n : ℕ).
      IsLowest c.args.indices.now c.args.upper n (c.loop-index.index-index + 1)) (sym w.lowest-is)
      (lowest-same c.args.indices.now c.args.upper c.loop-index.lowest c.loop-index.index-index
      c.index-item.result
      c.loop-index-test.true c.index-item.is c.loop-index.invariant
      (λ e. absurd (false≢true (sym w.if-is_within.false ∙ c.is_within.ensures ∙ e))))
]

pub returns : goal.returns
returns c = lowest-all c.args.indices.now c.args.upper c.loop-index.lowest c.loop-index.index-index
    c.loop-index-test.false c.requires c.loop-index.invariant
