use Rattle.std.proofs.Common.{◌^◌, ◌∙◌, subst, arith}
use Rattle.ssz_value.specs.Trees.{chunks}
use Rattle.ssz_merkle.specs.Frontier.{FrontierHolds}
use Rattle.ssz_roots.proofs.RowChunks.{row_chunks}
use Rattle.ssz_roots.proofs.rows.push_row_of.Goals as goal

pub returns-clause-holds : goal.returns-clause-holds
returns-clause-holds g c held =
    let long : _ = c.fill_row.auto.row ∙ c.requires.count in
    subst (λ cs. FrontierHolds g.H.PairHash.pair_of cs c.push_row.new.self)
    (row_chunks c.fill_row.new.row c.args.from (2 ^ c.args.height) c.args.bytes.now long
    (λ i below. c.fill_row.ensures i (omega (arith, long))))
    (c.push_row.ensures.holds (chunks c.args.from c.args.bytes.now) held)
