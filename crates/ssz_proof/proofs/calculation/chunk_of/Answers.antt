use Rattle.std.proofs.Common.{sym, ap, ◌∙◌}
use Rattle.ssz_proof.specs.Calculation.{chunk_at}
use Rattle.ssz_proof.proofs.Descending.{ascends, descends}
use Rattle.ssz_proof.proofs.KnownChunks.{chunk_at-append, if_some}
use Rattle.ssz_proof.proofs.calculation.chunk_of.Goals as goal

pub find-requires : goal.find-requires
find-requires c = ascends c.args.leaves.now c.args.nodes.now c.requires

pub find_descending-requires : goal.find_descending-requires
find_descending-requires c = descends c.args.leaves.now c.args.nodes.now c.requires

pub returns-in-Some : goal.returns-in-Some
returns-in-Some c =
    sym (chunk_at-append c.args.leaves.now c.args.nodes.now c.args.index
    ∙ ap (λ o. if_some o (chunk_at c.args.nodes.now c.args.index)) (sym c.in-Some.ensures))

pub returns : goal.returns
returns c =
    c.find_descending.ensures
    ∙ sym (chunk_at-append c.args.leaves.now c.args.nodes.now c.args.index
    ∙ ap (λ o. if_some o (chunk_at c.args.nodes.now c.args.index)) (sym c.in_default.ensures))
