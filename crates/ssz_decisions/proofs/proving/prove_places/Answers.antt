use Rattle.std.proofs.Common.{◌∙◌}
use Rattle.ssz_arena.specs.Content.{tree_of}
use Rattle.ssz_decisions.proofs.ProofRows.{proved-missing, proved-nested, says-proof}
use Rattle.ssz_decisions.proofs.proving.prove_places.Goals as goal

pub returns-in_ok-text-in-Ok-clause-proves : goal.returns-in_ok-text-in-Ok-clause-proves
returns-in_ok-text-in-Ok-clause-proves g c =
    says-proof g.H.PairHash.pair_of (tree_of c.args.arena.now c.args.node) c.args.asked.now
    c.in-Ok.proof c.from_bytes.result c.in-Ok.ensures.ok
    (c.from_bytes.ensures ∙ c.in_ok-text-in-Ok.ensures)

pub returns-in-Err-NoNode-clause-proves : goal.returns-in-Err-NoNode-clause-proves
returns-in-Err-NoNode-clause-proves g c =
    let missing = (rw c.in-Err-NoNode.field-0-is at c.in-Err-NoNode.ensures).fault in
    λ versions. proved-missing (tree_of c.args.arena.now c.args.node) g.H.PairHash.pair_of versions
    c.args.asked.now c.in-Err-NoNode.field-0-0 missing.given missing.missing

pub returns-in-Err-Nested-clause-proves : goal.returns-in-Err-Nested-clause-proves
returns-in-Err-Nested-clause-proves g c =
    let named = (rw c.in-Err-Nested.field-0-is at c.in-Err-Nested.ensures).fault in
    λ versions. proved-nested (tree_of c.args.arena.now c.args.node) g.H.PairHash.pair_of versions
    c.args.asked.now c.in-Err-Nested.field-0-0 c.in-Err-Nested.field-0-1 named.0 named.1.nested
