use Rattle.std.proofs.Common.{List, length, arith, ap}
use Rattle.std.proofs.lemmas.Option.{slice_get-get_or}
use Rattle.ssz_arena.specs.declared.node.Node.{Node}
use Rattle.ssz_arena.specs.Content.{ArenaContent}
use Rattle.ssz_arena.proofs.Seen.{chunk_read}
use Rattle.ssz_arena.proofs.arena.Arena.chunk.Goals as goal

pub returns : goal.returns
returns g c =
    let nodes = c.self.inside.nodes.nodes in
    let seen = ap (λ (a : ArenaContent). a.nodes) c.self.view_is in
    chunk_read g.H.PairHash.pair_of nodes c.self.invariant c.args.self.now seen c.args.id
    c.requires _ (slice_get-get_or nodes c.args.id.0 _
    (omega (arith, c.requires, ap (λ (ns : List Node). length ns) seen)))
    c.chunk.result.now c.chunk.ensures
