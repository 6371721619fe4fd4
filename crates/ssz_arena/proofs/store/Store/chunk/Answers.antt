use Rattle.std.proofs.Common.{ap, sym, ◌∙◌, arith}
use Rattle.std.proofs.lemmas.Option.{get_or_from_slice_get}
use Rattle.ssz_arena.specs.Content.{ArenaContent}
use Rattle.ssz_arena.specs.Stored.{chunk_of, links_at}
use Rattle.ssz_arena.proofs.Storing.{size_seen, found, read_chunk, chunk_seen}
use Rattle.ssz_arena.proofs.store.Store.chunk.Goals as goal

pub index-requires : goal.index-requires
index-requires c = omega (
  arith,
  c.requires,
  c.self.inside.chunks.ok.0,
  size_seen c.args.self.now.nodes c.self.inside.chunks.items c.self.inside.kinds.items
      c.self.inside.firsts.items c.self.inside.links.items
      (ap (λ (a : ArenaContent). a.nodes) c.self.view_is),
)

pub returns : goal.returns
returns c = λ chunk is.
    sym (read_chunk c.args.self.now.nodes c.self.inside.chunks.items c.self.inside.kinds.items
    c.self.inside.firsts.items c.self.inside.links.items c.args.id.0 (ap (λ (a : ArenaContent).
    a.nodes) c.self.view_is) c.requires c.index.result.now c.index.ensures)
    ∙ chunk_seen _ chunk (links_at c.self.inside.kinds.items c.self.inside.firsts.items
    c.self.inside.links.items c.args.id.0)
    (ap chunk_of (sym (get_or_from_slice_get c.args.self.now.nodes c.args.id.0 _ _
    (found c.args.self.now.nodes c.self.inside.chunks.items c.self.inside.kinds.items
    c.self.inside.firsts.items c.self.inside.links.items c.args.id.0 (ap (λ (a : ArenaContent).
    a.nodes) c.self.view_is) c.requires))) ∙ is)
