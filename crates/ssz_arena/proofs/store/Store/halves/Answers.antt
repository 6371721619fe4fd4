use Rattle.std.proofs.Common.{ap, sym, arith}
use Rattle.std.proofs.lemmas.Option.{get_or_from_slice_get}
use Rattle.ssz_arena.specs.Batches.{halves_of}
use Rattle.ssz_arena.specs.Content.{ArenaContent}
use Rattle.ssz_arena.proofs.Storing.{size_seen, read_leaf, read_halves}
use Rattle.ssz_arena.proofs.store.Store.halves.Goals as goal

pub links_at-requires-clause-inside : goal.links_at-requires-clause-inside
links_at-requires-clause-inside c = omega (
  arith,
  c.requires,
  c.self.invariant.0.count,
  c.self.invariant.0.enough,
  c.self.invariant.0.all,
  c.self.invariant.1,
  c.self.invariant.2,
  c.self.inside.chunks.ok.0,
  c.self.inside.kinds.ok.0,
  c.self.inside.firsts.ok.0,
  c.self.inside.links.ok.0,
  size_seen c.args.self.now.nodes c.self.inside.chunks.items c.self.inside.kinds.items
      c.self.inside.firsts.items c.self.inside.links.items
      (ap (λ (a : ArenaContent). a.nodes) c.self.view_is),
)

pub links_at-requires-clause-few : goal.links_at-requires-clause-few
links_at-requires-clause-few c = omega (
  arith,
  c.requires,
  c.self.invariant.0.count,
  c.self.invariant.0.enough,
  c.self.invariant.0.all,
  c.self.invariant.1,
  c.self.invariant.2,
  c.self.inside.chunks.ok.0,
  c.self.inside.kinds.ok.0,
  c.self.inside.firsts.ok.0,
  c.self.inside.links.ok.0,
  size_seen c.args.self.now.nodes c.self.inside.chunks.items c.self.inside.kinds.items
      c.self.inside.firsts.items c.self.inside.links.items
      (ap (λ (a : ArenaContent). a.nodes) c.self.view_is),
)

pub returns-in-None : goal.returns-in-None
returns-in-None c = sym (ap halves_of (get_or_from_slice_get c.args.self.now.nodes
    c.args.id.0 _ _ (read_leaf c.args.self.now.nodes c.self.inside.chunks.items
    c.self.inside.kinds.items
    c.self.inside.firsts.items c.self.inside.links.items c.args.id.0 (ap (λ (a : ArenaContent).
    a.nodes) c.self.view_is) c.requires c.in-None.ensures)))

pub returns-in-Some : goal.returns-in-Some
returns-in-Some c =
    read_halves c.args.self.now.nodes c.self.inside.chunks.items c.self.inside.kinds.items
    c.self.inside.firsts.items c.self.inside.links.items c.args.id.0
    (ap (λ (a : ArenaContent). a.nodes) c.self.view_is) c.requires c.in-Some.link c.in-Some.right
    c.in-Some.ensures (grind (arith, c.links_at.type_inv, c.in-Some.is))
