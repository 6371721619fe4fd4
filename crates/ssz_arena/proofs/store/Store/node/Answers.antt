use Rattle.std.proofs.Common.{ap, ◌∙◌, arith, Some}
use Rattle.ssz_arena.specs.Content.{ArenaContent}
use Rattle.ssz_arena.proofs.Storing.{size_seen, read_leaf, read_due, read_kept, read_chunk}
use Rattle.ssz_arena.specs.declared.node.Node.TheVariants.{Leaf, Pair}
use Rattle.ssz_arena.proofs.store.Store.node.Goals as goal

pub links_at-requires-clause-inside : goal.links_at-requires-clause-inside
links_at-requires-clause-inside c = omega (
  arith,
  c.requires,
  c.self.invariant.0.count,
  c.self.invariant.0.enough,
  c.self.invariant.0.all,
  c.self.invariant.1,
  c.self.invariant.2,
  c.self.inside.chunks.ok.0,
  c.self.inside.kinds.ok.0,
  c.self.inside.firsts.ok.0,
  c.self.inside.links.ok.0,
  size_seen c.args.self.now.nodes c.self.inside.chunks.items c.self.inside.kinds.items
      c.self.inside.firsts.items c.self.inside.links.items
      (ap (λ (a : ArenaContent). a.nodes) c.self.view_is),
)

pub links_at-requires-clause-few : goal.links_at-requires-clause-few
links_at-requires-clause-few c = omega (
  arith,
  c.requires,
  c.self.invariant.0.count,
  c.self.invariant.0.enough,
  c.self.invariant.0.all,
  c.self.invariant.1,
  c.self.invariant.2,
  c.self.inside.chunks.ok.0,
  c.self.inside.kinds.ok.0,
  c.self.inside.firsts.ok.0,
  c.self.inside.links.ok.0,
  size_seen c.args.self.now.nodes c.self.inside.chunks.items c.self.inside.kinds.items
      c.self.inside.firsts.items c.self.inside.links.items
      (ap (λ (a : ArenaContent). a.nodes) c.self.view_is),
)

pub index-requires : goal.index-requires
index-requires c = omega (
  arith,
  c.requires,
  c.self.invariant.0.count,
  c.self.invariant.0.enough,
  c.self.invariant.0.all,
  c.self.invariant.1,
  c.self.invariant.2,
  c.self.inside.chunks.ok.0,
  c.self.inside.kinds.ok.0,
  c.self.inside.firsts.ok.0,
  c.self.inside.links.ok.0,
  size_seen c.args.self.now.nodes c.self.inside.chunks.items c.self.inside.kinds.items
      c.self.inside.firsts.items c.self.inside.links.items
      (ap (λ (a : ArenaContent). a.nodes) c.self.view_is),
)

pub returns-then-link-ge-MARK : goal.returns-then-link-ge-MARK
returns-then-link-ge-MARK c = (read_due c.args.self.now.nodes c.self.inside.chunks.items
    c.self.inside.kinds.items
    c.self.inside.firsts.items c.self.inside.links.items c.args.i (ap (λ (a : ArenaContent).
    a.nodes) c.self.view_is) c.requires c.in-Some.link c.in-Some.right c.in-Some.ensures
    c.if-link-ge-MARK.true)

pub returns-in-None : goal.returns-in-None
returns-in-None c = (read_leaf c.args.self.now.nodes c.self.inside.chunks.items
    c.self.inside.kinds.items
    c.self.inside.firsts.items c.self.inside.links.items c.args.i (ap (λ (a : ArenaContent).
    a.nodes) c.self.view_is) c.requires c.in-None.ensures)
    ∙ ap (λ k. Some (Leaf k)) (read_chunk c.args.self.now.nodes c.self.inside.chunks.items
    c.self.inside.kinds.items
    c.self.inside.firsts.items c.self.inside.links.items c.args.i (ap (λ (a : ArenaContent).
    a.nodes) c.self.view_is) c.requires c.index.result.now c.index.ensures)

pub returns-else-link-ge-MARK : goal.returns-else-link-ge-MARK
returns-else-link-ge-MARK c = (read_kept c.args.self.now.nodes c.self.inside.chunks.items
    c.self.inside.kinds.items
    c.self.inside.firsts.items c.self.inside.links.items c.args.i (ap (λ (a : ArenaContent).
    a.nodes) c.self.view_is) c.requires c.in-Some.link c.in-Some.right c.in-Some.ensures
    c.if-link-ge-MARK.false)
    ∙ ap (λ k. Some (Pair (record { 0 = c.in-Some.link }) (record { 0 = c.in-Some.right }) (Some
    k)))
    (read_chunk c.args.self.now.nodes c.self.inside.chunks.items c.self.inside.kinds.items
    c.self.inside.firsts.items c.self.inside.links.items c.args.i (ap (λ (a : ArenaContent).
    a.nodes) c.self.view_is) c.requires c.index-in-Some.result.now c.index-in-Some.ensures)
