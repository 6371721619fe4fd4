use Rattle.std.proofs.Common.{ap, arith}
use Rattle.ssz_arena.specs.Content.{ArenaContent}
use Rattle.ssz_arena.proofs.Storing.{size_seen, read_child, second_before}
use Rattle.ssz_arena.proofs.store.Store.child.Goals as goal

pub child_at-requires-clause-inside : goal.child_at-requires-clause-inside
child_at-requires-clause-inside c = omega (
  arith,
  c.requires.inside,
  c.self.invariant.0.count,
  c.self.invariant.0.enough,
  c.self.invariant.0.all,
  c.self.invariant.1,
  c.self.invariant.2,
  c.self.inside.chunks.ok.0,
  c.self.inside.kinds.ok.0,
  c.self.inside.firsts.ok.0,
  c.self.inside.links.ok.0,
  size_seen c.args.self.now.nodes c.self.inside.chunks.items c.self.inside.kinds.items
      c.self.inside.firsts.items c.self.inside.links.items
      (ap (λ (a : ArenaContent). a.nodes) c.self.view_is),
)

pub child_at-requires-clause-few : goal.child_at-requires-clause-few
child_at-requires-clause-few c = omega (
  arith,
  c.requires.inside,
  c.self.invariant.0.count,
  c.self.invariant.0.enough,
  c.self.invariant.0.all,
  c.self.invariant.1,
  c.self.invariant.2,
  c.self.inside.chunks.ok.0,
  c.self.inside.kinds.ok.0,
  c.self.inside.firsts.ok.0,
  c.self.inside.links.ok.0,
  size_seen c.args.self.now.nodes c.self.inside.chunks.items c.self.inside.kinds.items
      c.self.inside.firsts.items c.self.inside.links.items
      (ap (λ (a : ArenaContent). a.nodes) c.self.view_is),
)

pub child_at-requires-clause-short : goal.child_at-requires-clause-short
child_at-requires-clause-short c wide =
    let nodes = c.args.self.now.nodes in
    let seen = ap (λ (a : ArenaContent). a.nodes) c.self.view_is in
    let before = second_before nodes c.self.inside.chunks.items c.self.inside.kinds.items
    c.self.inside.firsts.items c.self.inside.links.items c.args.id.0 seen c.requires.inside
    c.requires.ordered wide in
    omega (
      arith,
      before,
      c.requires.inside,
      c.self.invariant.1,
      c.self.invariant.2,
      size_seen nodes c.self.inside.chunks.items c.self.inside.kinds.items
          c.self.inside.firsts.items c.self.inside.links.items seen,
    )

pub returns : goal.returns
returns c = read_child c.args.self.now.nodes c.self.inside.chunks.items
    c.self.inside.kinds.items
    c.self.inside.firsts.items c.self.inside.links.items c.args.id.0 (ap (λ (a : ArenaContent).
    a.nodes) c.self.view_is) c.requires.inside c.args.right _ c.child_at.ensures
