use Rattle.std.proofs.Common.{ap, arith}
use Rattle.ssz_arena.specs.Content.{ArenaContent}
use Rattle.ssz_arena.proofs.Storing.{size_seen, stored-as}
use Rattle.ssz_arena.proofs.store.Store.grow.Goals as goal

pub overflow_sub-room : goal.overflow_sub-room
overflow_sub-room c = omega (
  arith,
  c.requires.more,
  c.len-len.ensures,
  c.self.inside.chunks.ok.0,
  size_seen c.args.self.now.nodes c.self.inside.chunks.items c.self.inside.kinds.items
      c.self.inside.firsts.items c.self.inside.links.items
      (ap (λ (a : ArenaContent). a.nodes) c.self.view_is),
)

pub overflow_sub-room-2 : goal.overflow_sub-room-2
overflow_sub-room-2 c = omega (
  arith,
  c.requires.more,
  c.len-len.ensures,
  c.self.inside.chunks.ok.0,
  size_seen c.args.self.now.nodes c.self.inside.chunks.items c.self.inside.kinds.items
      c.self.inside.firsts.items c.self.inside.links.items
      (ap (λ (a : ArenaContent). a.nodes) c.self.view_is),
)

pub overflow_sub-blocks : goal.overflow_sub-blocks
overflow_sub-blocks c = omega (
  arith,
  c.requires.more,
  c.self.invariant.0.no_more,
  c.len.ensures,
  c.self.invariant.0.count,
  c.self.invariant.0.enough,
  c.self.invariant.0.all,
  c.self.invariant.1,
  c.self.invariant.2,
  c.self.inside.chunks.ok.0,
  c.self.inside.kinds.ok.0,
  c.self.inside.firsts.ok.0,
  c.self.inside.links.ok.0,
  size_seen c.args.self.now.nodes c.self.inside.chunks.items c.self.inside.kinds.items
      c.self.inside.firsts.items c.self.inside.links.items
      (ap (λ (a : ArenaContent). a.nodes) c.self.view_is),
)

pub overflow_sub-room-3 : goal.overflow_sub-room-3
overflow_sub-room-3 c = omega (
  arith,
  c.requires.more,
  c.len-2.ensures,
  c.self.invariant.0.count,
  c.self.invariant.0.enough,
  c.self.invariant.0.all,
  c.self.invariant.1,
  c.self.invariant.2,
  c.self.inside.chunks.ok.0,
  c.self.inside.kinds.ok.0,
  c.self.inside.firsts.ok.0,
  c.self.inside.links.ok.0,
  size_seen c.args.self.now.nodes c.self.inside.chunks.items c.self.inside.kinds.items
      c.self.inside.firsts.items c.self.inside.links.items
      (ap (λ (a : ArenaContent). a.nodes) c.self.view_is),
)

pub returns-clause-ok : goal.returns-clause-ok
returns-clause-ok c = omega (
  arith,
  c.requires.more,
  c.in_ok-reserve_exact.ensures.len,
  c.self.inside.chunks.ok.0,
  size_seen c.args.self.now.nodes c.self.inside.chunks.items c.self.inside.kinds.items
      c.self.inside.firsts.items c.self.inside.links.items
      (ap (λ (a : ArenaContent). a.nodes) c.self.view_is),
)

pub invariant_of-self-2 : goal.invariant_of-self-2
invariant_of-self-2 c = (
  stored-as _ _ _ _ _ _ _ _ c.self.invariant.0 c.in_ok-reserve_exact.ensures.len
      c.in_ok-reserve_exact-2.ensures.items c.in_ok-reserve_exact-3.ensures.items
      c.in_ok-reserve_exact-4.ensures.len,
  omega (
    arith,
    c.requires.more,
    c.in_ok-reserve_exact.ensures.len,
    c.self.inside.chunks.ok.0,
    size_seen c.args.self.now.nodes c.self.inside.chunks.items c.self.inside.kinds.items
        c.self.inside.firsts.items c.self.inside.links.items
        (ap (λ (a : ArenaContent). a.nodes) c.self.view_is),
  ),
  c.requires.most,
  omega (
    arith,
    c.requires.more,
    c.len-len.ensures,
    c.in_ok-reserve_exact.ensures.ok,
    c.in_ok-reserve_exact.ensures.len,
  ),
  omega (
    arith,
    c.requires.more,
    c.len-len.ensures,
    c.in_ok-reserve_exact-2.ensures.ok,
    c.in_ok-reserve_exact-2.ensures.len,
    c.self.invariant.0.count,
    c.self.invariant.0.enough,
    c.self.invariant.0.all,
    c.self.invariant.1,
    c.self.invariant.2,
    c.self.inside.chunks.ok.0,
    c.self.inside.kinds.ok.0,
    c.self.inside.firsts.ok.0,
    c.self.inside.links.ok.0,
    size_seen c.args.self.now.nodes c.self.inside.chunks.items c.self.inside.kinds.items
        c.self.inside.firsts.items c.self.inside.links.items
        (ap (λ (a : ArenaContent). a.nodes) c.self.view_is),
  ),
  omega (
    arith,
    c.requires.more,
    c.len.ensures,
    c.in_ok-reserve_exact-3.ensures.ok,
    c.in_ok-reserve_exact-3.ensures.len,
    c.self.invariant.0.no_more,
    c.self.invariant.0.count,
    c.self.invariant.0.enough,
    c.self.invariant.0.all,
    c.self.invariant.1,
    c.self.invariant.2,
    c.self.inside.chunks.ok.0,
    c.self.inside.kinds.ok.0,
    c.self.inside.firsts.ok.0,
    c.self.inside.links.ok.0,
    size_seen c.args.self.now.nodes c.self.inside.chunks.items c.self.inside.kinds.items
        c.self.inside.firsts.items c.self.inside.links.items
        (ap (λ (a : ArenaContent). a.nodes) c.self.view_is),
  ),
  omega (
    arith,
    c.requires.more,
    c.len-2.ensures,
    c.in_ok-reserve_exact-4.ensures.ok,
    c.in_ok-reserve_exact-4.ensures.len,
    c.self.invariant.0.count,
    c.self.invariant.0.enough,
    c.self.invariant.0.all,
    c.self.invariant.1,
    c.self.invariant.2,
    c.self.inside.chunks.ok.0,
    c.self.inside.kinds.ok.0,
    c.self.inside.firsts.ok.0,
    c.self.inside.links.ok.0,
    size_seen c.args.self.now.nodes c.self.inside.chunks.items c.self.inside.kinds.items
        c.self.inside.firsts.items c.self.inside.links.items
        (ap (λ (a : ArenaContent). a.nodes) c.self.view_is),
  ),
)
