use Rattle.std.proofs.Common.{◌+◌, ◌*◌, refl, ap, arith}
use Rattle.ssz_arena.specs.Content.{ArenaContent}
use Rattle.std.proofs.Common.{vec_len}
use Rattle.ssz_arena.specs.Stored.{pair_in}
use Rattle.ssz_arena.proofs.Storing.{pair-as, pair_nodes-as}
use Rattle.ssz_arena.proofs.store.Store.push_pair.Goals as goal

pub begin-before-requires-clause-total : goal.begin-before-requires-clause-total
begin-before-requires-clause-total c = omega (
  arith,
  c.len-place.ensures,
  c.len.ensures,
  c.self.invariant.0.all,
)

pub link-shape-requires-clause-room : goal.link-shape-requires-clause-room
link-shape-requires-clause-room c = omega (
  arith,
  c.requires.room,
  ap (λ (a : ArenaContent). a.spare)
      c.self.view_is,
  c.self.invariant.0.all,
  c.self.invariant.1,
  c.self.invariant.6,
)

pub invariant_of-self : goal.invariant_of-self
invariant_of-self c = (
  pair-as (vec_len c.self.inside.chunks) c.self.inside.kinds.items
      c.self.inside.firsts.items (vec_len c.self.inside.links) c.self.invariant.0
      c.begin-before.result
      c.len-place.result c.len.result c.begin-before.new.firsts.items c.len-place.ensures
      c.len.ensures
      c.begin-before.ensures.blocks c.begin-before.ensures.before c.args.left
      c.args.right.0 c.link-shape.result
      (c.link-shape.result + 4 * c.begin-before.result) c.link-shape.ensures.shape refl _ _ _
      c.push_reserved-2.ensures.len c.push_reserved.ensures.items c.link-shape.ensures.len,
  omega (
    arith,
    c.requires.room,
    ap (λ (a : ArenaContent). a.spare) c.self.view_is,
    c.self.invariant.1,
    c.push_reserved-2.ensures.len,
  ),
  c.self.invariant.2,
  omega (arith, c.push_reserved-2.ensures.capacity, c.self.invariant.3),
  omega (arith, c.push_reserved.ensures.capacity, c.self.invariant.4),
  omega (arith, c.begin-before.ensures.capacity, c.self.invariant.5),
  omega (arith, c.link-shape.ensures.capacity, c.self.invariant.6),
)

pub returns-clause-nodes : goal.returns-clause-nodes
returns-clause-nodes c = pair_nodes-as (vec_len c.self.inside.chunks) c.self.inside.kinds.items
    c.self.inside.firsts.items (vec_len c.self.inside.links) c.self.invariant.0
    c.begin-before.result
    c.len-place.result c.len.result c.begin-before.new.firsts.items c.len-place.ensures
    c.len.ensures
    c.begin-before.ensures.blocks c.begin-before.ensures.before c.args.left
    c.args.right.0 c.link-shape.result
    (c.link-shape.result + 4 * c.begin-before.result) c.link-shape.ensures.shape refl
    c.requires.short c.self.inside.chunks.items c.self.inside.links.items _
    (omega (arith, c.self.inside.chunks.ok.0)) (omega (arith, c.self.inside.links.ok.0)) _ _ _
    c.push_reserved-2.ensures.items c.push_reserved.ensures.items c.link-shape.ensures.links
    (pair_in c.args.chunk c.args.left c.args.right.0) refl _
    (ap (λ (a : ArenaContent). a.nodes) c.self.view_is)
