use Rattle.std.proofs.Common.{◌*◌, [], ap, sym, arith}
use Rattle.ssz_arena.specs.Content.{ArenaContent}
use Rattle.std.proofs.Common.{vec_len, append-nil}
use Rattle.ssz_arena.proofs.Storing.{pushed-as, nodes-as}
use Rattle.ssz_arena.proofs.store.Store.push.Goals as goal

pub begin-before-requires-clause-total : goal.begin-before-requires-clause-total
begin-before-requires-clause-total c = omega (
  arith,
  c.len.ensures,
  c.len-in-Leaf.ensures,
  c.self.invariant.0.all,
)

pub invariant_of-self : goal.invariant_of-self
invariant_of-self c = (
  pushed-as (vec_len c.self.inside.chunks) c.self.inside.kinds.items
      c.self.inside.firsts.items (vec_len c.self.inside.links) c.self.invariant.0
      c.begin-before.result
      c.len.result c.len-in-Leaf.result c.begin-before.new.firsts.items c.len.ensures
      c.len-in-Leaf.ensures
      c.begin-before.ensures.blocks c.begin-before.ensures.before 0 (4 * c.begin-before.result)
      (omega arith)
      (λ none one. absurd (omega (arith, one))) (omega arith) _ _ _
      c.push_reserved-in-Leaf.ensures.len
      c.push_reserved.ensures.items (omega arith),
  omega (
    arith,
    c.requires.room,
    ap (λ (a : ArenaContent). a.spare) c.self.view_is,
    c.self.invariant.1,
    c.push_reserved-in-Leaf.ensures.len,
  ),
  c.self.invariant.2,
  omega (arith, c.push_reserved-in-Leaf.ensures.capacity, c.self.invariant.3),
  omega (arith, c.push_reserved.ensures.capacity, c.self.invariant.4),
  omega (arith, c.begin-before.ensures.capacity, c.self.invariant.5),
  c.self.invariant.6,
)

pub returns-in-Leaf-clause-nodes : goal.returns-in-Leaf-clause-nodes
returns-in-Leaf-clause-nodes c = nodes-as (vec_len c.self.inside.chunks) c.self.inside.kinds.items
    c.self.inside.firsts.items (vec_len c.self.inside.links) c.self.invariant.0
    c.begin-before.result
    c.len.result c.len-in-Leaf.result c.begin-before.new.firsts.items c.len.ensures
    c.len-in-Leaf.ensures
    c.begin-before.ensures.blocks c.begin-before.ensures.before 0 (4 * c.begin-before.result)
    (omega arith)
    (λ none one. absurd (omega (arith, one))) (omega arith) c.self.inside.chunks.items
    c.self.inside.links.items [] c.in-Leaf.chunk
    (omega (arith, c.self.inside.chunks.ok.0)) (omega (arith, c.self.inside.links.ok.0)) _ _ _
    c.push_reserved-in-Leaf.ensures.items c.push_reserved.ensures.items (sym (append-nil _))
    c.args.node
    (sym c.in-Leaf.is) _
    (ap (λ (a : ArenaContent). a.nodes) c.self.view_is)
