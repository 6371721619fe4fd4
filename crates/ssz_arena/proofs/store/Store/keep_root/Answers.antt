use Rattle.std.proofs.Common.{length-set, vec_len, set, ◌≡◌, ◌<◌, ◌-◌, ◌^◌, get_or, ap, sym, ◌∙◌, arith}
use Rattle.std.proofs.lemmas.Grind.{get_or_default_zero}
use Rattle.ssz_arena.specs.Content.{ArenaContent}
use Rattle.ssz_arena.specs.Stored.{nodes_in}
use Rattle.ssz_arena.proofs.Storing.{has_mark, kept-as, length-nodes_in, size_seen}
use Rattle.ssz_arena.proofs.store.Store.keep_root.Goals as goal

pub first_of-first-requires-clause-kind : goal.first_of-first-requires-clause-kind
first_of-first-requires-clause-kind c = omega (
  arith,
  c.requires.inside,
  c.self.invariant.0.count,
  c.self.invariant.0.enough,
  c.self.invariant.0.all,
  c.self.invariant.1,
  c.self.invariant.2,
  c.self.inside.chunks.ok.0,
  c.self.inside.kinds.ok.0,
  c.self.inside.firsts.ok.0,
  c.self.inside.links.ok.0,
  size_seen c.args.self.now.nodes c.self.inside.chunks.items c.self.inside.kinds.items
      c.self.inside.firsts.items c.self.inside.links.items
      (ap (λ (a : ArenaContent). a.nodes) c.self.view_is),
)

pub first_of-first-requires-clause-block : goal.first_of-first-requires-clause-block
first_of-first-requires-clause-block c = omega (
  arith,
  c.requires.inside,
  c.self.invariant.0.count,
  c.self.invariant.0.enough,
  c.self.invariant.0.all,
  c.self.invariant.1,
  c.self.invariant.2,
  c.self.inside.chunks.ok.0,
  c.self.inside.kinds.ok.0,
  c.self.inside.firsts.ok.0,
  c.self.inside.links.ok.0,
  size_seen c.args.self.now.nodes c.self.inside.chunks.items c.self.inside.kinds.items
      c.self.inside.firsts.items c.self.inside.links.items
      (ap (λ (a : ArenaContent). a.nodes) c.self.view_is),
)

pub index-link-requires : goal.index-link-requires
index-link-requires c =
    let mark = has_mark (vec_len c.self.inside.chunks) c.self.inside.kinds.items
    c.self.inside.firsts.items (vec_len c.self.inside.links) c.self.invariant.0
    (omega (arith, c.self.invariant.1, c.self.invariant.2))
    c.self.inside.chunks.items c.self.inside.links.items
    (omega (arith, c.self.inside.chunks.ok.0)) (omega (arith, c.self.inside.links.ok.0))
    c.args.self.now.nodes (ap (λ (a : ArenaContent). a.nodes) c.self.view_is) c.args.id.0
    c.requires.inside c.requires.due in
    omega (arith, c.first_of-first.ensures, mark.inside)

pub index_mut-requires : goal.index_mut-requires
index_mut-requires c =
    let mark = has_mark (vec_len c.self.inside.chunks) c.self.inside.kinds.items
    c.self.inside.firsts.items (vec_len c.self.inside.links) c.self.invariant.0
    (omega (arith, c.self.invariant.1, c.self.invariant.2))
    c.self.inside.chunks.items c.self.inside.links.items
    (omega (arith, c.self.inside.chunks.ok.0)) (omega (arith, c.self.inside.links.ok.0))
    c.args.self.now.nodes (ap (λ (a : ArenaContent). a.nodes) c.self.view_is) c.args.id.0
    c.requires.inside c.requires.due in
    omega (arith, c.first_of-first.ensures, mark.inside)

pub overflow_sub-link : goal.overflow_sub-link
overflow_sub-link c =
    let links = c.self.inside.links.items in
    let mark = has_mark (vec_len c.self.inside.chunks) c.self.inside.kinds.items
    c.self.inside.firsts.items (vec_len c.self.inside.links) c.self.invariant.0
    (omega (arith, c.self.invariant.1, c.self.invariant.2))
    c.self.inside.chunks.items c.self.inside.links.items
    (omega (arith, c.self.inside.chunks.ok.0)) (omega (arith, c.self.inside.links.ok.0))
    c.args.self.now.nodes (ap (λ (a : ArenaContent). a.nodes) c.self.view_is) c.args.id.0
    c.requires.inside c.requires.due in
    let read = c.index-link.ensures ∙ get_or_default_zero links c.first_of-first.result
    c.index-link.result.now (omega (arith, c.first_of-first.ensures, mark.inside))
    ∙ ap (λ k. get_or links k 0) c.first_of-first.ensures in
    omega (arith, read, mark.marked)

pub index_mut-requires-2 : goal.index_mut-requires-2
index_mut-requires-2 c = omega (
  arith,
  c.requires.inside,
  c.self.invariant.0.count,
  c.self.invariant.0.enough,
  c.self.invariant.0.all,
  c.self.invariant.1,
  c.self.invariant.2,
  c.self.inside.chunks.ok.0,
  c.self.inside.kinds.ok.0,
  c.self.inside.firsts.ok.0,
  c.self.inside.links.ok.0,
  size_seen c.args.self.now.nodes c.self.inside.chunks.items c.self.inside.kinds.items
      c.self.inside.firsts.items c.self.inside.links.items
      (ap (λ (a : ArenaContent). a.nodes) c.self.view_is),
)

pub returns-clause-nodes : goal.returns-clause-nodes
returns-clause-nodes c = λ left right is.
    let chunks = c.self.inside.chunks.items in
    let kinds = c.self.inside.kinds.items in
    let firsts = c.self.inside.firsts.items in
    let links = c.self.inside.links.items in
    let first = c.first_of-first.result in
    let seen : nodes_in chunks kinds firsts links ≡ c.args.self.now.nodes =
    ap (λ (a : ArenaContent). a.nodes) c.self.view_is in
    let mark = has_mark (vec_len c.self.inside.chunks) c.self.inside.kinds.items
    c.self.inside.firsts.items (vec_len c.self.inside.links) c.self.invariant.0
    (omega (arith, c.self.invariant.1, c.self.invariant.2))
    c.self.inside.chunks.items c.self.inside.links.items
    (omega (arith, c.self.inside.chunks.ok.0)) (omega (arith, c.self.inside.links.ok.0))
    c.args.self.now.nodes (ap (λ (a : ArenaContent). a.nodes) c.self.view_is) c.args.id.0
    c.requires.inside c.requires.due in
    let read : c.index-link.result.now ≡ get_or links first 0 =
    c.index-link.ensures ∙ get_or_default_zero links first c.index-link.result.now
    (omega (arith, c.first_of-first.ensures, mark.inside)) in
    let small : c.index-link.result.now < 2 ^ 32 = omega arith in
    ap (nodes_in (set chunks c.args.id.0 c.args.chunk) kinds firsts)
    (ap (λ k. set links first (k - 2 ^ 31)) read
    ∙ ap (λ k. set links k (get_or links k 0 - 2 ^ 31)) c.first_of-first.ensures)
    ∙ kept-as (vec_len c.self.inside.chunks) kinds firsts (vec_len c.self.inside.links)
    c.self.invariant.0 chunks links (omega (arith, c.self.inside.chunks.ok.0))
    (omega (arith, c.self.inside.links.ok.0)) c.args.id.0
    (omega (
      arith,
      c.requires.inside,
      c.self.inside.chunks.ok.0,
      size_seen c.args.self.now.nodes chunks kinds firsts links seen,
    )) (omega (arith, c.self.invariant.1, c.self.invariant.2)) mark.some mark.marked
    (omega (arith, small, read, ap (λ k. get_or links k 0) c.first_of-first.ensures))
    c.args.chunk c.args.self.now.nodes seen left right is

pub returns-clause-count : goal.returns-clause-count
returns-clause-count c =
    length-nodes_in (set c.self.inside.chunks.items c.args.id.0 c.args.chunk)
    c.self.inside.kinds.items c.self.inside.firsts.items _
    ∙ length-set c.self.inside.chunks.items c.args.id.0 c.args.chunk
    ∙ sym (size_seen c.args.self.now.nodes c.self.inside.chunks.items c.self.inside.kinds.items
    c.self.inside.firsts.items c.self.inside.links.items
    (ap (λ (a : ArenaContent). a.nodes) c.self.view_is))
