use Rattle.std.proofs.Common.{◌≡◌, ◌≢◌, ◌+◌, ◌%◌, ◌^◌, ◌<◌, ◌≤◌, ◌∙◌, length, get_or, leb, ap, sym, arith}
use Rattle.std.proofs.lemmas.Grind.{get_or_default_zero}
use Rattle.ssz_arena.specs.Content.{ArenaContent}
use Rattle.ssz_arena.specs.Stored.{shape_of, first_link, link_count}
use Rattle.ssz_arena.proofs.Storing.{count_some, size_seen, read_due_leaf, read_due_pair}
use Rattle.ssz_arena.proofs.store.Store.is_due.Goals as goal

pub index-requires : goal.index-requires
index-requires c = omega (
  arith,
  c.requires,
  c.self.invariant.0.count,
  c.self.invariant.0.enough,
  c.self.invariant.0.all,
  c.self.invariant.1,
  c.self.invariant.2,
  c.self.inside.chunks.ok.0,
  c.self.inside.kinds.ok.0,
  c.self.inside.firsts.ok.0,
  c.self.inside.links.ok.0,
  size_seen c.args.self.now.nodes c.self.inside.chunks.items c.self.inside.kinds.items
      c.self.inside.firsts.items c.self.inside.links.items
      (ap (λ (a : ArenaContent). a.nodes) c.self.view_is),
)

pub returns-then-index-eq-LEAF : goal.returns-then-index-eq-LEAF
returns-then-index-eq-LEAF c =
    let kinds = c.self.inside.kinds.items in
    let within : c.args.id.0 < length kinds = omega (
      arith,
      c.requires,
      c.self.invariant.0.count,
      c.self.invariant.0.enough,
      c.self.invariant.0.all,
      c.self.invariant.1,
      c.self.invariant.2,
      c.self.inside.chunks.ok.0,
      c.self.inside.kinds.ok.0,
      c.self.inside.firsts.ok.0,
      c.self.inside.links.ok.0,
      size_seen c.args.self.now.nodes c.self.inside.chunks.items c.self.inside.kinds.items
          c.self.inside.firsts.items c.self.inside.links.items
          (ap (λ (a : ArenaContent). a.nodes) c.self.view_is),
    ) in
    let read : c.index.result.now ≡ get_or kinds c.args.id.0 0 =
    c.index.ensures ∙ get_or_default_zero kinds c.args.id.0 c.index.result.now within in
    sym (read_due_leaf c.args.self.now.nodes c.self.inside.chunks.items
    c.self.inside.kinds.items
    c.self.inside.firsts.items c.self.inside.links.items c.args.id.0 (ap (λ (a : ArenaContent).
    a.nodes) c.self.view_is) c.requires
    (ap (λ k. k % 4) (sym read) ∙ c.if-index-eq-LEAF.true))

pub first_of-requires-clause-kind : goal.first_of-requires-clause-kind
first_of-requires-clause-kind c = omega (
  arith,
  c.requires,
  c.self.invariant.0.count,
  c.self.invariant.0.enough,
  c.self.invariant.0.all,
  c.self.invariant.1,
  c.self.invariant.2,
  c.self.inside.chunks.ok.0,
  c.self.inside.kinds.ok.0,
  c.self.inside.firsts.ok.0,
  c.self.inside.links.ok.0,
  size_seen c.args.self.now.nodes c.self.inside.chunks.items c.self.inside.kinds.items
      c.self.inside.firsts.items c.self.inside.links.items
      (ap (λ (a : ArenaContent). a.nodes) c.self.view_is),
)

pub first_of-requires-clause-block : goal.first_of-requires-clause-block
first_of-requires-clause-block c = omega (
  arith,
  c.requires,
  c.self.invariant.0.count,
  c.self.invariant.0.enough,
  c.self.invariant.0.all,
  c.self.invariant.1,
  c.self.invariant.2,
  c.self.inside.chunks.ok.0,
  c.self.inside.kinds.ok.0,
  c.self.inside.firsts.ok.0,
  c.self.inside.links.ok.0,
  size_seen c.args.self.now.nodes c.self.inside.chunks.items c.self.inside.kinds.items
      c.self.inside.firsts.items c.self.inside.links.items
      (ap (λ (a : ArenaContent). a.nodes) c.self.view_is),
)

pub index-requires-2 : goal.index-requires-2
index-requires-2 c =
    let kinds = c.self.inside.kinds.items in
    let within : c.args.id.0 < length kinds = omega (
      arith,
      c.requires,
      c.self.invariant.0.count,
      c.self.invariant.0.enough,
      c.self.invariant.0.all,
      c.self.invariant.1,
      c.self.invariant.2,
      c.self.inside.chunks.ok.0,
      c.self.inside.kinds.ok.0,
      c.self.inside.firsts.ok.0,
      c.self.inside.links.ok.0,
      size_seen c.args.self.now.nodes c.self.inside.chunks.items c.self.inside.kinds.items
          c.self.inside.firsts.items c.self.inside.links.items
          (ap (λ (a : ArenaContent). a.nodes) c.self.view_is),
    ) in
    let read : c.index.result.now ≡ get_or kinds c.args.id.0 0 =
    c.index.ensures ∙ get_or_default_zero kinds c.args.id.0 c.index.result.now within in
    let some : 0 < shape_of kinds c.args.id.0 =
    omega (arith, ap (λ k. k % 4) read, c.if-index-eq-LEAF.false) in
    let inside : first_link kinds c.self.inside.firsts.items c.args.id.0
    + link_count kinds c.args.id.0 ≤ _ =
    c.self.invariant.0.inside c.args.id.0 (omega (
      arith,
      c.requires,
      c.self.invariant.0.count,
      c.self.invariant.0.enough,
      c.self.invariant.0.all,
      c.self.invariant.1,
      c.self.invariant.2,
      c.self.inside.chunks.ok.0,
      c.self.inside.kinds.ok.0,
      c.self.inside.firsts.ok.0,
      c.self.inside.links.ok.0,
      size_seen c.args.self.now.nodes c.self.inside.chunks.items c.self.inside.kinds.items
          c.self.inside.firsts.items c.self.inside.links.items
          (ap (λ (a : ArenaContent). a.nodes) c.self.view_is),
    )) in
    omega (arith, inside, count_some _ some, c.first_of.ensures, c.self.inside.links.ok.0)

pub returns : goal.returns
returns c =
    let kinds = c.self.inside.kinds.items in
    let within : c.args.id.0 < length kinds = omega (
      arith,
      c.requires,
      c.self.invariant.0.count,
      c.self.invariant.0.enough,
      c.self.invariant.0.all,
      c.self.invariant.1,
      c.self.invariant.2,
      c.self.inside.chunks.ok.0,
      c.self.inside.kinds.ok.0,
      c.self.inside.firsts.ok.0,
      c.self.inside.links.ok.0,
      size_seen c.args.self.now.nodes c.self.inside.chunks.items c.self.inside.kinds.items
          c.self.inside.firsts.items c.self.inside.links.items
          (ap (λ (a : ArenaContent). a.nodes) c.self.view_is),
    ) in
    let read : c.index.result.now ≡ get_or kinds c.args.id.0 0 =
    c.index.ensures ∙ get_or_default_zero kinds c.args.id.0 c.index.result.now within in
    let links = c.self.inside.links.items in
    let some : shape_of kinds c.args.id.0 ≢ 0 =
    λ none. c.if-index-eq-LEAF.false (ap (λ k. k % 4) read ∙ none) in
    let more : 0 < shape_of kinds c.args.id.0 =
    omega (arith, ap (λ k. k % 4) read, c.if-index-eq-LEAF.false) in
    let inside : first_link kinds c.self.inside.firsts.items c.args.id.0
    + link_count kinds c.args.id.0 ≤ _ =
    c.self.invariant.0.inside c.args.id.0 (omega (
      arith,
      c.requires,
      c.self.invariant.0.count,
      c.self.invariant.0.enough,
      c.self.invariant.0.all,
      c.self.invariant.1,
      c.self.invariant.2,
      c.self.inside.chunks.ok.0,
      c.self.inside.kinds.ok.0,
      c.self.inside.firsts.ok.0,
      c.self.inside.links.ok.0,
      size_seen c.args.self.now.nodes c.self.inside.chunks.items c.self.inside.kinds.items
          c.self.inside.firsts.items c.self.inside.links.items
          (ap (λ (a : ArenaContent). a.nodes) c.self.view_is),
    )) in
    let first : c.first_of.result < length links =
    omega (arith, inside, count_some _ more, c.first_of.ensures, c.self.inside.links.ok.0) in
    let link : c.index-2.result.now
    ≡ get_or links (first_link kinds c.self.inside.firsts.items c.args.id.0) 0 =
    c.index-2.ensures ∙ get_or_default_zero links c.first_of.result c.index-2.result.now first
    ∙ ap (λ k. get_or links k 0) c.first_of.ensures in
    ap (leb (2 ^ 31)) link
    ∙ sym (read_due_pair c.args.self.now.nodes c.self.inside.chunks.items
    c.self.inside.kinds.items
    c.self.inside.firsts.items c.self.inside.links.items c.args.id.0 (ap (λ (a : ArenaContent).
    a.nodes) c.self.view_is) c.requires
    (omega (
      arith,
      c.requires,
      c.self.invariant.0.count,
      c.self.invariant.0.enough,
      c.self.invariant.0.all,
      c.self.invariant.1,
      c.self.invariant.2,
      c.self.inside.chunks.ok.0,
      c.self.inside.kinds.ok.0,
      c.self.inside.firsts.ok.0,
      c.self.inside.links.ok.0,
      size_seen c.args.self.now.nodes c.self.inside.chunks.items c.self.inside.kinds.items
          c.self.inside.firsts.items c.self.inside.links.items
          (ap (λ (a : ArenaContent). a.nodes) c.self.view_is),
    )) some)
