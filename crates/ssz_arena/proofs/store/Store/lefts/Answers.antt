use Rattle.std.proofs.Common.{◌-◌, ◌≤◌, ◌^◌, ap, arith, false, refl}
use Rattle.ssz_arena.specs.Content.{ArenaContent}
use Rattle.ssz_arena.proofs.Following.{next_before}
use Rattle.ssz_arena.proofs.Lefts.{behind_steps, more_steps, no_steps, one_step}
use Rattle.ssz_arena.proofs.Storing.{size_seen}
use Rattle.ssz_arena.proofs.store.Store.lefts.Goals as goal

pub left-init : goal.left-init
left-init c = record {
  inside = c.requires.inside;
  few = omega arith;
  found = no_steps _ _ _ (omega arith);
}

pub eight_behind-requires : goal.eight_behind-requires
eight_behind-requires c = record {
  inside = omega (
    arith,
    c.left.invariant.inside,
    c.self.invariant.0.count,
    c.self.invariant.0.enough,
    c.self.invariant.0.all,
    c.self.invariant.1,
    c.self.invariant.2,
    c.self.inside.chunks.ok.0,
    c.self.inside.kinds.ok.0,
    c.self.inside.firsts.ok.0,
    c.self.inside.links.ok.0,
    size_seen c.args.self.now.nodes c.self.inside.chunks.items c.self.inside.kinds.items
        c.self.inside.firsts.items c.self.inside.links.items
        (ap (λ (a : ArenaContent). a.nodes) c.self.view_is),
  );
}

pub left-preserved-then-eight_behind : goal.left-preserved-then-eight_behind
left-preserved-then-eight_behind c =
    let nodes = c.args.self.now.nodes in
    let seen = ap (λ (a : ArenaContent). a.nodes) c.self.view_is in
    let behind = c.if-eight_behind.ensures refl in
    let few : c.left.place.0 ≤ 2 ^ 31 = omega (
      arith,
      c.left.invariant.inside,
      c.self.invariant.0.count,
      c.self.invariant.0.enough,
      c.self.invariant.0.all,
      c.self.invariant.1,
      c.self.invariant.2,
      c.self.inside.chunks.ok.0,
      c.self.inside.kinds.ok.0,
      c.self.inside.firsts.ok.0,
      c.self.inside.links.ok.0,
      size_seen c.args.self.now.nodes c.self.inside.chunks.items c.self.inside.kinds.items
          c.self.inside.firsts.items c.self.inside.links.items
          (ap (λ (a : ArenaContent). a.nodes) c.self.view_is),
    ) in
    record {
      inside = omega (arith, c.left.invariant.inside);
      few = omega (arith, c.left.invariant.few);
      found = more_steps nodes c.args.id c.left.place _ (c.args.most - c.left.left) 8 _
          (omega (arith, c.left.invariant.few, c.if-left-ge8.true)) c.left.invariant.found
          (behind_steps nodes c.self.inside.chunks.items c.self.inside.kinds.items
          c.self.inside.firsts.items c.self.inside.links.items seen 8 c.left.place.0
          c.left.invariant.inside few behind);
    }

pub left-preserved : goal.left-preserved
left-preserved c =
    let nodes = c.args.self.now.nodes in
    record {
      inside = omega (
        arith,
        c.left.invariant.inside,
        next_before nodes c.requires.ordered c.left.place c.in-Some.next c.left.invariant.inside
            false c.in-Some.ensures,
      );
      few = omega (arith, c.left.invariant.few);
      found = more_steps nodes c.args.id c.left.place c.in-Some.next (c.args.most - c.left.left) 1
          _ (omega (arith, c.left.invariant.few, c.left-test.true)) c.left.invariant.found
          (one_step nodes c.left.place c.in-Some.next c.left.invariant.inside
          c.in-Some.ensures);
    }
