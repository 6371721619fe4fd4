use Rattle.std.proofs.Common.{◌∙◌, refl, arith}
use Rattle.ssz_decisions.proofs.Takers.{adopts_more, adopts_none, next_holds_none}
use Rattle.ssz_decisions.proofs.adopting.adopt_all.Goals as goal

pub adopt-requires : goal.adopt-requires
adopt-requires g c =
    next_holds_none c.loop-number.number c.args.store.now.entries c.loop-number.store.entries
    c.loop-number.invariant.adopted
    (c.requires.none c.loop-number.number c.loop-number-test.true)

pub loop-number-init : goal.loop-number-init
loop-number-init g c = record {
  nodes = record { types = refl; most = refl; base = refl; arena = refl };
  adopted = adopts_none c.args.store.now.entries;
}

pub loop-number-preserved : goal.loop-number-preserved
loop-number-preserved g c =
    let so_far = c.loop-number.invariant.nodes in
    let more = c.adopt.ensures.nodes in
    record {
      nodes = record {
        types = more.types ∙ so_far.types;
        most = more.most ∙ so_far.most;
        base = more.base ∙ so_far.base;
        arena = more.arena ∙ so_far.arena;
      };
      adopted = adopts_more c.loop-number.number c.args.store.now.entries
          c.loop-number.store.entries c.adopt.new.store.entries (omega arith)
          c.loop-number.invariant.adopted c.in_ok-adopt.ensures.ok;
    }
