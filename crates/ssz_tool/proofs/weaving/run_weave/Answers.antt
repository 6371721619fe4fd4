use Rattle.std.proofs.Common.{◌∷◌, map, sym}
use Rattle.ssz_outside.proofs.Asking.{asks-none_yet}
use Rattle.ssz_script.specs.Lines.{statements_in}
use Rattle.ssz_engine.specs.Scripts.{scene}
use Rattle.ssz_tool.specs.Tasks.{weaving_view}
use Rattle.ssz_tool.proofs.Beginnings.{wants_memory_first, zero_table}
use Rattle.ssz_tool.proofs.Woven.{all_named, weave_asks, weave_does, weave_pairs, weave_reached}
use Rattle.ssz_tool.proofs.weaving.run_weave.Goals as goal

pub returns-in-Ok-clause-ends : goal.returns-in-Ok-clause-ends
returns-in-Ok-clause-ends g c = λ reads held told.
    rw (
      sym c.deref.ensures.value,
      sym c.deref-in-Ok.ensures.value,
      sym c.deref-in-Ok-2.ensures.value,
    )
    (weave_does g.H.PairHash.pair_of c.args.weaving.schema c.args.weaving.max held
    c.deref.result.now c.deref-in-Ok.result.now c.deref-in-Ok-2.result.now c.weave.result
    (scene g.F.Files g.S.Sink g.H.PairHash c.in-Ok.engine c.args.files.now c.args.out.now
    c.start.new.hasher)
    (scene g.F.Files g.S.Sink g.H.PairHash c.weave.new.self c.weave.new.files c.weave.new.out
    c.weave.new.hasher)
    c.in-Ok.ensures.types c.in-Ok.ensures.most c.in-Ok.ensures.stands told
    (record { base = c.in-Ok.ensures.base; left = c.in-Ok.ensures.unhashed })
    c.weave.ensures.ends reads (g.H.PairHash.pairs c.args.hasher.now) c.in-Ok.ensures.counts)

pub returns-in-Ok-clause-fails : goal.returns-in-Ok-clause-fails
returns-in-Ok-clause-fails g c = λ each.
    c.weave.ensures.fails (all_named (g.F.Files.readable c.args.files.now) each
    (map statements_in (c.deref.result.now ∷ c.deref-in-Ok-2.result.now)))

pub returns-in-Ok-clause-reached : goal.returns-in-Ok-clause-reached
returns-in-Ok-clause-reached g c = λ held told.
    rw (
      sym c.deref.ensures.value,
      sym c.deref-in-Ok.ensures.value,
      sym c.deref-in-Ok-2.ensures.value,
    )
    (weave_reached g.H.PairHash.pair_of c.args.weaving.schema c.args.weaving.max held
    c.deref.result.now c.deref-in-Ok.result.now c.deref-in-Ok-2.result.now c.weave.result
    (scene g.F.Files g.S.Sink g.H.PairHash c.in-Ok.engine c.args.files.now c.args.out.now
    c.start.new.hasher)
    (scene g.F.Files g.S.Sink g.H.PairHash c.weave.new.self c.weave.new.files c.weave.new.out
    c.weave.new.hasher)
    c.in-Ok.ensures.types c.in-Ok.ensures.most c.in-Ok.ensures.stands told
    (record { base = c.in-Ok.ensures.base; left = c.in-Ok.ensures.unhashed })
    c.weave.ensures.ends)

pub returns-in-Ok-clause-pairs : goal.returns-in-Ok-clause-pairs
returns-in-Ok-clause-pairs g c = λ held told.
    rw (
      sym c.deref.ensures.value,
      sym c.deref-in-Ok.ensures.value,
      sym c.deref-in-Ok-2.ensures.value,
    )
    (weave_pairs g.H.PairHash.pair_of c.args.weaving.schema c.args.weaving.max held
    c.deref.result.now c.deref-in-Ok.result.now c.deref-in-Ok-2.result.now c.weave.result
    (scene g.F.Files g.S.Sink g.H.PairHash c.in-Ok.engine c.args.files.now c.args.out.now
    c.start.new.hasher)
    (scene g.F.Files g.S.Sink g.H.PairHash c.weave.new.self c.weave.new.files c.weave.new.out
    c.weave.new.hasher)
    c.in-Ok.ensures.types c.in-Ok.ensures.most c.in-Ok.ensures.stands told
    (record { base = c.in-Ok.ensures.base; left = c.in-Ok.ensures.unhashed })
    c.weave.ensures.ends (g.H.PairHash.pairs c.args.hasher.now) c.in-Ok.ensures.counts)

pub returns-clause-ends : goal.returns-clause-ends
returns-clause-ends g c = λ reads held told.
    rw told (wants_memory_first (g.S.Sink.ample c.args.out.now) g.H.PairHash.pair_of held reads
    (weaving_view c.args.weaving)
    (g.H.PairHash.pairs c.args.hasher.now) _ (g.H.PairHash.pairs c.start.new.hasher)
    (g.S.Sink.pieces c.args.out.now) (zero_table (g.H.PairHash.pairs c.args.hasher.now)))

pub returns-in-Ok-clause-asks : goal.returns-in-Ok-clause-asks
returns-in-Ok-clause-asks g c = λ held told.
    rw (
      sym c.deref.ensures.value,
      sym c.deref-in-Ok.ensures.value,
      sym c.deref-in-Ok-2.ensures.value,
    )
    (weave_asks g.H.PairHash.pair_of c.args.weaving.schema c.args.weaving.max held
    c.deref.result.now c.deref-in-Ok.result.now c.deref-in-Ok-2.result.now c.weave.result
    (scene g.F.Files g.S.Sink g.H.PairHash c.in-Ok.engine c.args.files.now c.args.out.now
    c.start.new.hasher)
    (scene g.F.Files g.S.Sink g.H.PairHash c.weave.new.self c.weave.new.files c.weave.new.out
    c.weave.new.hasher)
    c.in-Ok.ensures.types c.in-Ok.ensures.most c.in-Ok.ensures.stands told
    (record { base = c.in-Ok.ensures.base; left = c.in-Ok.ensures.unhashed })
    c.weave.ensures.ends)

pub returns-clause-asks : goal.returns-clause-asks
returns-clause-asks g c = λ held told. asks-none_yet _ _
