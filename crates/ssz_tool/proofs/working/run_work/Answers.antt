use Rattle.ssz_engine.specs.Scripts.{scene}
use Rattle.ssz_tool.specs.Tasks.{work_view}
use Rattle.ssz_tool.proofs.Beginnings.{wants_memory_first, zero_table}
use Rattle.ssz_tool.proofs.Worked.{work_does, work_least, work_pairs}
use Rattle.ssz_tool.proofs.working.run_work.Goals as goal

pub returns-in-Ok-clause-ends : goal.returns-in-Ok-clause-ends
returns-in-Ok-clause-ends g c = λ reads held told.
    work_does g.H.PairHash.pair_of c.args.work.schema held c.args.work.type_name c.args.work.seed
    c.args.work.edits c.work.result
    (scene g.F.Files g.S.Sink g.H.PairHash c.in-Ok.engine c.args.files.now c.args.out.now
    c.start.new.hasher)
    (scene g.F.Files g.S.Sink g.H.PairHash c.work.new.self c.work.new.files c.work.new.out
    c.work.new.hasher)
    c.in-Ok.ensures.types c.in-Ok.ensures.most c.in-Ok.ensures.stands told
    (record { base = c.in-Ok.ensures.base; left = c.in-Ok.ensures.unhashed })
    c.work.ensures.ends reads (g.H.PairHash.pairs c.args.hasher.now) c.in-Ok.ensures.counts

pub returns-in-Ok-clause-pairs : goal.returns-in-Ok-clause-pairs
returns-in-Ok-clause-pairs g c = λ held told.
    work_pairs g.H.PairHash.pair_of c.args.work.schema held c.args.work.type_name c.args.work.seed
    c.args.work.edits c.work.result
    (scene g.F.Files g.S.Sink g.H.PairHash c.in-Ok.engine c.args.files.now c.args.out.now
    c.start.new.hasher)
    (scene g.F.Files g.S.Sink g.H.PairHash c.work.new.self c.work.new.files c.work.new.out
    c.work.new.hasher)
    c.in-Ok.ensures.types c.in-Ok.ensures.most c.in-Ok.ensures.stands told
    (record { base = c.in-Ok.ensures.base; left = c.in-Ok.ensures.unhashed })
    c.work.ensures.ends (g.H.PairHash.pairs c.args.hasher.now) c.in-Ok.ensures.counts

pub returns-in-Ok-clause-least : goal.returns-in-Ok-clause-least
returns-in-Ok-clause-least g c = λ held told through.
    work_least g.H.PairHash.pair_of c.args.work.schema held c.args.work.type_name c.args.work.seed
    c.args.work.edits c.work.result
    (scene g.F.Files g.S.Sink g.H.PairHash c.in-Ok.engine c.args.files.now c.args.out.now
    c.start.new.hasher)
    (scene g.F.Files g.S.Sink g.H.PairHash c.work.new.self c.work.new.files c.work.new.out
    c.work.new.hasher)
    c.in-Ok.ensures.types c.in-Ok.ensures.most c.in-Ok.ensures.stands told
    (record { base = c.in-Ok.ensures.base; left = c.in-Ok.ensures.unhashed })
    c.work.ensures.ends (g.H.PairHash.pairs c.args.hasher.now) c.in-Ok.ensures.counts through

pub returns-clause-ends : goal.returns-clause-ends
returns-clause-ends g c = λ reads held told.
    rw told (wants_memory_first (g.S.Sink.ample c.args.out.now) g.H.PairHash.pair_of held reads
    (work_view c.args.work)
    (g.H.PairHash.pairs c.args.hasher.now) _ (g.H.PairHash.pairs c.start.new.hasher)
    (g.S.Sink.pieces c.args.out.now) (zero_table (g.H.PairHash.pairs c.args.hasher.now)))
