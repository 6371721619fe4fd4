use Rattle.ssz_outside.proofs.Asking.{asks-none_yet}
use Rattle.ssz_schema.specs.Unfolding.{known_in}
use Rattle.ssz_engine.specs.Scripts.{scene}
use Rattle.ssz_tool.specs.ToDo.{plays}
use Rattle.ssz_tool.proofs.Beginnings.{all_readable, script_asks, script_does, script_pairs, script_reached, wants_memory_first, zero_table}
use Rattle.ssz_tool.proofs.scripts.run_script.Goals as goal

pub returns-in-Ok-clause-ends : goal.returns-in-Ok-clause-ends
returns-in-Ok-clause-ends g c = λ reads held told.
    script_does g.H.PairHash.pair_of c.args.schema c.args.max held c.args.script.now
    c.run_script.result
    (scene g.F.Files g.S.Sink g.H.PairHash c.in-Ok.engine c.args.files.now c.args.out.now
    c.start.new.hasher)
    (scene g.F.Files g.S.Sink g.H.PairHash c.run_script.new.self c.run_script.new.files
    c.run_script.new.out c.run_script.new.hasher)
    c.in-Ok.ensures.types c.in-Ok.ensures.most c.in-Ok.ensures.stands told
    (record { base = c.in-Ok.ensures.base; left = c.in-Ok.ensures.unhashed })
    c.run_script.ensures.ends reads _ c.in-Ok.ensures.counts

pub returns-in-Ok-clause-fails : goal.returns-in-Ok-clause-fails
returns-in-Ok-clause-fails g c = λ each. c.run_script.ensures.fails (all_readable _ each _)

pub returns-in-Ok-clause-reached : goal.returns-in-Ok-clause-reached
returns-in-Ok-clause-reached g c = λ held told all.
    script_reached g.H.PairHash.pair_of c.args.schema c.args.max held c.args.script.now
    c.run_script.result
    (scene g.F.Files g.S.Sink g.H.PairHash c.in-Ok.engine c.args.files.now c.args.out.now
    c.start.new.hasher)
    (scene g.F.Files g.S.Sink g.H.PairHash c.run_script.new.self c.run_script.new.files
    c.run_script.new.out c.run_script.new.hasher)
    c.in-Ok.ensures.types c.in-Ok.ensures.most c.in-Ok.ensures.stands told
    (record { base = c.in-Ok.ensures.base; left = c.in-Ok.ensures.unhashed })
    c.run_script.ensures.ends all

pub returns-in-Ok-clause-pairs : goal.returns-in-Ok-clause-pairs
returns-in-Ok-clause-pairs g c = λ held told.
    script_pairs g.H.PairHash.pair_of c.args.schema c.args.max held c.args.script.now
    c.run_script.result
    (scene g.F.Files g.S.Sink g.H.PairHash c.in-Ok.engine c.args.files.now c.args.out.now
    c.start.new.hasher)
    (scene g.F.Files g.S.Sink g.H.PairHash c.run_script.new.self c.run_script.new.files
    c.run_script.new.out c.run_script.new.hasher)
    c.in-Ok.ensures.types c.in-Ok.ensures.most c.in-Ok.ensures.stands told
    (record { base = c.in-Ok.ensures.base; left = c.in-Ok.ensures.unhashed })
    c.run_script.ensures.ends _ c.in-Ok.ensures.counts

pub returns-in-Err-clause-ends : goal.returns-in-Err-clause-ends
returns-in-Err-clause-ends g c = λ reads held told.
    rw told (wants_memory_first (g.S.Sink.ample c.args.out.now) g.H.PairHash.pair_of held reads
    (plays (known_in c.args.schema) c.args.max c.args.script.now)
    (g.H.PairHash.pairs c.args.hasher.now) _ (g.H.PairHash.pairs c.start.new.hasher)
    (g.S.Sink.pieces c.args.out.now) (zero_table (g.H.PairHash.pairs c.args.hasher.now)))

pub returns-in-Ok-clause-asks : goal.returns-in-Ok-clause-asks
returns-in-Ok-clause-asks g c = λ held told.
    script_asks g.H.PairHash.pair_of c.args.schema c.args.max held c.args.script.now
    c.run_script.result
    (scene g.F.Files g.S.Sink g.H.PairHash c.in-Ok.engine c.args.files.now c.args.out.now
    c.start.new.hasher)
    (scene g.F.Files g.S.Sink g.H.PairHash c.run_script.new.self c.run_script.new.files
    c.run_script.new.out c.run_script.new.hasher)
    c.in-Ok.ensures.types c.in-Ok.ensures.most c.in-Ok.ensures.stands told
    (record { base = c.in-Ok.ensures.base; left = c.in-Ok.ensures.unhashed })
    c.run_script.ensures.ends

pub returns-in-Err-clause-asks : goal.returns-in-Err-clause-asks
returns-in-Err-clause-asks g c = λ held told. asks-none_yet _ _
