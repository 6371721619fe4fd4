use Rattle.std.proofs.Common.{ℕ, ◌∙◌, refl, sym, ap, subst}
use Rattle.std.specs.Prelude.{Err}
use Rattle.ssz_outside.specs.Job.{CountsRun, IsThatOrStopped}
use Rattle.ssz_outside.specs.declared.status.Status.{Status}
use Rattle.ssz_outside.specs.declared.status.Status.TheVariants as status
use Rattle.ssz_decisions.specs.Content.{rules_of}
use Rattle.ssz_engine.specs.Scripts.{Scene, scene}
use Rattle.ssz_engine.specs.Works.{EndsWorkFrom}
use Rattle.ssz_engine.proofs.WorkEnds.{ended_counts, ended_stops, work_broken, work_done}
use Rattle.ssz_engine.proofs.WorkSteps.{none_read}
use Rattle.ssz_engine.proofs.engine.Engine.work.Goals as goal

pub returns-in-Ok-clause-ends : goal.returns-in-Ok-clause-ends
returns-in-Ok-clause-ends g c = λ first versions told.
    let before : Scene = scene g.F.Files g.S.Sink g.H.PairHash c.args.self.now c.args.files.now
    c.args.out.now c.args.hasher.now in
    let after : Scene = scene g.F.Files g.S.Sink g.H.PairHash c.work_through.new.engine
    c.work_through.new.files c.print_work.new.out c.work_through.new.hasher in
    let done = c.in-Ok.ensures.works first (record { versions = versions; files = told }) in
    work_done g.H.PairHash.pair_of c.args.type_name.now c.args.seed c.args.edits before after first
    told c.print_work.result c.in-Ok.made c.as_slice.result.now done.0 done.1.0
    (c.as_slice.ensures.value ∙ done.1.1) (c.print_work.ensures.ends first.files)
    (c.in-Ok.ensures.least first (record { versions = versions; files = told }))

pub returns-in-Ok-clause-counts : goal.returns-in-Ok-clause-counts
returns-in-Ok-clause-counts g c =
    rw (c.in-Ok.ensures.tries.gets, c.in-Ok.ensures.tries.puts)
    (c.print_work.ensures.counts (g.F.Files.get_faults c.args.files.now)
    (g.F.Files.put_faults c.args.files.now))

pub returns-clause-ends : goal.returns-clause-ends
returns-clause-ends g c = λ first versions told.
    let before : Scene = scene g.F.Files g.S.Sink g.H.PairHash c.args.self.now c.args.files.now
    c.args.out.now c.args.hasher.now in
    let after : Scene = scene g.F.Files g.S.Sink g.H.PairHash c.work_through.new.engine
    c.work_through.new.files c.args.out.now c.work_through.new.hasher in
    subst (λ (ended : Status). EndsWorkFrom (rules_of g.H.PairHash.pair_of c.args.self.now)
    c.args.type_name.now c.args.seed c.args.edits first ended before after)
    (sym c.status_of.ensures.value)
    (work_broken g.H.PairHash.pair_of c.args.type_name.now c.args.seed c.args.edits before after
    first told c.in-Err.fault
    (c.in-Err.ensures.works first (record { versions = versions; files = told })) refl)

pub returns-clause-counts : goal.returns-clause-counts
returns-clause-counts g c =
    subst (λ (ended : Status). CountsRun ended (g.F.Files.get_faults c.args.files.now)
    (g.F.Files.get_faults c.work_through.new.files) (g.F.Files.put_faults c.args.files.now)
    (g.F.Files.put_faults c.work_through.new.files) (g.S.Sink.faults c.args.out.now)
    (g.S.Sink.faults c.args.out.now)) (sym c.status_of.ensures.value)
    (ended_counts c.in-Err.fault _ _ _ _ _ (λ same. c.in-Err.ensures.tries.fails tt (ap Err same))
    (none_read {T = ℕ} (Err c.in-Err.fault) _ _ c.in-Err.ensures.tries.gets
    (c.in-Err.ensures.tries.fails tt)) c.in-Err.ensures.tries.puts)

pub returns-clause-status : goal.returns-clause-status
returns-clause-status g c =
    subst (IsThatOrStopped status.Accepted) (sym c.status_of.ensures.value)
    (ended_stops c.in-Err.fault (λ same. c.in-Err.ensures.tries.fails tt (ap Err same)))

pub returns-in-Ok-clause-asks : goal.returns-in-Ok-clause-asks
returns-in-Ok-clause-asks g c = c.in-Ok.ensures.tries.asks refl

pub returns-clause-asks : goal.returns-clause-asks
returns-clause-asks g c = c.in-Err.ensures.tries.asks refl
