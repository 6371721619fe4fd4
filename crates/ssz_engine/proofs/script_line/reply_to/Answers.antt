use Rattle.std.proofs.Common.{◌≡◌, ◌-◌, [], false, Option, sym, ap, subst}
use Rattle.ssz_script.specs.declared.statement.Statement.{Statement}
use Rattle.ssz_engine.specs.Compacting.{compacts}
use Rattle.ssz_engine.specs.Lines.{AsksLine, DoesLine}
use Rattle.ssz_engine.specs.Scripts.{Point, file_named, name_before, point}
use Rattle.std.specs.List.{AllByRecursion}
use Rattle.std.specs.Prelude.{is_err}
use Rattle.ssz_machine.specs.Changes.{touch}
use Rattle.ssz_engine.proofs.Asks.{statement_asks, statement_asks_none}
use Rattle.ssz_engine.proofs.EngineSteps.{err-kept, reads_named, same_counts, stays_uncompacted, step_does, step_leaves_others}
use Rattle.ssz_engine.proofs.Stopping.{err-stays}
use Rattle.ssz_engine.proofs.script_line.reply_to.Goals as goal

pub returns-clause-tries : goal.returns-clause-tries
returns-clause-tries g c =
    let step = c.step.ensures in
    record {
      keeps = step.keeps;
      nodes = λ none. step.nodes (stays_uncompacted c.in-Some.statement c.step.result
          (subst (λ (statement : Option Statement). compacts statement ≡ false) c.in-Some.is
          none.0));
      rises = step.rises;
      readable = step.readable;
      gets = step.gets;
      puts = step.puts;
      fails = λ all. reads_named (g.F.Files.readable c.args.files.now) c.in-Some.statement
          c.step.result step.asks step.fails
          (subst (λ (statement : Option Statement). AllByRecursion
          (g.F.Files.readable c.args.files.now) (name_before (file_named statement) []))
          c.in-Some.is all);
      asks = λ none. statement_asks_none g.H.PairHash.pair_of c.args.engine.now c.args.place 0
          c.args.writer.0 0 _ _ _ c.in-Some.statement step.each_once
          (subst (λ (statement : Option Statement). name_before (file_named statement) [] ≡ [])
          c.in-Some.is none);
    }

pub returns-clause-does : goal.returns-clause-does
returns-clause-does g c =
    let pairs = g.H.PairHash.pairs in
    let before : Point = point g.F.Files g.H.PairHash c.args.engine.now c.args.files.now
    c.args.hasher.now in
    let after : Point = point g.F.Files g.H.PairHash c.step.new.self c.step.new.files
    c.step.new.hasher in
    let step = c.step.ensures in
    subst (λ (statement : Option Statement). DoesLine g.H.PairHash.pair_of c.args.place
    c.args.writer.0 (c.args.line.now.line, statement) c.step.result before after
    c.args.out.now.items c.step.new.out.items) (sym c.in-Some.is)
    (step_does g.H.PairHash.pair_of c.args.place c.args.writer.0 c.args.line.now.line
    c.in-Some.statement before after c.args.out.now.items c.step.new.out.items c.step.result step.ok
    step.stops step.told step.rises (λ asks. ap pairs (step.still asks))
    (same_counts pairs c.args.hasher.now c.step.new.hasher c.step.result step.refused) step.fails
    step.present step.found)

pub returns-clause-others : goal.returns-clause-others
returns-clause-others g c =
    step_leaves_others c.args.writer.0 (touch c.in-Some.statement) c.args.engine.now.entries
    c.step.new.self.entries c.args.engine.now.arena c.step.new.self.arena _ c.in-Some.statement
    c.step.result c.step.ensures.entries c.step.ensures.compacted c.step.ensures.err

pub returns-clause-stays : goal.returns-clause-stays
returns-clause-stays g c =
    err-stays c.step.result c.args.engine.now c.step.new.self _ c.step.ensures.keeps
    (err-kept c.in-Some.statement c.step.result _ c.step.ensures.nodes) c.step.ensures.err

pub returns-clause-each_once : goal.returns-clause-each_once
returns-clause-each_once g c =
    subst (λ (statement : Option Statement). AsksLine g.H.PairHash.pair_of c.args.place
    c.args.writer.0 (c.args.line.now.line, statement) (is_err c.step.result)
    (point g.F.Files g.H.PairHash c.args.engine.now c.args.files.now c.args.hasher.now)
    (point g.F.Files g.H.PairHash c.step.new.self c.step.new.files c.step.new.hasher))
    (sym c.in-Some.is)
    (statement_asks g.H.PairHash.pair_of c.args.engine.now c.args.place
    (g.H.PairHash.pairs c.args.hasher.now - c.args.engine.now.base) c.args.writer.0
    c.args.line.now.line _ _ _ c.in-Some.statement c.step.ensures.each_once)
