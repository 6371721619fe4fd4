use Rattle.std.proofs.Common.{List, [], ℕ, Option, Some, ap, subst}
use Rattle.ssz_machine.specs.declared.place.Place.TheVariants.{Run}
use Rattle.ssz_machine.specs.State.{Name}
use Rattle.ssz_engine.specs.Lines.{DoesLine}
use Rattle.ssz_engine.specs.Scripts.{Point, name_before, point}
use Rattle.ssz_engine.proofs.WorkSteps.{names_none, none_compacts, none_named, statement_outcome, statement_works}
use Rattle.ssz_engine.proofs.work_steps.answer.Goals as goal

pub returns-clause-tries : goal.returns-clause-tries
returns-clause-tries g c =
    let tries = c.reply_to-made.ensures.tries in
    record {
      keeps = tries.keeps;
      nodes = λ none. tries.nodes (none_compacts c.args.statement c.requires.of_work, tt);
      rises = tries.rises;
      readable = tries.readable;
      gets = tries.gets;
      puts = tries.puts;
      fails = λ all. tries.fails
          (none_named (g.F.Files.readable c.args.files.now) c.args.statement c.requires.of_work);
      asks = λ none. tries.asks (ap (λ (o : Option Name). name_before o [])
          (names_none c.args.statement c.requires.of_work));
    }

pub returns-clause-works : goal.returns-clause-works
returns-clause-works g c = λ state at.
    let before : Point = point g.F.Files g.H.PairHash c.args.engine.now c.args.files.now
    c.args.hasher.now in
    let new = c.reply_to-made.new in
    let after : Point = point g.F.Files g.H.PairHash new.engine new.files new.hasher in
    statement_works g.H.PairHash.pair_of c.args.statement c.requires.of_work before after
    new.out.items state c.reply_to-made.result
    (subst (λ (text : List ℕ). DoesLine g.H.PairHash.pair_of Run 0 (0, Some c.args.statement)
    c.reply_to-made.result before after text new.out.items) c.clear.ensures.items
    c.reply_to-made.ensures.does) at c.reply_to-made.ensures.hashed
    (c.reply_to-made.ensures.tries.nodes (none_compacts c.args.statement c.requires.of_work, tt))
    c.reply_to-made.ensures.roots c.reply_to-made.ensures.stays

pub returns-clause-outcome : goal.returns-clause-outcome
returns-clause-outcome g c = λ state at.
    let before : Point = point g.F.Files g.H.PairHash c.args.engine.now c.args.files.now
    c.args.hasher.now in
    let new = c.reply_to-made.new in
    let after : Point = point g.F.Files g.H.PairHash new.engine new.files new.hasher in
    statement_outcome g.H.PairHash.pair_of c.args.statement c.requires.of_work before after
    new.out.items state c.reply_to-made.result
    (subst (λ (text : List ℕ). DoesLine g.H.PairHash.pair_of Run 0 (0, Some c.args.statement)
    c.reply_to-made.result before after text new.out.items) c.clear.ensures.items
    c.reply_to-made.ensures.does) at
