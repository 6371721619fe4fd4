-- The steps of a work, one by one and one behind another.
use Rattle.std.proofs.Common.{ℕ, ◌+◌, ◌-◌, ◌≤◌, ◌≡◌, false, List, [], ◌∷◌, ◌++◌, Option, Some, None, refl, sym, ap, ◌∙◌, subst, arith, append_assoc}
use Rattle.std.specs.Prelude.{◌≢◌, Result, Ok, Err, IfOk, OnErr}
use Rattle.std.specs.List.{AllByRecursion}
use Rattle.std.proofs.lemmas.List.Sums.{sum_by-append, sum_by-cons}
use Rattle.ssz_arena.specs.Content.{KeepsNodes, unhashed}
use Rattle.ssz_arena.proofs.Keeping.{keeps_trans}
use Rattle.ssz_outside.specs.Job.{Save}
use Rattle.ssz_proof.specs.Calculation.{PairOf}
use Rattle.ssz_script.specs.declared.statement.Statement.{Statement}
use Rattle.ssz_script.specs.declared.statement.Statement.TheVariants.{New, Set, Append, Pop, Choose, Root}
use Rattle.ssz_machine.specs.declared.place.Place.TheVariants.{Run}
use Rattle.ssz_machine.specs.State.{Name, State, view_of}
use Rattle.ssz_machine.specs.Rules.{Row, Rules}
use Rattle.ssz_machine.specs.Machine.{Turn, charge_of, effect, is_refused, save_in, save_of, saved, state_in, state_of, step}
use Rattle.ssz_machine.specs.Changes.{IsChange, SavesInto}
use Rattle.ssz_machine.specs.Plays.{charges}
use Rattle.ssz_machine.specs.Work.{turn_done}
use Rattle.ssz_machine.proofs.Moves.{statements_change_their_entry_lem}
use Rattle.ssz_engine.specs.Compacting.{is_compact}
use Rattle.ssz_decisions.specs.Content.{rules_of}
use Rattle.ssz_engine.specs.Lines.{TurnDoes, DoesLine}
use Rattle.ssz_decisions.specs.Outside.{CountsReads}
use Rattle.ssz_engine.specs.Scripts.{Point, name_before}
use Rattle.ssz_decisions.specs.Standing.{StandsFor, StaysFor}
use Rattle.ssz_decisions.specs.Roots.{LeavesHashed}
use Rattle.ssz_engine.specs.Steps.{file_read, is_refusal}
use Rattle.ssz_engine.specs.Works.{AreBroken, AreDone, IsAtState, IsOfWork, Replies, Works, one_step}
use Rattle.ssz_decisions.specs.declared.outcome.Outcome.{Outcome}
use Rattle.ssz_decisions.specs.declared.fault.EngineFault.{EngineFault}
use Rattle.ssz_decisions.specs.declared.fault.EngineFault.TheVariants.{Read, Write, Memory}
use Rattle.ssz_engine.proofs.Rooting.{root-made, roots-joined, roots-kept}

-- their steps do not depend on what was hashed
same_step : (rules : Rules) (number : ℕ) (state : State) (statement : Statement)
    → IsOfWork statement
    → step rules Run number state 0 (0, Some statement) ≡ turn_done rules state statement
same_step rules number state (New v t) is = refl
same_step rules number state (Set v path literal) is = refl
same_step rules number state (Append v path literal) is = refl
same_step rules number state (Pop v path) is = refl
same_step rules number state (Choose v path k literal) is = refl
same_step rules number state (Root v) is = refl
same_step rules number state other is = absurd is

-- they name no file
pub names_none : (statement : Statement) → IsOfWork statement → file_read statement ≡ None
names_none (New v t) is = refl
names_none (Set v path literal) is = refl
names_none (Append v path literal) is = refl
names_none (Pop v path) is = refl
names_none (Choose v path k literal) is = refl
names_none (Root v) is = refl
names_none other is = absurd is

-- none of them gives up nodes
pub none_compacts : (statement : Statement) → IsOfWork statement → is_compact statement ≡ false
none_compacts (New v t) is = refl
none_compacts (Set v path literal) is = refl
none_compacts (Append v path literal) is = refl
none_compacts (Pop v path) is = refl
none_compacts (Choose v path k literal) is = refl
none_compacts (Root v) is = refl
none_compacts other is = absurd is

saves_none : (statement : Statement) (save : Option Save) → IsOfWork statement
    → SavesInto statement save → save ≡ None
saves_none (New v t) save is saves = saves
saves_none (Set v path literal) save is saves = saves
saves_none (Append v path literal) save is saves = saves
saves_none (Pop v path) save is saves = saves
saves_none (Choose v path k literal) save is saves = saves
saves_none (Root v) save is saves = saves
saves_none other save is saves = absurd is

row_saves_none : (statement : Statement) (state : State) (row : Row) → IsOfWork statement
    → IfOk row (IsChange statement (state.versions 0)) → save_in row ≡ None
row_saves_none statement state (Ok effect) is change =
    saves_none statement effect.save is change.files
row_saves_none statement state (Err refusal) is change = refl

row_keeps_files : (state : State) (row : Row) → save_in row ≡ None
    → (state_in 0 state row).files ≡ state.files
row_keeps_files state (Ok effect) none = ap (λ save. saved save state.files) none
row_keeps_files state (Err refusal) none = refl

not-some : {A : Type 0} (x : A) (P : Type 0) → None ≡ Some x → P
not-some x P e = cc

module _ (rules : Rules) (state : State) (statement : Statement) (is : IsOfWork statement) where
  no_save : save_of (turn_done rules state statement) ≡ None
  no_save =
      row_saves_none statement state (effect rules Run 0 (view_of 0 state) statement) is
      (statements_change_their_entry_lem rules Run 0 (view_of 0 state) statement)

  same_files : (state_of (turn_done rules state statement)).files ≡ state.files
  same_files = row_keeps_files state (effect rules Run 0 (view_of 0 state) statement) no_save

module _ (pair_of : PairOf) (statement : Statement) (is : IsOfWork statement)
    (old new : Point) (reply : List ℕ) (state : State) where
  abbrev rules : Rules
  rules = rules_of pair_of old.engine

  abbrev turn : Turn
  turn = turn_done rules state statement

  does : (result : Result Outcome EngineFault)
      → DoesLine pair_of Run 0 (0, Some statement) result old new [] reply
      → IsAtState state old → TurnDoes rules old.engine.base turn result old new [] reply
  does result line at =
      subst (λ (t : Turn). TurnDoes rules old.engine.base t result old new [] reply)
      (same_step rules (old.hashed - old.engine.base) state statement is)
      (line state at.versions at.files)

  -- a statement was done
  statement_done : (made : Outcome)
      → DoesLine pair_of Run 0 (0, Some statement) (Ok made) old new [] reply
      → IsAtState state old → KeepsNodes old.engine.arena new.engine.arena
      → LeavesHashed statement 0 new.engine
      → AreDone (turn ∷ []) (state_of turn) old new × Replies turn reply
  statement_done made line at nodes roots =
      let makes = does (Ok made) line at in (
        record {
          at = record { versions = makes.versions; files = makes.files };
          nodes = nodes;
          roots = (
            root-made new.engine 0 statement ((state_of turn).versions 0)
                (makes.versions.each 0) roots,
            tt,
          );
          told = makes.files ∙ ap Some (same_files rules state statement is) ∙ sym at.files;
          paid = omega (arith, makes.pays.paid, sum_by-cons charge_of turn []);
        },
        makes.line,
      )

  -- or there was no memory for it
  statement_broken : (fault : EngineFault)
      → DoesLine pair_of Run 0 (0, Some statement) (Err fault) old new [] reply
      → IsAtState state old
      → new.hashed ≤ old.hashed + unhashed old.engine.arena
      → StaysFor old.engine new.engine → AreBroken (turn ∷ []) fault old new
  statement_broken Read line at most stays =
      let missed = does (Err Read) line at in
      not-some missed.name _ (sym (names_none statement is) ∙ missed.named)
  statement_broken Write line at most stays =
      let part = does (Err Write) line at in
      not-some part.0 _ (sym (no_save rules state statement is) ∙ part.1)
  statement_broken Memory line at most stays = record {
    memory = refl;
    told = does (Err Memory) line at;
    done = [];
    next = turn;
    left = [];
    all = refl;
    stands = stays state.versions at.versions;
    paid = omega (arith, most);
  }

  -- whatever became of it
  pub statement_works : (result : Result Outcome EngineFault)
      → DoesLine pair_of Run 0 (0, Some statement) result old new [] reply
      → IsAtState state old → new.hashed ≤ old.hashed + unhashed old.engine.arena
      → KeepsNodes old.engine.arena new.engine.arena
      → IfOk result (λ made. LeavesHashed statement 0 new.engine)
      → OnErr result (StaysFor old.engine new.engine)
      → Works result (one_step turn) (λ made. Replies turn reply) old new
  statement_works (Ok made) line at most nodes roots stays =
      statement_done made line at nodes roots
  statement_works (Err fault) line at most nodes roots stays =
      statement_broken fault line at most stays

  -- it is refused where the machine refuses it
  pub statement_outcome : (result : Result Outcome EngineFault)
      → DoesLine pair_of Run 0 (0, Some statement) result old new [] reply
      → IsAtState state old → IfOk result (λ made. is_refusal made ≡ is_refused turn)
  statement_outcome (Ok made) line at = (does (Ok made) line at).outcome
  statement_outcome (Err fault) line at = tt

-- no file is named
pub none_named : (readable : Name → Type 0) (statement : Statement) → IsOfWork statement
    → AllByRecursion readable (name_before (file_read statement) [])
none_named readable statement is =
    subst (λ (o : Option Name). AllByRecursion readable (name_before o []))
    (sym (names_none statement is)) tt

-- where no read failed, no failed read was counted
pub none_read : {T : Type 0} (result : Result T EngineFault) (before now : ℕ)
    → CountsReads result before now → result ≢ Err Read → now ≡ before
none_read (Ok x) before now counts no_read = counts
none_read (Err Read) before now counts no_read = absurd (no_read refl)
none_read (Err Write) before now counts no_read = counts
none_read (Err Memory) before now counts no_read = counts

-- steps, and more behind them
pub done_then : (turns more : List Turn) (middle last : State) (before mid after : Point)
    → AreDone turns middle before mid → AreDone more last mid after
    → AreDone (turns ++ more) last before after
done_then turns more middle last before mid after first then = record {
  at = then.at;
  nodes = keeps_trans first.nodes then.nodes;
  roots = roots-joined after.engine.arena turns more
      (roots-kept mid.engine.arena after.engine.arena then.nodes turns first.roots) then.roots;
  told = then.told ∙ first.told;
  paid =
      let a = first.paid in
      let b = then.paid in
      omega (arith, a, b, sum_by-append charge_of turns more);
}

-- there was no memory for those behind them
pub broken_then : (turns more : List Turn) (middle : State) (fault : EngineFault)
    (before mid after : Point) → AreDone turns middle before mid → AreBroken more fault mid after
    → AreBroken (turns ++ more) fault before after
broken_then turns more middle fault before mid after first then = record {
  memory = then.memory;
  told = then.told ∙ first.told;
  done = turns ++ then.done;
  next = then.next;
  left = then.left;
  all = ap (λ rest. turns ++ rest) then.all
      ∙ sym (append_assoc turns then.done (then.next ∷ then.left));
  stands = then.stands;
  paid =
      let a = first.paid in
      let b = then.paid in
      omega (arith, a, b, sum_by-append charge_of turns then.done);
}

-- nor for them, and so none for those behind them
pub broken_early : (turns more : List Turn) (fault : EngineFault) (before after : Point)
    → AreBroken turns fault before after → AreBroken (turns ++ more) fault before after
broken_early turns more fault before after first = record {
  memory = first.memory;
  told = first.told;
  done = first.done;
  next = first.next;
  left = first.left ++ more;
  all = ap (λ steps. steps ++ more) first.all
      ∙ append_assoc first.done (first.next ∷ first.left) more;
  stands = first.stands;
  paid = first.paid;
}

-- there is none before any of them
pub broken_here : (turn : Turn) (turns : List Turn) (here : Point)
    → StandsFor here.engine turn.before.versions → AreBroken (turn ∷ turns) Memory here here
broken_here turn turns here stands = record {
  memory = refl;
  told = refl;
  done = [];
  next = turn;
  left = turns;
  all = refl;
  stands = stands;
  paid = omega arith;
}

-- what was hashed is paid for by all of them, too
pub broken_paid : (turns : List Turn) (fault : EngineFault) (before after : Point)
    → AreBroken turns fault before after
    → after.hashed ≤ before.hashed + unhashed before.engine.arena + charges turns
broken_paid turns fault before after broken =
    let paid = broken.paid in
    let all = ap charges broken.all in
    omega (arith, paid, all, sum_by-append charge_of broken.done (broken.next ∷ broken.left))
