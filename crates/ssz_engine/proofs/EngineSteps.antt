-- What a step of the engine does, as a line of a run.
use Rattle.std.proofs.Common.{ℕ, ◌+◌, ◌-◌, ◌≤◌, ◌≡◌, Bool, true, false, List, [], Option, Some, None, refl, sym, ap, ◌∙◌, subst}
use Rattle.std.specs.Prelude.{Result, Ok, Err, IfOk, IfErr, OnOk, OnErr, is_some, ◌≢◌, ◌&&◌}
use Rattle.std.specs.List.{AllByRecursion}
use Rattle.ssz_arena.specs.Content.{ArenaContent as Nodes, unhashed}
use Rattle.ssz_outside.specs.Content.{CanRead, Content as Files, may_fail}
use Rattle.ssz_proof.specs.Calculation.{PairOf}
use Rattle.ssz_script.specs.declared.statement.Statement.{Statement}
use Rattle.ssz_script.specs.declared.statement.Statement.TheVariants.{Load, LoadJson}
use Rattle.ssz_versions.specs.Content.{Entries, held_at}
use Rattle.ssz_versions.specs.Compacted.{IsCompacted}
use Rattle.ssz_machine.specs.declared.place.Place.{Place}
use Rattle.ssz_machine.specs.State.{Name, State, Versions}
use Rattle.ssz_machine.specs.Rules.{Row, Rules}
use Rattle.ssz_machine.specs.Machine.{Turn, step, state_of, charge_of, is_refused_row, may_miss, names_absent, reads, reads_file}
use Rattle.ssz_machine.specs.Changes.{Touch, nothing, puts, takes}
use Rattle.ssz_machine.specs.Counts.{asks_root, hashes_row}
use Rattle.ssz_engine.specs.Compacting.{compacted, is_compact}
use Rattle.ssz_decisions.specs.Content.{EngineContent, rules_of}
use Rattle.ssz_decisions.specs.Outside.{FilesHold}
use Rattle.ssz_engine.specs.Steps.{DoesStep, StatementFindsFile, StepLeaves, SavesPart, Stops, TouchesWhere, file_read, is_refusal, turn_at}
use Rattle.ssz_engine.specs.Scripts.{Point, file_named, name_before}
use Rattle.ssz_engine.specs.Lines.{DoesLine, LeavesOthers, type_held}
use Rattle.ssz_decisions.specs.declared.outcome.Outcome.{Outcome}
use Rattle.ssz_decisions.specs.declared.outcome.Outcome.TheVariants.{Accepted, Refused}
use Rattle.ssz_decisions.specs.declared.fault.EngineFault.{EngineFault}
use Rattle.ssz_decisions.specs.declared.fault.EngineFault.TheVariants.{Read, Write, Memory}
use Rattle.ssz_decisions.proofs.Entries.{held_at-with, held_at-without}
use Rattle.ssz_decisions.proofs.Keys.{other_writer}
use Rattle.ssz_engine.proofs.Moving.{type-moved}
use Rattle.ssz_engine.proofs.Replies.{said_number}

not-both : false ≡ true → ⊥
not-both e = cc

-- files that told go on telling
stays_told : (old new : Option Files) (f g : Files) → is_some new ≡ is_some old → old ≡ Some f
    → FilesHold new g → new ≡ Some g
stays_told old None f g same is holds = absurd (not-both (same ∙ ap is_some is))
stays_told old (Some h) f g same is holds = ap Some holds

-- what they hold is what they tell
holds_is : (told : Option Files) (f g : Files) → told ≡ Some f → FilesHold told g → g ≡ f
holds_is told f g is holds = sym (subst (λ t. FilesHold t g) is holds)

-- a step that may hash nothing hashed nothing
quiet : (P : Type 0) (row : Row) (asks : Bool) (made : Outcome)
    → is_refusal made ≡ is_refused_row row → hashes_row asks row ≡ false
    → (asks ≡ false → P) → (made ≡ Refused → P) → P
quiet P (Ok effect) asks made same none still refused = still none
quiet P (Err refusal) asks Accepted same none still refused = absurd (not-both same)
quiet P (Err refusal) asks Refused same none still refused = refused refl

-- a statement that reads names a file
record Names (statement : Statement) : Type 0 where
  name : Name
  named : file_named (Some statement) ≡ Some name
  missed : (files : Files) → may_miss files (Some statement) ≡ may_fail files name

names : (rules : Rules) (versions : Versions) (statement : Statement)
    → reads rules versions (Some statement) ≡ true → Names statement
names rules versions (Load v t file) is =
    record { name = file; named = refl; missed = λ files. refl }
names rules versions (LoadJson v t file) is =
    record { name = file; named = refl; missed = λ files. refl }
names rules versions other is = absurd (not-both is)

-- where it is told that no read of a name fails, none does
missed-where : (told : Option Files) (files : Files) (name : Name) → told ≡ Some files
    → (CanRead told name → ⊥) → may_fail files name ≡ true
missed-where told files name is none =
    by (may_fail files name) (λ sure. none (subst (λ t. CanRead t name) (sym is) sure))
  where
    by : (b : Bool) → (b ≡ false → ⊥) → b ≡ true
    by true none = refl
    by false none = absurd (none refl)

not-both-true : (a b : Bool) → (a ≡ true → b ≡ false) → (a && b) ≡ false
not-both-true true b is = is refl
not-both-true false b is = refl

both-true : (a b : Bool) → a ≡ true → b ≡ true → (a && b) ≡ true
both-true a b one two = rw (one, two) refl

module _ (pair_of : PairOf) (place : Place) (writer line : ℕ) (statement : Statement)
    (before after : Point) (text more : List ℕ) where
  abbrev number : ℕ
  number = before.hashed - before.engine.base

  abbrev turn_of : State → Turn
  turn_of state =
      step (rules_of pair_of before.engine) place number state writer (line, Some statement)

  -- the turn over what the files hold is the turn of the state
  at_files : (P : Turn → Type 0) (state : State) (files : Files) → before.told ≡ Some state.files
      → FilesHold before.told files
      → P (turn_at pair_of before.engine place number writer line statement state.versions files)
      → P (turn_of state)
  at_files P state files told tells is =
      subst (λ f. P (turn_at pair_of before.engine place number writer line statement state.versions
      f)) (holds_is before.told state.files files told tells) is

  -- it was done
  step_makes : (made : Outcome)
      → DoesStep pair_of place writer line statement before.engine after.engine before.hashed
      after.hashed before.told after.told text more made
      → is_some after.told ≡ is_some before.told → before.hashed ≤ after.hashed
      → (asks_root (Some statement) ≡ false → after.hashed ≡ before.hashed)
      → (made ≡ Refused → after.hashed ≡ before.hashed)
      → StatementFindsFile pair_of before.engine writer statement before.told
      → DoesLine pair_of place writer (line, Some statement) (Ok made) before after text more
  step_makes made does same rises still refused finds state stands told =
      let leaves : StepLeaves (turn_of state) made after.engine after.told text more =
      at_files (λ turn. StepLeaves turn made after.engine after.told text more) state does.files
      told
      does.tells (does.leaves state.versions stands) in
      let spends : after.hashed + unhashed after.engine.arena
      ≤ before.hashed + unhashed before.engine.arena + charge_of (turn_of state) =
      at_files (λ turn. after.hashed + unhashed after.engine.arena
      ≤ before.hashed + unhashed before.engine.arena + charge_of turn) state does.files told
      does.tells (does.spends state.versions stands) in
      record {
        outcome = leaves.outcome;
        found = not-both-true
            (reads (rules_of pair_of before.engine) (state.versions writer) (Some statement))
            (names_absent state.files (Some statement))
            (finds state.files told (state.versions writer) (stands.each writer));
        line = leaves.text;
        versions = leaves.versions;
        files = stays_told before.told after.told state.files (state_of (turn_of state)).files same
            told leaves.files;
        pays = record {
          rises = rises;
          stays = λ none. quiet (after.hashed ≡ before.hashed) (turn_of state).row
              (asks_root (Some statement)) made leaves.outcome none still refused;
          paid = spends;
          said = said_number (rules_of pair_of before.engine) place number state writer
              (line, Some statement);
        };
      }

  -- it was not done
  step_stops : (fault : EngineFault)
      → Stops fault pair_of place writer line number statement before.engine before.told after.told
      → ((name : Name) → file_read statement ≡ Some name → before.readable name → fault ≢ Read)
      → ((name : Name) → file_read statement ≡ Some name → CanRead before.told name
      → fault ≢ Read)
      → DoesLine pair_of place writer (line, Some statement) (Err fault) before after text more
  step_stops Read stops fails present state stands told =
      let asks = stops.1 (state.versions writer) (stands.each writer) in
      let file = names (rules_of pair_of before.engine) (state.versions writer) statement asks in
      record {
        reads = asks;
        stops = both-true (reads_file (rules_of pair_of before.engine) (turn_of state))
            (may_miss state.files (Some statement)) asks
            (file.missed state.files
            ∙ missed-where before.told state.files file.name told
            (λ sure. present file.name file.named sure refl));
        files = stops.0;
        name = file.name;
        named = file.named;
        unread = λ readable. fails file.name file.named readable refl;
      }
  step_stops Write stops fails present state stands told =
      at_files (λ turn. SavesPart turn before.told after.told) state stops.files told stops.tells
      (stops.part state.versions stands)
  step_stops Memory stops fails present state stands told = stops

  -- a step is a line
  pub step_does : (result : Result Outcome EngineFault)
      → IfOk result (DoesStep pair_of place writer line statement before.engine after.engine
      before.hashed after.hashed before.told after.told text more)
      → IfErr result (λ fault. Stops fault pair_of place writer line number statement before.engine
      before.told after.told)
      → is_some after.told ≡ is_some before.told → before.hashed ≤ after.hashed
      → (asks_root (Some statement) ≡ false → after.hashed ≡ before.hashed)
      → IfOk result (λ made. made ≡ Refused → after.hashed ≡ before.hashed)
      → ((name : Name) → file_read statement ≡ Some name → before.readable name
      → result ≢ Err Read)
      → ((name : Name) → file_read statement ≡ Some name → CanRead before.told name
      → result ≢ Err Read)
      → OnOk result (StatementFindsFile pair_of before.engine writer statement before.told)
      → DoesLine pair_of place writer (line, Some statement) result before after text more
  step_does (Ok made) does stops same rises still refused fails present finds =
      step_makes made does same rises still refused finds
  step_does (Err fault) does stops same rises still refused fails present finds =
      step_stops fault stops (λ name named readable e. fails name named readable (ap Err e))
      (λ name named sure e. present name named sure (ap Err e))

-- what is so of two hashers that are the same is so of their counts
pub same_counts : {X : Type 0} (pairs : X → ℕ) (old new : X) (result : Result Outcome EngineFault)
    → IfOk result (λ made. made ≡ Refused → new ≡ old)
    → IfOk result (λ made. made ≡ Refused → pairs new ≡ pairs old)
same_counts pairs old new (Ok made) same = λ refused. ap pairs (same refused)
same_counts pairs old new (Err fault) same = tt

-- a read fails only of a file that is named and cannot be read
pub reads_named : {T : Type 0} (readable : Name → Type 0) (statement : Statement)
    (result : Result T EngineFault)
    → (file_read statement ≡ None → result ≢ Err Read)
    → ((name : Name) → file_read statement ≡ Some name → readable name → result ≢ Err Read)
    → AllByRecursion readable (name_before (file_named (Some statement)) []) → result ≢ Err Read
reads_named readable statement result none some all = by (file_read statement) refl all
  where
    by : (o : Option Name) → file_read statement ≡ o → AllByRecursion readable (name_before o [])
        → result ≢ Err Read
    by None is all = none is
    by (Some name) is all = some name is all.0

-- a step of one writer that gives up no nodes leaves what the others hold
touched : (writer : ℕ) (made : Outcome) (touch : Touch) (old new : Entries)
    → TouchesWhere made touch writer old new → (other : ℕ) (name : Name) → other ≢ writer
    → held_at new other name ≡ held_at old other name
touched writer Accepted nothing old new is other name apart =
    ap (λ es. held_at es other name) is
touched writer Accepted (puts v) old new is other name apart =
    ap (λ es. held_at es other name) is.1
    ∙ held_at-with old writer v is.0 other name
    ∙ rw (other_writer other writer name v apart) refl
touched writer Accepted (takes v) old new is other name apart =
    ap (λ es. held_at es other name) is
    ∙ held_at-without old writer v other name
    ∙ rw (other_writer other writer name v apart) refl
touched writer Refused touch old new is other name apart = ap (λ es. held_at es other name) is

-- whether nodes are given up or not, the others keep names and types
module _ (writer : ℕ) (touch : Touch) (old new : Entries) (before after : Nodes) (P : Type 0) where
  moved_or_touched : (made : Outcome) (test : Bool)
      → (test ≡ false → TouchesWhere made touch writer old new)
      → (test ≡ true → IsCompacted old new before after) → LeavesOthers writer old new
  moved_or_touched made true touches moves other name apart =
      type-moved before after _ _ ((moves refl).entries other name)
  moved_or_touched made false touches moves other name apart =
      ap type_held (touched writer made touch old new (touches refl) other name apart)

  pub step_leaves_others : (statement : Statement) (result : Result Outcome EngineFault)
      → (compacted statement result ≡ false
      → IfOk result (λ made. TouchesWhere made touch writer old new))
      → (compacted statement result ≡ true → IsCompacted old new before after)
      → OnErr result ((new ≡ old) × P) → LeavesOthers writer old new
  step_leaves_others statement (Ok made) touches moves err other name apart =
      moved_or_touched made (compacted statement (Ok made)) touches moves other name apart
  step_leaves_others statement (Err fault) touches moves err other name apart =
      ap (λ (es : Entries). type_held (held_at es other name)) err.0

-- a line that gives up no nodes is a step that gives up none
pub stays_uncompacted : (statement : Statement) (result : Result Outcome EngineFault)
    → is_compact statement ≡ false → compacted statement result ≡ false
stays_uncompacted statement (Ok Accepted) none = none
stays_uncompacted statement (Ok Refused) none = refl
stays_uncompacted statement (Err fault) none = refl

-- a statement that reads no file finds each that it reads
pub finds_alone : (pair_of : PairOf) (engine : EngineContent) (writer : ℕ) (statement : Statement)
    (told : Option Files)
    → ((v t file : Name) → statement ≡ Load v t file → ⊥)
    → ((v t file : Name) → statement ≡ LoadJson v t file → ⊥)
    → StatementFindsFile pair_of engine writer statement told
finds_alone pair_of engine writer statement told no_load no_json held is versions stands asks =
    by statement refl
  where
    by : (s : Statement) → statement ≡ s → names_absent held (Some s) ≡ false
    by (Load v t file) same = absurd (no_load v t file same)
    by (LoadJson v t file) same = absurd (no_json v t file same)
    by other same = refl

-- nor does one that was not done
pub err-kept : (statement : Statement) (result : Result Outcome EngineFault) (P : Type 0)
    → (compacted statement result ≡ false → P) → OnErr result P
err-kept statement (Ok made) P kept = tt
err-kept statement (Err fault) P kept = kept refl
