-- What a step of an engine leaves, by a step of the plain machine.
use Rattle.std.specs.Prelude.{◌≡◌, ◌≤◌, ◌+◌, ◌-◌, ◌*◌, ℕ, IsTrue, Bool, true, false, List, ◌++◌, Option, Some, None}
use Rattle.ssz_outside.specs.Asked.{Asks}
use Rattle.ssz_outside.specs.Content.{Content as Files}
use Rattle.ssz_outside.specs.Job.{Save}
use Rattle.ssz_outside.specs.Outcome.{WritesPart}
use Rattle.ssz_arena.specs.Content.{ArenaContent as Nodes, node_count, todo, unhashed}
use Rattle.ssz_arena.specs.declared.node.NodeId.{NodeId}
use Rattle.ssz_schema.specs.Unfolding.{type_of}
use Rattle.ssz_forms.specs.Upgrades.{upgrade_charge}
use Rattle.ssz_proof.specs.Calculation.{PairOf}
use Rattle.ssz_script.specs.declared.statement.Statement.{Statement}
use Rattle.ssz_script.specs.declared.statement.Statement.TheVariants.{New, Lit, Load, LoadJson, Fork, Upgrade}
use Rattle.ssz_script.specs.Texts.{reply_line}
use Rattle.ssz_versions.specs.Content.{Entries, Held, held_at, with_held, without_held}
use Rattle.ssz_machine.specs.declared.place.Place.{Place}
use Rattle.ssz_machine.specs.State.{Name, Versions}
use Rattle.ssz_machine.specs.Rules.{Rules, Row}
use Rattle.ssz_machine.specs.Machine.{Turn, step, effect, names_absent, reads, reply_of, state_of, save_of, charge_of, is_refused}
use Rattle.ssz_machine.specs.Changes.{Touch, nothing, puts, takes, touch}
use Rattle.ssz_engine.specs.Compacting.{is_compact}
use Rattle.ssz_decisions.specs.Content.{EngineContent, rules_of}
use Rattle.ssz_decisions.specs.Standing.{StandsFor, StandsForWriter}
use Rattle.ssz_decisions.specs.Decisions.{AnswersRow, PaysRow}
use Rattle.ssz_decisions.specs.Loading.{AsksLoad}
use Rattle.ssz_decisions.specs.Outside.{FilesHold}
use Rattle.ssz_decisions.specs.declared.decision.Decision.{Decision}
use Rattle.ssz_decisions.specs.declared.decision.Decision.TheVariants as decision
use Rattle.ssz_decisions.specs.declared.outcome.Outcome.{Outcome}
use Rattle.ssz_decisions.specs.declared.outcome.Outcome.TheVariants.{Accepted, Refused}
use Rattle.ssz_decisions.specs.declared.fault.EngineFault.{EngineFault}
use Rattle.ssz_decisions.specs.declared.fault.EngineFault.TheVariants.{Read, Write, Memory}

abbrev pub is_refusal : Outcome → Bool
is_refusal Accepted = false
is_refusal Refused = true

-- of a statement that is accepted this is so
abbrev pub WhereAccepted : Outcome → Type 0 → Type 0
WhereAccepted Accepted Fact = Fact
WhereAccepted Refused Fact = Unit {0}

-- What a step leaves that was done as the turn says: the line of its reply is appended, and the
-- engine and the files stand for the state after it.
pub record StepLeaves (turn : Turn) (made : Outcome) (engine : EngineContent) (told : Option Files)
    (out_old out_new : List ℕ) : Type 0 where
  pub outcome : is_refusal made ≡ is_refused turn
  pub text : out_new ≡ out_old ++ reply_line (reply_of turn)
  pub versions : StandsFor engine (state_of turn).versions
  pub files : FilesHold told (state_of turn).files

-- only what the table of statements names changes of the entries
abbrev pub Touches : Touch → ℕ → Entries → Entries → Type 0
Touches nothing writer old new = new ≡ old
Touches (puts name) writer old new = (held : Held) × (new ≡ with_held old writer name held)
Touches (takes name) writer old new = new ≡ without_held old writer name

abbrev pub TouchesWhere : Outcome → Touch → ℕ → Entries → Entries → Type 0
TouchesWhere Accepted touch writer old new = Touches touch writer old new
TouchesWhere Refused touch writer old new = new ≡ old

-- a fork holds what its source holds
abbrev pub StatementForks : Statement → ℕ → Entries → Entries → Type 0
StatementForks (Fork v w) writer old new = held_at new writer w ≡ held_at old writer v
StatementForks _ writer old new = Unit {0}

-- For what an upgrade makes no more is to be hashed than for what it takes the fields of, and the
-- charge.
abbrev pub StatementUpgrades : Statement → ℕ → EngineContent → EngineContent → Type 0
StatementUpgrades (Upgrade v w t) writer old new =
    (was is : Held) → held_at old.entries writer v ≡ Some was
    → held_at new.entries writer w ≡ Some is
    → todo new.arena is.1 ≤ todo old.arena was.1
    + upgrade_charge (type_of old.types was.0) (type_of old.types is.0)
StatementUpgrades _ writer old new = Unit {0}

-- a node that an upgrade makes, under its name
pub record IsUpgradeOf (v w : Name) (writer : ℕ) (old new : EngineContent) (name : Name) (id : ℕ)
    (node : NodeId) : Type 0 where
  pub named : name ≡ w
  pub due : (was : Held) → held_at old.entries writer v ≡ Some was
      → todo new.arena node ≤ todo old.arena was.1
      + upgrade_charge (type_of old.types was.0) (type_of old.types id)

-- an upgrade is found to come to that, or is refused
abbrev pub MakesUpgrade : Statement → ℕ → EngineContent → EngineContent → Decision → Type 0
MakesUpgrade (Upgrade v w t) writer old new (decision.Refused code) = Unit {0}
MakesUpgrade (Upgrade v w t) writer old new (decision.Made name id node room) =
    IsUpgradeOf v w writer old new name.now id node
MakesUpgrade (Upgrade v w t) writer old new (decision.BadBytes fault) = ⊥
MakesUpgrade (Upgrade v w t) writer old new (decision.BadJson fault) = ⊥
MakesUpgrade (Upgrade v w t) writer old new (decision.Said reply) = ⊥
MakesUpgrade (Upgrade v w t) writer old new (decision.Edited name node) = ⊥
MakesUpgrade (Upgrade v w t) writer old new (decision.Dropped name) = ⊥
MakesUpgrade (Upgrade v w t) writer old new (decision.Saved name bytes) = ⊥
MakesUpgrade _ writer old new made = Unit {0}

-- the turn of the machine for a statement, where the writers have these versions and the files hold
-- this
abbrev pub turn_at : PairOf → EngineContent → Place → ℕ → ℕ → ℕ → Statement
    → (ℕ → Versions) → Files → Turn
turn_at pair_of engine place number writer line statement versions files =
    step (rules_of pair_of engine) place number
    (record { versions = versions; files = files }) writer (line, Some statement)

-- whether a version is made of a type, of a literal or of a file, and of no other version
abbrev pub makes_anew : Statement → Bool
makes_anew (New v t) = true
makes_anew (Lit v t literal) = true
makes_anew (Load v t file) = true
makes_anew (LoadJson v t file) = true
makes_anew _ = false

-- then no more is to be hashed for it than the charge
abbrev pub PaysAnew : Bool → PairOf → (Rules → Versions → Row) → ℕ → EngineContent → EngineContent
    → Decision
    → Type 0
PaysAnew true pair_of row writer old new made = PaysRow pair_of row writer old new made
PaysAnew false pair_of row writer old new made = Unit {0}

-- A statement is found to come to a decision: for some content of the files, the told one where
-- they tell it, it answers the machine's row.
pub record Decides (pair_of : PairOf) (place : Place) (statement : Statement) (writer number : ℕ)
    (told : Option Files) (old new : EngineContent) (before after : ℕ) (made : Decision)
    : Type 0 where
  pub files : Files
  pub tells : FilesHold told files
  pub answers : AnswersRow pair_of
      (λ rules versions. effect rules place number
      (record { versions = versions; files = files }) statement)
      (touch statement) writer old new before after made
  pub anew : PaysAnew (makes_anew statement) pair_of
      (λ rules versions. effect rules place number
      (record { versions = versions; files = files }) statement) writer old new made

-- the same of a statement that reads no file
abbrev pub DecidesAlone : PairOf → Place → Statement → ℕ → ℕ → EngineContent → EngineContent → ℕ → ℕ
    → Decision
    → Type 0
DecidesAlone pair_of place statement writer number old new before after made =
    (files : Files) → AnswersRow pair_of
    (λ rules versions. effect rules place number
    (record { versions = versions; files = files }) statement)
    (touch statement) writer old new before after made
    × PaysAnew (makes_anew statement) pair_of
    (λ rules versions. effect rules place number
    (record { versions = versions; files = files }) statement) writer old new made

-- a file is read by a statement that reads one
abbrev pub CanAsk : PairOf → EngineContent → ℕ → Statement → Type 0
CanAsk pair_of engine writer statement =
    (versions : Versions) → StandsForWriter engine writer versions
    → IsTrue (reads (rules_of pair_of engine) versions (Some statement))

-- the file is there where one is read, where the files tell what they hold
abbrev pub StatementFindsFile : PairOf → EngineContent → ℕ → Statement → Option Files → Type 0
StatementFindsFile pair_of engine writer statement told =
    (held : Files) → told ≡ Some held → (versions : Versions)
    → StandsForWriter engine writer versions
    → reads (rules_of pair_of engine) versions (Some statement) ≡ true
    → names_absent held (Some statement) ≡ false

-- The files are asked for the file of the statement where one is read for it, once and with the
-- most bytes of a value; else they are asked for nothing. What was cut short may not have come to
-- it.
abbrev pub AsksStatement : PairOf → EngineContent → ℕ → Statement → (cut : Bool) → Asks → Asks
    → Type 0
AsksStatement pair_of engine writer (Load v t file) cut old new =
    AsksLoad pair_of engine writer v t file cut old new
AsksStatement pair_of engine writer (LoadJson v t file) cut old new =
    AsksLoad pair_of engine writer v t file cut old new
AsksStatement pair_of engine writer other cut old new = new ≡ old

-- How many nodes a statement adds: where it is accepted and puts a version under a name, at most
-- two for each pair of its charge, and one; else none.
abbrev pub AddsFew : Outcome → Touch → ℕ → Nodes → Nodes → Type 0
AddsFew Accepted (puts name) charge old new = node_count new ≤ node_count old + 2 * charge + 1
AddsFew Accepted nothing charge old new = node_count new ≡ node_count old
AddsFew Accepted (takes name) charge old new = node_count new ≡ node_count old
AddsFew Refused touch charge old new = node_count new ≡ node_count old

-- A statement was done: for some content of the files, the told one where they tell it, and
-- whatever versions the engine stood for, the turn of the machine.
pub record DoesStep (pair_of : PairOf) (place : Place) (writer line : ℕ) (statement : Statement)
    (old new : EngineContent) (before after : ℕ) (told_old told_new : Option Files)
    (out_old out_new : List ℕ) (made : Outcome) : Type 0 where
  pub files : Files
  pub tells : FilesHold told_old files
  pub leaves : (versions : ℕ → Versions) → StandsFor old versions
      → StepLeaves (turn_at pair_of old place (before - old.base) writer line statement versions
      files) made new told_new out_old out_new
  -- what is hashed, and what is then to be hashed, is at most what was to be hashed and the charge
  pub spends : (versions : ℕ → Versions) → StandsFor old versions
      → after + unhashed new.arena ≤ before + unhashed old.arena
      + charge_of (turn_at pair_of old place (before - old.base) writer line statement
      versions files)
  -- and so for the root of a version that was edited
  pub edits : (versions : ℕ → Versions) → StandsFor old versions
      → (name : Name) (was is : Held) → touch statement ≡ puts name → made ≡ Accepted
      → held_at old.entries writer name ≡ Some was → held_at new.entries writer name ≡ Some is
      → after + todo new.arena is.1 ≤ before + todo old.arena was.1
      + charge_of (turn_at pair_of old place (before - old.base) writer line statement
      versions files)
  -- for a version that was made anew no more is to be hashed than the charge
  pub anew : (versions : ℕ → Versions) → StandsFor old versions
      → (name : Name) (is : Held) → makes_anew statement ≡ true → touch statement ≡ puts name
      → made ≡ Accepted → held_at new.entries writer name ≡ Some is
      → todo new.arena is.1 ≤ charge_of (turn_at pair_of old place (before - old.base) writer line
      statement versions files)
  -- few nodes are new (what `compact` leaves is told beside this)
  pub few : (versions : ℕ → Versions) → StandsFor old versions → is_compact statement ≡ false
      → AddsFew made (touch statement) (charge_of (turn_at pair_of old place (before - old.base)
      writer line statement versions files)) old.arena new.arena

-- what the turn was to write into a file was written in part, or not at all
abbrev pub SavesPart : Turn → Option Files → Option Files → Type 0
SavesPart turn old new =
    (save : Save) × (save_of turn ≡ Some save) × WritesPart save.name save.bytes old new

-- A failed write: for some content of the files, the told one where they tell it.
pub record SaveFails (pair_of : PairOf) (place : Place) (writer line number : ℕ)
    (statement : Statement) (old : EngineContent) (told_old told_new : Option Files) : Type 0 where
  pub files : Files
  pub tells : FilesHold told_old files
  pub part : (versions : ℕ → Versions) → StandsFor old versions
      → SavesPart (turn_at pair_of old place number writer line statement versions files)
      told_old told_new

-- Why a statement was not done, and what is then left of the files.
abbrev pub Stops : EngineFault → PairOf → Place → ℕ → ℕ → ℕ → Statement → EngineContent
    → Option Files
    → Option Files → Type 0
Stops Read pair_of place writer line number statement old told_old told_new =
    (told_new ≡ told_old) × CanAsk pair_of old writer statement
Stops Write pair_of place writer line number statement old told_old told_new =
    SaveFails pair_of place writer line number statement old told_old told_new
Stops Memory pair_of place writer line number statement old told_old told_new = told_new ≡ told_old

-- the statement reads this file
abbrev pub file_read : Statement → Option Name
file_read (Load v t file) = Some file
file_read (LoadJson v t file) = Some file
file_read _ = None
