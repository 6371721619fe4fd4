-- What a line of a script does, as the plain machine does it.
use Rattle.std.specs.Prelude.{◌≡◌, ◌≢◌, ℕ, ◌-◌, Bool, true, false, List, [], ◌++◌, Option, Some, None, Result, Ok, Err, ◌≤◌}
use Rattle.ssz_arena.specs.Content.{unhashed, KeepsNodes}
use Rattle.ssz_outside.specs.Asked.{AsksOf}
use Rattle.ssz_outside.specs.declared.status.Status.{Status}
use Rattle.ssz_outside.specs.declared.status.Status.TheVariants as status
use Rattle.ssz_proof.specs.Calculation.{PairOf}
use Rattle.ssz_script.specs.Texts.{reply_line}
use Rattle.ssz_versions.specs.Content.{Entries, Held, held_at}
use Rattle.ssz_machine.specs.declared.place.Place.{Place}
use Rattle.ssz_machine.specs.State.{Name, State}
use Rattle.ssz_machine.specs.Rules.{Rules}
use Rattle.ssz_machine.specs.Machine.{Line, Turn, step, reply_of, state_of, is_refused, may_stop, misses, reads_file}
use Rattle.ssz_decisions.specs.Content.{rules_of, KeepsEngine}
use Rattle.ssz_decisions.specs.Standing.{StandsFor}
use Rattle.ssz_engine.specs.Steps.{SavesPart, is_refusal}
use Rattle.ssz_engine.specs.Scripts.{AreNamedReadable, Point, asks_of_turn, file_named, files_named}
use Rattle.ssz_engine.specs.Points.{PaysStep}
use Rattle.ssz_decisions.specs.declared.outcome.Outcome.{Outcome}
use Rattle.ssz_decisions.specs.declared.fault.EngineFault.{EngineFault}
use Rattle.ssz_decisions.specs.declared.fault.EngineFault.TheVariants.{Read, Write, Memory}
use Rattle.ssz_engine.specs.Compacting.{NoneCompacts}
use Rattle.ssz_decisions.specs.Outside.{CountsReads, CountsWrites}

-- The turn was made and paid for: its line is appended, and what is there stands for the state
-- after it.
pub record MakesTurn (rules : Rules) (base : ℕ) (turn : Turn) (made : Outcome)
    (before after : Point)
    (text more : List ℕ) : Type 0 where
  pub outcome : is_refusal made ≡ is_refused turn
  pub found : misses rules turn ≡ false
  pub line : more ≡ text ++ reply_line (reply_of turn)
  pub versions : StandsFor after.engine (state_of turn).versions
  pub files : after.told ≡ Some (state_of turn).files
  pub pays : PaysStep base turn before.hashed (unhashed before.engine.arena) after.hashed
      (unhashed after.engine.arena)

-- a file that was to be read was not, and the files stay
pub record Missed (rules : Rules) (turn : Turn) (before after : Point) : Type 0 where
  pub reads : reads_file rules turn ≡ true
  pub stops : may_stop rules turn ≡ true
  pub files : after.told ≡ before.told
  pub name : Name
  pub named : file_named turn.line.1 ≡ Some name
  pub unread : before.readable name → ⊥

-- What a line comes to at a turn of the machine, by an engine with this base.
abbrev pub TurnDoes : Rules → ℕ → Turn → Result Outcome EngineFault → Point → Point → List ℕ
    → List ℕ
    → Type 0
TurnDoes rules base turn (Ok made) before after text more =
    MakesTurn rules base turn made before after text more
TurnDoes rules base turn (Err Read) before after text more = Missed rules turn before after
TurnDoes rules base turn (Err Write) before after text more = SavesPart turn before.told after.told
TurnDoes rules base turn (Err Memory) before after text more = after.told ≡ before.told

-- So it does from whatever state is stood for, where the files tell what they hold. A number that
-- `hashes` prints is the hasher's count less the base.
abbrev pub DoesLine : PairOf → Place → ℕ → Line → Result Outcome EngineFault → Point → Point
    → List ℕ → List ℕ → Type 0
DoesLine pair_of place writer line result before after text more =
    (state : State) → StandsFor before.engine state.versions → before.told ≡ Some state.files
    → TurnDoes (rules_of pair_of before.engine) before.engine.base
    (step (rules_of pair_of before.engine) place (before.hashed - before.engine.base) state writer
    line) result before after text more

-- Whatever state is stood for, the files were asked for the file that the line reads from it, with
-- the most bytes of a value, or for nothing where it reads none; where the line was cut short,
-- perhaps for nothing.
abbrev pub AsksLine : PairOf → Place → ℕ → Line → (cut : Bool) → Point → Point → Type 0
AsksLine pair_of place writer line cut before after =
    (state : State) → StandsFor before.engine state.versions
    → AsksOf cut (asks_of_turn (rules_of pair_of before.engine)
    (step (rules_of pair_of before.engine) place (before.hashed - before.engine.base) state writer
    line)) before.asked after.asked

-- What is so of lines that were tried, whatever they came to: types, limit and base stay, and so do
-- the nodes, where no line gives them up; what could be read can be read; and a fault is counted. A
-- read fails only of a file that a line names, and where none does the files are asked for nothing.
pub record Tries {T : Type 0} (lines : List Line) (result : Result T EngineFault)
    (before after : Point) : Type 0 where
  pub keeps : KeepsEngine before.engine after.engine
  pub nodes : NoneCompacts lines → KeepsNodes before.engine.arena after.engine.arena
  pub rises : before.hashed ≤ after.hashed
  pub readable : (name : Name) → before.readable name → after.readable name
  pub gets : CountsReads result before.get_faults after.get_faults
  pub puts : CountsWrites result before.put_faults after.put_faults
  pub fails : AreNamedReadable before.readable lines → result ≢ Err Read
  pub asks : files_named lines ≡ [] → after.asked ≡ before.asked

-- the type of an entry, without its node
abbrev pub type_held : Option Held → Option ℕ
type_held None = None
type_held (Some held) = Some held.0

-- all other writers hold under the same names what has the same types: a `compact` alone gives it
-- other nodes
abbrev pub LeavesOthers : ℕ → Entries → Entries → Type 0
LeavesOthers writer old new =
    (other : ℕ) (name : Name) → other ≢ writer
    → type_held (held_at new other name) ≡ type_held (held_at old other name)

-- the status of a run that a line ended
abbrev pub ended_by : EngineFault → Status
ended_by Read = status.ReadFault
ended_by Write = status.WriteFault
ended_by Memory = status.Memory
