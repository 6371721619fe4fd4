-- That each line which is printed is one line.
use Rattle.std.specs.Prelude.{ℕ, List, Option, Some, None, IsTrue}
use Rattle.std.specs.List.{list_all, AllByRecursion}
use Rattle.ssz_schema.specs.Names.{is_name}
use Rattle.ssz_script.specs.declared.statement.Statement.{Statement}
use Rattle.ssz_script.specs.Lines.{statements_in}
use Rattle.ssz_script.specs.OneLine.{is_line}
use Rattle.ssz_machine.specs.declared.place.Place.{Place}
use Rattle.ssz_machine.specs.declared.place.Place.TheVariants.{Run, Weave}
use Rattle.ssz_machine.specs.State.{Versions, State, fresh}
use Rattle.ssz_machine.specs.Rules.{Rules}
use Rattle.ssz_machine.specs.Making.{names_of}
use Rattle.ssz_machine.specs.Machine.{Line}
use Rattle.ssz_machine.specs.Plays.{Event, says, adopts, play, shown_all}
use Rattle.ssz_machine.specs.Jobs.{turns_of_script, turns_of_weave}
use Rattle.ssz_outside.specs.Content.{Content}
use Rattle.ssz_machine.specs.Changes.{Touch, puts, takes, nothing, touch}

-- the names of versions are names
pub record AreNamed (versions : Versions) : Type 0 where
  pub names : IsTrue (list_all is_name (names_of versions))

abbrev pub PutsName : Touch → Type 0
PutsName (puts name) = IsTrue (is_name name)
PutsName (takes name) = Unit {0}
PutsName nothing = Unit {0}

-- a statement gives a version only what is a name
abbrev pub IsNamed : Option Statement → Type 0
IsNamed None = Unit {0}
IsNamed (Some statement) = PutsName (touch statement)

abbrev pub IsNamedLine : Line → Type 0
IsNamedLine line = IsNamed line.1

abbrev pub IsNamedEvent : Event → Type 0
IsNamedEvent (says writer line) = IsNamedLine line
IsNamedEvent (adopts writer) = Unit {0}

-- each statement of a script is so
abbrev pub ScriptsAreNamed : Type 0
ScriptsAreNamed = (script : List ℕ) → AllByRecursion IsNamedLine (statements_in script)

abbrev pub AreLines : List (List ℕ) → Type 0
AreLines lines = AllByRecursion (λ line. IsTrue (is_line line)) lines

-- a line feed stands at the end of each line that is printed, and nowhere else in it
abbrev pub PrintedLinesAreLines : Type 0
PrintedLinesAreLines =
    (rules : Rules) (place : Place) (numbers : List ℕ) (state : State) (events : List Event)
    → ((writer : ℕ) → AreNamed (state.versions writer))
    → AllByRecursion IsNamedEvent events
    → AreLines (shown_all place (play rules place numbers state events))

-- so it is of the lines of any scripts
pub record ScriptsPrintLines (rules : Rules) (held : Content) : Type 0 where
  pub runs : (numbers script : List ℕ)
      → AreLines (shown_all Run (turns_of_script rules numbers (fresh held) script))
  pub weaves : (base order : List ℕ) (scripts : List (List ℕ))
      → AreLines (shown_all Weave (turns_of_weave rules (fresh held) base order scripts))

abbrev pub AllScriptsPrintLines : Type 0
AllScriptsPrintLines = (rules : Rules) (held : Content) → ScriptsPrintLines rules held
