-- That versions stay values of legal types, whatever scripts do.
use Rattle.std.specs.Prelude.{ℕ, ◌≡◌, ◌<◌, ◌^◌, List, length, Option, Some}
use Rattle.std.specs.List.{AllByRecursion}
use Rattle.ssz_bytes.specs.Bytes.{IsBytes}
use Rattle.ssz_outside.specs.Content.{Content, contents}
use Rattle.ssz_schema.specs.format.Format.{Format}
use Rattle.ssz_schema.specs.Legal.{IsLegal}
use Rattle.ssz_schema.specs.Types.{SszType}
use Rattle.ssz_script.specs.declared.statement.Statement.{Statement}
use Rattle.ssz_script.specs.declared.statement.Statement.TheVariants.{Lit, Load, Set, Append, Choose}
use Rattle.ssz_machine.specs.declared.place.Place.{Place}
use Rattle.ssz_machine.specs.State.{Name, Versions, State}
use Rattle.ssz_machine.specs.Rules.{Rules}
use Rattle.ssz_machine.specs.Machine.{Turn}
use Rattle.ssz_machine.specs.Plays.{Event, play}
use Rattle.ssz_machine.specs.Proofs.{IsSoundVersion}

-- each type that has a name is legal
abbrev pub HasLegalTypes : Rules → Format → Type 0
HasLegalTypes rules format =
    (name : Name) (type : SszType) → rules.type_named name ≡ Some type → IsLegal format type

-- each version of a writer is a value of a legal type
abbrev pub VersionsAreSound : Format → Versions → Type 0
VersionsAreSound format versions = AllByRecursion (λ entry. IsSoundVersion format entry.1) versions

-- and so are those of all writers
abbrev pub IsSoundState : Format → State → Type 0
IsSoundState format state = (writer : ℕ) → VersionsAreSound format (state.versions writer)

-- bytes, fewer than 2 ^ 32
abbrev pub AreShort : List ℕ → Type 0
AreShort bytes = IsBytes bytes × (length bytes < 2 ^ 32)

-- what a statement brings in is so: its literal, or the encoding that it loads
abbrev pub BringsBytes : Content → Option Statement → Type 0
BringsBytes files (Some (Lit v t literal)) = AreShort literal
BringsBytes files (Some (Load v t file)) = AreShort (contents files file)
BringsBytes files (Some (Set v path literal)) = AreShort literal
BringsBytes files (Some (Append v path literal)) = AreShort literal
BringsBytes files (Some (Choose v path k (Some literal))) = AreShort literal
BringsBytes files other = Unit {0}

abbrev pub TurnBringsBytes : Turn → Type 0
TurnBringsBytes turn = BringsBytes turn.before.files turn.line.1

-- Where each type is legal, and what the steps bring in are bytes, each version before each step is
-- a value of a legal type, if those at first are.
abbrev pub ScriptsKeepValues : Type 0
ScriptsKeepValues =
    (rules : Rules) (format : Format) (place : Place) (numbers : List ℕ) (state : State)
    (events : List Event) → HasLegalTypes rules format → IsSoundState format state
    → AllByRecursion TurnBringsBytes (play rules place numbers state events)
    → AllByRecursion (λ turn. IsSoundState format turn.before)
    (play rules place numbers state events)
