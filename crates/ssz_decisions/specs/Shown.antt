-- What is shown of a version: a part as a text, which is its encoding or its JSON.
use Rattle.std.specs.Prelude.{◌≡◌, ◌<◌, ℕ, nat_lt, List, length, Some, IsSomeAnd, Ok}
use Rattle.ssz_schema.specs.Paths.{Path, path_type}
use Rattle.ssz_schema.specs.Types.{SszType}
use Rattle.ssz_schema.specs.Unfolding.{Types, type_of}
use Rattle.ssz_arena.specs.Content.{ArenaContent as Nodes, IsNodeOf, tree_of}
use Rattle.ssz_places.specs.Spots.{HasPart, LiesWithin}
use Rattle.ssz_walk.specs.declared.place.Place.{Place}
use Rattle.ssz_walk.specs.Found.{spot_of}
use Rattle.ssz_script.specs.declared.reply.TheConstants.Reply.{NO_VERSION, BAD_PATH, ABSENT, TOO_LONG}
use Rattle.ssz_value.specs.Parts.{part}
use Rattle.ssz_value.specs.Values.{SszValue, Fits}
use Rattle.ssz_value.specs.declared.path_fault.PathFault.{PathFault}
use Rattle.ssz_value.specs.declared.path_fault.PathFault.TheVariants as path_fault
use Rattle.ssz_machine.specs.State.{Name, Version, Versions, version_of}
use Rattle.ssz_machine.specs.Rules.{Outcome, ◌>>=◌, ◌>>◌, need, refuse}
use Rattle.ssz_decisions.specs.Content.{EngineContent}
use Rattle.ssz_decisions.specs.Standing.{StandsForWriter}

-- the code of a path that leads to no part
abbrev pub path_code : PathFault → ℕ
path_code path_fault.BadPath = BAD_PATH
path_code path_fault.Absent = ABSENT

-- how a value of a type is written
abbrev pub TextOf : Type 0
TextOf = SszType → SszValue → List ℕ

-- the text of the part at the path, if it is not too long; else the first test that refuses it
abbrev pub part_shown : TextOf → ℕ → Versions → Name → Path → Outcome (List ℕ)
part_shown text most versions v path = do
  version ← need NO_VERSION (version_of v versions)
  type ← need BAD_PATH (path_type version.type path)
  value ← need ABSENT (part version.type version.value path)
  refuse TOO_LONG (nat_lt most (length (text type value)))
  Ok (text type value)

-- this is shown, whatever versions the writer's entries stand for
abbrev pub PartIsShown : TextOf → EngineContent → ℕ → Name → Path → Outcome (List ℕ) → Type 0
PartIsShown text store writer v path answer =
    (versions : Versions) → StandsForWriter store writer versions
    → part_shown text store.most versions v path ≡ answer

-- a value of the type of this place is what the node there has
pub record HasValue (types : Types) (arena : Nodes) (place : Place) (value : SszValue)
    : Type 0 where
  pub fits : Fits (type_of types place.id) value
  pub has : HasPart (spot_of place.spot) (type_of types place.id) value
      (tree_of arena place.node)

-- the version has a part at the path, which is at this place
pub record HasPartAt (types : Types) (arena : Nodes) (place : Place) (path : Path)
    (version : Version) : Type 0 where
  pub value : SszValue
  pub typed : path_type version.type path ≡ Some (type_of types place.id)
  pub is : part version.type version.value path ≡ Some value
  pub there : HasValue types arena place value

-- So has the version of this name, whatever versions the writer's entries stand for.
pub record LeadsToPart (store : EngineContent) (writer : ℕ) (v : Name) (path : Path) (place : Place)
    : Type 0 where
  pub known : place.id < length store.types.trees
  pub inside : IsNodeOf store.arena place.node
  pub lies : LiesWithin (type_of store.types place.id) (spot_of place.spot)
  -- there is a value at the place
  pub some : SszValue
  pub there : HasValue store.types store.arena place some
  pub each : (versions : Versions) → StandsForWriter store writer versions
      → IsSomeAnd (version_of v versions) (HasPartAt store.types store.arena place path)
