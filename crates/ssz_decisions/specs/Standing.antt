-- For which versions of the plain machine the entries and nodes of a store stand.
use Rattle.std.specs.Prelude.{◌≡◌, ◌<◌, ℕ, IsTrue, List, length, Option, Some, None}
use Rattle.std.specs.Ordering.{nat_cmp}
use Rattle.std.specs.Cmp.Lexicographic.{slice_cmp}
use Rattle.std.specs.FinMap.Entries.{is_sorted}
use Rattle.ssz_schema.specs.Unfolding.{Types, type_of}
use Rattle.ssz_value.specs.Values.{Fits}
use Rattle.ssz_value.specs.Trees.{tree}
use Rattle.ssz_arena.specs.Content.{ArenaContent as Nodes, IsNodeOf, tree_of}
use Rattle.ssz_versions.specs.Content.{Entries, Held, held_at}
use Rattle.ssz_machine.specs.State.{Name, Version, Versions, version_of}
use Rattle.ssz_decisions.specs.Content.{EngineContent}

-- A type and a node stand for a version: its type, and a node with the tree of its value.
pub record IsVersion (types : Types) (arena : Nodes) (held : Held) (version : Version)
    : Type 0 where
  pub known : held.0 < length types.trees
  pub node : IsNodeOf arena held.1
  pub type : type_of types held.0 ≡ version.type
  pub fits : Fits version.type version.value
  pub tree : tree_of arena held.1 ≡ tree version.type version.value

-- they stand for some version
abbrev pub IsSomeVersion : Types → Nodes → Held → Type 0
IsSomeVersion types arena held = (version : Version) × IsVersion types arena held version

-- What every store keeps: each entry stands for some version.
pub record AreVersions (types : Types) (arena : Nodes) (entries : Entries) : Type 0 where
  pub each : (writer : ℕ) (name : List ℕ) (held : Held)
      → held_at entries writer name ≡ Some held → IsSomeVersion types arena held

-- both are there and one stands for the other, or neither is there
abbrev pub Match : Types → Nodes → Option Held → Option Version → Type 0
Match types arena (Some held) (Some version) = IsVersion types arena held version
Match types arena (Some held) None = ⊥
Match types arena None (Some version) = ⊥
Match types arena None None = Unit {0}

-- What a writer holds stands for these versions, which stand in the order of their names.
pub record StandsForVersions (types : Types) (arena : Nodes) (entries : Entries) (writer : ℕ)
    (versions : Versions) : Type 0 where
  pub sorted : IsTrue (is_sorted (slice_cmp nat_cmp) versions)
  pub each : (name : Name)
      → Match types arena (held_at entries writer name) (version_of name versions)

abbrev pub StandsForWriter : EngineContent → ℕ → Versions → Type 0
StandsForWriter store writer versions =
    StandsForVersions store.types store.arena store.entries writer versions

-- the versions of all writers
pub record StandsFor (store : EngineContent) (versions : ℕ → Versions) : Type 0 where
  pub each : (writer : ℕ) → StandsForWriter store writer (versions writer)

-- it stands for what it stood for
abbrev pub StaysFor : EngineContent → EngineContent → Type 0
StaysFor old new = (versions : ℕ → Versions) → StandsFor old versions → StandsFor new versions

-- the writer holds nothing
abbrev pub HoldsNone : Entries → ℕ → Type 0
HoldsNone entries writer = (name : Name) → held_at entries writer name ≡ None

-- it stands for some versions
abbrev pub StandsForSome : EngineContent → Type 0
StandsForSome store = (versions : ℕ → Versions) × StandsFor store versions
