-- Which version a name stands for, where a path fits its type.
use Rattle.std.specs.Prelude.{◌≡◌, ◌<◌, ◌⊎◌, ℕ, length, Some, None}
use Rattle.ssz_schema.specs.Paths.{Path, path_type}
use Rattle.ssz_schema.specs.Unfolding.{type_of}
use Rattle.ssz_arena.specs.Content.{IsNodeOf}
use Rattle.ssz_arena.specs.declared.node.NodeId.{NodeId}
use Rattle.ssz_script.specs.declared.reply.TheConstants.Reply.{NO_VERSION, BAD_PATH}
use Rattle.ssz_versions.specs.Content.{Held, held_at}
use Rattle.ssz_machine.specs.State.{Name}
use Rattle.ssz_decisions.specs.Content.{EngineContent}

-- the type and the node of the version, and the steps of the path
pub record IsOnWay (store : EngineContent) (writer : ℕ) (v : Name) (path : Path) (id : ℕ)
    (node : NodeId)
    (steps : Path) : Type 0 where
  pub there : held_at store.entries writer v ≡ Some (id, node)
  pub known : id < length store.types.trees
  pub inside : IsNodeOf store.arena node
  pub all : steps ≡ path

-- a version of this name is there, whose type the path does not fit
pub record IsUnfit (store : EngineContent) (writer : ℕ) (v : Name) (path : Path) : Type 0 where
  pub held : Held
  pub there : held_at store.entries writer v ≡ Some held
  pub unfit : path_type (type_of store.types held.0) path ≡ None

-- the first test that refuses it
abbrev pub IsAstray : EngineContent → ℕ → Name → Path → ℕ → Type 0
IsAstray store writer v path code =
    ((code ≡ NO_VERSION) × (held_at store.entries writer v ≡ None))
    ⊎ ((code ≡ BAD_PATH) × IsUnfit store writer v path)
