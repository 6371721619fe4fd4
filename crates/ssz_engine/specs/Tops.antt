-- Edits that make the pair at the top of a version anew, and roots that hash it.
use Rattle.std.specs.Prelude.{◌≡◌, ◌<◌, ℕ, Some}
use Rattle.ssz_schema.specs.Paths.{Path}
use Rattle.ssz_schema.specs.Unfolding.{type_of}
use Rattle.ssz_gindex.specs.Paths.{index_levels}
use Rattle.ssz_arena.specs.Content.{ArenaContent as Nodes, todo}
use Rattle.ssz_script.specs.declared.statement.Statement.{Statement}
use Rattle.ssz_script.specs.declared.statement.Statement.TheVariants.{Set, Append, Pop, Choose}
use Rattle.ssz_versions.specs.Content.{Held, held_at}
use Rattle.ssz_machine.specs.State.{Name}
use Rattle.ssz_decisions.specs.Content.{EngineContent}
use Rattle.ssz_decisions.specs.declared.decision.Decision.{Decision}
use Rattle.ssz_decisions.specs.declared.decision.Decision.TheVariants as decision

-- the node of an edit is to be hashed
abbrev pub IsDue : Nodes → Decision → Type 0
IsDue arena (decision.Refused code) = Unit {0}
IsDue arena (decision.BadBytes fault) = Unit {0}
IsDue arena (decision.Edited name node) = 0 < todo arena node
IsDue arena (decision.BadJson fault) = ⊥
IsDue arena (decision.Said reply) = ⊥
IsDue arena (decision.Made name id node room) = ⊥
IsDue arena (decision.Dropped name) = ⊥
IsDue arena (decision.Saved name bytes) = ⊥

-- so is that of a set, where the part stands below the top
abbrev pub SetsTop : Name → Path → ℕ → EngineContent → EngineContent → Decision → Type 0
SetsTop v path writer old new made =
    (was : Held) → held_at old.entries writer v ≡ Some was
    → 0 < index_levels (type_of old.types was.0) path → IsDue new.arena made

-- an edit of something below the top is found to make the pair there anew, or is refused
abbrev pub MakesTop : Statement → ℕ → EngineContent → EngineContent → Decision → Type 0
MakesTop (Set v path literal) writer old new made = SetsTop v path writer old new made
MakesTop (Append v path literal) writer old new made = IsDue new.arena made
MakesTop (Pop v path) writer old new made = IsDue new.arena made
MakesTop (Choose v path k literal) writer old new made = IsDue new.arena made
MakesTop _ writer old new made = Unit {0}

-- something is to be hashed for what a name stands for
pub record HasDue (v : Name) (writer : ℕ) (engine : EngineContent) : Type 0 where
  pub held : Held
  pub there : held_at engine.entries writer v ≡ Some held
  pub due : 0 < todo engine.arena held.1

-- After an edit of something below the top, the pair there is to be hashed.
abbrev pub Tops : Statement → ℕ → EngineContent → EngineContent → Type 0
Tops (Set v path literal) writer old new =
    (was : Held) → held_at old.entries writer v ≡ Some was
    → 0 < index_levels (type_of old.types was.0) path → HasDue v writer new
Tops (Append v path literal) writer old new = HasDue v writer new
Tops (Pop v path) writer old new = HasDue v writer new
Tops (Choose v path k literal) writer old new = HasDue v writer new
Tops _ writer old new = Unit {0}
