-- What may be relied on of an engine beyond a single call.
use Rattle.std.specs.Prelude.{◌≡◌, ◌≤◌, ◌+◌, ℕ, List, Option, Some, IsSome}
use Rattle.ssz_outside.specs.Content.{Content as Files}
use Rattle.ssz_schema.specs.Types.{SszType}
use Rattle.ssz_schema.specs.Sizes.{basic_size}
use Rattle.ssz_schema.specs.Paths.{Path, path_type}
use Rattle.ssz_schema.specs.Unfolding.{type_of}
use Rattle.ssz_gindex.specs.Paths.{index_levels}
use Rattle.ssz_arena.specs.Content.{todo}
use Rattle.ssz_proof.specs.Calculation.{PairOf}
use Rattle.ssz_script.specs.declared.statement.Statement.TheVariants.{Root, Set}
use Rattle.ssz_versions.specs.Content.{Held, held_at}
use Rattle.ssz_machine.specs.declared.place.Place.{Place}
use Rattle.ssz_machine.specs.State.{Name}
use Rattle.ssz_machine.specs.Changes.{puts}
use Rattle.ssz_decisions.specs.Content.{EngineContent}
use Rattle.ssz_decisions.specs.Roots.{HashesDue}
use Rattle.ssz_decisions.specs.Standing.{StandsForSome}
use Rattle.ssz_engine.specs.Steps.{DoesStep, TouchesWhere}
use Rattle.ssz_decisions.specs.declared.outcome.Outcome.TheVariants.{Accepted}

-- A part is set, and then the root of its version is asked for: what the clauses of `Engine::step`
-- say of both, with the counts of pairs before the first, between them and after the second.
pub record SetsAndRoots (pair_of : PairOf) (place : Place) (writer line : ℕ) (v : Name)
    (path : Path) (literal : List ℕ) (old mid : EngineContent) (first between last : ℕ)
    (told_old told_mid : Option Files) (out_old out_mid : List ℕ) : Type 0 where
  pub sets : DoesStep pair_of place writer line (Set v path literal) old mid first between told_old
      told_mid out_old out_mid Accepted
  pub entry : TouchesWhere Accepted (puts v) writer old.entries mid.entries
  pub roots : HashesDue (Root v) writer mid between last

-- Where the root of the version was known and the part is basic, both hash at most one pair a level
-- of the part's index, whatever is to be hashed for other versions.
abbrev pub LawOfSetCosts : Type 0
LawOfSetCosts = (pair_of : PairOf) (place : Place) (writer line : ℕ) (v : Name) (path : Path)
    (literal : List ℕ) (old mid : EngineContent) (first between last : ℕ)
    (told_old told_mid : Option Files) (out_old out_mid : List ℕ) (was : Held) (part : SszType)
    → SetsAndRoots pair_of place writer line v path literal old mid first between last told_old
    told_mid out_old out_mid
    → StandsForSome old → held_at old.entries writer v ≡ Some was
    → todo old.arena was.1 ≡ 0
    → path_type (type_of old.types was.0) path ≡ Some part → IsSome (basic_size part)
    → last ≤ first + index_levels (type_of old.types was.0) path
