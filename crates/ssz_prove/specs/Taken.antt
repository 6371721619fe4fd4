-- What the calls that take chunks from an arena leave.
use Rattle.std.specs.Prelude.{◌≡◌, ℕ, ◌-◌, ◌≤◌, min, Option, None, Some}
use Rattle.ssz_chunk.specs.Chunk.{CountsUp}
use Rattle.ssz_arena.specs.Content.{ArenaContent, KeepsNodes, node_count, unhashed}

-- all nodes are kept and none are new; as many pairs were hashed as got their root
pub record TakesRoots (old new : ArenaContent) (count after : ℕ) : Type 0 where
  pub keeps : KeepsNodes old new
  pub same : node_count new ≡ node_count old
  pub spare : new.spare ≡ old.spare
  pub falls : unhashed new ≤ unhashed old
  pub counts : CountsUp (unhashed old - unhashed new) count after

-- the lesser of an index and one before, if there is one
abbrev pub lower_of : Option ℕ → ℕ → ℕ
lower_of None index = index
lower_of (Some before) index = min before index
