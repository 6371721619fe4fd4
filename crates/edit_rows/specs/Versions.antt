-- The values between which the rows go to and fro.
use Rattle.std.specs.Prelude.{◌<◌, length}
use Rattle.ssz_schema.specs.Unfolding.{Types}
use Rattle.ssz_arena.specs.Content.{ArenaContent, IsNodeOf}
use Rattle.edit_rows.specs.declared.edit.Versions.{Versions}

-- the type is one of the schema, and the nodes are of the arena
pub record AreRowVersions (types : Types) (arena : ArenaContent) (versions : Versions)
    : Type 0 where
  pub known : versions.id < length types.trees
  pub now_there : IsNodeOf arena versions.now
  pub kept_there : IsNodeOf arena versions.kept
