-- What a statement finds in a session.
use Rattle.std.specs.Prelude.{ℕ, false}
use Rattle.std.specs.FinMap as map
use Rattle.ssz_outside.specs.Content.{Content as Files, absent}
use Rattle.ssz_decisions.specs.Content.{EngineContent as Engine}

-- files of which each name is absent
abbrev pub no_files : Files
no_files = record { named = map.empty; missing = absent; steady = false }

-- What a statement finds: the engine, how many pairs were hashed, and the number of its line.
pub record LineScene : Type 0 where
  pub engine : Engine
  pub hashed : ℕ
  pub line : ℕ
