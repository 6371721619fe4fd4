-- The next statement of a script.
use Rattle.std.specs.Prelude.{◌≡◌, ℕ, List, [], ◌∷◌, Option, Some, None}
use Rattle.ssz_script.specs.declared.statement.Statement.{Statement}
use Rattle.ssz_script.specs.declared.statements.ScriptStatement.{ScriptStatement}

-- It was the first of the old ones, and the new ones come after it; there is none where there were
-- none.
abbrev pub IsNext : Option ScriptStatement → List (ℕ × Option Statement)
    → List (ℕ × Option Statement) → Type 0
IsNext None old new = (old ≡ []) × (new ≡ [])
IsNext (Some next) old new = old ≡ (next.line, next.statement) ∷ new
