-- The edit that a walk over nodes comes to.
use Rattle.std.specs.Prelude.{ℕ, ◌≡◌, [], Option, None}
use Rattle.ssz_chunk.specs.Tree.{Tree}
use Rattle.ssz_schema.specs.Types.{SszType}
use Rattle.ssz_script.specs.declared.statement.Statement.{Statement}
use Rattle.ssz_script.specs.declared.statement.Statement.TheVariants.{Set, Append, Pop, Choose}
use Rattle.ssz_value.specs.Values.{SszValue}
use Rattle.ssz_places.specs.PlaceLaws.{IsTreeOf}
use Rattle.ssz_machine.specs.Drawing.{drawn_walk, worked}

-- the edit, and the state behind it, are those of the walk from each value with this tree
abbrev pub IsWalked : SszType → Tree → ℕ → ℕ → Option Statement → Type 0
IsWalked t tree x next edit = (v : SszValue) → IsTreeOf t v tree
    → drawn_walk t v [] x ≡ record { edit = edit; seed = next }

-- a statement that edits `w`: `set`, `append`, `pop`, or `choose` with no literal
abbrev pub IsEditStatement : Statement → Type 0
IsEditStatement (Set v path bytes) = v ≡ worked
IsEditStatement (Append v path bytes) = v ≡ worked
IsEditStatement (Pop v path) = v ≡ worked
IsEditStatement (Choose v path k None) = v ≡ worked
IsEditStatement _ = ⊥
