-- What is drawn at one part of a value.
use Rattle.std.specs.Prelude.{ℕ, ◌≡◌, ◌<◌, [], ◌∷◌, ◌++◌, length, Option, Some, None}
use Rattle.ssz_chunk.specs.Tree.{Tree}
use Rattle.ssz_schema.specs.declared.path.PathStep.{PathStep}
use Rattle.ssz_schema.specs.declared.path.PathStep.TheVariants.{Index}
use Rattle.ssz_schema.specs.Types.{SszType}
use Rattle.ssz_schema.specs.Sizes.{basic_size}
use Rattle.ssz_schema.specs.Unfolding.{Types, type_of}
use Rattle.ssz_schema.specs.Paths.{Path, step_type}
use Rattle.ssz_script.specs.declared.statement.Statement.{Statement}
use Rattle.ssz_script.specs.declared.statement.Statement.TheVariants as edit
use Rattle.ssz_value.specs.Values.{SszValue, sequence, bits, chosen, chosen_none, items, Fits}
use Rattle.ssz_value.specs.Parts.{step_part}
use Rattle.ssz_places.specs.PlaceLaws.{IsTreeOf}
use Rattle.ssz_machine.specs.Drawing.{Change, changes_one, takes_last, adds_one, stays, drawn_walk, worked}
use Rattle.ssz_draws.specs.declared.turn.Turn.{Turn}
use Rattle.ssz_draws.specs.declared.turn.Turn.TheVariants.{On, Set, SetBit, Pop, Append, Choose, Stop}
use Rattle.ssz_draws.specs.declared.turn.Change.{Change as Changed}
use Rattle.ssz_draws.specs.declared.turn.Change.TheVariants.{One, Taken, Added, Nothing}

-- the change that is meant
abbrev pub change_meant : Changed → Change
change_meant One = changes_one
change_meant Taken = takes_last
change_meant Added = adds_one
change_meant Nothing = stays

-- the edit of the part at a path, where a turn comes to one
abbrev pub edit_at : Turn → Path → Option Statement
edit_at (Set bytes) path = Some (edit.Set worked path bytes)
edit_at (SetBit i bytes) path = Some (edit.Set worked (path ++ Index i ∷ []) bytes)
edit_at Pop path = Some (edit.Pop worked path)
edit_at (Append bytes) path = Some (edit.Append worked path bytes)
edit_at (Choose selector) path = Some (edit.Choose worked path selector None)
edit_at (On part step) path = None
edit_at Stop path = None

-- The value of a part, as far as a walk looks at it: of a number or a boolean it sees nothing, of
-- any other part the tree.
abbrev pub IsSeen : SszType → Tree → SszValue → Type 0
IsSeen t tree v = basic_size t ≡ None → IsTreeOf t v tree

-- from the value, where the state is x, the walk goes on at the part of a step, where it is next
pub record WalkContinues (types : Types) (t : SszType) (v : SszValue) (x next part : ℕ)
    (step : PathStep)
    : Type 0 where
  pub value : SszValue
  pub fits : step_type t step ≡ Some (type_of types part)
  pub there : step_part t v step ≡ Some value
  pub on : (path : Path) → drawn_walk t v path x
      ≡ drawn_walk (type_of types part) value (path ++ step ∷ []) next

-- What is drawn at a part of which all that is known is that its value is one of these, where the
-- state is x and next behind it. The walk goes on at types before this number alone.
abbrev pub IsDrawnTurn : Types → ℕ → SszType → (SszValue → Type 0) → ℕ → ℕ → Turn → Type 0
IsDrawnTurn types before t Known x next (On part step) =
    (part < before)
    × ((v : SszValue) → Known v → WalkContinues types t v x next part step)
IsDrawnTurn types before t Known x next turn = (v : SszValue) → Known v → (path : Path)
    → drawn_walk t v path x ≡ record { edit = edit_at turn path; seed = next }

-- a list or a bitlist of this length
abbrev pub HasLength : ℕ → SszValue → Type 0
HasLength n (sequence vs) = length (items vs) ≡ n
HasLength n (bits bs) = length bs ≡ n
HasLength n _ = ⊥

-- a union with this selector
abbrev pub HasSelector : ℕ → SszValue → Type 0
HasSelector k (chosen j v) = j ≡ k
HasSelector k (chosen_none j) = j ≡ k
HasSelector k _ = ⊥

-- a value of the type with this selector
abbrev pub IsChosen : SszType → ℕ → SszValue → Type 0
IsChosen t k v = Fits t v × HasSelector k v
