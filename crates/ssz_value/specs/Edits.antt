-- Edits of whole values (this project's). Of several refusals the first in the order of `EditFault`
-- comes.
use Rattle.std.specs.Prelude.{ℕ, ◌-◌, ◌==◌, nat_lt, if◌then◌else◌, is_some, [], ◌∷◌, ◌++◌, length, take, set, Option, Some, None, Result, Ok, Err}
use Rattle.ssz_schema.specs.declared.path.PathStep.{PathStep}
use Rattle.ssz_schema.specs.declared.path.PathStep.TheVariants.{Index, Option as Chosen}
use Rattle.ssz_value.specs.declared.path_fault.PathFault.{PathFault}
use Rattle.ssz_value.specs.declared.path_fault.PathFault.TheVariants.{BadPath as NoPath, Absent as Missing}
use Rattle.ssz_value.specs.declared.edit_fault.EditFault.{EditFault}
use Rattle.ssz_value.specs.declared.edit_fault.EditFault.TheVariants.{BadPath, Absent, NotThat, Full, Empty, BadSelector}
use Rattle.ssz_schema.specs.Types.{SszType, list, bitlist, union}
use Rattle.ssz_schema.specs.Sizes.{option_count}
use Rattle.ssz_value.specs.Values.{SszValue, truth, sequence, bits, chosen, chosen_none, items, values}
use Rattle.ssz_schema.specs.Paths.{Path, path_type, step_type}
use Rattle.ssz_value.specs.Parts.{step_part, numbered}

-- why a value is not edited where its path leads to no part
abbrev pub edit_fault_of : PathFault → EditFault
edit_fault_of NoPath = BadPath
edit_fault_of Missing = Absent

-- the edited value, or why there is none
abbrev pub Edited : Type 0
Edited = Result SszValue EditFault

-- a value with another part where a step leads; a length and a selector cannot be changed alone
abbrev pub replaced_at : PathStep → SszValue → SszValue → Edited
replaced_at (Index i) (sequence vs) w = Ok (sequence (values (set (items vs) i w)))
replaced_at (Index i) (bits bs) (truth b) = Ok (bits (set bs i b))
replaced_at (Chosen k) (chosen j v) w = Ok (chosen j w)
replaced_at _ _ _ = Err NotThat

abbrev pub replaced_in : PathStep → SszValue → Edited → Edited
replaced_in step v (Ok w) = replaced_at step v w
replaced_in step v (Err fault) = Err fault

-- the edit of what there is, or the fault where there is nothing
abbrev pub given : {X : Type 0} → Option X → EditFault → (X → Edited) → Edited
given (Some x) fault edit = edit x
given None fault edit = Err fault

-- the edit made at the end of a path that fits the type
abbrev pub changed : (SszType → SszValue → Edited) → SszType → SszValue → Path → Edited
changed edit t v [] = edit t v
changed edit t v (step ∷ path) =
    given (step_type t step) BadPath
    (λ u. given (step_part t v step) Absent
    (λ w. replaced_in (numbered t step) v (changed edit u w path)))

-- the edit made at the end of a path
abbrev pub edited : (SszType → SszValue → Edited) → SszType → SszValue → Path → Edited
edited edit t v path = if is_some (path_type t path) then changed edit t v path else Err BadPath

-- a list or bitlist with one more element
abbrev pub with_more : SszValue → SszType → SszValue → Edited
with_more new (list elem limit) (sequence vs) =
    if nat_lt (length (items vs)) limit then Ok (sequence (values (items vs ++ new ∷ [])))
    else Err Full
with_more (truth b) (bitlist limit) (bits bs) =
    if nat_lt (length bs) limit then Ok (bits (bs ++ b ∷ [])) else Err Full
with_more _ _ _ = Err NotThat

-- a list or bitlist without its last element
abbrev pub with_less : SszType → SszValue → Edited
with_less (list elem limit) (sequence vs) =
    if length (items vs) == 0 then Err Empty
    else Ok (sequence (values (take (length (items vs) - 1) (items vs))))
with_less (bitlist limit) (bits bs) =
    if length bs == 0 then Err Empty else Ok (bits (take (length bs - 1) bs))
with_less _ _ = Err NotThat

abbrev pub choice_of : ℕ → Option SszValue → SszValue
choice_of k (Some v) = chosen k v
choice_of k None = chosen_none k

-- a union with the option of this number and this value; None has no value
abbrev pub with_choice : ℕ → Option SszValue → SszType → SszValue → Edited
with_choice k inner (union os) v =
    if nat_lt k (option_count os) then Ok (choice_of k inner) else Err BadSelector
with_choice k inner _ _ = Err NotThat

-- the four edits

abbrev pub set_at : SszType → SszValue → Path → SszValue → Edited
set_at t v path new = edited (λ _ _. Ok new) t v path

abbrev pub append_at : SszType → SszValue → Path → SszValue → Edited
append_at t v path new = edited (with_more new) t v path

abbrev pub pop_at : SszType → SszValue → Path → Edited
pop_at t v path = edited with_less t v path

abbrev pub choose_at : SszType → SszValue → Path → ℕ → Option SszValue → Edited
choose_at t v path k inner = edited (with_choice k inner) t v path
