-- What an edit makes of a part, and what it leaves of the whole.
use Rattle.std.specs.Prelude.{ℕ, ◌≡◌, ◌==◌, ◌-◌, nat_lt, if◌then◌else◌, Bool, true, false, List, [], ◌∷◌, ◌++◌, length, take, set, Option, option_map, Result, Ok, Err, OnErr, IfSome, is_some}
use Rattle.std.specs.declared.boxed.Box.{Box}
use Rattle.std.specs.Global.{Global}
use Rattle.ssz_schema.specs.Types.{SszType}
use Rattle.ssz_schema.specs.Paths.{Path, path_type}
use Rattle.ssz_value.specs.declared.value.Value.{Value}
use Rattle.ssz_value.specs.declared.edit_fault.EditFault.{EditFault}
use Rattle.ssz_value.specs.declared.edit_fault.EditFault.TheVariants.{BadPath, Absent, NotThat, Full, Empty, Memory}
use Rattle.ssz_value.specs.Values.{SszValue, number, truth}
use Rattle.ssz_value.specs.Standing.{value_of, IsValue}
use Rattle.ssz_value.specs.Suiting.{IsElement, IsInner}
use Rattle.ssz_value.specs.Edits.{Edited, with_more, with_less, with_choice}
use Rattle.ssz_plain.specs.declared.edit.Edit.{Edit}
use Rattle.ssz_plain.specs.declared.edit.Edit.TheVariants.{Set, Append, Pop, Choose}

-- the value in a box, where there is one
abbrev pub unboxed : Option (Box Value Global) → Option Value
unboxed inner = option_map (λ part. part.value) inner

-- what the edit makes of the part: of its type and its value
abbrev pub edit_of : Edit → SszType → SszValue → Edited
edit_of (Set new) t v = Ok (value_of new)
edit_of (Append new) t v = with_more (value_of new) t v
edit_of Pop t v = with_less t v
edit_of (Choose k inner) t v = with_choice k (option_map value_of (unboxed inner)) t v

-- the new value is one that the part of this type may be given
abbrev pub SuitsEdit : SszType → Edit → Type 0
SuitsEdit t (Set new) = IsValue t new
SuitsEdit t (Append new) = IsElement t new
SuitsEdit t Pop = Unit {0}
SuitsEdit t (Choose k inner) = IsInner t k (unboxed inner)

-- the new value suits the part at the path, if the path fits the type
abbrev pub SuitsPath : SszType → Path → Edit → Type 0
SuitsPath t path edit = IfSome (path_type t path) (λ u. SuitsEdit u edit)

-- why an edit is refused from which this path leads on: that it does not fit comes first
abbrev pub refusal : SszType → Path → EditFault → EditFault
refusal t path fault = if is_some (path_type t path) then fault else BadPath

-- only an element more takes memory
abbrev pub takes_memory : Edit → Bool
takes_memory (Append new) = true
takes_memory edit = false

-- what came of a change is this, or, where it may be, want of memory
abbrev pub ChangeTells : {X : Type 0} → Bool → Result Unit EditFault → X → Result X EditFault
    → Type 0
ChangeTells true (Err Memory) now changed = Unit {0}
ChangeTells may (Ok done) now changed = changed ≡ Ok now
ChangeTells may (Err fault) now changed = changed ≡ Err fault

-- so the change comes out, and where it is refused nothing is changed
pub record ChangeLeaves {X : Type 0} (may : Bool) (changed : Result X EditFault) (old new : X)
    (answer : Result Unit EditFault) : Type 0 where
  pub tells : ChangeTells may answer new changed
  pub kept : OnErr answer (new ≡ old)

-- so the edit of a value of the type comes out, and one of the type is left
pub record EditsValue (may : Bool) (t : SszType) (edited : Edited) (old new : Value)
    (answer : Result Unit EditFault) : Type 0 where
  pub fits : IsValue t new
  pub leaves : ChangeLeaves may edited (value_of old) (value_of new) answer

-- the number and the truth that a value is
abbrev pub value_number : SszValue → ℕ
value_number (number n) = n
value_number v = 0

abbrev pub truth_of : SszValue → Bool
truth_of (truth b) = b
truth_of v = false

-- Of a run of elements, bytes or bits:

-- one more behind the others
abbrev pub one_more : {X : Type 0} → ℕ → X → List X → Result (List X) EditFault
one_more limit x run = if nat_lt (length run) limit then Ok (run ++ x ∷ []) else Err Full

-- without the last
abbrev pub one_less : {X : Type 0} → List X → Result (List X) EditFault
one_less run = if length run == 0 then Err Empty else Ok (take (length run - 1) run)

-- number i changed
abbrev pub put_in : {X : Type 0} → ℕ → List X → Result X EditFault → Result (List X) EditFault
put_in i run (Ok x) = Ok (set run i x)
put_in i run (Err fault) = Err fault

abbrev pub put_at : {X : Type 0} → ℕ → Result X EditFault → List X → Result (List X) EditFault
put_at i x run = if nat_lt i (length run) then put_in i run x else Err Absent

-- what an edit makes of a byte and of a bit
abbrev pub new_byte : Edit → Result ℕ EditFault
new_byte (Set new) = Ok (value_number (value_of new))
new_byte edit = Err NotThat

abbrev pub new_bit : Edit → Result Bool EditFault
new_bit (Set new) = Ok (truth_of (value_of new))
new_bit edit = Err NotThat
