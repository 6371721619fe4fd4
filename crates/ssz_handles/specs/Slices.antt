-- What the calls of a slice say, over what handles hold.
use Rattle.std.specs.Prelude.{◌≡◌, ℕ, List, Option, None, Some, Ok, Err}
use Rattle.ssz_said.specs.declared.fault.SszFault.{SszFault}
use Rattle.ssz_said.specs.declared.status.TheConstants.{NO_HANDLE}
use Rattle.ssz_said.specs.Outcome.{CallOutcome, done, refused}
use Rattle.ssz_typed.specs.declared.checked_bytes.CheckedBytes.{CheckedBytes}
use Rattle.ssz_typed.specs.declared.library.Library.{Library}
use Rattle.ssz_typed.specs.Slices.{Opens}

-- of what a handle holds, or the status of one that holds nothing
abbrev pub slice_in : {A : Type 0} → (CheckedBytes → CallOutcome A) → Option CheckedBytes
    → CallOutcome A
slice_in call None = Err (refused NO_HANDLE)
slice_in call (Some slice) = call slice

-- a handle that holds checked bytes of a type of the schema that another holds, or none and why
abbrev pub IsOpened : Option Library → ℕ → List ℕ → Option CheckedBytes → SszFault → Type 0
IsOpened None number bytes slice fault = (slice ≡ None) × (fault ≡ refused NO_HANDLE)
IsOpened (Some library) number bytes None fault = Opens library number bytes (Err fault)
IsOpened (Some library) number bytes (Some slice) fault =
    Opens library number bytes (Ok slice) × (fault ≡ done)
