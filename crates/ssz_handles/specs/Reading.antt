-- What the calls of a schema say, over what a handle holds.
use Rattle.std.specs.Prelude.{◌≡◌, ℕ, List, Option, None, Some, Ok, Err}
use Rattle.ssz_said.specs.declared.fault.SszFault.{SszFault}
use Rattle.ssz_typed.specs.declared.library.Library.{Library}
use Rattle.ssz_said.specs.declared.status.TheConstants.{OK, NO_HANDLE, NO_MEMORY}
use Rattle.ssz_typed.specs.Forms.{part_type_in}
use Rattle.ssz_typed.specs.Library.{ReadsLibrary, NumbersName}
use Rattle.ssz_typed.specs.Parts.{PartIsNumbered}
use Rattle.ssz_typed.specs.Sharing.{IsShared, schema_in}
use Rattle.ssz_said.specs.Outcome.{CallOutcome, IsGivenBack, done, refused}

-- of what a handle holds, or the status of one that holds nothing
abbrev pub held_in : {A : Type 0} → (Library → CallOutcome A) → Option Library → CallOutcome A
held_in call None = Err (refused NO_HANDLE)
held_in call (Some library) = call library

-- a handle that holds the schema of the bytes, or none and why
abbrev pub IsRead : Option Library → SszFault → List ℕ → Type 0
IsRead (Some library) fault bytes = ReadsLibrary (Ok library) bytes × (fault ≡ done)
IsRead None fault bytes = ReadsLibrary (Err fault) bytes

-- a handle that shares the schema that another holds, or none and why
abbrev pub IsSharing : Option Library → Option Library → SszFault → Type 0
IsSharing None new fault = (new ≡ None) × (fault ≡ refused NO_HANDLE)
IsSharing (Some old) None fault = fault ≡ refused NO_MEMORY
IsSharing (Some old) (Some new) fault = IsShared old new × (fault ≡ done)

-- the status of what is freed
abbrev pub freed : {A : Type 0} → Option A → ℕ
freed None = NO_HANDLE
freed (Some held) = OK

-- what a name's number comes to in a handle, where another number stood before
abbrev pub IsNumbered : List ℕ → Option Library → Option Library → ℕ → ℕ → SszFault → Type 0
IsNumbered name None new before number fault =
    (new ≡ None) × (number ≡ before) × (fault ≡ refused NO_HANDLE)
IsNumbered name (Some old) None before number fault = ⊥
IsNumbered name (Some old) (Some new) before number fault =
    (schema_in new ≡ schema_in old)
    × ((answer : CallOutcome ℕ) × NumbersName name old new answer
    × IsGivenBack before number fault answer)

-- the same of the number of a type that a type is made of
abbrev pub IsPartNumbered : ℕ → ℕ → Option Library → Option Library → ℕ → ℕ → SszFault → Type 0
IsPartNumbered number place None new before part fault =
    (new ≡ None) × (part ≡ before) × (fault ≡ refused NO_HANDLE)
IsPartNumbered number place (Some old) None before part fault = ⊥
IsPartNumbered number place (Some old) (Some new) before part fault =
    (schema_in new ≡ schema_in old)
    × ((answer : CallOutcome ℕ) × PartIsNumbered (part_type_in old number place) old new answer
    × IsGivenBack before part fault answer)
