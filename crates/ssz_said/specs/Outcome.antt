-- What a call answers: what was asked, or why not.
use Rattle.std.specs.Prelude.{◌≡◌, ◌≢◌, ℕ, ◌<◌, ◌≤◌, nat_lt, if◌then◌else◌, List, ◌++◌, length, drop, Option, Some, None, Result, Ok, Err, IfErr}
pub use Rattle.ssz_bind.specs.Results.{◌>>=◌}
use Rattle.ssz_bytes.specs.declared.fault.Fault.{Fault}
use Rattle.ssz_said.specs.declared.fault.SszFault.{SszFault}
use Rattle.ssz_said.specs.declared.status.TheConstants.{OK, INVALID, NO_MEMORY, NO_ROOM}

abbrev pub CallOutcome : Type 0 → Type 0
CallOutcome A = Result A SszFault

-- a status alone
abbrev pub refused : ℕ → SszFault
refused status = record { status = status; code = 0; position = 0 }

-- no fault
abbrev pub done : SszFault
done = refused OK

-- the first fault of bytes
abbrev pub invalid : Fault → SszFault
invalid fault = record { status = INVALID; code = fault.code; position = fault.position }

-- what there is, or this status
abbrev pub need : {A : Type 0} → ℕ → Option A → CallOutcome A
need status None = Err (refused status)
need status (Some x) = Ok x

-- at most so many bytes, or this status
abbrev pub at_most : ℕ → ℕ → List ℕ → CallOutcome (List ℕ)
at_most status most bytes =
    if nat_lt most (length bytes) then Err (refused status) else Ok bytes

-- bytes without a fault
abbrev pub faultless : {A : Type 0} → Option Fault → A → CallOutcome A
faultless None x = Ok x
faultless (Some fault) x = Err (invalid fault)

-- what is meant, unless memory runs out
abbrev pub IsUnlessMemory : {A : Type 0} → CallOutcome A → CallOutcome A → Type 0
IsUnlessMemory answer meant = answer ≢ Err (refused NO_MEMORY) → answer ≡ meant

-- what is told first, whether there is memory or not: why it is not there is the answer ..
abbrev pub AnswersFirst : {A B : Type 0} → CallOutcome A → CallOutcome B → Type 0
AnswersFirst first answer = IfErr first (λ why. answer ≡ Err why)

-- .. and the fault of the call
abbrev pub TellsFirst : {A : Type 0} → CallOutcome A → SszFault → Type 0
TellsFirst first fault = IfErr first (λ why. fault ≡ why)

-- what stands behind a pointer after a call, and the fault: what was asked and none, or what stood
-- there and why
abbrev pub IsGivenBack : {A : Type 0} → A → A → SszFault → CallOutcome A → Type 0
IsGivenBack old new fault (Ok x) = (new ≡ x) × (fault ≡ done)
IsGivenBack old new fault (Err why) = (new ≡ old) × (fault ≡ why)

-- the fault of a call that gives nothing
abbrev pub IsSaid : {A : Type 0} → SszFault → CallOutcome A → Type 0
IsSaid fault (Ok x) = fault ≡ done
IsSaid fault (Err why) = fault ≡ why

-- the same, unless memory runs out, which leaves what stood there
pub record IsGivenUnlessMemory {A : Type 0} (old new : A) (fault : SszFault) (meant : CallOutcome A)
    : Type 0 where
  pub memory : fault ≡ refused NO_MEMORY → new ≡ old
  pub given : fault ≢ refused NO_MEMORY → IsGivenBack old new fault meant

-- the room and the length behind two pointers after a call, and the fault: bytes in front of what
-- stood there, where there is room for them, and in any case their length
abbrev pub IsCopied : {A : Type 0} → List A → List A → ℕ → ℕ → SszFault → CallOutcome (List A)
    → Type 0
IsCopied old new before len fault (Err why) = (new ≡ old) × (len ≡ before) × (fault ≡ why)
IsCopied old new before len fault (Ok bytes) =
    (len ≡ length bytes)
    × (length old < length bytes → (new ≡ old) × (fault ≡ refused NO_ROOM))
    × (length bytes ≤ length old
    → (new ≡ bytes ++ drop (length bytes) old) × (fault ≡ done))

-- the same, unless memory runs out, which leaves what stood there
pub record IsCopiedUnlessMemory (old new : List ℕ) (before len : ℕ) (fault : SszFault)
    (meant : CallOutcome (List ℕ)) : Type 0 where
  pub memory : fault ≡ refused NO_MEMORY → (new ≡ old) × (len ≡ before)
  pub copied : fault ≢ refused NO_MEMORY → IsCopied old new before len fault meant
