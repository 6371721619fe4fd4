-- What is so after a line was printed, or was not.
use Rattle.std.specs.Prelude.{◌≡◌, ⊤, ℕ, ◌∷◌, [], List, take, Bool, if◌then◌else◌, Result, Ok, Err}
use Rattle.ssz_outside.specs.Outcome.{RoseOnce}
use Rattle.ssz_outside.specs.Pieces.{Told, told_append}
use Rattle.ssz_outside.specs.declared.status.Status.{Status}
use Rattle.ssz_outside.specs.declared.status.Status.TheVariants as status

-- what a sink has after a line was printed: the line, or a part of it, or nothing of it
abbrev pub PrintsLine : {T : Type 0} → Result T Status → List ℕ → Told → Told → Type 0
PrintsLine (Ok done) piece old new = new ≡ told_append old (piece ∷ [])
PrintsLine (Err status.WriteFault) piece old new =
    (count : ℕ) × (new ≡ told_append old (take count piece ∷ []))
PrintsLine (Err status.Memory) piece old new = new ≡ old
PrintsLine (Err status.Accepted) piece old new = ⊥
PrintsLine (Err status.Refused) piece old new = ⊥
PrintsLine (Err status.Usage) piece old new = ⊥
PrintsLine (Err status.SchemaFault) piece old new = ⊥
PrintsLine (Err status.ReadFault) piece old new = ⊥

-- a failed print is counted once
abbrev pub CountsPrint : {T : Type 0} → Result T Status → ℕ → ℕ → Type 0
CountsPrint (Ok done) before now = now ≡ before
CountsPrint (Err status.WriteFault) before now = RoseOnce before now
CountsPrint (Err other) before now = now ≡ before

-- a fault of the sink, or want of memory
abbrev pub IsStop : Status → Type 0
IsStop status.WriteFault = ⊤
IsStop status.Memory = ⊤
IsStop other = ⊥

-- the status of a run that no fault ended
abbrev pub finished_status : Bool → Status
finished_status refused = if refused then status.Refused else status.Accepted
