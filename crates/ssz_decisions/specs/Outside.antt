-- What files tell, and how faults are counted.
use Rattle.std.specs.Prelude.{◌≡◌, ℕ, List, Option, Some, None, Result, Ok, Err}
use Rattle.ssz_outside.specs.Content.{Content as Files, told_with_bytes}
use Rattle.ssz_outside.specs.Outcome.{RoseOnce, WritesPart}
use Rattle.ssz_decisions.specs.declared.fault.EngineFault.{EngineFault}
use Rattle.ssz_decisions.specs.declared.fault.EngineFault.TheVariants.{Read, Write, Memory}

-- this is what the files hold, where they tell it
abbrev pub FilesHold : Option Files → Files → Type 0
FilesHold None files = Unit {0}
FilesHold (Some told) files = told ≡ files

-- a failed read is counted once, and no other is
abbrev pub CountsReads : {T : Type 0} → Result T EngineFault → ℕ → ℕ → Type 0
CountsReads (Ok done) before now = now ≡ before
CountsReads (Err Read) before now = RoseOnce before now
CountsReads (Err Write) before now = now ≡ before
CountsReads (Err Memory) before now = now ≡ before

-- a failed write is counted once, and no other is
abbrev pub CountsWrites : {T : Type 0} → Result T EngineFault → ℕ → ℕ → Type 0
CountsWrites (Ok done) before now = now ≡ before
CountsWrites (Err Read) before now = now ≡ before
CountsWrites (Err Write) before now = RoseOnce before now
CountsWrites (Err Memory) before now = now ≡ before

-- what files hold after a save, or after one that failed
abbrev pub PutsFile : {T : Type 0} → Result T EngineFault → List ℕ → List ℕ → Option Files
    → Option Files → Type 0
PutsFile (Ok done) name bytes old new = new ≡ told_with_bytes name bytes old
PutsFile (Err Read) name bytes old new = ⊥
PutsFile (Err Write) name bytes old new = WritesPart name bytes old new
PutsFile (Err Memory) name bytes old new = new ≡ old
