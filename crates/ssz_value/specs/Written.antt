-- What a call that writes a value appends.
use Rattle.std.specs.Prelude.{ℕ, ◌≡◌, ◌-◌, ◌<◌, ◌≤◌, ◌^◌, min, List, ◌++◌, length, Result, Ok, Err}
use Rattle.ssz_value.specs.declared.encode_fault.EncodeFault.{EncodeFault}
use Rattle.ssz_value.specs.declared.encode_fault.EncodeFault.TheVariants.{TooLong, Memory}

-- the bytes are appended, unless they are more than max or memory runs out
abbrev pub Appends : List ℕ → ℕ → List ℕ → List ℕ → Result Unit EncodeFault → Type 0
Appends bytes max old new (Ok _) = (length bytes ≤ max) × (new ≡ old ++ bytes)
Appends bytes max old new (Err TooLong) = (max < length bytes) × (new ≡ old)
Appends bytes max old new (Err Memory) = (length bytes ≤ max) × (new ≡ old)

-- the number, or the greatest u64 where it is greater
abbrev pub capped : ℕ → ℕ
capped n = min n (2 ^ 64 - 1)
