-- What each answer of a file or a sink says.
use Rattle.std.specs.Prelude.{◌≡◌, ◌<◌, ◌≤◌, ◌⊎◌, ⊤, ℕ, ◌+◌, ◌-◌, ◌^◌, min}
use Rattle.std.specs.Prelude.{List, [], ◌∷◌, length, take, Ok, Err, Some, IsSomeAnd}
use Rattle.std.specs.declared.option.Option.{Option}
use Rattle.std.specs.declared.result.Result.{Result}
use Rattle.ssz_outside.specs.declared.outside.Got.{Got}
use Rattle.ssz_outside.specs.declared.outside.Got.TheVariants.{Whole, TooLong}
use Rattle.ssz_outside.specs.declared.outside.GetFault.{GetFault}
use Rattle.ssz_outside.specs.declared.outside.GetFault.TheVariants as get_fault
use Rattle.ssz_outside.specs.declared.outside.PutFault.{PutFault}
use Rattle.ssz_outside.specs.declared.outside.PutFault.TheVariants as put_fault
use Rattle.ssz_outside.specs.Content.{Content, told_with_bytes}
use Rattle.ssz_outside.specs.Pieces.{Told, told_append}

-- the count after n, which stands still at the greatest `u64`
abbrev pub next_count : ℕ → ℕ
next_count n = min (n + 1) (2 ^ 64 - 1)

-- a count of faults rose, or stands at the greatest `u64`
abbrev pub Rose : ℕ → ℕ → Type 0
Rose before now = (before ≤ now) × (next_count before ≤ now)

-- it rose by one, or stands at the greatest `u64`
abbrev pub RoseOnce : ℕ → ℕ → Type 0
RoseOnce before now = (before ≤ now) × (now ≡ next_count before)

-- what a `get` read of a name that holds these bytes, or is absent
abbrev pub Gets : Option (List ℕ) → ℕ → Result Got GetFault → List ℕ → Type 0
Gets held limit (Ok Whole) read = held ≡ Some read
Gets held limit (Ok TooLong) read = IsSomeAnd held (λ bytes. limit < length bytes)
Gets held limit (Err fault) read = ⊤

-- a failed `get` is counted once, and no other is
abbrev pub CountsGet : Result Got GetFault → ℕ → ℕ → Type 0
CountsGet (Ok got) before now = now ≡ before
CountsGet (Err get_fault.Failed) before now = RoseOnce before now
CountsGet (Err get_fault.Memory) before now = now ≡ before

-- a failed `put` is counted once, and no other is
abbrev pub CountsPut : {T : Type 0} → Result T PutFault → ℕ → ℕ → Type 0
CountsPut (Ok done) before now = now ≡ before
CountsPut (Err put_fault.Failed) before now = RoseOnce before now
CountsPut (Err put_fault.Memory) before now = now ≡ before

-- a failed `put` left what was held, or a prefix of the bytes under the name
abbrev pub WritesPart : List ℕ → List ℕ → Option Content → Option Content → Type 0
WritesPart name bytes old new =
    (new ≡ old) ⊎ ((count : ℕ) × (new ≡ told_with_bytes name (take count bytes) old))

-- what files hold after a `put`
abbrev pub Puts : {T : Type 0} → Result T PutFault → List ℕ → List ℕ → Option Content
    → Option Content → Type 0
Puts (Ok done) name bytes old new = new ≡ told_with_bytes name bytes old
Puts (Err put_fault.Failed) name bytes old new = WritesPart name bytes old new
Puts (Err put_fault.Memory) name bytes old new = new ≡ old

-- What a sink has taken after a `put`: one more piece, which is the whole piece, or on a failure
-- a prefix of it, perhaps empty.
abbrev pub SinkTakes : {T : Type 0} → Result T PutFault → List ℕ → Told → Told → Type 0
SinkTakes (Ok done) piece old new = new ≡ told_append old (piece ∷ [])
SinkTakes (Err put_fault.Failed) piece old new =
    (count : ℕ) × (new ≡ told_append old (take count piece ∷ []))
SinkTakes (Err put_fault.Memory) piece old new = new ≡ old
