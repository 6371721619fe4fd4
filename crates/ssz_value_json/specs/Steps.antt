-- The steps of a walk: faults with the numbers of parts.
use Rattle.std.specs.Prelude.{ℕ, ◌+◌, ◌==◌, Bool, nat_le, if◌then◌else◌, Result, Ok, Err}
pub use Rattle.ssz_bind.specs.Results.{◌>>=◌}
use Rattle.ssz_value.specs.Written.{capped}
use Rattle.ssz_value_json.specs.declared.count.Count.{Count}
use Rattle.ssz_value_json.specs.declared.count.Count.TheVariants.{Exactly, AtMost}
use Rattle.ssz_value_json.specs.declared.fault.JsonFault.{JsonFault}

-- this fault of the part of this number
abbrev pub json_fault : ℕ → ℕ → JsonFault
json_fault code n = record { code = code; number = n }

-- J1 NotJson: `serde_json` reads nothing
abbrev pub not_json : JsonFault
not_json = json_fault 1 0

-- J2 Kind: not the kind of JSON that the type has
abbrev pub bad_kind : ℕ → JsonFault
bad_kind n = json_fault 2 n

-- J3 Text: a string that is not written as the type has it
abbrev pub bad_text : ℕ → JsonFault
bad_text n = json_fault 3 n

-- J4 Range: a number not below 2 to the width's bits
abbrev pub bad_range : ℕ → JsonFault
bad_range n = json_fault 4 n

-- J5 Count: not 32 bytes, not a vector's length, or above a list's limit
abbrev pub bad_count : ℕ → JsonFault
bad_count n = json_fault 5 n

-- J6 Member: a field is missing, or a member is no field
abbrev pub bad_member : ℕ → JsonFault
bad_member n = json_fault 6 n

-- J7 Selector: no option's number
abbrev pub json_bad_selector : ℕ → JsonFault
json_bad_selector n = json_fault 7 n

-- J8 Spelling: another text than that of the value
abbrev pub bad_spelling : JsonFault
bad_spelling = json_fault 8 0

-- the number of the next part; the count stands still at the greatest u64
abbrev pub next : ℕ → ℕ
next n = capped (n + 1)

-- what one part is, or its fault
abbrev pub Found : Type 0 → Type 0
Found A = Result A JsonFault

-- what some parts are, and the number of the part behind them, or their first fault
abbrev pub Walked : Type 0 → Type 0
Walked A = Found (A × ℕ)

-- a fault, unless it holds
abbrev pub where_holds : {A : Type 0} → Bool → A → JsonFault → Found A
where_holds b x f = if b then Ok x else Err f

-- a part without parts
abbrev pub leaf : {A : Type 0} → ℕ → Found A → Walked A
leaf n (Ok x) = Ok (x, next n)
leaf n (Err f) = Err f

-- whether a vector or list may have so many parts
abbrev pub allows : Count → ℕ → Bool
allows (Exactly n) len = len == n
allows (AtMost limit) len = nat_le len limit
