-- Which values an edit may be given (the callers' conditions).
use Rattle.std.specs.Prelude.{ℕ, ◌<◌, Option, Some, None, option_map}
use Rattle.std.specs.Borrow.{Bor}
use Rattle.ssz_schema.specs.Types.{SszType, boolean, list, bitlist, union}
use Rattle.ssz_schema.specs.Sizes.{option_count}
use Rattle.ssz_value.specs.declared.value.Value.{Value}
use Rattle.ssz_value.specs.Values.{FitsOption, IsNoneOption}
use Rattle.ssz_value.specs.Standing.{value_of, OptionFormed, IsValue}

-- the value that a reference leads to, where one is given
abbrev pub inner_of : Option (Bor Value) → Option Value
inner_of value = option_map (λ inner. inner.now) value

-- where the part is a list or bitlist, the value is one of its elements
abbrev pub IsElement : SszType → Value → Type 0
IsElement (list elem limit) v = IsValue elem v
IsElement (bitlist limit) v = IsValue boolean v
IsElement _ v = Unit {0}

-- where the part is a union with an option of this number, the value is one of the option, and
-- there is none exactly for None
abbrev pub IsInner : SszType → ℕ → Option Value → Type 0
IsInner (union os) k (Some v) =
    k < option_count os → FitsOption os k (value_of v) × OptionFormed os k v
IsInner (union os) k None = k < option_count os → IsNoneOption os k
IsInner _ k inner = Unit {0}
