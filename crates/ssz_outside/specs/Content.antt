-- What files tell of what they hold.
use Rattle.std.specs.Prelude.{◌≡◌, ℕ, not, ◌||◌, Bool, true, false, List, [], Some, None, is_none, option_map, unwrap_or}
use Rattle.std.specs.Option.{option_or}
use Rattle.std.specs.declared.option.Option.{Option}
use Rattle.std.specs.Ordering.{nat_cmp}
use Rattle.std.specs.Cmp.Lexicographic.{slice_cmp}
use Rattle.std.specs.FinMap as map

-- a finite map from names to bytes
abbrev pub NamedBytes : Type 0
NamedBytes = map.FinMap (slice_cmp nat_cmp) (List ℕ)

-- what a name reads as that the map lacks
pub data Missing : Type 0 where
  absent : Missing
  no_bytes : Missing

-- the names with their bytes, what any other name reads as, and whether it is told that a read
-- fails of an absent name alone, now and later
pub record Content : Type 0 where
  pub named : NamedBytes
  pub missing : Missing
  pub steady : Bool

-- the bytes of a name that the map lacks, where it is not absent
abbrev pub bytes_of_missing : Missing → Option (List ℕ)
bytes_of_missing absent = None
bytes_of_missing no_bytes = Some []

-- the bytes that a name holds, where it is not absent
abbrev pub file_bytes : Content → List ℕ → Option (List ℕ)
file_bytes content name = option_or (map.get content.named name) (bytes_of_missing content.missing)

-- what a name reads as, where an absent one reads as no bytes
abbrev pub contents : Content → List ℕ → List ℕ
contents content name = unwrap_or (file_bytes content name) []

abbrev pub is_absent : Content → List ℕ → Bool
is_absent content name = is_none (file_bytes content name)

-- whether a read of the name may fail: where a read fails of an absent name alone, only of one that
-- is absent
abbrev pub may_fail : Content → List ℕ → Bool
may_fail content name = not content.steady || is_absent content name

-- it is told that no read of the name fails
abbrev pub CanRead : Option Content → List ℕ → Type 0
CanRead None name = ⊥
CanRead (Some content) name = may_fail content name ≡ false

-- the content after the name was given these bytes
abbrev pub with_bytes : List ℕ → List ℕ → Content → Content
with_bytes name bytes content = record content { named = map.insert content.named name bytes }

-- content that may be untold, after the name was given these bytes
abbrev pub told_with_bytes : List ℕ → List ℕ → Option Content → Option Content
told_with_bytes name bytes told = option_map (with_bytes name bytes) told

-- files of which no name is absent: one that the map lacks holds no bytes
abbrev pub quiet_content : NamedBytes → Content
quiet_content named = record { named = named; missing = no_bytes; steady = true }
