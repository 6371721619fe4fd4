-- Unions alone have options.
use Rattle.ssz_schema.specs.Types.{SszType, union}

-- the type has no options
abbrev pub HasNoOptions : SszType → Type 0
HasNoOptions (union os) = ⊥
HasNoOptions _ = Unit {0}
