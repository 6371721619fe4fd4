-- A container that takes over the fields of another (this project's).
use Rattle.std.specs.Prelude.{ℕ, ◌+◌, if◌then◌else◌, List, [], ◌∷◌, Option, Some, None, option_and_then, Result, Ok, Err, slice_index_or}
use Rattle.ssz_chunk.specs.Tree.{merkle_pairs}
use Rattle.ssz_schema.specs.Types.{SszType, Fields, container, no_fields, field}
use Rattle.ssz_schema.specs.Sizes.{depth, field_count}
use Rattle.ssz_schema.specs.Paths.{field_type, field_number}
use Rattle.ssz_value.specs.Values.{SszValue, sequence, values}
use Rattle.ssz_value.specs.Shapes.{parts_of}
use Rattle.ssz_value.specs.Defaults.{default_of}
use Rattle.ssz_value.specs.Pairs.{pairs}
use Rattle.ssz_forms.specs.declared.upgrade_fault.UpgradeFault.{UpgradeFault}
use Rattle.ssz_forms.specs.declared.upgrade_fault.UpgradeFault.TheVariants.{NotContainer}
use Rattle.ssz_forms.specs.SameType.{same_type}

-- the number of the field of this name, where it has an equal type
abbrev pub field_taken : Fields → List ℕ → SszType → Option ℕ
field_taken old name t =
    option_and_then (λ u. if same_type u t then Some (field_number old name) else None)
    (field_type old name)

-- for each new field the number of the old one that it takes
abbrev pub all_taken : Fields → Fields → List (Option ℕ)
all_taken old no_fields = []
all_taken old (field name t fs) = field_taken old name t ∷ all_taken old fs

-- the value of a new field: the one that it takes, or its default
abbrev pub field_value : List SszValue → SszType → Option ℕ → SszValue
field_value vs t (Some k) = slice_index_or vs k (default_of t)
field_value vs t None = default_of t

abbrev pub upgraded_fields : Fields → List SszValue → Fields → List SszValue
upgraded_fields old vs no_fields = []
upgraded_fields old vs (field name t fs) =
    field_value vs t (field_taken old name t) ∷ upgraded_fields old vs fs

-- the value of the second type that takes the fields of this value of the first
abbrev pub upgraded : SszType → SszValue → SszType → Result SszValue UpgradeFault
upgraded (container old) v (container new) =
    Ok (sequence (values (upgraded_fields old (parts_of v) new)))
-- where one of the two types is no container, there is none
upgraded (container old) v t = Err NotContainer
upgraded s v t = Err NotContainer

-- the pairs of a new field's default; a field that is taken brings none
abbrev pub default_pairs : SszType → Option ℕ → ℕ
default_pairs t (Some k) = 0
default_pairs t None = pairs t (default_of t)

abbrev pub default_pairs_of_fields : Fields → Fields → ℕ
default_pairs_of_fields old no_fields = 0
default_pairs_of_fields old (field name t fs) =
    default_pairs t (field_taken old name t) + default_pairs_of_fields old fs

-- what an upgrade is charged: the pairs above the new fields, and those of the defaults
abbrev pub upgrade_charge : SszType → SszType → ℕ
upgrade_charge (container old) (container new) =
    merkle_pairs (depth (container new)) (field_count new) + default_pairs_of_fields old new
upgrade_charge s t = 0
