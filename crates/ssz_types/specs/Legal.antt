-- Which types are legal (simple-serialize.md, Illegal types), with the limits
-- of the two schema formats (this project's).
use Rattle.std.specs.Prelude.{ℕ, ◌^◌, ◌<◌, ◌≤◌, nat_lt, nat_eq, ◌||◌, Bool, List, [], ◌∷◌, bytes_eq}
use Rattle.std.specs.List.{IsDistinct}
use Rattle.ssz_types.specs.declared.format.Format.{Format}
use Rattle.ssz_types.specs.declared.format.Format.TheVariants.{One, Two}
use Rattle.ssz_types.specs.Types.{SszType, Fields, Options, uint, boolean, container, vector, list, bitvector, bitlist, union, no_fields, field, no_options, none_option, option}
use Rattle.ssz_types.specs.Sizes.{field_count, option_count, nesting, type_levels, default_length}
use Rattle.ssz_types.specs.Names.{IsName}

-- the greatest limit of a list or bitlist
abbrev pub greatest_limit : Format → ℕ
greatest_limit One = 2 ^ 40
greatest_limit Two = 2 ^ 62

-- the most levels of a type: generalized indices are below 2 ^ 64 in
-- format 1, below 2 ^ 127 in format 2
abbrev pub most_levels : Format → ℕ
most_levels One = 63
most_levels Two = 126

-- the deepest nesting of a type
abbrev pub most_nesting : ℕ
most_nesting = 32

-- the longest encoding of a type's default
abbrev pub most_default : ℕ
most_default = 2 ^ 24

-- the most options of a union: selectors are 0 to 127
abbrev pub most_options : ℕ
most_options = 128

-- a union has 1 to 128 options
abbrev pub is_wrong_size : ℕ → Bool
is_wrong_size count = nat_eq count 0 || nat_lt most_options count

-- the limits of nesting, levels and default that every type keeps
pub record IsWithinLimits (format : Format) (t : SszType) : Type 0 where
  pub nesting : nesting t ≤ most_nesting
  pub levels : type_levels t ≤ most_levels format
  pub default_length : default_length t ≤ most_default

abbrev pub field_names : Fields → List (List ℕ)
field_names no_fields = []
field_names (field name t fs) = name ∷ field_names fs

-- each option has a type
abbrev pub HasNoNone : Options → Type 0
HasNoNone no_options = Unit {0}
HasNoNone (none_option os) = ⊥
HasNoNone (option t os) = HasNoNone os

-- None is no option but the first
abbrev pub IsNoneFirst : Options → Type 0
IsNoneFirst no_options = Unit {0}
IsNoneFirst (none_option os) = HasNoNone os
IsNoneFirst (option t os) = HasNoNone os

module _ (format : Format) where
  abbrev mutual
    -- what the standard and the limits of this schema format allow
    pub IsLegal : SszType → Type 0
    IsLegal (uint w) = Unit {0}
    IsLegal boolean = Unit {0}
    IsLegal (container fs) = (0 < field_count fs) × AreLegalFields fs
        × IsDistinct bytes_eq (field_names fs) × IsWithinLimits format (container fs)
    IsLegal (vector elem n) = IsLegal elem × (0 < n) × IsWithinLimits format (vector elem n)
    IsLegal (list elem limit) = IsLegal elem × (limit ≤ greatest_limit format)
        × IsWithinLimits format (list elem limit)
    IsLegal (bitvector n) = (0 < n) × IsWithinLimits format (bitvector n)
    IsLegal (bitlist limit) = (limit ≤ greatest_limit format)
        × IsWithinLimits format (bitlist limit)
    IsLegal (union os) = (0 < option_count os) × (option_count os ≤ most_options) × IsNoneFirst os
        × AreLegalOptions os × IsWithinLimits format (union os)

    pub AreLegalFields : Fields → Type 0
    AreLegalFields no_fields = Unit {0}
    AreLegalFields (field name t fs) = IsName name × IsLegal t × AreLegalFields fs

    pub AreLegalOptions : Options → Type 0
    AreLegalOptions no_options = Unit {0}
    AreLegalOptions (none_option os) = AreLegalOptions os
    AreLegalOptions (option t os) = IsLegal t × AreLegalOptions os

-- the size of a legal fixed-size type
pub record IsSize (z : ℕ) : Type 0 where
  pub some : 0 < z
  pub few : z ≤ most_default
