-- What a schema is: its format, its names, and the tree of each of its types.
use Rattle.std.specs.Prelude.{ℕ, ◌<◌, List, [], ◌∷◌, get_or, Option, Some, None, option_map, refl, codes}
use Rattle.std.specs.List.{AllByRecursion}
use Rattle.std.specs.Coded.{Coded, code_by, coded×, coded_list, coded_ℕ}
use Rattle.ssz_types.specs.declared.format.Format.{Format}
use Rattle.ssz_types.specs.declared.width.Width.TheVariants.{W8, W16, W32, W64, W128, W256}
use Rattle.ssz_types.specs.declared.ty.Ty.{Ty}
use Rattle.ssz_types.specs.declared.ty.Ty.TheVariants.{Uint, Boolean, Container, Vector, List as ListOf, Bitvector, Bitlist, Union}
use Rattle.ssz_types.specs.Codes.{coded_type, coded_format}
use Rattle.ssz_types.specs.Lookup.{lookup_name}
use Rattle.ssz_types.specs.Types.{SszType, Fields, Options, uint, boolean, container, vector, list, bitvector, bitlist, union, no_fields, field, no_options, none_option, option}

-- the types by their numbers, and the number of each name
pub record Types : Type 0 where
  pub format : Format
  pub trees : List SszType
  pub names : List (List ℕ × ℕ)

-- the tree of a number, where the trees of all numbers are these
abbrev pub type_tree_at : List SszType → ℕ → SszType
type_tree_at trees id = get_or trees id boolean

-- the type of this number
abbrev pub type_of : Types → ℕ → SszType
type_of types id = type_tree_at types.trees id

-- the number of the type of this name
abbrev pub type_number : Types → List ℕ → Option ℕ
type_number types name = lookup_name types.names name

-- the type of this name
abbrev pub known_in : Types → List ℕ → Option SszType
known_in types name = option_map (type_of types) (type_number types name)

-- the names that every schema has
abbrev pub built_ins : List (List ℕ × SszType)
built_ins =
    (codes "boolean", boolean)
    ∷ (codes "byte", uint W8)
    ∷ (codes "uint8", uint W8)
    ∷ (codes "uint16", uint W16)
    ∷ (codes "uint32", uint W32)
    ∷ (codes "uint64", uint W64)
    ∷ (codes "uint128", uint W128)
    ∷ (codes "uint256", uint W256)
    ∷ []

-- A type of the program as a tree: its parts are numbers of types.

abbrev pub fields_over : List SszType → List (List ℕ × ℕ) → Fields
fields_over trees [] = no_fields
fields_over trees (part ∷ parts) =
    field part.0 (type_tree_at trees part.1) (fields_over trees parts)

abbrev pub options_over : List SszType → List (Option ℕ) → Options
options_over trees [] = no_options
options_over trees (None ∷ ids) = none_option (options_over trees ids)
options_over trees (Some id ∷ ids) = option (type_tree_at trees id) (options_over trees ids)

-- the tree of a type whose parts have these trees
abbrev pub tree_over : List SszType → Ty → SszType
tree_over trees (Uint w) = uint w
tree_over trees Boolean = boolean
tree_over trees (Container fields) = container (fields_over trees fields.items)
tree_over trees (Vector id n) = vector (type_tree_at trees id) n
tree_over trees (ListOf id limit) = list (type_tree_at trees id) limit
tree_over trees (Bitvector n) = bitvector n
tree_over trees (Bitlist limit) = bitlist limit
tree_over trees (Union options) = union (options_over trees options.items)

abbrev pub IsBelow : ℕ → Option ℕ → Type 0
IsBelow count None = Unit {0}
IsBelow count (Some id) = id < count

-- each part is one of the first count types
abbrev pub AreBelow : ℕ → Ty → Type 0
AreBelow count (Uint w) = Unit {0}
AreBelow count Boolean = Unit {0}
AreBelow count (Container fields) = AllByRecursion (λ part. part.1 < count) fields.items
AreBelow count (Vector id n) = id < count
AreBelow count (ListOf id limit) = id < count
AreBelow count (Bitvector n) = Unit {0}
AreBelow count (Bitlist limit) = Unit {0}
AreBelow count (Union options) = AllByRecursion (IsBelow count) options.items

-- a code of schemas, by which one is told from another
abbrev pub coded_types : Coded Types
coded_types =
    code_by (Format × (List SszType × List (List ℕ × ℕ)))
    (coded× coded_format (coded× (coded_list coded_type)
    (coded_list (coded× (coded_list coded_ℕ) coded_ℕ))))
    (λ s. (s.format, (s.trees, s.names)))
    (λ p. record { format = p.0; trees = p.1.0; names = p.1.1 }) (λ _. refl)
