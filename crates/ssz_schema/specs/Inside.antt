-- What the fields of a schema stand for, and what they keep.
use Rattle.std.specs.Prelude.{ℕ, ◌≡◌, ◌<◌, ◌≤◌, ◌-◌, ◌^◌, min, option_map, List, [], ◌∷◌, ◌++◌, length, take, Some}
use Rattle.ssz_types.specs.declared.format.Format.{Format}
use Rattle.ssz_types.specs.declared.width.Width.TheVariants.{W8, W16, W32, W64, W128, W256}
use Rattle.ssz_types.specs.declared.entry.Entry.{Entry}
use Rattle.ssz_types.specs.declared.facts.Facts.{Facts}
use Rattle.ssz_types.specs.declared.ty.Ty.{Ty}
use Rattle.ssz_schema.specs.declared.schema.Schema.TheInside.{Inside}
use Rattle.ssz_types.specs.Types.{SszType, boolean, uint}
use Rattle.ssz_types.specs.Sizes.{fixed_size, default_length, chunk_count, depth, type_levels, nesting}
use Rattle.ssz_types.specs.Legal.{IsLegal, IsWithinLimits}
use Rattle.ssz_types.specs.Unfolding.{Types, tree_over, AreBelow, type_of}
use Rattle.ssz_types.specs.Lookup.{lookup_name}
use Rattle.ssz_types.specs.Order.{field_order}
use Rattle.ssz_types.specs.Facts.{AreFactsOf}

-- the trees of all types, where those of the types before are done
abbrev pub unfolded : List SszType → List Entry → List SszType
unfolded done [] = done
unfolded done (e ∷ entries) = unfolded (done ++ tree_over done e.ty ∷ []) entries

abbrev pub types_of : Inside → Types
types_of a = record { format = a.format; trees = unfolded [] a.entries.items; names = a.names }

-- the basic types, which stand first in every schema
abbrev pub basic_types : List SszType
basic_types = boolean ∷ uint W8 ∷ uint W16 ∷ uint W32 ∷ uint W64 ∷ uint W128 ∷ uint W256 ∷ []

-- an entry after those whose trees are done
pub record IsSoundEntry (format : Format) (done : List SszType) (e : Entry) : Type 0 where
  pub below : AreBelow (length done) e.ty
  pub legal : IsLegal format (tree_over done e.ty)
  pub facts : AreFactsOf e.facts (tree_over done e.ty)
  pub order : e.order.items ≡ field_order (tree_over done e.ty)

-- the greatest number that the program counts to
abbrev pub capped : ℕ → ℕ
capped n = min n (2 ^ 64 - 1)

-- the facts are the type's, but that long sizes are capped
pub record AreFactsUpTo (facts : Facts) (t : SszType) : Type 0 where
  pub fixed_size : facts.fixed_size ≡ option_map capped (fixed_size t)
  pub default_len : facts.default_len ≡ capped (default_length t)
  pub chunk_count : facts.chunk_count ≡ chunk_count t
  pub depth : facts.depth ≡ depth t
  pub levels : facts.levels ≡ type_levels t
  pub nesting : facts.nesting ≡ nesting t

-- a type with its facts, whose entry is sound if it keeps the limits
pub record IsSoundButLimits (format : Format) (done : List SszType) (ty : Ty) (told : Facts)
    : Type 0 where
  pub below : AreBelow (length done) ty
  pub legal : IsWithinLimits format (tree_over done ty) → IsLegal format (tree_over done ty)
  pub facts : AreFactsUpTo told (tree_over done ty)

module _ (format : Format) where
  abbrev pub AreSound : List SszType → List Entry → Type 0
  AreSound done [] = Unit {0}
  AreSound done (e ∷ entries) = IsSoundEntry format done e
      × AreSound (done ++ tree_over done e.ty ∷ []) entries

-- each name is that of one of count types
abbrev pub NamesAreBelow : List (List ℕ × ℕ) → ℕ → Type 0
NamesAreBelow names count = (name : List ℕ) (id : ℕ) → lookup_name names name ≡ Some id → id < count

-- what is small of every type
pub record AreSmall (facts : Facts) : Type 0 where
  pub nesting : facts.nesting ≤ 32
  pub levels : facts.levels ≤ 126
  pub default_len : facts.default_len ≤ 2 ^ 24
  pub chunk_count : facts.chunk_count ≤ 2 ^ 62
  pub depth : facts.depth ≤ 62

-- the entry of this number
pub record IsSchemaEntry (types : Types) (id : ℕ) (e : Entry) : Type 0 where
  pub form : tree_over types.trees e.ty ≡ type_of types id
  pub below : AreBelow id e.ty
  pub legal : IsLegal types.format (type_of types id)
  pub facts : AreFactsOf e.facts (type_of types id)
  pub order : e.order.items ≡ field_order (type_of types id)

-- what is known of the whole of every schema
pub record IsWhole (types : Types) : Type 0 where
  pub basics : take 7 types.trees ≡ basic_types
  pub names : NamesAreBelow types.names (length types.trees)

abbrev pub AreAllLegal : Types → Type 0
AreAllLegal types = (id : ℕ) → id < length types.trees → IsLegal types.format (type_of types id)

-- each entry's parts stand before it, the basic types stand first, and each name has an entry
pub record IsSchema (a : Inside) : Type 0 where
  pub entries : AreSound a.format [] a.entries.items
  pub whole : IsWhole (types_of a)
