-- What is kept beside a type.
use Rattle.std.specs.Prelude.{ℕ, ◌≡◌, List}
use Rattle.ssz_types.specs.declared.format.Format.{Format}
use Rattle.ssz_types.specs.declared.entry.Entry.{Entry}
use Rattle.ssz_types.specs.declared.facts.Facts.{Facts}
use Rattle.ssz_types.specs.Types.{SszType}
use Rattle.ssz_types.specs.Sizes.{fixed_size, default_length, chunk_count, depth, type_levels, nesting}
use Rattle.ssz_types.specs.Legal.{IsLegal}
use Rattle.ssz_types.specs.Order.{field_order}
use Rattle.ssz_types.specs.Unfolding.{tree_over, AreBelow}

-- the facts kept beside a type are the type's
pub record AreFactsOf (facts : Facts) (t : SszType) : Type 0 where
  pub fixed_size : facts.fixed_size ≡ fixed_size t
  pub default_len : facts.default_len ≡ default_length t
  pub chunk_count : facts.chunk_count ≡ chunk_count t
  pub depth : facts.depth ≡ depth t
  pub levels : facts.levels ≡ type_levels t
  pub nesting : facts.nesting ≡ nesting t

-- an entry of a basic type
pub record IsBasicEntry (t : SszType) (e : Entry) : Type 0 where
  pub tree : (done : List SszType) → tree_over done e.ty ≡ t
  pub below : (count : ℕ) → AreBelow count e.ty
  pub legal : (format : Format) → IsLegal format t
  pub facts : AreFactsOf e.facts t
  pub order : e.order.items ≡ field_order t
