-- When a type's copy stands for the same.
use Rattle.std.specs.Prelude.{ℕ, ◌≡◌, List}
use Rattle.ssz_types.specs.declared.entry.Entry.{Entry}
use Rattle.ssz_types.specs.declared.ty.Ty.{Ty}
use Rattle.ssz_types.specs.Types.{SszType}
use Rattle.ssz_types.specs.Unfolding.{tree_over, AreBelow}

-- of the same form over the same parts
pub record IsSameType (old new : Ty) : Type 0 where
  pub tree : (trees : List SszType) → tree_over trees new ≡ tree_over trees old
  pub below : (count : ℕ) → AreBelow count old → AreBelow count new

pub record IsSameEntry (old new : Entry) : Type 0 where
  pub ty : IsSameType old.ty new.ty
  pub facts : new.facts ≡ old.facts
  pub order : new.order.items ≡ old.order.items
