-- What the option at a number of a union is.
use Rattle.std.proofs.Common.{◌≡◌, ℕ, zero, suc, cond, ltb, List, [], ◌∷◌, length, slice_get, Option, Some, None, refl, subst}
use Rattle.ssz_bytes.specs.Faults.{extra}
use Rattle.ssz_schema.specs.Types.{SszType, Options}
use Rattle.ssz_schema.specs.Paths.{option_type}
use Rattle.ssz_schema.specs.Unfolding.{type_tree_at, options_over}
use Rattle.ssz_value.specs.Faults.{first_fault, option_fault}

-- the option at a number has this type
pub record IsTyped (os : Options) (k : ℕ) (t : SszType) : Type 0 where
  pub type : option_type os k ≡ Some t
  pub fault : (b : List ℕ) → option_fault os k 0 b ≡ first_fault t 0 b

pub typed : (trees : List SszType) (ids : List (Option ℕ)) (k id : ℕ)
    → slice_get ids k ≡ Some (Some id) → IsTyped (options_over trees ids) k (type_tree_at trees id)
typed trees [] k id there = cc
typed trees (None ∷ ids) zero id there = cc
typed trees (Some other ∷ ids) zero id there =
    let same : other ≡ id = cc in
    subst (λ n. IsTyped (options_over trees (Some other ∷ ids)) 0 (type_tree_at trees n)) same
    (record { type = refl; fault = λ b. refl })
typed trees (None ∷ ids) (suc k) id there =
    let rest = typed trees ids k id there in record { type = rest.type; fault = rest.fault }
typed trees (Some other ∷ ids) (suc k) id there =
    let rest = typed trees ids k id there in record { type = rest.type; fault = rest.fault }

-- or it is None
pub record IsUntyped (os : Options) (k : ℕ) : Type 0 where
  pub type : option_type os k ≡ None
  pub fault : (b : List ℕ) → option_fault os k 0 b ≡ cond (ltb 0 (length b)) (extra 0) None

pub untyped : (trees : List SszType) (ids : List (Option ℕ)) (k : ℕ)
    → slice_get ids k ≡ Some None → IsUntyped (options_over trees ids) k
untyped trees [] k there = cc
untyped trees (None ∷ ids) zero there = record { type = refl; fault = λ b. refl }
untyped trees (Some other ∷ ids) zero there = cc
untyped trees (None ∷ ids) (suc k) there =
    let rest = untyped trees ids k there in record { type = rest.type; fault = rest.fault }
untyped trees (Some other ∷ ids) (suc k) there =
    let rest = untyped trees ids k there in record { type = rest.type; fault = rest.fault }
