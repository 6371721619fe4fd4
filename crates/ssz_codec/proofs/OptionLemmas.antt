-- The value of the option that a union's bytes choose.
use Rattle.std.proofs.Common.{ℕ, zero, suc, ◌<◌, ◌≡◌, List, [], ◌∷◌, length, get_or, drop, slice_get, Option, Some, None, refl, ap, arith}
use Rattle.ssz_schema.specs.Types.{SszType, union}
use Rattle.ssz_schema.specs.Unfolding.{type_tree_at, options_over}
use Rattle.ssz_value.specs.Values.{chosen, chosen_none}
use Rattle.ssz_value.specs.Reading.{value_in, option_in}

option_in-none : (trees : List SszType) (ids : List (Option ℕ)) (left k : ℕ) (b : List ℕ)
    → Some None ≡ slice_get ids left → option_in (options_over trees ids) left k b ≡ chosen_none k
option_in-none trees [] left k b e = cc
option_in-none trees (None ∷ ids) zero k b e = refl
option_in-none trees (Some id ∷ ids) zero k b e = cc
option_in-none trees (None ∷ ids) (suc left) k b e = option_in-none trees ids left k b e
option_in-none trees (Some id ∷ ids) (suc left) k b e = option_in-none trees ids left k b e

option_in-some : (trees : List SszType) (ids : List (Option ℕ)) (left k id : ℕ) (b : List ℕ)
    → Some (Some id) ≡ slice_get ids left
    → option_in (options_over trees ids) left k b ≡ chosen k (value_in (type_tree_at trees id) b)
option_in-some trees [] left k id b e = cc
option_in-some trees (None ∷ ids) zero k id b e = cc
option_in-some trees (Some other ∷ ids) zero k id b e = let same : other ≡ id =
    cc in ap (λ n. chosen k (value_in (type_tree_at trees n) b)) same
option_in-some trees (None ∷ ids) (suc left) k id b e = option_in-some trees ids left k id b e
option_in-some trees (Some other ∷ ids) (suc left) k id b e = option_in-some trees ids left k id b e

pub union_value : (trees : List SszType) (ids : List (Option ℕ)) (id : ℕ) (b : List ℕ)
    → 0 < length b → Some (Some id) ≡ slice_get ids (get_or b 0 0)
    → value_in (union (options_over trees ids)) b
    ≡ chosen (get_or b 0 0) (value_in (type_tree_at trees id) (drop 1 b))
union_value trees ids id [] some e = absurd (omega arith)
union_value trees ids id (k ∷ b) some e = option_in-some trees ids k k id b e

pub union_no_value : (trees : List SszType) (ids : List (Option ℕ)) (b : List ℕ) → 0 < length b
    → Some None ≡ slice_get ids (get_or b 0 0)
    → value_in (union (options_over trees ids)) b ≡ chosen_none (get_or b 0 0)
union_no_value trees ids [] some e = absurd (omega arith)
union_no_value trees ids (k ∷ b) some e = option_in-none trees ids k k b e
