-- The value that a union's bytes choose.
use Rattle.ssz_schema.specs.format.Format.{Format}
use Rattle.std.proofs.Common.{◌≡◌, ℕ, zero, suc, ◌+◌, ◌<◌, List, [], ◌∷◌, length, get_or, drop, slice_get, Option, Some, None, refl, sym, ap, subst, ◌∙◌, arith, length-drop}
use Rattle.ssz_bytes.proofs.Numbers.{IsBytes-drop}
use Rattle.std.specs.Prelude.{IfSome}
use Rattle.ssz_schema.specs.Types.{SszType, union}
use Rattle.ssz_schema.specs.Legal.{IsLegal, AreLegalOptions}
use Rattle.ssz_schema.specs.Unfolding.{type_tree_at, options_over}
use Rattle.ssz_value.specs.Values.{chosen, chosen_none}
use Rattle.ssz_value.specs.Faults.{first_fault}
use Rattle.ssz_value.specs.Reading.{value_in, option_in}
use Rattle.ssz_value.proofs.Agree.{IsInput}
use Rattle.ssz_parts.proofs.UnionLemmas.{union_past, union_some}
use Rattle.ssz_parts.proofs.Faultless.{anywhere}

-- the value of the option's type
pub option_in-some : (trees : List SszType) (ids : List (Option ℕ)) (left k id : ℕ)
    (b : List ℕ)
    → slice_get ids left ≡ Some (Some id) → option_in (options_over trees ids) left k b
    ≡ chosen k (value_in (type_tree_at trees id) b)
option_in-some trees [] left k id b e = cc
option_in-some trees (None ∷ ids) zero k id b e = cc
option_in-some trees (Some other ∷ ids) zero k id b e = let same : other ≡ id = cc in
    ap (λ n. chosen k (value_in (type_tree_at trees n) b)) same
option_in-some trees (None ∷ ids) (suc left) k id b e = option_in-some trees ids left k id b e
option_in-some trees (Some other ∷ ids) (suc left) k id b e = option_in-some trees ids left k id b e

-- None
pub option_in-none : (trees : List SszType) (ids : List (Option ℕ)) (left k : ℕ) (b : List ℕ)
    → slice_get ids left ≡ Some None → option_in (options_over trees ids) left k b
    ≡ chosen_none k
option_in-none trees [] left k b e = cc
option_in-none trees (None ∷ ids) zero k b e = refl
option_in-none trees (Some other ∷ ids) zero k b e = cc
option_in-none trees (None ∷ ids) (suc left) k b e = option_in-none trees ids left k b e
option_in-none trees (Some other ∷ ids) (suc left) k b e = option_in-none trees ids left k b e

-- the option is one of them
pub record IsChosen (trees : List SszType) (ids : List (Option ℕ)) (b : List ℕ) : Type 0 where
  pub some : 0 < length b
  pub within : get_or b 0 0 < length ids

pub union_chosen : (trees : List SszType) (ids : List (Option ℕ)) (b : List ℕ)
    → first_fault (union (options_over trees ids)) 0 b ≡ None → IsChosen trees ids b
union_chosen trees ids [] h = cc
union_chosen trees ids (k ∷ b) h = record {
  some = omega arith;
  within = choose (slice_get ids k) refl;
}
  where
    within_some : (ids : List (Option ℕ)) (k : ℕ) (o : Option ℕ) → slice_get ids k ≡ Some o → k
        < length ids
    within_some [] k o e = cc
    within_some (id ∷ ids) zero o e = omega arith
    within_some (id ∷ ids) (suc k) o e = omega (arith, within_some ids k o e)

    choose : (o : Option (Option ℕ)) → slice_get ids k ≡ o → k < length ids
    choose None e = let bad = union_past trees ids 0 (k ∷ b) (omega arith) (sym e) in cc
    choose (Some o) e = within_some ids k o e

-- what follows the selector has no fault
pub union_rest : (format : Format) (trees : List SszType) (ids : List (Option ℕ)) (o : Option ℕ)
    (b : List ℕ) → 0 < length b → slice_get ids (get_or b 0 0) ≡ Some o
    → AreLegalOptions format (options_over trees ids) → IsInput b
    → first_fault (union (options_over trees ids)) 0 b ≡ None
    → IfSome o (λ id. first_fault (type_tree_at trees id) 0 (drop 1 b) ≡ None)
union_rest format trees ids None b some e legal input h = tt
union_rest format trees ids (Some id) b some e legal input h =
    anywhere format (type_tree_at trees id) (legal_at trees ids (get_or b 0 0) id e legal) (0 + 1) 0
    (drop 1 b) (record {
      bytes = IsBytes-drop 1 b input.bytes;
      short = omega (arith, length-drop 1 b, input.short);
    })
    (sym (union_some trees ids 0 id b some (sym e)) ∙ h)
  where
    legal_at : (trees : List SszType) (ids : List (Option ℕ)) (k id : ℕ) → slice_get ids k
        ≡ Some (Some id) → AreLegalOptions format (options_over trees ids)
        → IsLegal format (type_tree_at trees id)
    legal_at trees [] k id e legal = cc
    legal_at trees (None ∷ ids) zero id e legal = cc
    legal_at trees (Some other ∷ ids) zero id e legal = let same : other ≡ id = cc in
        subst (λ n. IsLegal format (type_tree_at trees n)) same legal.0
    legal_at trees (None ∷ ids) (suc k) id e legal = legal_at trees ids k id e legal
    legal_at trees (Some other ∷ ids) (suc k) id e legal = legal_at trees ids k id e legal.1
