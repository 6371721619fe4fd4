-- The option that a union's bytes choose.
use Rattle.std.proofs.Common.{ℕ, zero, suc, ◌+◌, ◌<◌, ◌≤◌, ◌≡◌, List, [], ◌∷◌, length, get_or, drop, slice_get, Option, Some, None, cond, ltb, eqb, false, refl, ap, ◌∙◌, arith, lt-ltb, le-ltb}
use Rattle.std.proofs.lemmas.Bool.{cond-true, cond-false}
use Rattle.ssz_schema.specs.Types.{SszType, union}
use Rattle.ssz_schema.specs.Sizes.{option_count}
use Rattle.ssz_schema.proofs.OptionLemmas.{option_count-over}
use Rattle.ssz_schema.specs.Unfolding.{type_tree_at, options_over}
use Rattle.ssz_value.specs.Faults.{first_fault, option_fault}
use Rattle.ssz_bytes.specs.Faults.{extra, bad_selector}

none_past : (ids : List (Option ℕ)) (k : ℕ) → None ≡ slice_get ids k → length ids ≤ k
none_past [] k e = omega arith
none_past (id ∷ ids) zero e = cc
none_past (id ∷ ids) (suc k) e = omega (arith, none_past ids k e)

some_within : (ids : List (Option ℕ)) (k : ℕ) (o : Option ℕ) → Some o ≡ slice_get ids k
    → k < length ids
some_within [] k o e = cc
some_within (id ∷ ids) zero o e = omega arith
some_within (id ∷ ids) (suc k) o e = omega (arith, some_within ids k o e)

option_fault-none : (trees : List SszType) (ids : List (Option ℕ)) (k s : ℕ) (b : List ℕ)
    → Some None ≡ slice_get ids k
    → option_fault (options_over trees ids) k s b ≡ cond (ltb 0 (length b)) (extra s) None
option_fault-none trees [] k s b e = cc
option_fault-none trees (None ∷ ids) zero s b e = refl
option_fault-none trees (Some id ∷ ids) zero s b e = cc
option_fault-none trees (None ∷ ids) (suc k) s b e = option_fault-none trees ids k s b e
option_fault-none trees (Some id ∷ ids) (suc k) s b e = option_fault-none trees ids k s b e

option_fault-some : (trees : List SszType) (ids : List (Option ℕ)) (k id s : ℕ) (b : List ℕ)
    → Some (Some id) ≡ slice_get ids k
    → option_fault (options_over trees ids) k s b ≡ first_fault (type_tree_at trees id) s b
option_fault-some trees [] k id s b e = cc
option_fault-some trees (None ∷ ids) zero id s b e = cc
option_fault-some trees (Some other ∷ ids) zero id s b e = let same : other ≡ id =
    cc in ap (λ n. first_fault (type_tree_at trees n) s b) same
option_fault-some trees (None ∷ ids) (suc k) id s b e = option_fault-some trees ids k id s b e
option_fault-some trees (Some other ∷ ids) (suc k) id s b e = option_fault-some trees ids k id s b e

pub union_past : (trees : List SszType) (ids : List (Option ℕ)) (s : ℕ) (b : List ℕ) → 0 < length b
    → None ≡ slice_get ids (get_or b 0 0)
    → first_fault (union (options_over trees ids)) s b ≡ bad_selector s
union_past trees ids s [] some e = absurd (omega arith)
union_past trees ids s (k ∷ b) some e =
    cond-false _ _ _ (le-ltb k (option_count (options_over trees ids))
    (omega (arith, none_past ids k e, option_count-over trees ids)))

union_within : (trees : List SszType) (ids : List (Option ℕ)) (s k : ℕ) (b : List ℕ) (o : Option ℕ)
    → Some o ≡ slice_get ids k
    → first_fault (union (options_over trees ids)) s (k ∷ b)
    ≡ option_fault (options_over trees ids) k (s + 1) b
union_within trees ids s k b o e =
    cond-true _ _ _ (lt-ltb k (option_count (options_over trees ids))
    (omega (arith, some_within ids k o e, option_count-over trees ids)))

pub union_none : (trees : List SszType) (ids : List (Option ℕ)) (s : ℕ) (b : List ℕ) → 0 < length b
    → Some None ≡ slice_get ids (get_or b 0 0)
    → first_fault (union (options_over trees ids)) s b
    ≡ cond (ltb 0 (length (drop 1 b))) (extra (s + 1)) None
union_none trees ids s [] some e = absurd (omega arith)
union_none trees ids s (k ∷ b) some e =
    union_within trees ids s k b None e ∙ option_fault-none trees ids k (s + 1) b e

pub union_some : (trees : List SszType) (ids : List (Option ℕ)) (s id : ℕ) (b : List ℕ)
    → 0 < length b → Some (Some id) ≡ slice_get ids (get_or b 0 0)
    → first_fault (union (options_over trees ids)) s b
    ≡ first_fault (type_tree_at trees id) (s + 1) (drop 1 b)
union_some trees ids s id [] some e = absurd (omega arith)
union_some trees ids s id (k ∷ b) some e =
    union_within trees ids s k b (Some id) e ∙ option_fault-some trees ids k id (s + 1) b e

pub some_byte : (b : List ℕ) → eqb (length b) 0 ≡ false → 0 < length b
some_byte [] e = cc
some_byte (x ∷ b) e = omega arith
