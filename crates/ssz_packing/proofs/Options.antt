-- The option that a selector names.
use Rattle.std.proofs.Common.{◌≡◌, ℕ, zero, suc, ◌<◌, List, [], ◌∷◌, length, get_or, slice_get, Option, Some, None, sym, ap, subst, ◌∙◌}
use Rattle.std.specs.List.{AllByRecursion}
use Rattle.std.proofs.lemmas.Option.{slice_get-get_or}
use Rattle.ssz_schema.specs.Types.{SszType}
use Rattle.ssz_schema.specs.Unfolding.{type_tree_at, options_over, IsBelow}
use Rattle.ssz_value.specs.Values.{SszValue}
use Rattle.ssz_value.specs.Trees.{tree, option_tree}
use Rattle.ssz_value.specs.Pairs.{pairs, option_pairs}

-- its tree and its pairs are those of the type that it stands for
pub option_tree-some : (trees : List SszType) (ids : List (Option ℕ)) (left id : ℕ) (v : SszValue)
    → slice_get ids left ≡ Some (Some id)
    → (option_tree (options_over trees ids) left v ≡ tree (type_tree_at trees id) v)
    × (option_pairs (options_over trees ids) left v ≡ pairs (type_tree_at trees id) v)
option_tree-some trees [] left id v e = cc
option_tree-some trees (None ∷ ids) zero id v e = cc
option_tree-some trees (Some other ∷ ids) zero id v e = let same : other ≡ id = cc in
    (ap (λ n. tree (type_tree_at trees n) v) same, ap (λ n. pairs (type_tree_at trees n) v) same)
option_tree-some trees (None ∷ ids) (suc left) id v e = option_tree-some trees ids left id v e
option_tree-some trees (Some other ∷ ids) (suc left) id v e = option_tree-some trees ids left id v e

-- it stands before all that the options stand before
pub below_at : (count : ℕ) (ids : List (Option ℕ)) (k : ℕ) (o : Option ℕ) → slice_get ids k ≡ Some o
    → AllByRecursion (IsBelow count) ids → IsBelow count o
below_at count [] k o e all = cc
below_at count (id ∷ ids) zero o e all = let same : id ≡ o = cc in subst (IsBelow count) same all.0
below_at count (id ∷ ids) (suc k) o e all = below_at count ids k o e all.1

-- it is one of them
pub chosen_at : (ids : List (Option ℕ)) (n k : ℕ) (o : Option ℕ) → n < length ids → o
    ≡ get_or ids n o → n ≡ k → slice_get ids k ≡ Some o
chosen_at ids n k o within is e = ap (slice_get ids) (sym e) ∙ slice_get-get_or ids n o within
    ∙ ap Some (sym is)
