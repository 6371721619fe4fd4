-- The levels of what an edit changes below a path.
use Rattle.std.proofs.Common.{◌≡◌, ℕ, ◌+◌, [], ◌∷◌, ◌++◌, refl, sym, ap, ◌∙◌, true, Option, Some, None, arith}
use Rattle.std.specs.Prelude.{IsSome, is_some, option_and_then}
use Rattle.std.proofs.lemmas.Bool.{true≢false, false≢true}
use Rattle.std.specs.Option.{option_map_or}
use Rattle.ssz_chunk.specs.Index.{levels}
use Rattle.ssz_schema.specs.declared.path.PathStep.{PathStep}
use Rattle.ssz_schema.specs.declared.path.PathStep.TheVariants.{Index, Selector}
use Rattle.ssz_schema.specs.Types.{SszType, list, bitlist, union}
use Rattle.ssz_schema.specs.Sizes.{depth}
use Rattle.ssz_schema.specs.Paths.{Path, path_type, step_type}
use Rattle.ssz_schema.specs.Indices.{generalized_index, path_levels}
use Rattle.ssz_places.specs.EditLaws.{IsCounted}
use Rattle.ssz_gindex.specs.Paths.{index_levels}
use Rattle.ssz_places.specs.Charges.{IsAtLevel, LawOfCharges}
use Rattle.ssz_places.proofs.Joining.{path_type-append, law_of_indices, path_levels-append}
use Rattle.ssz_places.proofs.Theorems.{law_of_levels}

-- the index of a path that fits has the levels of its steps
levels_along : (t : SszType) (path : Path) → is_some (path_type t path) ≡ true
    → index_levels t path ≡ path_levels t path
levels_along t path fits = go (generalized_index t path) refl
  where
    go : (o : Option ℕ) → generalized_index t path ≡ o
        → option_map_or levels o 0 ≡ path_levels t path
    go None none =
        absurd (true≢false (sym fits ∙ sym (law_of_indices t path).0 ∙ ap is_some none))
    go (Some g) found = law_of_levels t path g found

-- a step goes on from a path where it fits
one_more : (t : SszType) (path : Path) (u : SszType) (step : PathStep)
    → path_type t path ≡ Some u → IsSome (step_type u step)
    → is_some (path_type t (path ++ step ∷ [])) ≡ true
one_more t path u step typed fits =
    ap is_some (path_type-append t path (step ∷ []) u typed) ∙ go (step_type u step) fits
  where
    go : (o : Option SszType) → IsSome o
        → is_some (option_and_then (λ part. path_type part []) o) ≡ true
    go None fits = absurd (false≢true fits)
    go (Some x) fits = refl

-- of the path with one step more
levels_more : (t : SszType) (path : Path) (u : SszType) (n : ℕ) (step : PathStep)
    → IsAtLevel t path u n → IsSome (step_type u step)
    → index_levels t (path ++ step ∷ []) ≡ n + path_levels u (step ∷ [])
levels_more t path u n step at fits =
    levels_along t (path ++ step ∷ []) (one_more t path u step at.type_at fits)
    ∙ path_levels-append t path (step ∷ []) u at.type_at
    ∙ ap (λ l. l + path_levels u (step ∷ []))
    (sym (levels_along t path (ap is_some at.type_at)) ∙ at.levels)

element_levels : (u : SszType) (i : ℕ) → IsCounted u → path_levels u (Index i ∷ []) ≡ 1 + depth u
element_levels (list elem limit) i counted = omega arith
element_levels (bitlist limit) i counted = omega arith
element_levels _ i counted = absurd counted

selector_levels : (u : SszType) → IsSome (step_type u Selector)
    → path_levels u (Selector ∷ []) ≡ 1
selector_levels (union os) fits = refl
selector_levels _ fits = absurd (false≢true fits)

pub law_of_charges : LawOfCharges
law_of_charges t path u n at = record {
  element = λ i counted fits.
      levels_more t path u n (Index i) at fits ∙ ap (λ l. n + l) (element_levels u i counted)
      ∙ omega arith;
  selector = λ fits.
      levels_more t path u n Selector at fits ∙ ap (λ l. n + l) (selector_levels u fits);
}
