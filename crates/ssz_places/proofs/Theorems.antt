-- The laws of places and of edits.
use Rattle.std.proofs.Common.{◌≡◌, ℕ, ◌+◌, Bool, true, false, cond, not, ◌&&◌, [], ◌∷◌, refl, sym, ap, ap₂, ◌∙◌, subst, Some, None, Ok, Err, is_some, arith, ltb}
use Rattle.std.proofs.lemmas.Bool.{cond-true, cond-false, true≢false, cases_Bool, false≢true}
use Rattle.std.specs.Prelude.{option_and_then}
use Rattle.std.proofs.lemmas.Option.{none-some, same_Some}
use Rattle.std.proofs.Common.{inl, inr}
use Rattle.ssz_schema.specs.format.Format.{Format}
use Rattle.ssz_schema.specs.declared.path.PathStep.{PathStep}
use Rattle.ssz_schema.specs.declared.path.PathStep.TheVariants.{Field, Index, Len, Selector, Option as Chosen}
use Rattle.ssz_value.specs.declared.edit_fault.EditFault.{EditFault}
use Rattle.ssz_value.specs.declared.edit_fault.EditFault.TheVariants.{NotThat}
use Rattle.ssz_schema.specs.Types.{SszType, container, list, bitlist, union}
use Rattle.ssz_schema.specs.Legal.{IsLegal}
use Rattle.ssz_schema.specs.Sizes.{option_count}
use Rattle.ssz_value.specs.Values.{SszValue, Fits, chosen, chosen_none}
use Rattle.ssz_chunk.specs.Tree.{Tree}
use Rattle.ssz_value.specs.Trees.{tree, mixed_in}
use Rattle.ssz_chunk.specs.Index.{levels, levels_within, at, put, at_way, put_way}
use Rattle.ssz_chunk.proofs.Ways.{at-way, put-way}
use Rattle.ssz_schema.specs.Paths.{Path, path_type, step_type}
use Rattle.ssz_value.specs.Parts.{part, numbered}
use Rattle.ssz_schema.specs.Indices.{Spot, whole, path_levels}
use Rattle.ssz_places.specs.Spots.{with_part}
use Rattle.ssz_value.specs.Edits.{Edited, edited, changed, replaced_in, replaced_at}
use Rattle.ssz_places.specs.PlaceLaws.{IsPart, IsLegalValue, LawOfPartPlaces, LawOfPathLevels}
use Rattle.ssz_places.specs.EditLaws.{LawOfEdits, is_changeable, is_mixed_in, LawOfChoice, choice_tree}
use Rattle.ssz_places.specs.FaultLaws.{LawOfFaults}
use Rattle.ssz_schema.proofs.PathLemmas.{and_then_parts}
use Rattle.ssz_places.proofs.PathLaws.{step_legal, path_way, way-generalized_index, goes_on, PathHolds, path_holds, changed-absent, changed-own, changed-step, next_step, Changes}

-- a whole value as the node of its path
module _ (format : Format) (t : SszType) (v : SszValue) (steps : Path) (u : SszType) (w : SszValue)
    (g : ℕ) (s : Spot)
    (value : IsLegalValue format t v) (is : IsPart t v steps u w g s) where
  holds : PathHolds t v steps whole (tree t v) u w s
  holds =
      path_holds format t v steps whole (tree t v) u w s value.legal value.fits
      (λ step x e. refl) refl is.type_at is.value is.spot

  at_end : at (tree t v) g ≡ at_way (tree t v) (path_way t steps)
  at_end = at-way (tree t v) g (goes_on 1 t steps g (omega arith) is.index).pos
      ∙ ap (at_way (tree t v)) (way-generalized_index t steps g is.index)

  put_end : (new : Tree) → put (tree t v) g new ≡ put_way (tree t v) (path_way t steps) new
  put_end new = put-way (tree t v) g new (goes_on 1 t steps g (omega arith) is.index).pos
      ∙ ap (λ ds. put_way (tree t v) ds new) (way-generalized_index t steps g is.index)

  fits_type : (edit : SszType → SszValue → Edited) → edited edit t v steps ≡ changed edit t v steps
  fits_type edit = cond-true _ _ _ (ap is_some is.type_at)

path_legal : (format : Format) (t : SszType) (steps : Path) (u : SszType) → IsLegal format t
    → path_type t steps ≡ Some u → IsLegal format u
path_legal format t [] u legal e = subst (IsLegal format) (same_Some t u e) legal
path_legal format t (step ∷ steps) u legal e =
    let next = and_then_parts (λ s. path_type s steps) (step_type t step) u e in
    path_legal format next.0 steps u (step_legal format t step next.0 legal next.1) next.2

pub law_of_places : LawOfPartPlaces
law_of_places format t v steps u w g s value is =
    let h = holds format t v steps u w g s value is in (
      h.end,
      record {
        found = at_end format t v steps u w g s value is ∙ h.found;
        has = h.has;
        value = record {
          legal = path_legal format t steps u value.legal is.type_at;
          fits = h.fits;
        };
      },
    )

pub law_of_edits : LawOfEdits
law_of_edits format t v steps u w x g s node edit value is found free made fit =
    let h = holds format t v steps u w g s value is in
    let same : h.end ≡ node =
    same_Some h.end node
    (sym (at_end format t v steps u w g s value is ∙ h.found) ∙ found) in
    let c : Changes t v steps whole (tree t v) edit (with_part s u x h.end) =
    h.changes free edit x made fit in (
      c.value,
      record {
        value = fits_type format t v steps u w g s value is edit ∙ c.is;
        fits = c.fits;
        tree = put_end format t v steps u w g s value is (with_part s u x node)
            ∙ ap (λ n. put_way (tree t v) (path_way t steps) (with_part s u x n)) (sym same)
            ∙ c.put;
      },
    )

levels_one : levels 1 ≡ 0
unfolding levels_within
levels_one = refl

pub law_of_levels : LawOfPathLevels
law_of_levels t steps g e =
    (goes_on 1 t steps g (omega arith) e).levels ∙ one (path_levels t steps)
  where
    one : (n : ℕ) → levels 1 + n ≡ n
    one n = omega (arith, levels_one)

-- faults

numbered-Len : (t : SszType) → numbered t Len ≡ Len
numbered-Len (container fs) = refl
numbered-Len _ = refl

numbered-Selector : (t : SszType) → numbered t Selector ≡ Selector
numbered-Selector (container fs) = refl
numbered-Selector _ = refl

-- no step goes on from a length or a selector
count_type : (t : SszType) (step : PathStep) (s : SszType) → is_mixed_in step ≡ true
    → step_type t step ≡ Some s → (next : PathStep) → step_type s next ≡ None
count_type (list t n) Len s counts typed next =
    ap (λ x. step_type x next) (sym (same_Some _ s typed))
count_type (bitlist n) Len s counts typed next =
    ap (λ x. step_type x next) (sym (same_Some _ s typed))
count_type (union os) Selector s counts typed next =
    ap (λ x. step_type x next) (sym (same_Some _ s typed))
count_type t (Field name) s counts typed next = absurd (false≢true counts)
count_type t (Index i) s counts typed next = absurd (false≢true counts)
count_type t (Chosen k) s counts typed next = absurd (false≢true counts)
count_type _ _ s counts typed next = absurd (none-some s typed)

pub count_replaced : (t : SszType) (step : PathStep) (v x : SszValue) → is_mixed_in step ≡ true
    → replaced_at (numbered t step) v x ≡ Err NotThat
count_replaced t Len v x counts = ap (λ s. replaced_at s v x) (numbered-Len t)
count_replaced t Selector v x counts = ap (λ s. replaced_at s v x) (numbered-Selector t)
count_replaced t (Field name) v x counts = absurd (false≢true counts)
count_replaced t (Index i) v x counts = absurd (false≢true counts)
count_replaced t (Chosen k) v x counts = absurd (false≢true counts)

counted_last : (edit : SszType → SszValue → Edited) (t : SszType) (v : SszValue) (step : PathStep)
    (steps : Path) (s u : SszType) (y w x : SszValue) → is_mixed_in step ≡ true
    → step_type t step ≡ Some s
    → path_type s steps ≡ Some u → part s y steps ≡ Some w → edit u w ≡ Ok x
    → replaced_in (numbered t step) v (changed edit s y steps) ≡ Err NotThat
counted_last edit t v step [] s u y w x counts typed same found made =
    ap (replaced_in (numbered t step) v)
    (ap₂ edit (same_Some s u same) (same_Some y w found) ∙ made) ∙ count_replaced t step v x counts
counted_last edit t v step (next ∷ steps) s u y w x counts typed same found made =
    absurd
    (none-some u (ap (λ o. option_and_then (λ z. path_type z steps) o)
    (sym (count_type t step s counts typed next)) ∙ same))

counted : (edit : SszType → SszValue → Edited) (t : SszType) (v : SszValue) (steps : Path)
    (u : SszType) (w x : SszValue) → path_type t steps ≡ Some u → part t v steps ≡ Some w
    → is_changeable steps ≡ false → edit u w ≡ Ok x → changed edit t v steps ≡ Err NotThat
counted edit t v [] u w x typed found free made = absurd (true≢false free)
counted edit t v (step ∷ steps) u w x typed found free made =
    let next = next_step t v step steps u w typed found in
    changed-step edit t v step steps next.0 next.1 next.2 next.3
    ∙ elim (cases_Bool (is_mixed_in step)) [
      | inl counts ↦
          counted_last edit t v step steps next.0 u next.1 w x counts next.2 next.4 next.5 made
      | inr free_step ↦
          (let fixed : is_changeable steps ≡ false =
          ap (λ b. not b && is_changeable steps) (sym free_step) ∙ free in
          ap (replaced_in (numbered t step) v)
          (counted edit next.0 next.1 steps u w x next.4 next.5 fixed made))
    ]

pub law_of_faults : LawOfFaults
law_of_faults t v steps edit = record {
  bad_path = λ none. cond-false _ _ _ (ap is_some none);
  absent =
      λ u typed none. cond-true _ _ _ (ap is_some typed)
      ∙ changed-absent edit t v steps u typed none;
  own = λ u w fault typed found is. cond-true _ _ _ (ap is_some typed)
      ∙ changed-own edit t v steps u w fault typed found is;
  counted =
      λ u w x typed found free made. cond-true _ _ _ (ap is_some typed)
      ∙ counted edit t v steps u w x typed found free made;
}

if_passes : {X : Type 0} (b : Bool) (x y : X) (fault : EditFault)
    → cond b (Ok x) (Err fault) ≡ Ok y → x ≡ y
if_passes true x y fault e = cc
if_passes false x y fault e = absurd (cc)

pub law_of_choice : LawOfChoice
law_of_choice (union os) v result k (Some x) made is =
    subst (λ r. Fits (union os) r
    × (tree (union os) r ≡ mixed_in k (choice_tree (union os) k (Some x))))
    (if_passes (ltb k (option_count os)) (chosen k x) result _ made) (is, refl)
law_of_choice (union os) v result k None made is =
    subst (λ r. Fits (union os) r
    × (tree (union os) r ≡ mixed_in k (choice_tree (union os) k None)))
    (if_passes (ltb k (option_count os)) (chosen_none k) result _ made) (is, refl)
law_of_choice _ v result k inner made is = absurd (cc)
