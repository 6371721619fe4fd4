-- What a path holds: its index leads to the node that has the part, and an edit there is one new
-- tree there.
use Rattle.std.proofs.Common.{◌≡◌, ℕ, ◌+◌, ◌*◌, ◌^◌, ◌<◌, Bool, true, not, List, [], ◌∷◌, ◌++◌, refl, sym, ap, ap₂, ◌∙◌, subst, Option, Some, None, Ok, Err, arith}
use Rattle.std.specs.Prelude.{option_and_then, unwrap_or}
use Rattle.std.proofs.lemmas.List.{append_assoc, append-nil}
use Rattle.std.proofs.lemmas.Bool.{and_parts, not-true}
use Rattle.std.proofs.lemmas.Nat.{pow_pos}
use Rattle.std.proofs.lemmas.Option.{none-some, same_Some}
use Rattle.std.proofs.Math.Nat.{mul-pos}
use Rattle.ssz_schema.specs.format.Format.{Format}
use Rattle.ssz_schema.specs.declared.path.PathStep.{PathStep}
use Rattle.ssz_schema.specs.declared.path.PathStep.TheVariants.{Field, Index, Len, Selector, Option as Chosen}
use Rattle.ssz_value.specs.declared.edit_fault.EditFault.{EditFault}
use Rattle.ssz_value.specs.declared.edit_fault.EditFault.TheVariants.{Absent, BadPath}
use Rattle.ssz_schema.specs.Types.{SszType, uint, boolean, container, vector, list, bitvector, bitlist, union}
use Rattle.ssz_schema.specs.Sizes.{basic_size}
use Rattle.ssz_schema.specs.Legal.{IsLegal}
use Rattle.ssz_value.specs.Values.{SszValue, Fits}
use Rattle.ssz_chunk.specs.Tree.{Tree}
use Rattle.ssz_value.specs.Trees.{tree}
use Rattle.ssz_chunk.specs.Index.{levels, way, at_way, put_way}
use Rattle.ssz_schema.specs.Paths.{Path, step_type, path_type}
use Rattle.ssz_schema.specs.Indices.{step_levels, step_position, step_spot, generalized_index_from, generalized_index, spot_from, path_levels, element_spot, Spot, whole}
use Rattle.ssz_value.specs.Parts.{step_part, part, numbered}
use Rattle.ssz_places.specs.Spots.{HasPart, with_part}
use Rattle.ssz_value.specs.Edits.{Edited, changed, given, replaced_in}
use Rattle.ssz_chunk.proofs.Digits.{way-join, levels-join, way-one}
use Rattle.ssz_chunk.proofs.Ways.{at_way-append_some, put_way-append}
use Rattle.ssz_schema.proofs.PathLemmas.{and_then_parts, step-below, if_within}
use Rattle.ssz_places.proofs.Parts.{is_field, is_option}
use Rattle.ssz_places.specs.EditLaws.{is_mixed_in, is_changeable}
use Rattle.ssz_places.proofs.Steps.{step_way, StepHolds, step_holds, Replaces}

-- the part of a legal type is legal
pub step_legal : (format : Format) (t : SszType) (step : PathStep) (u : SszType) → IsLegal format t
    → step_type t step ≡ Some u → IsLegal format u
step_legal format (container fs) (Field name) u legal e =
    (is_field fs name u e).legal format legal.1
step_legal format (vector t n) (Index i) u legal e =
    subst (IsLegal format) (if_within i n t u e).1 legal.0
step_legal format (list t n) (Index i) u legal e =
    subst (IsLegal format) (if_within i n t u e).1 legal.0
step_legal format (list t n) Len u legal e = subst (IsLegal format) (same_Some _ u e) tt
step_legal format (bitvector n) (Index i) u legal e =
    subst (IsLegal format) (if_within i n boolean u e).1 tt
step_legal format (bitlist n) (Index i) u legal e =
    subst (IsLegal format) (if_within i n boolean u e).1 tt
step_legal format (bitlist n) Len u legal e = subst (IsLegal format) (same_Some _ u e) tt
step_legal format (union os) Selector u legal e = subst (IsLegal format) (same_Some _ u e) tt
step_legal format (union os) (Chosen k) u legal e = (is_option os k u e).legal format legal.3
step_legal format _ _ u legal e = absurd (none-some u e)

-- a type that has parts is not basic
pub composite : (t : SszType) (step : PathStep) (u : SszType) → step_type t step ≡ Some u
    → basic_size t ≡ None
composite (uint w) step u e = absurd (none-some u e)
composite boolean step u e = absurd (none-some u e)
composite (container fs) step u e = refl
composite (vector t n) step u e = refl
composite (list t n) step u e = refl
composite (bitvector n) step u e = refl
composite (bitlist n) step u e = refl
composite (union os) step u e = refl

-- a part that has parts is a whole node
step_whole : (t : SszType) (step : PathStep) (u : SszType) → step_type t step ≡ Some u
    → (next : PathStep) (x : SszType) → step_type u next ≡ Some x → step_spot t step ≡ whole
step_whole (vector t n) (Index i) u e next x f =
    ap (λ s. element_spot s i) (ap basic_size (if_within i n t u e).1 ∙ composite u next x f)
step_whole (list t n) (Index i) u e next x f =
    ap (λ s. element_spot s i) (ap basic_size (if_within i n t u e).1 ∙ composite u next x f)
step_whole (bitvector n) (Index i) u e next x f =
    absurd (none-some x (ap (λ s. step_type s next) (if_within i n boolean u e).1 ∙ f))
step_whole (bitlist n) (Index i) u e next x f =
    absurd (none-some x (ap (λ s. step_type s next) (if_within i n boolean u e).1 ∙ f))
step_whole _ _ u e next x f = refl

-- the way of a path
abbrev pub path_way : SszType → Path → List Bool
path_way t [] = []
path_way t (step ∷ path) = step_way t step ++ path_way (unwrap_or (step_type t step) t) path

-- an index that goes on from k by a path
pub record GoesOn (k : ℕ) (t : SszType) (steps : Path) (g : ℕ) : Type 0 where
  pub pos : 0 < g
  pub is : way g ≡ way k ++ path_way t steps
  pub levels : levels g ≡ levels k + path_levels t steps

pub goes_on : (k : ℕ) (t : SszType) (steps : Path) (g : ℕ) → 0 < k
    → generalized_index_from k t steps ≡ Some g → GoesOn k t steps g
goes_on k t [] g pos e =
    subst (GoesOn k t []) (same_Some k g e)
    (record { pos = pos; is = sym (append-nil (way k)); levels = omega arith })
goes_on k t (step ∷ steps) g pos e =
    let parts =
    and_then_parts
    (λ u. generalized_index_from (k * 2 ^ step_levels t step + step_position t step) u steps)
    (step_type t step) g e in
    let u : SszType = parts.0 in
    let small : step_position t step < 2 ^ step_levels t step = step-below t step u parts.1 in
    let next : ℕ = k * 2 ^ step_levels t step + step_position t step in
    let next_pos : 0 < next = omega (arith, mul-pos pos (pow_pos (step_levels t step))) in
    let is : unwrap_or (step_type t step) t ≡ u = ap (λ o. unwrap_or o t) parts.1 in
    let rest = goes_on next u steps g next_pos parts.2 in
    record {
      pos = rest.pos;
      is = rest.is ∙ ap (λ w. w ++ path_way u steps) (way-join k (step_levels t step)
          (step_position t step) pos small)
          ∙ append_assoc (way k) (step_way t step) (path_way u steps)
          ∙ ap (λ s. way k ++ (step_way t step ++ path_way s steps)) (sym is);
      levels =
          rest.levels ∙ ap (λ l. l + path_levels u steps) (levels-join k (step_levels t step)
          (step_position t step) pos small)
          ∙ ap (λ s. levels k + step_levels t step + path_levels s steps) (sym is) ∙ omega arith;
    }

-- the way of a path's index
pub way-generalized_index : (t : SszType) (steps : Path) (g : ℕ)
    → generalized_index t steps ≡ Some g
    → way g ≡ path_way t steps
way-generalized_index t steps g e =
    (goes_on 1 t steps g (omega arith) e).is ∙ ap (λ w. w ++ path_way t steps) way-one

-- the edited whole, and its tree
pub record Changes (t : SszType) (v : SszValue) (steps : Path) (from : Spot) (node : Tree)
    (edit : SszType → SszValue → Edited) (new : Tree) : Type 0 where
  pub value : SszValue
  pub is : changed edit t v steps ≡ Ok value
  pub fits : Fits t value
  pub put : put_way node (path_way t steps) new ≡ Some (with_part from t value node)

-- From a node that has a value, along a path to a part.
pub record PathHolds (t : SszType) (v : SszValue) (steps : Path) (from : Spot) (node : Tree)
    (u : SszType) (w : SszValue) (to : Spot) : Type 0 where
  pub end : Tree
  pub found : at_way node (path_way t steps) ≡ Some end
  pub has : HasPart to u w end
  pub fits : Fits u w
  pub changes : is_changeable steps ≡ true → (edit : SszType → SszValue → Edited) (x : SszValue)
      → edit u w ≡ Ok x → Fits u x → Changes t v steps from node edit (with_part to u x end)

-- a value with parts is a whole node
abbrev pub IsWholeIfParted : SszType → Spot → Type 0
IsWholeIfParted t from = (step : PathStep) (u : SszType) → step_type t step ≡ Some u → from ≡ whole

pub whole_along : (t : SszType) (steps : Path) (from to : Spot) (u : SszType)
    → IsWholeIfParted t from
    → path_type t steps ≡ Some u → spot_from from t steps ≡ Some to → IsWholeIfParted u to
whole_along t [] from to u parted typed where_is step x further =
    sym (same_Some from to where_is)
    ∙ parted step x (ap (λ s. step_type s step) (same_Some t u typed) ∙ further)
whole_along t (step ∷ steps) from to u parted typed where_is next y further =
    let types = and_then_parts (λ s. path_type s steps) (step_type t step) u typed in
    let spots = and_then_parts (λ x. spot_from (step_spot t step) x steps) (step_type t step) to
    where_is in
    let same_type : spots.0 ≡ types.0 = same_Some spots.0 types.0 (sym spots.1 ∙ types.1) in
    whole_along types.0 steps (step_spot t step) to u
    (λ beyond x e. step_whole t step types.0 types.1 beyond x e) types.2
    (ap (λ x. spot_from (step_spot t step) x steps) (sym same_type) ∙ spots.2) next y further

pub changed-step : (edit : SszType → SszValue → Edited) (t : SszType) (v : SszValue)
    (step : PathStep) (steps : Path) (u : SszType) (w : SszValue) → step_type t step ≡ Some u
    → step_part t v step ≡ Some w
    → changed edit t v (step ∷ steps) ≡ replaced_in (numbered t step) v (changed edit u w steps)
changed-step edit t v step steps u w typed found =
    ap (λ o. given o BadPath (λ x. given (step_part t v step) Absent
    (λ y. replaced_in (numbered t step) v (changed edit x y steps)))) typed
    ∙ ap (λ o. given o Absent (λ y. replaced_in (numbered t step) v
    (changed edit u y steps))) found

-- the first step to a part that is present
pub next_step : (t : SszType) (v : SszValue) (step : PathStep) (steps : Path) (u : SszType)
    (w : SszValue) → path_type t (step ∷ steps) ≡ Some u → part t v (step ∷ steps) ≡ Some w
    → (s : SszType) × (y : SszValue) × (step_type t step ≡ Some s) × (step_part t v step ≡ Some y)
    × (path_type s steps ≡ Some u) × (part s y steps ≡ Some w)
next_step t v step steps u w typed found =
    let types = and_then_parts (λ s. path_type s steps) (step_type t step) u typed in
    let finds =
    and_then_parts (λ x. option_and_then (λ y. part x y steps) (step_part t v step))
    (step_type t step) w found in
    let same : finds.0 ≡ types.0 = same_Some finds.0 types.0 (sym finds.1 ∙ types.1) in
    let values = and_then_parts (λ y. part finds.0 y steps) (step_part t v step) w finds.2 in (
      types.0,
      values.0,
      types.1,
      values.1,
      types.2,
      ap (λ x. part x values.0 steps) (sym same)
          ∙ values.2,
    )

pub path_holds : (format : Format) (t : SszType) (v : SszValue) (steps : Path) (from : Spot)
    (node : Tree) (u : SszType) (w : SszValue) (to : Spot) → IsLegal format t → Fits t v
    → IsWholeIfParted t from → HasPart from t v node
    → path_type t steps ≡ Some u → part t v steps ≡ Some w → spot_from from t steps ≡ Some to
    → PathHolds t v steps from node u w to
path_holds format t v [] from node u w to legal fit parted has typed found where_is =
    subst (λ x. PathHolds t v [] from node x w to) (same_Some t u typed)
    (subst (λ y. PathHolds t v [] from node t y to) (same_Some v w found)
    (subst (λ z. PathHolds t v [] from node t v z) (same_Some from to where_is) (record {
      end = node;
      found = refl;
      has = has;
      fits = fit;
      changes = λ free edit x is f. record { value = x; is = is; fits = f; put = refl };
    })))
path_holds format t v (step ∷ steps) from node u w to legal fit parted has typed found where_is =
    let next = next_step t v step steps u w typed found in
    let s : SszType = next.0 in
    let y : SszValue = next.1 in
    let spots =
    and_then_parts (λ x. spot_from (step_spot t step) x steps) (step_type t step) to where_is in
    let same_type : spots.0 ≡ s = same_Some spots.0 s (sym spots.1 ∙ next.2) in
    let at_step : StepHolds t v step s y = step_holds format t v step s y legal fit next.2 next.3 in
    let rest : PathHolds s y steps (step_spot t step) at_step.node u w to =
    path_holds format s y steps (step_spot t step) at_step.node u w to
    (step_legal format t step s legal next.2) at_step.fits
    (λ further x e. step_whole t step s next.2 further x e) at_step.has next.4 next.5
    (ap (λ x. spot_from (step_spot t step) x steps) (sym same_type) ∙ spots.2) in
    let is_whole : from ≡ whole = parted step s next.2 in
    let is_tree : node ≡ tree t v = subst (λ f. HasPart f t v node) is_whole has in
    let next_type : unwrap_or (step_type t step) t ≡ s = ap (λ o. unwrap_or o t) next.2 in
    let first : at_way node (step_way t step) ≡ Some at_step.node =
    ap (λ n. at_way n (step_way t step)) is_tree ∙ at_step.found in
    record {
      end = rest.end;
      found =
          ap (λ x. at_way node (step_way t step ++ path_way x steps)) next_type
          ∙ at_way-append_some node at_step.node (step_way t step) (path_way s steps) first
          ∙ rest.found;
      has = rest.has;
      fits = rest.fits;
      changes = λ free edit x is f.
          let both = and_parts (not (is_mixed_in step)) (is_changeable steps) free in
          let inner : Changes s y steps (step_spot t step) at_step.node edit
          (with_part to u x rest.end) = rest.changes both.1 edit x is f in
          let outer : Replaces t v step s at_step.node inner.value =
          at_step.changes (not-true (is_mixed_in step) both.0) inner.value inner.fits in
          record {
            value = outer.value;
            is = changed-step edit t v step steps s y next.2 next.3
                ∙ ap (replaced_in (numbered t step) v) inner.is ∙ outer.is;
            fits = outer.fits;
            put = ap (λ z. put_way node (step_way t step ++ path_way z steps)
                (with_part to u x rest.end)) next_type
                ∙ put_way-append node at_step.node (with_part to u x rest.end)
                (with_part (step_spot t step) s inner.value at_step.node) (step_way t step)
                (path_way s steps) first inner.put
                ∙ ap (λ n. put_way n (step_way t step)
                (with_part (step_spot t step) s inner.value at_step.node)) is_tree ∙ outer.put
                ∙ ap (λ g. Some (with_part g t outer.value node)) (sym is_whole);
          };
    }

-- the faults of an edit along a path that fits the type

pub changed-absent : (edit : SszType → SszValue → Edited) (t : SszType) (v : SszValue)
    (steps : Path) (u : SszType) → path_type t steps ≡ Some u → part t v steps ≡ None
    → changed edit t v steps ≡ Err Absent
changed-absent edit t v [] u typed none = absurd (none-some v (sym none))
changed-absent edit t v (step ∷ steps) u typed none =
    let types = and_then_parts (λ s. path_type s steps) (step_type t step) u typed in
    let inner : option_and_then (λ y. part types.0 y steps) (step_part t v step) ≡ None =
    ap (λ o. option_and_then (λ x. option_and_then (λ y. part x y steps) (step_part t v step)) o)
    (sym types.1) ∙ none in
    ap (λ o. given o BadPath (λ x. given (step_part t v step) Absent
    (λ y. replaced_in (numbered t step) v (changed edit x y steps)))) types.1
    ∙ go types.0 (step_part t v step) inner
    (λ w gone. changed-absent edit types.0 w steps u types.2 gone)
  where
    go : (s : SszType) (o : Option SszValue) → option_and_then (λ y. part s y steps) o ≡ None
        → ((w : SszValue) → part s w steps ≡ None → changed edit s w steps ≡ Err Absent)
        → given o Absent (λ y. replaced_in (numbered t step) v
        (changed edit s y steps)) ≡ Err Absent
    go s None inner rest = refl
    go s (Some w) inner rest = ap (replaced_in (numbered t step) v) (rest w inner)

pub changed-own : (edit : SszType → SszValue → Edited) (t : SszType) (v : SszValue) (steps : Path)
    (u : SszType) (w : SszValue) (fault : EditFault) → path_type t steps ≡ Some u
    → part t v steps ≡ Some w → edit u w ≡ Err fault → changed edit t v steps ≡ Err fault
changed-own edit t v [] u w fault typed found is =
    ap₂ edit (same_Some t u typed) (same_Some v w found) ∙ is
changed-own edit t v (step ∷ steps) u w fault typed found is =
    let s = next_step t v step steps u w typed found in
    changed-step edit t v step steps s.0 s.1 s.2 s.3
    ∙ ap (replaced_in (numbered t step) v) (changed-own edit s.0 s.1 steps u w fault s.4 s.5 is)
