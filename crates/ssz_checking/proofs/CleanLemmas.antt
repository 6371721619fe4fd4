-- Parts judged one after another, each as soon as it is known where it ends.
use Rattle.std.proofs.Common.{ℕ, ◌+◌, ◌-◌, ◌*◌, ◌<◌, ◌≤◌, ◌≡◌, inl, inr, Bool, true, not, is_some, is_ok, Result, Ok, Err, List, [], ◌∷◌, length, replicate, drop, get_or, slice_range, Option, Some, None, refl, sym, ap, subst, ◌∙◌, arith, le-ltb, eq-eqb}
use Rattle.std.specs.Result.{result_err}
use Rattle.std.proofs.lemmas.Bool.{cases_lt, cond-true, cond-false}
use Rattle.std.proofs.lemmas.List.{drop_all}
use Rattle.ssz_schema.specs.format.Format.{Format}
use Rattle.ssz_schema.specs.Types.{SszType, Fields, container, list, no_fields, field}
use Rattle.ssz_schema.specs.Sizes.{fixed_size}
use Rattle.ssz_schema.specs.Legal.{IsLegal}
use Rattle.ssz_schema.specs.Unfolding.{type_tree_at, fields_over}
use Rattle.ssz_schema.proofs.WalkFields.{drop_at}
use Rattle.ssz_bytes.specs.declared.fault.Fault.{Fault}
use Rattle.ssz_value.specs.Encoding.{heads_length}
use Rattle.ssz_value.specs.Faults.{first_fault, fields_fault, elements_fault, count_fault, element_count, head_fault, first_offset_fault, later_fault, next_offset, offset_at, scopes}
use Rattle.ssz_value.proofs.Agree.{IsInput, IsInput-range, no_fault, right_length}
use Rattle.ssz_value.proofs.Cut.{passed}
use Rattle.ssz_value.proofs.PartLemmas.{Part, sizes_of, size_at, sizes_from}
use Rattle.ssz_parts.proofs.Faultless.{anywhere}
use Rattle.ssz_parts.proofs.ElementFaults.{left, later-start, VariableFrom-end}
use Rattle.ssz_checking.specs.Clean.{HasNoFault, AreCleanBefore, Closes}
use Rattle.ssz_checking.proofs.BeforeLemmas.{before_none, before_variable, variable_after}

-- no fault is found
pub none_of : (fault : Option Fault) (told : Bool) → is_some fault ≡ not told → told ≡ true
    → fault ≡ None
none_of None told is holds = refl
none_of (Some found) told is holds = cc

pub none_of_ok : {X : Type 0} (found : Result X Fault) (told : Bool) → told ≡ is_ok found
    → told ≡ true → result_err found ≡ None
none_of_ok (Ok x) told is holds = refl
none_of_ok (Err fault) told is holds = cc

-- bytes without a fault at the start have none anywhere
pub lifted : (format : Format) (t u : SszType) (b : List ℕ) → t ≡ u → IsLegal format t → IsInput b
    → first_fault u 0 b ≡ None → HasNoFault t b
lifted format t u b is legal input none s =
    anywhere format t legal 0 s b input (ap (λ (ty : SszType). first_fault ty 0 b) is ∙ none)

-- a list has no fault where its number and its elements have none
pub list_none : (t : SszType) (size : Option ℕ) (limit count : ℕ) (b : List ℕ)
    → size ≡ fixed_size t → count ≡ element_count size b → count_fault size limit 0 b ≡ None
    → elements_fault (first_fault t) (fixed_size t) count 0 b ≡ None
    → first_fault (list t limit) 0 b ≡ None
list_none t size limit count b same number none clean =
    no_fault _ _ (ap (λ z. count_fault z limit 0 b) (sym same) ∙ none)
    (ap (λ n. elements_fault (first_fault t) (fixed_size t) n 0 b)
    (sym (number ∙ ap (λ z. element_count z b) same)) ∙ clean)

-- no elements have no fault
pub none_none : (child : ℕ → List ℕ → Option Fault) (count s : ℕ) (b : List ℕ) → count ≡ 0
    → length b ≡ 0 → elements_fault child None count s b ≡ None
none_none child count s b is e =
    ap (λ n. elements_fault child None n s b) is
    ∙ no_fault _ _ (right_length 0 s b e) refl

-- a later offset in order
later_step : (sizes : List (Option ℕ)) (place before s : ℕ) (b : List ℕ)
    → offset_at b place ≤ length b → before ≤ offset_at b place
    → later_fault sizes (place + 4) (offset_at b place) s b ≡ None
    → later_fault (None ∷ sizes) place before s b ≡ None
later_step sizes place before s b within up rest =
    passed _ _ _ (le-ltb (length b) (offset_at b place) within)
    (passed _ _ _ (le-ltb (offset_at b place) before up) rest)

-- the elements before element i, which begins at from, have no fault, nor have their offsets
pub record CleanSoFar (t : SszType) (count : ℕ) (b : List ℕ) (i from : ℕ) : Type 0 where
  pub here : i < count → from ≡ offset_at b (4 * i)
  pub room : 4 * count ≤ length b
  pub order : (s : ℕ) → later_fault (replicate (count - (i + 1)) None) (4 * i + 4)
      (offset_at b (4 * i)) s b ≡ None → head_fault (replicate count None) s b ≡ None
  pub before : AreCleanBefore t None count i b

pub CleanSoFar-start : (t : SszType) (count from : ℕ) (b : List ℕ)
    → 0 < count → 4 * count ≤ length b → offset_at b 0 ≡ 4 * count → from ≡ 4 * count
    → CleanSoFar t count b 0 from
CleanSoFar-start t count from b some room first is = record {
  here = λ below. is ∙ sym first;
  room = room;
  order = λ s rest. sym (later-start count (offset_at b 0) s b some room refl first) ∙ rest;
  before = before_none t None count b;
}

order_before : (count i s : ℕ) (b : List ℕ)
    → (i + 1 < count → offset_at b (4 * i + 4) ≤ length b)
    → (i + 1 < count → offset_at b (4 * i) ≤ offset_at b (4 * i + 4))
    → later_fault (replicate (count - (i + 1 + 1)) None) (4 * (i + 1) + 4)
    (offset_at b (4 * (i + 1))) s b ≡ None
    → later_fault (replicate (count - (i + 1)) None) (4 * i + 4) (offset_at b (4 * i)) s b ≡ None
order_before count i s b within up rest =
    let place : 4 * i + 4 ≡ 4 * (i + 1) = omega arith in
    elim (cases_lt (i + 1) count) [
      | inl more ↦ ap (λ n. later_fault (replicate n None) (4 * i + 4) (offset_at b (4 * i)) s b)
          (left count (i + 1) more)
          ∙ later_step (replicate (count - (i + 1 + 1)) None) (4 * i + 4) (offset_at b (4 * i)) s b
          (within more) (up more)
          (ap (λ p. later_fault (replicate (count - (i + 1 + 1)) None) (p + 4) (offset_at b p) s b)
          place ∙ rest)
      | inr last ↦ ap (λ n. later_fault (replicate n None) (4 * i + 4) (offset_at b (4 * i)) s b)
          (none_left count i last)
    ]
  where
    none_left : (count i : ℕ) → count ≤ i + 1 → count - (i + 1) ≡ 0
    none_left count i h = omega arith

next_at : (count i : ℕ) (b : List ℕ) → i + 1 < count
    → next_offset (replicate (count - (i + 1)) None) (4 * i + 4) b ≡ offset_at b (4 * i + 4)
next_at count i b more =
    ap (λ n. next_offset (replicate n None) (4 * i + 4) b) (left count (i + 1) more)

pub CleanSoFar-more : (t : SszType) (count i from to : ℕ) (b : List ℕ)
    → CleanSoFar t count b i from → i < count
    → to ≡ next_offset (replicate (count - (i + 1)) None) (4 * i + 4) b → from ≤ to
    → to ≤ length b → HasNoFault t (slice_range b from to)
    → CleanSoFar t count b (i + 1) to
CleanSoFar-more t count i from to b h below is up within clean =
    let place : 4 * i + 4 ≡ 4 * (i + 1) = omega arith in
    let begin : from ≡ offset_at b (4 * i) = h.here below in
    record {
      here = λ more. is ∙ next_at count i b more ∙ ap (offset_at b) place;
      room = h.room;
      order = λ s rest. h.order s (order_before count i s b
          (λ more. omega (arith, within, is, next_at count i b more))
          (λ more. omega (arith, up, begin, is, next_at count i b more)) rest);
      before = before_variable t count i from to b h.before below begin is clean;
    }

-- the same where the element is told by its form, and has no fault at the start
pub lifted_more : (format : Format) (t u : SszType) (count i from to : ℕ) (b : List ℕ) → t ≡ u
    → IsLegal format t → IsInput b → CleanSoFar t count b i from → i < count
    → to ≡ next_offset (replicate (count - (i + 1)) None) (4 * i + 4) b → from ≤ to
    → to ≤ length b → first_fault u 0 (slice_range b from to) ≡ None
    → CleanSoFar t count b (i + 1) to
lifted_more format t u count i from to b form legal input h below is up within clean =
    CleanSoFar-more t count i from to b h below is up within
    (lifted format t u (slice_range b from to) form legal (IsInput-range b from to input) clean)

pub CleanSoFar-end : (t : SszType) (count i from : ℕ) (b : List ℕ)
    → CleanSoFar t count b i from → count ≤ i → (s : ℕ)
    → elements_fault (first_fault t) None count s b ≡ None
CleanSoFar-end t count i from b h all s =
    let no_more : count - (i + 1) ≡ 0 = omega (arith, all) in
    let head : head_fault (replicate count None) s b ≡ None =
    h.order s
    (ap (λ n. later_fault (replicate n None) (4 * i + 4) (offset_at b (4 * i)) s b) no_more) in
    VariableFrom-end (first_fault t) count s b i (variable_after t count s i b head h.before) all

-- what is left to show of fields whose fixed parts begin at place, where the variable part before
-- them begins at from
abbrev pub FieldsLeft : List SszType → List (Option ℕ) → Fields → ℕ → ℕ → Option ℕ → ℕ → List ℕ
    → Type 0
FieldsLeft trees sizes fs end place None from b =
    (first_offset_fault sizes place end 0 b ≡ None)
    × (fields_fault fs 0 (scopes sizes place b) ≡ None)
FieldsLeft trees sizes fs end place (Some part) from b =
    (later_fault sizes place from 0 b ≡ None)
    × HasNoFault (type_tree_at trees part) (slice_range b from (next_offset sizes place b))
    × (fields_fault fs 0 (scopes sizes place b) ≡ None)

-- where no variable part was, the first is to begin where the fixed parts end
abbrev pub BeginsAt : Option ℕ → ℕ → ℕ → Type 0
BeginsAt None from end = from ≡ end
BeginsAt (Some part) from end = Unit {0}

left_fixed : (trees : List SszType) (sizes : List (Option ℕ)) (name : List ℕ) (t : SszType)
    (fs : Fields) (end place z : ℕ) (last : Option ℕ) (from : ℕ) (b : List ℕ)
    → HasNoFault t (slice_range b place (place + z))
    → FieldsLeft trees sizes fs end (place + z) last from b
    → FieldsLeft trees (Some z ∷ sizes) (field name t fs) end place last from b
left_fixed trees sizes name t fs end place z None from b clean h =
    (h.0, no_fault _ _ (clean (0 + place)) h.1)
left_fixed trees sizes name t fs end place z (Some part) from b clean h =
    (h.0, h.1, no_fault _ _ (clean (0 + place)) h.2)

left_variable : (trees : List SszType) (sizes : List (Option ℕ)) (name : List ℕ) (id : ℕ)
    (fs : Fields) (end place : ℕ) (last : Option ℕ) (from to : ℕ) (b : List ℕ)
    → to ≡ offset_at b place → Closes trees last from to b → BeginsAt last from end
    → FieldsLeft trees sizes fs end (place + 4) (Some id) to b
    → FieldsLeft trees (None ∷ sizes) (field name (type_tree_at trees id) fs) end place last from b
left_variable trees sizes name id fs end place None from to b is closes begins h =
    let there : to ≡ end = closes ∙ begins in (
      cond-true _ _ _ (eq-eqb (offset_at b place) end (sym is ∙ there))
          ∙ ap (λ (o : ℕ). later_fault sizes (place + 4) o 0 b) (sym there) ∙ h.0,
      no_fault _ _
          (ap (λ (o : ℕ). first_fault (type_tree_at trees id) (0 + offset_at b place)
          (slice_range b o (next_offset sizes (place + 4) b))) (sym is)
          ∙ h.1 (0 + offset_at b place))
          h.2,
    )
left_variable trees sizes name id fs end place (Some part) from to b is closes begins h = (
  later_step sizes place from 0 b (omega (arith, is, closes.1)) (omega (arith, is, closes.0))
      (ap (λ (o : ℕ). later_fault sizes (place + 4) o 0 b) (sym is) ∙ h.0),
  λ s. ap (λ (o : ℕ). first_fault (type_tree_at trees part) s (slice_range b from o)) (sym is)
      ∙ closes.2 s,
  no_fault _ _
      (ap (λ (o : ℕ). first_fault (type_tree_at trees id) (0 + offset_at b place)
      (slice_range b o (next_offset sizes (place + 4) b))) (sym is)
      ∙ h.1 (0 + offset_at b place))
      h.2,
)

left_none : (trees : List SszType) (end place : ℕ) (last : Option ℕ) (from : ℕ) (b : List ℕ)
    → Closes trees last from (length b) b → BeginsAt last from end
    → FieldsLeft trees [] no_fields end place last from b
left_none trees end place None from b closes begins =
    (cond-false _ _ _ (le-ltb end (length b) (omega (arith, closes, begins))), refl)
left_none trees end place (Some part) from b closes begins = (refl, closes.2, refl)

-- the fields before that at i have no fault, but for the last variable part, which begins at from
pub record FieldsSoFar (trees : List SszType) (parts : List Part) (b : List ℕ)
    (end i place : ℕ) (last : Option ℕ) (from : ℕ) : Type 0 where
  pub all : FieldsLeft trees (sizes_of trees (drop i parts)) (fields_over trees (drop i parts)) end
      place last from b
      → first_fault (container (fields_over trees parts)) 0 b ≡ None
  pub heads : place + heads_length (sizes_of trees (drop i parts)) ≤ end
  pub room : end ≤ length b
  pub begins : BeginsAt last from end

pub FieldsSoFar-start : (trees : List SszType) (parts : List Part) (b : List ℕ) (end : ℕ)
    → end ≡ heads_length (sizes_of trees parts) → end ≤ length b
    → FieldsSoFar trees parts b end 0 0 None end
FieldsSoFar-start trees parts b end whole room = record {
  all = λ h. no_fault _ _
      (cond-false _ _ _ (le-ltb (length b) (heads_length (sizes_of trees parts))
      (omega (arith, room, whole)))
      ∙ ap (λ (e : ℕ). first_offset_fault (sizes_of trees parts) 0 e 0 b) (sym whole) ∙ h.0)
      h.1;
  heads = omega (arith, whole);
  room = room;
  begins = refl;
}

pub fixed_room : (trees : List SszType) (parts : List Part) (b : List ℕ) (end i place : ℕ)
    (last : Option ℕ) (from : ℕ) (part : Part) (z : ℕ)
    → FieldsSoFar trees parts b end i place last from → i < length parts
    → part ≡ get_or parts i part → size_at trees part ≡ Some z → place + z ≤ length b
fixed_room trees parts b end i place last from part z h below e size =
    let here : sizes_of trees (drop i parts) ≡ Some z ∷ sizes_of trees (drop (i + 1) parts) =
    sizes_from trees parts i part below e
    ∙ ap (λ s. s ∷ sizes_of trees (drop (i + 1) parts)) size in
    omega (arith, h.heads, h.room, ap heads_length here)

pub offset_room : (trees : List SszType) (parts : List Part) (b : List ℕ) (end i place : ℕ)
    (last : Option ℕ) (from : ℕ) (part : Part)
    → FieldsSoFar trees parts b end i place last from → i < length parts
    → part ≡ get_or parts i part → size_at trees part ≡ None → place + 4 ≤ length b
offset_room trees parts b end i place last from part h below e size =
    let here : sizes_of trees (drop i parts) ≡ None ∷ sizes_of trees (drop (i + 1) parts) =
    sizes_from trees parts i part below e
    ∙ ap (λ s. s ∷ sizes_of trees (drop (i + 1) parts)) size in
    omega (arith, h.heads, h.room, ap heads_length here)

pub FieldsSoFar-fixed : (trees : List SszType) (parts : List Part) (b : List ℕ) (end i place : ℕ)
    (last : Option ℕ) (from : ℕ) (part : Part) (z : ℕ)
    → FieldsSoFar trees parts b end i place last from → i < length parts
    → part ≡ get_or parts i part → size_at trees part ≡ Some z
    → HasNoFault (type_tree_at trees part.1) (slice_range b place (place + z))
    → FieldsSoFar trees parts b end (i + 1) (place + z) last from
FieldsSoFar-fixed trees parts b end i place last from part z h below e size clean =
    let here : sizes_of trees (drop i parts) ≡ Some z ∷ sizes_of trees (drop (i + 1) parts) =
    sizes_from trees parts i part below e
    ∙ ap (λ s. s ∷ sizes_of trees (drop (i + 1) parts)) size in
    let fields : fields_over trees (drop i parts)
    ≡ field part.0 (type_tree_at trees part.1) (fields_over trees (drop (i + 1) parts)) =
    ap (fields_over trees) (drop_at parts i part below e) in
    record {
      all = λ rest. h.all
          (subst (λ (fs : Fields). FieldsLeft trees (sizes_of trees (drop i parts)) fs end place
          last from b) (sym fields)
          (subst (λ (sizes : List (Option ℕ)). FieldsLeft trees sizes
          (field part.0 (type_tree_at trees part.1) (fields_over trees (drop (i + 1) parts))) end
          place last from b) (sym here)
          (left_fixed trees (sizes_of trees (drop (i + 1) parts)) part.0
          (type_tree_at trees part.1) (fields_over trees (drop (i + 1) parts)) end place z last
          from b clean rest)));
      heads = omega (arith, h.heads, ap heads_length here);
      room = h.room;
      begins = h.begins;
    }

pub FieldsSoFar-variable : (trees : List SszType) (parts : List Part) (b : List ℕ)
    (end i place : ℕ) (last : Option ℕ) (from to : ℕ) (part : Part)
    → FieldsSoFar trees parts b end i place last from → i < length parts
    → part ≡ get_or parts i part → size_at trees part ≡ None → to ≡ offset_at b place
    → Closes trees last from to b
    → FieldsSoFar trees parts b end (i + 1) (place + 4) (Some part.1) to
FieldsSoFar-variable trees parts b end i place last from to part h below e size is closes =
    let here : sizes_of trees (drop i parts) ≡ None ∷ sizes_of trees (drop (i + 1) parts) =
    sizes_from trees parts i part below e
    ∙ ap (λ s. s ∷ sizes_of trees (drop (i + 1) parts)) size in
    let fields : fields_over trees (drop i parts)
    ≡ field part.0 (type_tree_at trees part.1) (fields_over trees (drop (i + 1) parts)) =
    ap (fields_over trees) (drop_at parts i part below e) in
    record {
      all = λ rest. h.all
          (subst (λ (fs : Fields). FieldsLeft trees (sizes_of trees (drop i parts)) fs end place
          last from b) (sym fields)
          (subst (λ (sizes : List (Option ℕ)). FieldsLeft trees sizes
          (field part.0 (type_tree_at trees part.1) (fields_over trees (drop (i + 1) parts))) end
          place last from b) (sym here)
          (left_variable trees (sizes_of trees (drop (i + 1) parts)) part.0 part.1
          (fields_over trees (drop (i + 1) parts)) end place last from to b is closes h.begins
          rest)));
      heads = omega (arith, h.heads, ap heads_length here);
      room = h.room;
      begins = tt;
    }

pub FieldsSoFar-end : (trees : List SszType) (parts : List Part) (b : List ℕ) (end i place : ℕ)
    (last : Option ℕ) (from : ℕ) → FieldsSoFar trees parts b end i place last from
    → length parts ≤ i → Closes trees last from (length b) b
    → first_fault (container (fields_over trees parts)) 0 b ≡ None
FieldsSoFar-end trees parts b end i place last from h all closes =
    h.all (subst (λ (ps : List Part). FieldsLeft trees (sizes_of trees ps) (fields_over trees ps)
    end place last from b) (sym (drop_all i parts all))
    (left_none trees end place last from b closes h.begins))
