-- Types that are lists or bitlists, and the edits of their values.
use Rattle.std.proofs.Common.{ltb, eqb, ◌≡◌, ℕ, ◌^◌, ◌<◌, ◌≤◌, true, not, [], ◌∷◌, length, refl, sym, ap, ◌∙◌, subst, Some, None, Ok, Err, arith, inl, inr}
use Rattle.std.specs.Prelude.{◌&&◌}
use Rattle.std.proofs.lemmas.Bool.{cases_Bool, cond-true, cond-false, false≢true, lt-ltb, le-ltb, eq-eqb, ne_eqb}
use Rattle.std.proofs.lemmas.Option.{none-some, same_Some}
use Rattle.ssz_schema.specs.format.Format.{Format}
use Rattle.ssz_schema.specs.declared.path.PathStep.{PathStep}
use Rattle.ssz_schema.specs.declared.path.PathStep.TheVariants.{Field, Index, Len, Selector, Option as Chosen}
use Rattle.ssz_schema.specs.Types.{SszType, uint, boolean, container, vector, list, bitvector, bitlist, union}
use Rattle.ssz_schema.specs.Sizes.{basic_size}
use Rattle.ssz_schema.specs.Legal.{IsLegal}
use Rattle.ssz_schema.specs.Paths.{Path, path_type, step_type}
use Rattle.ssz_schema.specs.Indices.{Spot, whole, byte, bit}
use Rattle.ssz_schema.proofs.PathLemmas.{and_then_parts}
use Rattle.ssz_value.specs.declared.value.Value.{Value}
use Rattle.ssz_value.specs.declared.edit_fault.EditFault.TheVariants.{NotThat, Full, Empty}
use Rattle.ssz_value.specs.Values.{SszValue, truth, sequence, bits, items, Fits}
use Rattle.ssz_value.specs.Standing.{value_of, IsValue}
use Rattle.ssz_value.specs.Edits.{with_more, with_less}
use Rattle.ssz_value.specs.Suiting.{IsElement}
use Rattle.ssz_places.specs.Spots.{LiesWithin}
use Rattle.ssz_places.specs.EditLaws.{is_changeable, is_mixed_in, IsCounted, count_of, element_type}
use Rattle.ssz_places.proofs.Steps.{limits_small}
use Rattle.ssz_edit.specs.Slots.{slot_limit}

-- a list or bitlist
pub counted_where : (u : SszType) (n : ℕ) → slot_limit u ≡ Some n → IsCounted u
counted_where (list elem limit) n is = tt
counted_where (bitlist limit) n is = tt
counted_where _ n is = absurd (none-some n is)

-- no other type is edited so
pub not_more : (u : SszType) (new w : SszValue) → slot_limit u ≡ None
    → with_more new u w ≡ Err NotThat
not_more (list elem limit) new w none = absurd (none-some limit (sym none))
not_more (bitlist limit) new w none = absurd (none-some limit (sym none))
not_more _ new w none = refl

pub not_less : (u : SszType) (w : SszValue) → slot_limit u ≡ None → with_less u w ≡ Err NotThat
not_less (list elem limit) w none = absurd (none-some limit (sym none))
not_less (bitlist limit) w none = absurd (none-some limit (sym none))
not_less _ w none = refl

-- it is a whole node
pub whole_counted : (u : SszType) (s : Spot) → IsCounted u → LiesWithin u s → s ≡ whole
whole_counted u whole counted _ = refl
whole_counted (list elem n) (byte at) counted lies = absurd (none-some lies.0 lies.1)
whole_counted (bitlist n) (byte at) counted lies = absurd (none-some lies.0 lies.1)
whole_counted u (bit at) counted lies = absurd (subst IsCounted lies.0 counted)
whole_counted _ (byte at) counted _ = absurd counted

-- no step goes on from a length or a selector, and neither is a list
counted_step : (t : SszType) (step : PathStep) (s : SszType) → is_mixed_in step ≡ true
    → step_type t step ≡ Some s → basic_size s ≡ None → (X : Type 0) → X
counted_step (list t n) Len s counts typed none X =
    absurd (none-some _ (sym (ap basic_size (same_Some _ s typed) ∙ none)))
counted_step (bitlist n) Len s counts typed none X =
    absurd (none-some _ (sym (ap basic_size (same_Some _ s typed) ∙ none)))
counted_step (union os) Selector s counts typed none X =
    absurd (none-some _ (sym (ap basic_size (same_Some _ s typed) ∙ none)))
counted_step t (Field name) s counts typed none X = absurd (false≢true counts)
counted_step t (Index i) s counts typed none X = absurd (false≢true counts)
counted_step t (Chosen k) s counts typed none X = absurd (false≢true counts)
counted_step _ _ s counts typed none X = absurd (none-some s typed)

-- a type with steps, or a list, is not basic
parted : (s : SszType) (path : Path) (u : SszType) → path_type s path ≡ Some u
    → basic_size u ≡ None → basic_size s ≡ None
parted s [] u typed none = ap basic_size (same_Some s u typed) ∙ none
parted (uint w) (step ∷ path) u typed none = absurd (none-some u typed)
parted boolean (step ∷ path) u typed none = absurd (none-some u typed)
parted (container fs) (step ∷ path) u typed none = refl
parted (vector t n) (step ∷ path) u typed none = refl
parted (list t n) (step ∷ path) u typed none = refl
parted (bitvector n) (step ∷ path) u typed none = refl
parted (bitlist n) (step ∷ path) u typed none = refl
parted (union os) (step ∷ path) u typed none = refl

-- so the way to a composite part can be changed
pub changeable_composite : (t : SszType) (path : Path) (u : SszType) → path_type t path ≡ Some u
    → basic_size u ≡ None → is_changeable path ≡ true
changeable_composite t [] u typed none = refl
changeable_composite t (step ∷ path) u typed none =
    let next = and_then_parts (λ s. path_type s path) (step_type t step) u typed in
    elim (cases_Bool (is_mixed_in step)) [
      | inl counts ↦
          counted_step t step next.0 counts next.1 (parted next.0 path u next.2 none)
          (is_changeable (step ∷ path) ≡ true)
      | inr free ↦
          ap (λ b. not b && is_changeable path) free
          ∙ changeable_composite next.0 path u next.2 none
    ]

pub composite_counted : (u : SszType) → IsCounted u → basic_size u ≡ None
composite_counted (list elem n) counted = refl
composite_counted (bitlist n) counted = refl
composite_counted _ counted = absurd counted

-- what an element is one of
pub element_fits : (u : SszType) (value : Value) → IsCounted u → IsElement u value
    → Fits (element_type u) (value_of value)
element_fits (list elem n) value counted is = is.fits
element_fits (bitlist n) value counted is = is.fits
element_fits _ value counted is = absurd counted

pub element_is : (u : SszType) (value : Value) → IsCounted u → IsElement u value
    → IsValue (element_type u) value
element_is (list elem n) value counted is = is
element_is (bitlist n) value counted is = is
element_is _ value counted is = absurd counted

pub element_legal : (format : Format) (u : SszType) → IsCounted u → IsLegal format u
    → IsLegal format (element_type u)
element_legal format (list elem n) counted legal = legal.0
element_legal format (bitlist n) counted legal = tt
element_legal format _ counted legal = absurd counted

-- a step to an element below the limit
pub element_step : (u : SszType) (limit i : ℕ) → slot_limit u ≡ Some limit → i < limit
    → step_type u (Index i) ≡ Some (element_type u)
element_step (list elem n) limit i is within =
    let same : n ≡ limit = same_Some n limit is in
    cond-true (ltb i n) (Some elem) None (lt-ltb i n (omega (arith, same, within)))
element_step (bitlist n) limit i is within =
    let same : n ≡ limit = same_Some n limit is in
    cond-true (ltb i n) (Some boolean) None (lt-ltb i n (omega (arith, same, within)))
element_step _ limit i is within = absurd (none-some limit is)

-- the list is full, or takes the element
pub more_full : (u : SszType) (limit : ℕ) (new w : SszValue) → slot_limit u ≡ Some limit
    → Fits u w → Fits (element_type u) new → limit ≤ count_of w → with_more new u w ≡ Err Full
more_full (list elem n) limit new (sequence vs) is fit fits past =
    let same : n ≡ limit = same_Some n limit is in
    cond-false (ltb (length (items vs)) n) _ _
    (le-ltb (length (items vs)) n (omega (arith, same, past)))
more_full (bitlist n) limit (truth b) (bits bs) is fit fits past =
    let same : n ≡ limit = same_Some n limit is in
    cond-false (ltb (length bs) n) _ _ (le-ltb (length bs) n (omega (arith, same, past)))
more_full (list elem n) limit new _ is fit fits past = absurd fit
more_full (bitlist n) limit _ (bits bs) is fit fits past = absurd fits
more_full (bitlist n) limit new _ is fit fits past = absurd fit
more_full _ limit new w is fit fits past = absurd (none-some limit is)

pub more_made : (u : SszType) (limit : ℕ) (new w : SszValue) → slot_limit u ≡ Some limit
    → Fits u w → Fits (element_type u) new → count_of w < limit
    → (y : SszValue) × (with_more new u w ≡ Ok y)
more_made (list elem n) limit new (sequence vs) is fit fits within =
    let same : n ≡ limit = same_Some n limit is in (
      _,
      cond-true (ltb (length (items vs)) n) _ _
          (lt-ltb (length (items vs)) n (omega (arith, same, within))),
    )
more_made (bitlist n) limit (truth b) (bits bs) is fit fits within =
    let same : n ≡ limit = same_Some n limit is in
    (_, cond-true (ltb (length bs) n) _ _ (lt-ltb (length bs) n (omega (arith, same, within))))
more_made (list elem n) limit new _ is fit fits within = absurd fit
more_made (bitlist n) limit _ (bits bs) is fit fits within = absurd fits
more_made (bitlist n) limit new _ is fit fits within = absurd fit
more_made _ limit new w is fit fits within = absurd (none-some limit is)

-- the list is empty, or gives up an element
pub less_empty : (u : SszType) (w : SszValue) → IsCounted u → Fits u w → count_of w ≡ 0
    → with_less u w ≡ Err Empty
less_empty (list elem n) (sequence vs) counted fit none =
    cond-true (eqb (length (items vs)) 0) _ _ (eq-eqb (length (items vs)) 0 none)
less_empty (bitlist n) (bits bs) counted fit none =
    cond-true (eqb (length bs) 0) _ _ (eq-eqb (length bs) 0 none)
less_empty (list elem n) _ counted fit none = absurd fit
less_empty (bitlist n) _ counted fit none = absurd fit
less_empty _ w counted fit none = absurd counted

pub less_made : (u : SszType) (w : SszValue) → IsCounted u → Fits u w → 0 < count_of w
    → (y : SszValue) × (with_less u w ≡ Ok y)
less_made (list elem n) (sequence vs) counted fit some = (
  _,
  cond-false (eqb (length (items vs)) 0) _ _
      (ne_eqb (length (items vs)) 0 (λ none. omega arith)),
)
less_made (bitlist n) (bits bs) counted fit some =
    (_, cond-false (eqb (length bs) 0) _ _ (ne_eqb (length bs) 0 (λ none. omega arith)))
less_made (list elem n) _ counted fit some = absurd fit
less_made (bitlist n) _ counted fit some = absurd fit
less_made _ w counted fit some = absurd counted

-- a list has as many elements as its limit, and no more than a u64 counts
pub count_small : (format : Format) (u : SszType) (limit : ℕ) (w : SszValue)
    → slot_limit u ≡ Some limit → IsLegal format u → Fits u w
    → (count_of w ≤ limit) × (count_of w < 2 ^ 64)
count_small format (list elem n) limit (sequence vs) is legal fit =
    let same : n ≡ limit = same_Some n limit is in
    (omega (arith, same, fit.0), omega (arith, fit.0, legal.1, limits_small format))
count_small format (bitlist n) limit (bits bs) is legal fit =
    let same : n ≡ limit = same_Some n limit is in
    (omega (arith, same, fit), omega (arith, fit, legal.0, limits_small format))
count_small format (list elem n) limit _ is legal fit = absurd fit
count_small format (bitlist n) limit _ is legal fit = absurd fit
count_small format _ limit w is legal fit = absurd (none-some limit is)
