-- A path, one step after another: what is held of the part so far.
use Rattle.std.proofs.Common.{ℕ, ◌+◌, ◌-◌, ◌<◌, ◌≤◌, ◌≡◌, List, [], ◌∷◌, length, take, drop, get_or, slice_range, Option, Some, None, option_map, Result, Ok, Err, refl, sym, ap, ap₂, ◌∙◌, subst, arith, drop-drop}
use Rattle.std.specs.Prelude.{option_and_then, unwrap_or, is_some, if◌then◌else◌, IfSome}
use Rattle.std.specs.Result.{result_map_both}
use Rattle.std.proofs.lemmas.List.{drop-take, take-take, drop_all}
use Rattle.ssz_schema.specs.format.Format.{Format}
use Rattle.ssz_schema.specs.declared.path.PathStep.{PathStep}
use Rattle.ssz_schema.specs.width.Width.TheVariants.{W64}
use Rattle.ssz_schema.specs.Types.{SszType, uint, boolean}
use Rattle.ssz_schema.specs.Legal.{IsLegal}
use Rattle.ssz_schema.specs.Paths.{Path, path_type, step_type}
use Rattle.ssz_schema.specs.Unfolding.{Types, type_of}
use Rattle.ssz_value.specs.Values.{SszValue}
use Rattle.ssz_value.specs.Faults.{first_fault}
use Rattle.ssz_value.specs.Reading.{value_in}
use Rattle.ssz_value.specs.Sizes.{size}
use Rattle.ssz_value.specs.Parts.{part, step_part, or_absent}
use Rattle.ssz_value.proofs.Agree.{IsInput, IsInput-range}
use Rattle.ssz_gindex.proofs.PathWalk.{rest_at}
use Rattle.ssz_slices.specs.declared.held.Held.{Held}
use Rattle.ssz_slices.specs.declared.held.Held.TheVariants.{Bytes, Bit, Count}
use Rattle.ssz_value.specs.declared.path_fault.PathFault.{PathFault}
use Rattle.ssz_value.specs.declared.path_fault.PathFault.TheVariants.{BadPath, Absent}
use Rattle.ssz_slices.specs.Place.{Span, within, span_of_part, step_span}
use Rattle.ssz_slices.specs.Part.{Part, placed, part_reached}
use Rattle.ssz_slices.specs.Held.{HeldHasType, IsStretch, held_value, held_span, held_from, held_moved}
use Rattle.ssz_slices.proofs.Leading.{IsAnswer, size_is}
use Rattle.ssz_slices.proofs.Spans.{length-stretch}
use Rattle.ssz_slices.proofs.Leads.{leads}

-- a stretch of a stretch
pub stretch_of : (b : List ℕ) (from to start end : ℕ) → from ≤ to → to ≤ length b → start ≤ end
    → end ≤ length (slice_range b from to)
    → slice_range (slice_range b from to) start end ≡ slice_range b (from + start) (from + end)
stretch_of b from to start end up inside low high =
    let long : length (slice_range b from to) ≡ to - from = length-stretch b from to up inside in
    let left : ℕ = to - from - start in
    let whole : start + (to - from - start) ≡ to - from = omega (arith, long) in
    let width : from + end - (from + start) ≡ end - start = omega arith in
    let less : end - start ≤ to - from - start = omega (arith, long) in
    ap (take (end - start)) (ap (λ n. drop start (take n (drop from b))) (sym whole)
    ∙ drop-take start (to - from - start) (drop from b))
    ∙ take-take (end - start) (to - from - start) (drop start (drop from b)) less
    ∙ ap₂ (λ n xs. take n xs) (sym width) (drop-drop start from b)

-- the stretch of a step, counted from the start of the part before
abbrev pub placed_step : Option Span → Option Span → Option Span
placed_step outer inner = option_and_then (λ span. option_map (within span) inner) outer

-- from a part that is held to the one to which a step leads
pub record Continues (t u : SszType) (b : List ℕ) (step : PathStep) (held next : Held)
    : Type 0 where
  pub part : step_part t (held_value t b held) step ≡ Some (held_value u b next)
  pub span : placed_step (held_span held) (step_span t (held_value t b held) step)
      ≡ held_span next
  pub holds : HeldHasType u b next

abbrev pub GoesOn : SszType → SszType → List ℕ → PathStep → Held → Option Held → Type 0
GoesOn t u b step held None = step_part t (held_value t b held) step ≡ None
GoesOn t u b step held (Some next) = Continues t u b step held next

within_stretch : (t u : SszType) (b : List ℕ) (step : PathStep) (from to : ℕ)
    → IsStretch t b from to → (answer : Option Held)
    → IsAnswer t u (slice_range b from to) step answer
    → GoesOn t u b step (Bytes from to) (option_map (held_moved from) answer)
within_stretch t u b step from to holds None is = is
within_stretch t u b step from to holds (Some (Bytes start end)) is =
    let long : length (slice_range b from to) ≡ to - from =
    length-stretch b from to holds.up holds.inside in
    let same = stretch_of b from to start end holds.up holds.inside is.holds.up is.holds.inside in
    let width : end - start ≡ from + end - (from + start) = omega arith in
    record {
      part = is.part ∙ ap (λ bytes. Some (value_in u bytes)) same;
      span = ap (option_map (within (from, to - from))) is.span
          ∙ ap (λ n. Some (from + start, n)) width;
      holds = record {
        up = omega (arith, is.holds.up);
        inside = omega (arith, holds.inside, holds.up, is.holds.inside, long);
        faultless = ap (first_fault u 0) (sym same) ∙ is.holds.faultless;
      };
    }
within_stretch t u b step from to holds (Some (Bit bit)) is = record {
  part = is.part;
  span = ap (option_map (within (from, to - from))) is.span;
  holds = is.holds;
}
within_stretch t u b step from to holds (Some (Count n)) is = record {
  part = is.part;
  span = ap (option_map (within (from, to - from))) is.span;
  holds = is.holds;
}

no_step : (u : SszType) (step : PathStep) → step_type boolean step ≡ Some u → ⊥
no_step u step e = cc

no_step_on : (u : SszType) (step : PathStep) → step_type (uint W64) step ≡ Some u → ⊥
no_step_on u step e = cc

pub goes_on : (format : Format) (t u : SszType) (b : List ℕ) (step : PathStep) (held : Held)
    → IsLegal format t → IsInput b → HeldHasType t b held → step_type t step ≡ Some u
    → GoesOn t u b step held (held_from t b step (Some held))
goes_on format t u b step (Bytes from to) legal input holds fits =
    within_stretch t u b step from to holds _
    (leads format t u (slice_range b from to) step legal (IsInput-range b from to input)
    holds.faultless fits)
goes_on format t u b step (Bit bit) legal input holds fits =
    absurd (no_step u step (ap (λ v. step_type v step) (sym holds) ∙ fits))
goes_on format t u b step (Count n) legal input holds fits =
    absurd (no_step_on u step (ap (λ v. step_type v step) (sym holds) ∙ fits))

-- The steps before the rest lead from the whole to this part.
pub record IsHere (whole : Part) (path : Path) (t : SszType) (held : Held) (rest : Path)
    : Type 0 where
  pub holds : HeldHasType t whole.input held
  pub part : part whole.form whole.value path ≡ part t (held_value t whole.input held) rest
  pub place : placed whole.place whole.form whole.value path
      ≡ placed (held_span held) t (held_value t whole.input held) rest

abbrev pub IsPresent : Part → Path → SszType → Option Held → Path → Type 0
IsPresent whole path t None rest = part whole.form whole.value path ≡ None
IsPresent whole path t (Some held) rest = IsHere whole path t held rest

pub record IsAlong (whole : Part) (path : Path) (t : SszType) (held : Option Held) (rest : Path)
    : Type 0 where
  pub fits : path_type whole.form path ≡ path_type t rest
  pub present : IsPresent whole path t held rest

placed_twice : (outer inner place : Option Span)
    → option_and_then (λ o. option_map (within o)
    (option_and_then (λ s. option_map (within s) place) inner)) outer
    ≡ option_and_then (λ s. option_map (within s) place) (placed_step outer inner)
placed_twice None inner place = refl
placed_twice (Some o) None place = refl
placed_twice (Some o) (Some s) None = refl
placed_twice (Some o) (Some s) (Some p) =
    let sum : o.0 + (s.0 + p.0) ≡ o.0 + s.0 + p.0 = omega arith in ap (λ n. Some (n, p.1)) sum

-- what a step that fits and leads to a part makes of the rest
pub part_next : (t u : SszType) (v w : SszValue) (step : PathStep) (rest : Path)
    → step_type t step ≡ Some u → step_part t v step ≡ Some w
    → part t v (step ∷ rest) ≡ part u w rest
part_next t u v w step rest fits is =
    ap (option_and_then (λ x. option_and_then (λ y. part x y rest) (step_part t v step))) fits
    ∙ ap (option_and_then (λ y. part u y rest)) is

pub part_none : (t u : SszType) (v : SszValue) (step : PathStep) (rest : Path)
    → step_type t step ≡ Some u → step_part t v step ≡ None → part t v (step ∷ rest) ≡ None
part_none t u v step rest fits is =
    ap (option_and_then (λ x. option_and_then (λ y. part x y rest) (step_part t v step))) fits
    ∙ ap (option_and_then (λ y. part u y rest)) is

-- the place of a path by its first step
abbrev place_by : PathStep → Path → Option SszType → Option SszValue → Option Span → Option Span
place_by step rest type piece span =
    option_and_then (λ s. option_and_then (λ x. option_and_then
    (λ y. option_map (within s) (span_of_part x y rest)) piece) type) span

pub place_next : (t u : SszType) (v w : SszValue) (step : PathStep) (rest : Path)
    → step_type t step ≡ Some u → step_part t v step ≡ Some w
    → span_of_part t v (step ∷ rest)
    ≡ option_and_then (λ s. option_map (within s) (span_of_part u w rest)) (step_span t v step)
place_next t u v w step rest fits is =
    ap (λ x. place_by step rest x (step_part t v step) (step_span t v step)) fits
    ∙ ap (λ y. place_by step rest (Some u) y (step_span t v step)) is

pub along-start : (whole : Part) (path : Path) (held : Held)
    → HeldHasType whole.form whole.input held
    → whole.value ≡ held_value whole.form whole.input held → whole.place ≡ held_span held
    → IsAlong whole path whole.form (Some held) path
along-start whole path held holds value span = record {
  fits = refl;
  present = record {
    holds = holds;
    part = ap (λ v. part whole.form v path) value;
    place = ap₂ (λ o v. placed o whole.form v path) span value;
  };
}

present_next : (whole : Part) (path : Path) (t u : SszType) (held : Held) (step : PathStep)
    (rest : Path) → IsHere whole path t held (step ∷ rest) → step_type t step ≡ Some u
    → (next : Option Held) → GoesOn t u whole.input step held next
    → IsPresent whole path u next rest
present_next whole path t u held step rest here fits None is =
    here.part ∙ part_none t u (held_value t whole.input held) step rest fits is
present_next whole path t u held step rest here fits (Some next) is =
    let v = held_value t whole.input held in
    let w = held_value u whole.input next in
    record {
      holds = is.holds;
      part = here.part ∙ part_next t u v w step rest fits is.part;
      place = here.place
          ∙ ap (λ p. option_and_then (λ o. option_map (within o) p) (held_span held))
          (place_next t u v w step rest fits is.part)
          ∙ placed_twice (held_span held) (step_span t v step) (span_of_part u w rest)
          ∙ ap (option_and_then (λ s. option_map (within s) (span_of_part u w rest))) is.span;
    }

pub along-step : (format : Format) (whole : Part) (path : Path) (t u : SszType)
    (held : Option Held) (step : PathStep) (rest : Path) → IsLegal format t
    → IsInput whole.input → IsAlong whole path t held (step ∷ rest) → step_type t step ≡ Some u
    → IsAlong whole path u (held_from t whole.input step held) rest
along-step format whole path t u None step rest legal input along fits = record {
  fits = along.fits ∙ ap (option_and_then (λ p. path_type p rest)) fits;
  present = along.present;
}
along-step format whole path t u (Some held) step rest legal input along fits = record {
  fits = along.fits ∙ ap (option_and_then (λ p. path_type p rest)) fits;
  present = present_next whole path t u held step rest along.present fits _
      (goes_on format t u whole.input step held legal input along.present.holds fits);
}

-- the answer at a path by its type, its part and its place
abbrev answer_by : Part → Option SszType → Option SszValue → Option Span → Result Part PathFault
answer_by whole type value place =
    result_map_both (λ v. record {
      form = unwrap_or type whole.form;
      value = v;
      input = whole.input;
      place = place;
    }) (λ fault. fault) (if is_some type then or_absent value else Err BadPath)

-- a step that does not fit
pub along-bad : (whole : Part) (path : Path) (t : SszType) (held : Option Held) (step : PathStep)
    (rest : Path) → IsAlong whole path t held (step ∷ rest) → step_type t step ≡ None
    → Err BadPath ≡ part_reached whole path
along-bad whole path t held step rest along misfits =
    sym (ap (λ x. answer_by whole x (part whole.form whole.value path)
    (placed whole.place whole.form whole.value path))
    (along.fits ∙ ap (option_and_then (λ p. path_type p rest)) misfits))

pub along-absent : (whole : Part) (path : Path) (t : SszType) → IsAlong whole path t None []
    → Err Absent ≡ part_reached whole path
along-absent whole path t along =
    let p = placed whole.place whole.form whole.value path in
    sym (ap (λ x. answer_by whole x (part whole.form whole.value path) p) along.fits
    ∙ ap (λ y. answer_by whole (Some t) y p) along.present)

-- the stretch of a part that is held is as long as its size says
held_placed : (format : Format) (t : SszType) (b : List ℕ) (held : Held) → IsLegal format t
    → IsInput b → HeldHasType t b held
    → placed (held_span held) t (held_value t b held) [] ≡ held_span held
held_placed format t b (Bytes from to) legal input holds =
    let long : size t (value_in t (slice_range b from to)) ≡ to - from =
    size_is format t legal 0 (slice_range b from to) (IsInput-range b from to input)
    holds.faultless ∙ length-stretch b from to holds.up holds.inside in
    let start : from + 0 ≡ from = omega arith in
    ap₂ (λ s n. Some (s, n)) start long
held_placed format t b (Bit bit) legal input holds = refl
held_placed format t b (Count n) legal input holds = refl

pub along-end : (format : Format) (whole : Part) (path : Path) (t : SszType) (held : Held)
    → IsLegal format t → IsInput whole.input → IsAlong whole path t (Some held) []
    → Ok (record {
      form = t;
      value = held_value t whole.input held;
      input = whole.input;
      place = held_span held;
    }) ≡ part_reached whole path
along-end format whole path t held legal input along =
    let p = placed whole.place whole.form whole.value path in
    let v = held_value t whole.input held in
    sym (ap (λ x. answer_by whole x (part whole.form whole.value path) p) along.fits
    ∙ ap (λ y. answer_by whole (Some t) y p) along.present.part
    ∙ ap (λ z. answer_by whole (Some t) (Some v) z) (along.present.place
    ∙ held_placed format t whole.input held legal input along.present.holds))

-- the next step of a path, that fits
pub along-next : (types : Types) (whole : Part) (path : Path) (id next i : ℕ)
    (held answer : Option Held) (step : PathStep)
    → IsLegal types.format (type_of types id) → IsInput whole.input
    → IsAlong whole path (type_of types id) held (drop i path) → i < length path
    → step ≡ get_or path i step → step_type (type_of types id) step ≡ Some (type_of types next)
    → answer ≡ held_from (type_of types id) whole.input step held
    → IsAlong whole path (type_of types next) answer (drop (i + 1) path)
along-next types whole path id next i held answer step legal input along below item fits answered =
    let t = type_of types id in
    let here = subst (IsAlong whole path t held) (rest_at path i step below item) along in
    subst (λ h. IsAlong whole path (type_of types next) h (drop (i + 1) path)) (sym answered)
    (along-step types.format whole path t (type_of types next) held step (drop (i + 1) path) legal
    input here fits)

pub present_holds : (whole : Part) (path : Path) (t : SszType) (held : Option Held) (rest : Path)
    → IsAlong whole path t held rest → IfSome held (HeldHasType t whole.input)
present_holds whole path t None rest along = tt
present_holds whole path t (Some held) rest along = along.present.holds

-- a path that has ended
pub along-done : (format : Format) (whole : Part) (path : Path) (t : SszType) (i : ℕ)
    (held : Held) (option : Option Held) → IsLegal format t → IsInput whole.input
    → IsAlong whole path t option (drop i path) → length path ≤ i → option ≡ Some held
    → Ok (record {
      form = t;
      value = held_value t whole.input held;
      input = whole.input;
      place = held_span held;
    }) ≡ part_reached whole path
along-done format whole path t i held option legal input along all is =
    along-end format whole path t held legal input
    (subst (λ rest. IsAlong whole path t (Some held) rest) (drop_all i path all)
    (subst (λ o. IsAlong whole path t o (drop i path)) is along))
