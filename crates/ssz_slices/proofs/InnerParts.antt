-- Which parts have a place: all but bits and lengths.
use Rattle.std.proofs.Common.{◌≡◌, ℕ, ◌-◌, ◌^◌, ◌<◌, Bool, true, false, not, cond, ◌||◌, eqb, ltb, List, [], ◌∷◌, length, slice_range, get_or, Option, Some, None, option_map, is_some, refl, sym, ap, ◌∙◌, subst}
use Rattle.std.specs.Prelude.{option_and_then, unwrap_or}
use Rattle.ssz_schema.specs.format.Format.{Format}
use Rattle.ssz_schema.specs.declared.path.PathStep.{PathStep}
use Rattle.ssz_schema.specs.declared.path.PathStep.TheVariants.{Field, Index, Len, Selector, Option as Chosen}
use Rattle.ssz_schema.specs.Types.{SszType, uint, boolean, container, vector, list, bitvector, bitlist, union}
use Rattle.ssz_schema.specs.Legal.{IsLegal}
use Rattle.ssz_schema.specs.Paths.{Path, path_type, step_type, field_type}
use Rattle.ssz_value.specs.Values.{SszValue}
use Rattle.ssz_value.specs.Faults.{first_fault}
use Rattle.ssz_value.specs.Reading.{value_in}
use Rattle.ssz_value.specs.Parts.{part}
use Rattle.ssz_value.proofs.Agree.{IsInput, IsInput-range}
use Rattle.ssz_value.proofs.ExactLaw.{agrees}
use Rattle.ssz_slices.specs.declared.held.Held.{Held}
use Rattle.ssz_slices.specs.declared.held.Held.TheVariants.{Bytes, Bit, Count}
use Rattle.ssz_slices.specs.Place.{Span, within, span_of_part}
use Rattle.ssz_slices.specs.Held.{held_at_step, held_span, stretch}
use Rattle.ssz_slices.specs.Laws.{is_inner, ends_inside, PlacesAreThere}
use Rattle.ssz_slices.proofs.Leading.{IsAnswer}
use Rattle.ssz_slices.proofs.Leads.{leads}
use Rattle.ssz_places.proofs.PathLaws.{step_legal}
use Rattle.ssz_slices.proofs.Along.{part_next, part_none, place_next}
use Rattle.ssz_slices.proofs.PlaceLaw.{first_type, no_value}

if_stretch : (there : Bool) (range : ℕ × ℕ) (held : Held)
    → cond there (Some (stretch range)) None ≡ Some held → is_some (held_span held) ≡ true
if_stretch true range held e =
    let same : stretch range ≡ held = cc in ap (λ h. is_some (held_span h)) (sym same)
if_stretch false range held e = cc

if_bit : (there bit : Bool) (held : Held) → cond there (Some (Bit bit)) None ≡ Some held
    → is_some (held_span held) ≡ false
if_bit true bit held e =
    let same : Bit bit ≡ held = cc in ap (λ h. is_some (held_span h)) (sym same)
if_bit false bit held e = cc

if_count : (n : ℕ) (held : Held) → Some (Count n) ≡ Some held → is_some (held_span held) ≡ false
if_count n held e =
    let same : Count n ≡ held = cc in ap (λ h. is_some (held_span h)) (sym same)

-- a step is told by what is held of the part to which it leads
inner_held : (t : SszType) (b : List ℕ) (step : PathStep) (held : Held)
    → held_at_step t b step ≡ Some held → is_some (held_span held) ≡ not (is_inner t step)
inner_held (container fs) b (Field name) held e =
    if_stretch (is_some (field_type fs name)) _ held e
inner_held (vector elem n) b (Index i) held e = if_stretch (ltb i n) _ held e
inner_held (list elem limit) b (Index i) held e = if_stretch _ _ held e
inner_held (list elem limit) b Len held e = if_count _ held e
inner_held (bitvector n) b (Index i) held e = if_bit (ltb i n) _ held e
inner_held (bitlist limit) b (Index i) held e = if_bit _ _ held e
inner_held (bitlist limit) b Len held e = if_count _ held e
inner_held (union os) b Selector held e = if_stretch true (0, 1) held e
inner_held (union os) b (Chosen k) held e =
    if_stretch (eqb (get_or b 0 0) k) (1, length b) held e
inner_held (uint w) b step held e = cc
inner_held boolean b step held e = cc
inner_held (container fs) b _ held e = cc
inner_held (vector elem n) b _ held e = cc
inner_held (list elem limit) b _ held e = cc
inner_held (bitvector n) b _ held e = cc
inner_held (bitlist limit) b _ held e = cc
inner_held (union os) b _ held e = cc

is_some-within : (outer : Span) (inner : Option Span)
    → is_some (option_map (within outer) inner) ≡ is_some inner
is_some-within outer None = refl
is_some-within outer (Some span) = refl

not_or : (inner more : Bool) → not inner ≡ true → not more ≡ not (inner || more)
not_or false more e = refl
not_or true more e = cc

not_or_inner : (inner more : Bool) → not inner ≡ false → false ≡ not (inner || more)
not_or_inner true more e = refl
not_or_inner false more e = cc

-- the law at the rest of a path
abbrev HoldsFrom : Path → SszType → SszValue → Type 0
HoldsFrom path x w =
    (c : List ℕ) → IsInput c → first_fault x 0 c ≡ None → part x (value_in x c) path ≡ Some w
    → is_some (span_of_part x (value_in x c) path) ≡ not (ends_inside x path)

step_there : (t x : SszType) (b : List ℕ) (step : PathStep) (path : Path) (w : SszValue)
    → IsInput b → step_type t step ≡ Some x → part t (value_in t b) (step ∷ path) ≡ Some w
    → HoldsFrom path x w → (answer : Option Held) → held_at_step t b step ≡ answer
    → IsAnswer t x b step answer
    → is_some (span_of_part t (value_in t b) (step ∷ path))
    ≡ not (is_inner t step || ends_inside x path)
step_there t x b step path w input fits is law None e found =
    absurd (no_value w (sym (part_none t x (value_in t b) step path fits found) ∙ is))
step_there t x b step path w input fits is law (Some (Bytes from to)) e found =
    let c = slice_range b from to in
    let piece = value_in x c in
    ap is_some (place_next t x (value_in t b) piece step path fits found.part
    ∙ ap (option_and_then (λ s. option_map (within s) (span_of_part x piece path))) found.span)
    ∙ is_some-within (from, to - from) (span_of_part x piece path)
    ∙ law c (IsInput-range b from to input) found.holds.faultless
    (sym (part_next t x (value_in t b) piece step path fits found.part) ∙ is)
    ∙ not_or (is_inner t step) (ends_inside x path) (sym (inner_held t b step (Bytes from to) e))
step_there t x b step path w input fits is law (Some (Bit bit)) e found =
    ap is_some (place_next t x (value_in t b) _ step path fits found.part
    ∙ ap (option_and_then (λ s. option_map (within s) (span_of_part x _ path))) found.span)
    ∙ not_or_inner (is_inner t step) (ends_inside x path) (sym (inner_held t b step (Bit bit) e))
step_there t x b step path w input fits is law (Some (Count n)) e found =
    ap is_some (place_next t x (value_in t b) _ step path fits found.part
    ∙ ap (option_and_then (λ s. option_map (within s) (span_of_part x _ path))) found.span)
    ∙ not_or_inner (is_inner t step) (ends_inside x path) (sym (inner_held t b step (Count n) e))

there : (format : Format) (path : Path) (t u : SszType) (b : List ℕ) (w : SszValue)
    → IsLegal format t → IsInput b → first_fault t 0 b ≡ None → path_type t path ≡ Some u
    → part t (value_in t b) path ≡ Some w
    → is_some (span_of_part t (value_in t b) path) ≡ not (ends_inside t path)
there format [] t u b w legal input h type is = refl
there format (step ∷ path) t u b w legal input h type is =
    let first = first_type (step_type t step) path u type in
    step_there t first.0 b step path w input first.1 is
    (λ c inside none piece. there format path first.0 u c w
    (step_legal format t step first.0 legal first.1) inside none first.2 piece)
    (held_at_step t b step) refl (leads format t first.0 b step legal input h first.1)
    ∙ ap (λ o. not (is_inner t step || ends_inside (unwrap_or o t) path)) (sym first.1)

pub places_there : PlacesAreThere
places_there format t v path u w b legal bytes short encodes type is =
    let input : IsInput b = record { bytes = bytes; short = short } in
    let read = (agrees format t legal).known 0 v encodes.fits
    (subst (λ (c : List ℕ). length c < 2 ^ 32) (sym encodes.bytes) short) in
    let value : v ≡ value_in t b = sym read.value ∙ ap (value_in t) encodes.bytes in
    ap (λ x. is_some (span_of_part t x path)) value
    ∙ there format path t u b w legal input
    (sym (ap (first_fault t 0) encodes.bytes) ∙ read.faultless)
    type (ap (λ x. part t x path) (sym value) ∙ is)
