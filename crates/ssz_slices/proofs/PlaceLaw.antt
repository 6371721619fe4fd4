-- Along a path, the encoding of the part stands at its place.
use Rattle.std.proofs.Common.{ℕ, ◌+◌, ◌-◌, ◌^◌, ◌<◌, ◌≤◌, ◌≡◌, List, [], ◌∷◌, length, slice_range, Option, Some, None, option_map, refl, sym, ap, ◌∙◌, subst, arith}
use Rattle.std.specs.Prelude.{option_and_then}
use Rattle.std.proofs.lemmas.List.{take_all}
use Rattle.ssz_schema.specs.format.Format.{Format}
use Rattle.ssz_schema.specs.declared.path.PathStep.{PathStep}
use Rattle.ssz_schema.specs.Types.{SszType}
use Rattle.ssz_schema.specs.Legal.{IsLegal}
use Rattle.ssz_schema.specs.Paths.{Path, path_type, step_type}
use Rattle.ssz_value.specs.Values.{SszValue}
use Rattle.ssz_value.specs.Encoding.{serialize}
use Rattle.ssz_value.specs.Sizes.{size}
use Rattle.ssz_value.specs.Faults.{first_fault}
use Rattle.ssz_value.specs.Reading.{value_in}
use Rattle.ssz_value.specs.Parts.{part}
use Rattle.ssz_value.proofs.Agree.{IsInput, IsInput-range}
use Rattle.ssz_value.proofs.ExactLaw.{agrees}
use Rattle.ssz_slices.specs.declared.held.Held.{Held}
use Rattle.ssz_slices.specs.declared.held.Held.TheVariants.{Bytes, Bit, Count}
use Rattle.ssz_slices.specs.Place.{Span, within, span_of_part}
use Rattle.ssz_slices.specs.Part.{span_bytes}
use Rattle.ssz_slices.specs.Held.{held_at_step}
use Rattle.ssz_slices.specs.Laws.{PlacesHoldEncodings}
use Rattle.ssz_slices.proofs.Leading.{IsAnswer, size_is}
use Rattle.ssz_slices.proofs.Leads.{leads}
use Rattle.ssz_places.proofs.PathLaws.{step_legal}
use Rattle.ssz_slices.proofs.Along.{part_next, part_none, place_next, stretch_of}
use Rattle.ssz_slices.proofs.Spans.{length-stretch}

-- the encoding of the part stands in the bytes, within them
pub record StandsAt (b : List ℕ) (u : SszType) (w : SszValue) (span : Span) : Type 0 where
  pub bytes : span_bytes b span ≡ serialize u w
  pub inside : span.0 + span.1 ≤ length b

whole_stands : (format : Format) (t : SszType) (b : List ℕ) → IsLegal format t → IsInput b
    → first_fault t 0 b ≡ None → StandsAt b t (value_in t b) (0, size t (value_in t b))
whole_stands format t b legal input h =
    let long = size_is format t legal 0 b input h in
    record {
      bytes = take_all (0 + size t (value_in t b) - 0) b (omega (arith, long))
          ∙ sym ((agrees format t legal).only 0 b input h).bytes;
      inside = omega (arith, long);
    }

-- a part that stands in a stretch
deeper : (b : List ℕ) (from to : ℕ) (u : SszType) (w : SszValue) (inner : Span) → from ≤ to
    → to ≤ length b → StandsAt (slice_range b from to) u w inner
    → StandsAt b u w (within (from, to - from) inner)
deeper b from to u w inner up inside stands =
    let sum : from + (inner.0 + inner.1) ≡ from + inner.0 + inner.1 = omega arith in
    let long = length-stretch b from to up inside in
    record {
      bytes = ap (slice_range b (from + inner.0)) (sym sum)
          ∙ sym (stretch_of b from to inner.0 (inner.0 + inner.1) up inside (omega arith)
          stands.inside) ∙ stands.bytes;
      inside = omega (arith, long, stands.inside);
    }

-- what the place of the rest of a path is, where the whole place is there
inner_of : (outer : Span) (rest : Option Span) (span : Span)
    → option_map (within outer) rest ≡ Some span
    → (inner : Span) × (rest ≡ Some inner) × (within outer inner ≡ span)
inner_of outer None span e = cc
inner_of outer (Some inner) span e = (inner, refl, same (within outer inner) span e)
  where
    same : (a b : Span) → Some a ≡ Some b → a ≡ b
    same a b e = cc

-- the law at the rest of a path
abbrev HoldsFrom : Path → SszType → SszType → SszValue → Type 0
HoldsFrom path x u w =
    (c : List ℕ) (inner : Span) → IsInput c → first_fault x 0 c ≡ None
    → part x (value_in x c) path ≡ Some w → span_of_part x (value_in x c) path ≡ Some inner
    → StandsAt c u w inner

pub no_value : (w : SszValue) → None ≡ Some w → ⊥
no_value w e = cc

no_span : (span : Span) → None ≡ Some span → ⊥
no_span span e = cc

step_stands : (t x u : SszType) (b : List ℕ) (step : PathStep) (path : Path) (w : SszValue)
    (span : Span) → IsInput b → step_type t step ≡ Some x
    → part t (value_in t b) (step ∷ path) ≡ Some w
    → span_of_part t (value_in t b) (step ∷ path) ≡ Some span → HoldsFrom path x u w
    → (answer : Option Held) → IsAnswer t x b step answer → StandsAt b u w span
step_stands t x u b step path w span input fits is at law None found =
    absurd (no_value w (sym (part_none t x (value_in t b) step path fits found) ∙ is))
step_stands t x u b step path w span input fits is at law (Some (Bytes from to)) found =
    let c = slice_range b from to in
    let piece = value_in x c in
    let there = sym (place_next t x (value_in t b) piece step path fits found.part
    ∙ ap (option_and_then (λ s. option_map (within s) (span_of_part x piece path))) found.span)
    ∙ at in
    let inner = inner_of (from, to - from) (span_of_part x piece path) span there in
    let rest = law c inner.0 (IsInput-range b from to input) found.holds.faultless
    (sym (part_next t x (value_in t b) piece step path fits found.part) ∙ is) inner.1 in
    subst (StandsAt b u w) inner.2
    (deeper b from to u w inner.0 found.holds.up found.holds.inside rest)
step_stands t x u b step path w span input fits is at law (Some (Bit bit)) found =
    absurd (no_span span (sym (place_next t x (value_in t b) _ step path fits found.part
    ∙ ap (option_and_then (λ s. option_map (within s) (span_of_part x _ path))) found.span) ∙ at))
step_stands t x u b step path w span input fits is at law (Some (Count n)) found =
    absurd (no_span span (sym (place_next t x (value_in t b) _ step path fits found.part
    ∙ ap (option_and_then (λ s. option_map (within s) (span_of_part x _ path))) found.span) ∙ at))

-- the type to which a step that fits leads
pub first_type : (x : Option SszType) (path : Path) (u : SszType)
    → option_and_then (λ p. path_type p path) x ≡ Some u
    → (y : SszType) × (x ≡ Some y) × (path_type y path ≡ Some u)
first_type None path u e = cc
first_type (Some y) path u e = (y, refl, e)

pub stands : (format : Format) (path : Path) (t u : SszType) (b : List ℕ) (w : SszValue)
    (span : Span) → IsLegal format t → IsInput b → first_fault t 0 b ≡ None
    → path_type t path ≡ Some u → part t (value_in t b) path ≡ Some w
    → span_of_part t (value_in t b) path ≡ Some span → StandsAt b u w span
stands format [] t u b w span legal input h type is at =
    let same : t ≡ u = cc in
    let value : value_in t b ≡ w = cc in
    let here : (0, size t (value_in t b)) ≡ span = cc in
    subst (λ s. StandsAt b u w s) here
    (subst (λ v. StandsAt b u v (0, size t (value_in t b))) value
    (subst (λ x. StandsAt b x (value_in t b) (0, size t (value_in t b))) same
    (whole_stands format t b legal input h)))
stands format (step ∷ path) t u b w span legal input h type is at =
    let first = first_type (step_type t step) path u type in
    step_stands t first.0 u b step path w span input first.1 is at
    (λ c inner inside none piece there. stands format path first.0 u c w inner
    (step_legal format t step first.0 legal first.1) inside none first.2 piece there)
    (held_at_step t b step) (leads format t first.0 b step legal input h first.1)

pub places_hold : PlacesHoldEncodings
places_hold format t v path u w span b legal bytes short encodes type is at =
    let input : IsInput b = record { bytes = bytes; short = short } in
    let read = (agrees format t legal).known 0 v encodes.fits
    (subst (λ (c : List ℕ). length c < 2 ^ 32) (sym encodes.bytes) short) in
    let value : v ≡ value_in t b = sym read.value ∙ ap (value_in t) encodes.bytes in
    (stands format path t u b w span legal input
    (sym (ap (first_fault t 0) encodes.bytes) ∙ read.faultless)
    type (ap (λ x. part t x path) (sym value) ∙ is)
    (ap (λ x. span_of_part t x path) (sym value) ∙ at)).bytes
