-- Steps to elements.
use Rattle.std.proofs.Common.{ℕ, ◌+◌, ◌-◌, ◌*◌, ◌<◌, ◌≡◌, Bool, true, false, cond, ltb, List, [], ◌∷◌, length, map, take, drop, replicate, slice_get, get_or, Option, Some, None, option_map, refl, sym, ap, ap₂, ◌∙◌, arith, ltb-true, ltb-false}
use Rattle.std.proofs.lemmas.List.{take-replicate, drop-replicate, get_or-replicate, length-map, length-replicate}
use Rattle.std.proofs.lemmas.Option.{slice_get-map, slice_get_past, get_or_from_slice_get}
use Rattle.ssz_schema.specs.format.Format.{Format}
use Rattle.ssz_schema.specs.Types.{SszType}
use Rattle.ssz_schema.specs.Sizes.{fixed_size, head_size}
use Rattle.ssz_schema.specs.Legal.{IsLegal}
use Rattle.ssz_value.specs.Encoding.{heads_length}
use Rattle.ssz_value.specs.Sizes.{size}
use Rattle.ssz_value.specs.Faults.{Scope, scopes, scope_bytes, alike_fault, elements_fault, head_fault, first_fault}
use Rattle.ssz_value.specs.Reading.{value_in, elements_in}
use Rattle.ssz_value.proofs.Agree.{IsInput, AreInputs, AreInputs-scopes, no_faults}
use Rattle.ssz_parts.specs.Ranges.{part_range}
use Rattle.ssz_parts.proofs.ElementLemmas.{element_faultless, length-elements_in}
use Rattle.ssz_parts.proofs.PartSizes.{heads_alike}
use Rattle.ssz_slices.specs.declared.held.Held.{Held}
use Rattle.ssz_slices.specs.declared.held.Held.TheVariants.{Bytes}
use Rattle.ssz_slices.specs.Place.{spans, element_spans}
use Rattle.ssz_slices.specs.Held.{held_value, held_span, HeldHasType, element_held, stretch}
use Rattle.ssz_slices.proofs.Spans.{part_lies}
use Rattle.ssz_slices.proofs.Leading.{size_is}

-- element i of count elements of this type, which have these bytes
pub record IsElementAt (t : SszType) (count : ℕ) (b : List ℕ) (i : ℕ) (held : Held) : Type 0 where
  pub part : slice_get (map (value_in t) (elements_in (fixed_size t) count b)) i
      ≡ Some (held_value t b held)
  pub span : slice_get (element_spans t (map (value_in t) (elements_in (fixed_size t) count b))) i
      ≡ held_span held
  pub holds : HeldHasType t b held

abbrev pub IsElement : SszType → ℕ → List ℕ → ℕ → Option Held → Type 0
IsElement t count b i None =
    slice_get (map (value_in t) (elements_in (fixed_size t) count b)) i ≡ None
IsElement t count b i (Some held) = IsElementAt t count b i held

-- the sizes of elements are the lengths of their bytes
sizes_are : (format : Format) (t : SszType) → IsLegal format t → (s : ℕ) (parts : List Scope)
    → AreInputs parts → alike_fault (first_fault t) s parts ≡ None
    → map (size t) (map (value_in t) (scope_bytes parts)) ≡ map length (scope_bytes parts)
sizes_are format t legal s [] input e = refl
sizes_are format t legal s (part ∷ parts) input e =
    let both = no_faults _ _ e in
    ap₂ ◌∷◌ (size_is format t legal (s + part.0) part.1 input.0 both.0)
    (sizes_are format t legal s parts input.1 both.1)

element_at : (format : Format) (t : SszType) → IsLegal format t → (count i from to : ℕ)
    (b : List ℕ) → IsInput b → elements_fault (first_fault t) (fixed_size t) count 0 b ≡ None
    → i < count
    → (from, to) ≡ part_range (fixed_size t) (replicate (count - (i + 1)) (fixed_size t))
    (i * head_size (fixed_size t)) b
    → IsElementAt t count b i (Bytes from to)
element_at format t legal count i from to b input h below e =
    let size = fixed_size t in
    let sizes = replicate count size in
    let bs = elements_in size count b in
    let both = no_faults (head_fault sizes 0 b)
    (alike_fault (first_fault t) 0 (scopes sizes 0 b)) h in
    let front : heads_length (take i sizes) ≡ i * head_size size =
    ap heads_length (take-replicate i count size (omega arith)) ∙ heads_alike i size in
    let here : (from, to) ≡ part_range (get_or sizes i None) (drop (i + 1) sizes)
    (heads_length (take i sizes)) b =
    e ∙ sym (ap₂ (λ s ss. part_range s ss (heads_length (take i sizes)) b)
    (get_or-replicate count i size None below) (drop-replicate (i + 1) count size)
    ∙ ap (λ n. part_range size (replicate (count - (i + 1)) size) n b) front) in
    let lies = part_lies sizes b i from to both.0
    (omega (arith, length-replicate count size)) here in
    let lengths = sizes_are format t legal 0 (scopes sizes 0 b) (AreInputs-scopes sizes 0 b input)
    both.1 in
    let many : length (map (value_in t) bs) ≡ count =
    length-map bs (value_in t) ∙ length-elements_in size count b in
    let none = (element_faultless format t legal size count b i input h below).none in
    record {
      part = slice_get-map (value_in t) bs i ∙ ap (option_map (value_in t)) lies.bytes;
      span = ap₂ (λ n ns. slice_get (spans (replicate n size) ns) i) many lengths ∙ lies.span;
      holds = record {
        up = lies.up;
        inside = lies.inside;
        faultless = ap (first_fault t 0) (sym (get_or_from_slice_get bs i _ [] lies.bytes)) ∙ none;
      };
    }

pub element_leads : (format : Format) (t : SszType) → IsLegal format t → (count i : ℕ)
    (b : List ℕ) → IsInput b → elements_fault (first_fault t) (fixed_size t) count 0 b ≡ None
    → IsElement t count b i (element_held (fixed_size t) count i b)
element_leads format t legal count i b input h =
    go (part_range (fixed_size t) (replicate (count - (i + 1)) (fixed_size t))
    (i * head_size (fixed_size t)) b) refl (ltb i count) refl
  where
    go : (range : ℕ × ℕ) → range ≡ part_range (fixed_size t)
        (replicate (count - (i + 1)) (fixed_size t)) (i * head_size (fixed_size t)) b
        → (below : Bool) → ltb i count ≡ below
        → IsElement t count b i (cond below (Some (stretch range)) None)
    go range is true e =
        element_at format t legal count i range.0 range.1 b input h (ltb-true i count e) is
    go range is false e =
        let bs = elements_in (fixed_size t) count b in
        slice_get_past (map (value_in t) bs) i (omega (
          arith,
          ltb-false i count e,
          length-map bs (value_in t),
          length-elements_in (fixed_size t) count b,
        ))
