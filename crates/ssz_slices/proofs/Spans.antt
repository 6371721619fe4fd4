-- The stretches of parts are the scopes into which bytes without a fault are cut.
use Rattle.std.proofs.Common.{ℕ, zero, suc, ◌+◌, ◌-◌, ◌<◌, ◌≤◌, ◌≡◌, List, [], ◌∷◌, length, map, take, drop, slice_get, slice_range, get_or, Option, Some, None, refl, sym, ap, ap₂, ◌∙◌, subst, arith, ltb, ltb-false, eqb, eqb-true, length-drop, length-take-le}
use Rattle.ssz_schema.specs.Sizes.{head_size}
use Rattle.ssz_value.specs.Encoding.{heads_length}
use Rattle.ssz_value.specs.Faults.{Scope, scopes, scope_bytes, head_fault, first_offset_fault, next_offset, offset_at}
use Rattle.ssz_value.proofs.Cut.{passes, chosen_none_of}
use Rattle.ssz_parts.specs.Ranges.{part_range}
use Rattle.ssz_parts.proofs.FieldLemmas.{InRange, first_in_range}
use Rattle.ssz_slices.specs.Place.{Span, spans_from, spans}

-- where the scopes begin, and their lengths
abbrev pub marks : List Scope → List Span
marks [] = []
marks (part ∷ parts) = (part.0, length part.1) ∷ marks parts

-- the first variable part begins where the fixed parts end, or nothing follows them
first_ends : (sizes : List (Option ℕ)) (place end s : ℕ) (b : List ℕ) → end ≤ length b
    → first_offset_fault sizes place end s b ≡ None → next_offset sizes place b ≡ end
first_ends [] place end s b low h =
    let high : length b ≤ end = ltb-false end (length b) (passes (ltb end (length b)) _ _ h).0 in
    omega arith
first_ends (Some z ∷ sizes) place end s b low h = first_ends sizes (place + z) end s b low h
first_ends (None ∷ sizes) place end s b low h =
    eqb-true (offset_at b place) end
    (chosen_none_of (eqb (offset_at b place) end) _ _ h).0

pub length-stretch : (b : List ℕ) (from to : ℕ) → from ≤ to → to ≤ length b
    → length (slice_range b from to) ≡ to - from
length-stretch b from to up inside =
    length-take-le (to - from) (drop from b) (omega (arith, length-drop from b))

spans-scopes : (sizes : List (Option ℕ)) (place : ℕ) (b : List ℕ) → InRange sizes place b
    → spans_from sizes (map length (scope_bytes (scopes sizes place b))) place
    (next_offset sizes place b)
    ≡ marks (scopes sizes place b)
spans-scopes [] place b range = refl
spans-scopes (Some z ∷ sizes) place b range =
    ap (λ rest. (place, length (slice_range b place (place + z))) ∷ rest)
    (spans-scopes sizes (place + z) b range.2)
spans-scopes (None ∷ sizes) place b range =
    let from = offset_at b place in
    let to = next_offset sizes (place + 4) b in
    let long : length (slice_range b from to) ≡ to - from =
    length-stretch b from to range.0 range.1 in
    let end : from + length (slice_range b from to) ≡ to = omega (arith, range.0, long) in
    ap (λ rest. (from, length (slice_range b from to)) ∷ rest)
    (ap (spans_from sizes (map length (scope_bytes (scopes sizes (place + 4) b))) (place + 4)) end
    ∙ spans-scopes sizes (place + 4) b range.2)

-- the range of a part, counted from the part before
range_next : (size : Option ℕ) (sizes : List (Option ℕ)) (place i : ℕ) (b : List ℕ)
    → part_range (get_or (size ∷ sizes) (suc i) None) (drop (suc i + 1) (size ∷ sizes))
    (place + heads_length (take (suc i) (size ∷ sizes))) b
    ≡ part_range (get_or sizes i None) (drop (i + 1) sizes)
    (place + head_size size + heads_length (take i sizes)) b
range_next size sizes place i b =
    let next : suc i + 1 ≡ suc (i + 1) = omega arith in
    let sum : place + (head_size size + heads_length (take i sizes))
    ≡ place + head_size size + heads_length (take i sizes) = omega arith in
    ap₂ (λ k n. part_range (get_or sizes i None) (drop k (size ∷ sizes)) n b) next sum

-- the part at i lies in its range
scope_at : (sizes : List (Option ℕ)) (place i : ℕ) (b : List ℕ) → i < length sizes
    → (from to : ℕ) → (from, to) ≡ part_range (get_or sizes i None) (drop (i + 1) sizes)
    (place + heads_length (take i sizes)) b
    → slice_get (scopes sizes place b) i ≡ Some (from, slice_range b from to)
scope_at [] place i b below from to e = absurd (omega arith)
scope_at (size ∷ sizes) place zero b below from to e =
    first size (e ∙ ap (λ n. part_range size sizes n b) here)
  where
    here : place + 0 ≡ place
    here = omega arith

    first : (size : Option ℕ) → (from, to) ≡ part_range size sizes place b
        → slice_get (scopes (size ∷ sizes) place b) 0 ≡ Some (from, slice_range b from to)
    first (Some z) e = ap (λ (r : ℕ × ℕ). Some (r.0, slice_range b r.0 r.1)) (sym e)
    first None e = ap (λ (r : ℕ × ℕ). Some (r.0, slice_range b r.0 r.1)) (sym e)
scope_at (size ∷ sizes) place (suc i) b below from to e =
    later size (scope_at sizes (place + head_size size) i b (omega arith) from to
    (e ∙ range_next size sizes place i b))
  where
    later : (size : Option ℕ)
        → slice_get (scopes sizes (place + head_size size) b) i ≡ Some (from, slice_range b from to)
        → slice_get (scopes (size ∷ sizes) place b) (suc i) ≡ Some (from, slice_range b from to)
    later (Some z) more = more
    later None more = more

range_at : (sizes : List (Option ℕ)) (place i : ℕ) (b : List ℕ) → i < length sizes
    → InRange sizes place b
    → (from to : ℕ) → (from, to) ≡ part_range (get_or sizes i None) (drop (i + 1) sizes)
    (place + heads_length (take i sizes)) b
    → (from ≤ to) × (to ≤ length b)
range_at [] place i b below range from to e = absurd (omega arith)
range_at (size ∷ sizes) place zero b below range from to e =
    let here : place ≡ place + 0 = omega arith in
    subst (λ (r : ℕ × ℕ). (r.0 ≤ r.1) × (r.1 ≤ length b))
    (ap (λ n. part_range size sizes n b) here ∙ sym e) (range.0, range.1)
range_at (size ∷ sizes) place (suc i) b below range from to e =
    range_at sizes (place + head_size size) i b (omega arith) range.2 from to
    (e ∙ range_next size sizes place i b)

-- The part at i lies from and to.
pub record PartLies (sizes : List (Option ℕ)) (b : List ℕ) (i from to : ℕ) : Type 0 where
  pub up : from ≤ to
  pub inside : to ≤ length b
  pub scope : slice_get (scopes sizes 0 b) i ≡ Some (from, slice_range b from to)
  pub bytes : slice_get (scope_bytes (scopes sizes 0 b)) i ≡ Some (slice_range b from to)
  pub span : slice_get (spans sizes (map length (scope_bytes (scopes sizes 0 b)))) i
      ≡ Some (from, to - from)

bytes_get : (parts : List Scope) (i : ℕ) (part : Scope) → slice_get parts i ≡ Some part
    → slice_get (scope_bytes parts) i ≡ Some part.1
bytes_get [] i part e = cc
bytes_get (p ∷ parts) zero part e = let same : p ≡ part = cc in ap (λ (q : Scope). Some q.1) same
bytes_get (p ∷ parts) (suc i) part e = bytes_get parts i part e

marks_get : (parts : List Scope) (i : ℕ) (part : Scope) → slice_get parts i ≡ Some part
    → slice_get (marks parts) i ≡ Some (part.0, length part.1)
marks_get [] i part e = cc
marks_get (p ∷ parts) zero part e =
    let same : p ≡ part = cc in ap (λ (q : Scope). Some (q.0, length q.1)) same
marks_get (p ∷ parts) (suc i) part e = marks_get parts i part e

pub part_lies : (sizes : List (Option ℕ)) (b : List ℕ) (i from to : ℕ)
    → head_fault sizes 0 b ≡ None → i < length sizes
    → (from, to) ≡ part_range (get_or sizes i None) (drop (i + 1) sizes)
    (heads_length (take i sizes)) b
    → PartLies sizes b i from to
part_lies sizes b i from to h below e =
    let long = passes (ltb (length b) (heads_length sizes)) _ _ h in
    let room : heads_length sizes ≤ length b = ltb-false _ _ long.0 in
    let range = first_in_range sizes 0 (heads_length sizes) 0 b room (omega arith) long.1 in
    let here : (from, to) ≡ part_range (get_or sizes i None) (drop (i + 1) sizes)
    (0 + heads_length (take i sizes)) b =
    e ∙ ap (λ n. part_range (get_or sizes i None) (drop (i + 1) sizes) n b) (omega arith) in
    let within = range_at sizes 0 i b below range from to here in
    let scope = scope_at sizes 0 i b below from to here in
    let whole = ap (spans_from sizes (map length (scope_bytes (scopes sizes 0 b))) 0)
    (sym (first_ends sizes 0 (heads_length sizes) 0 b room long.1))
    ∙ spans-scopes sizes 0 b range in
    record {
      up = within.0;
      inside = within.1;
      scope = scope;
      bytes = bytes_get (scopes sizes 0 b) i _ scope;
      span = ap (λ (ss : List Span). slice_get ss i) whole
          ∙ marks_get (scopes sizes 0 b) i _ scope
          ∙ ap (λ n. Some (from, n)) (length-stretch b from to within.0 within.1);
    }
