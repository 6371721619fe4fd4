-- The parts of fields, one after another.
use Rattle.std.proofs.Common.{ℕ, ◌+◌, ◌<◌, ◌≤◌, ◌≡◌, List, [], ◌∷◌, length, get_or, drop, Option, Some, None, refl, sym, ap, ◌∙◌, subst, arith, ltb-false, eqb-true, eqb, ltb, slice_range}
use Rattle.std.proofs.lemmas.List.{drop_all}
use Rattle.ssz_schema.specs.Types.{SszType, container}
use Rattle.ssz_schema.specs.Sizes.{head_size}
use Rattle.ssz_schema.specs.Unfolding.{type_tree_at, fields_over}
use Rattle.ssz_bytes.specs.declared.fault.Fault.{Fault}
use Rattle.ssz_value.specs.Encoding.{heads_length}
use Rattle.ssz_value.specs.Faults.{next_offset, offset_at, head_fault, first_offset_fault, later_fault, first_fault, fields_fault, scopes, ◌otherwise◌}
use Rattle.ssz_schema.proofs.WalkFields.{drop_at}
use Rattle.ssz_value.proofs.PartLemmas.{Part, sizes_of, size_at, sizes_from}
use Rattle.ssz_parts.specs.Ranges.{part_range}
use Rattle.ssz_parts.proofs.ElementFaults.{later_in_order}
use Rattle.ssz_value.proofs.Cut.{passes, chosen_none_of}

-- from the part at i on, at this place, the next offset is the one sought
pub record NextFrom (trees : List SszType) (parts : List Part) (start : ℕ) (b : List ℕ)
    (i place : ℕ) : Type 0 where
  pub next : next_offset (sizes_of trees (drop i parts)) place b
      ≡ next_offset (sizes_of trees parts) start b
  pub room : place + heads_length (sizes_of trees (drop i parts)) ≤ length b

pub NextFrom-fixed : (trees : List SszType) (parts : List Part) (start : ℕ) (b : List ℕ)
    (i place : ℕ) (part : Part) (z : ℕ) → NextFrom trees parts start b i place → i < length parts
    → part ≡ get_or parts i part → size_at trees part ≡ Some z
    → NextFrom trees parts start b (i + 1) (place + z)
NextFrom-fixed trees parts start b i place part z h below e size =
    let here : sizes_of trees (drop i parts) ≡ Some z ∷ sizes_of trees (drop (i + 1) parts) =
    sizes_from trees parts i part below e
    ∙ ap (λ s. s ∷ sizes_of trees (drop (i + 1) parts)) size in
    record {
      next = sym (ap (λ sizes. next_offset sizes place b) here) ∙ h.next;
      room =
          omega (arith, h.room, ap heads_length here);
    }

pub NextFrom-variable : (trees : List SszType) (parts : List Part) (start : ℕ) (b : List ℕ)
    (i place : ℕ) (part : Part) → NextFrom trees parts start b i place → i < length parts
    → part ≡ get_or parts i part → size_at trees part ≡ None
    → (place + 4 ≤ length b) × (offset_at b place ≡ next_offset (sizes_of trees parts) start b)
NextFrom-variable trees parts start b i place part h below e size =
    let here : sizes_of trees (drop i parts) ≡ None ∷ sizes_of trees (drop (i + 1) parts) =
    sizes_from trees parts i part below e
    ∙ ap (λ s. s ∷ sizes_of trees (drop (i + 1) parts)) size in (
      omega (arith, h.room, ap heads_length here),
      sym (ap (λ sizes. next_offset sizes place b) here)
          ∙ h.next,
    )

pub NextFrom-end : (trees : List SszType) (parts : List Part) (start : ℕ) (b : List ℕ) (i place : ℕ)
    → NextFrom trees parts start b i place → length parts ≤ i
    → length b ≡ next_offset (sizes_of trees parts) start b
NextFrom-end trees parts start b i place h all =
    sym (ap (λ ps. next_offset (sizes_of trees ps) place b) (drop_all i parts all)) ∙ h.next

-- the parts lie within the bytes
abbrev pub InRange : List (Option ℕ) → ℕ → List ℕ → Type 0
InRange [] place b = Unit {0}
InRange (size ∷ sizes) place b =
    ((part_range size sizes place b).0 ≤ (part_range size sizes place b).1) ×
    ((part_range size sizes place b).1 ≤ length b) × InRange sizes (place + head_size size) b

later_in_range : (sizes : List (Option ℕ)) (place before s : ℕ) (b : List ℕ) → before ≤ length b
    → place + heads_length sizes ≤ length b → later_fault sizes place before s b ≡ None
    → InRange sizes place b
later_in_range [] place before s b low room h = tt
later_in_range (Some z ∷ sizes) place before s b low room h =
    (omega arith, omega arith, later_in_range sizes (place + z) before s b low (omega arith) h)
later_in_range (None ∷ sizes) place before s b low room h =
    let within = passes (ltb (length b) (offset_at b place)) _ _ h in
    let after = passes (ltb (offset_at b place) before) _ _ within.1 in
    let inside : offset_at b place ≤ length b = ltb-false _ _ within.0 in
    let order = later_in_order sizes (place + 4) (offset_at b place) s b inside after.1 in (
      order.up,
      order.inside,
      later_in_range sizes (place + 4) (offset_at b place) s b inside
          (omega arith) after.1,
    )

pub first_in_range : (sizes : List (Option ℕ)) (place end s : ℕ) (b : List ℕ) → end ≤ length b
    → place + heads_length sizes ≤ length b → first_offset_fault sizes place end s b ≡ None
    → InRange sizes place b
first_in_range [] place end s b low room h = tt
first_in_range (Some z ∷ sizes) place end s b low room h =
    (omega arith, omega arith, first_in_range sizes (place + z) end s b low (omega arith) h)
first_in_range (None ∷ sizes) place end s b low room h =
    let found = chosen_none_of (eqb (offset_at b place) end) _ _ h in
    let e : offset_at b place ≡ end = eqb-true _ _ found.0 in
    let order = later_in_order sizes (place + 4) end s b low found.1 in (
      omega (arith, e, order.up),
      order.inside,
      later_in_range sizes (place + 4) end s b low
          (omega arith) found.1,
    )

-- From the part at i on the fields have the fault of all.
pub record FieldsFrom (trees : List SszType) (parts : List Part) (s : ℕ) (b : List ℕ)
    (i place : ℕ) : Type 0 where
  pub head : head_fault (sizes_of trees parts) s b ≡ None
  pub rest : fields_fault (fields_over trees (drop i parts)) s
      (scopes (sizes_of trees (drop i parts)) place b)
      ≡ fields_fault (fields_over trees parts) s (scopes (sizes_of trees parts) 0 b)
  pub range : InRange (sizes_of trees (drop i parts)) place b
  pub room : place + heads_length (sizes_of trees (drop i parts)) ≤ length b

pub FieldsFrom-start : (trees : List SszType) (parts : List Part) (s : ℕ) (b : List ℕ)
    → head_fault (sizes_of trees parts) s b ≡ None → FieldsFrom trees parts s b 0 0
FieldsFrom-start trees parts s b h =
    let long = passes (ltb (length b) (heads_length (sizes_of trees parts))) _ _ h in
    let room : heads_length (sizes_of trees parts) ≤ length b = ltb-false _ _ long.0 in
    record {
      head = h;
      rest = refl;
      range =
          first_in_range (sizes_of trees parts) 0 (heads_length (sizes_of trees parts)) s b room
          (omega arith) long.1;
      room = omega arith;
    }

-- the first of the parts from i on
pub record IsNext (trees : List SszType) (parts : List Part) (b : List ℕ) (i place : ℕ)
    (part : Part) : Type 0 where
  pub up : (part_range (size_at trees part) (sizes_of trees (drop (i + 1) parts)) place b).0 ≤
      (part_range (size_at trees part) (sizes_of trees (drop (i + 1) parts)) place b).1
  pub inside : (part_range (size_at trees part)
      (sizes_of trees (drop (i + 1) parts)) place b).1 ≤ length b
  pub room : place + head_size (size_at trees part) + heads_length
      (sizes_of trees (drop (i + 1) parts)) ≤ length b

pub FieldsFrom-next : (trees : List SszType) (parts : List Part) (s : ℕ) (b : List ℕ) (i place : ℕ)
    (part : Part) → FieldsFrom trees parts s b i place → i < length parts
    → part ≡ get_or parts i part → IsNext trees parts b i place part
FieldsFrom-next trees parts s b i place part h below e =
    let here = sizes_from trees parts i part below e in
    let range = subst (λ (sizes : List (Option ℕ)). InRange sizes place b) here h.range in
    record { up = range.0; inside = range.1; room = omega (arith, h.room, ap heads_length here) }

next_scope : (trees : List SszType) (parts : List Part) (s : ℕ) (b : List ℕ) (place : ℕ)
    (part : Part) (size : Option ℕ) → size_at trees part ≡ size
    → fields_fault (fields_over trees (part ∷ parts)) s
    (scopes (size ∷ sizes_of trees parts) place b)
    ≡ (first_fault (type_tree_at trees part.1)
    (s + (part_range size (sizes_of trees parts) place b).0)
    (slice_range b (part_range size (sizes_of trees parts) place b).0
    (part_range size (sizes_of trees parts) place b).1)
    otherwise fields_fault (fields_over trees parts) s
    (scopes (sizes_of trees parts) (place + head_size size) b))
next_scope trees parts s b place part (Some z) e = refl
next_scope trees parts s b place part None e = refl

pub next_field : (trees : List SszType) (parts : List Part) (s : ℕ) (b : List ℕ) (i place : ℕ)
    (part : Part) → i < length parts → part ≡ get_or parts i part
    → fields_fault (fields_over trees (drop i parts)) s
    (scopes (sizes_of trees (drop i parts)) place b)
    ≡ (first_fault (type_tree_at trees part.1)
    (s + (part_range (size_at trees part) (sizes_of trees (drop (i + 1) parts)) place b).0)
    (slice_range b (part_range (size_at trees part)
    (sizes_of trees (drop (i + 1) parts)) place b).0
    (part_range (size_at trees part) (sizes_of trees (drop (i + 1) parts)) place b).1)
    otherwise fields_fault (fields_over trees (drop (i + 1) parts)) s
    (scopes (sizes_of trees (drop (i + 1) parts)) (place + head_size (size_at trees part)) b))
next_field trees parts s b i place part below e =
    ap (λ ps. fields_fault (fields_over trees ps) s (scopes (sizes_of trees ps) place b))
    (drop_at parts i part below e)
    ∙ next_scope trees (drop (i + 1) parts) s b place part (size_at trees part) refl

pub FieldsFrom-more : (trees : List SszType) (parts : List Part) (s : ℕ) (b : List ℕ)
    (i place from to : ℕ) (part : Part) → FieldsFrom trees parts s b i place → i < length parts
    → part ≡ get_or parts i part
    → (from, to) ≡ part_range (size_at trees part) (sizes_of trees (drop (i + 1) parts)) place b
    → first_fault (type_tree_at trees part.1) (s + from) (slice_range b from to) ≡ None
    → FieldsFrom trees parts s b (i + 1) (place + head_size (size_at trees part))
FieldsFrom-more trees parts s b i place from to part h below e is none =
    let here = sizes_from trees parts i part below e in
    let range = subst (λ (sizes : List (Option ℕ)). InRange sizes place b) here h.range in
    let same = ap (λ (r : ℕ × ℕ).
    first_fault (type_tree_at trees part.1) (s + r.0) (slice_range b r.0 r.1)) is
    in
    record {
      head = h.head;
      rest = sym (next_field trees parts s b i place part below e
          ∙ ap (λ f. f otherwise fields_fault (fields_over trees (drop (i + 1) parts)) s
          (scopes (sizes_of trees (drop (i + 1) parts)) (place + head_size (size_at trees part)) b))
          (sym same ∙ none)) ∙ h.rest;
      range = range.2;
      room = omega (arith, h.room, ap heads_length here);
    }

-- a fault of the container
pub container_head : (trees : List SszType) (parts : List Part) (s : ℕ) (b : List ℕ) (f : Fault)
    → head_fault (sizes_of trees parts) s b ≡ Some f
    → first_fault (container (fields_over trees parts)) s b ≡ Some f
container_head trees parts s b f e =
    ap (λ g. g otherwise fields_fault (fields_over trees parts) s
    (scopes (sizes_of trees parts) 0 b)) e

pub FieldsFrom-found : (trees : List SszType) (parts : List Part) (s : ℕ) (b : List ℕ)
    (i place from to : ℕ) (part : Part) (f : Fault) → FieldsFrom trees parts s b i place
    → i < length parts → part ≡ get_or parts i part
    → (from, to) ≡ part_range (size_at trees part) (sizes_of trees (drop (i + 1) parts)) place b
    → first_fault (type_tree_at trees part.1) (s + from) (slice_range b from to) ≡ Some f
    → first_fault (container (fields_over trees parts)) s b ≡ Some f
FieldsFrom-found trees parts s b i place from to part f h below e is found =
    let same = ap (λ (r : ℕ × ℕ).
    first_fault (type_tree_at trees part.1) (s + r.0) (slice_range b r.0 r.1)) is
    in
    ap (λ g. g otherwise fields_fault (fields_over trees parts) s
    (scopes (sizes_of trees parts) 0 b)) h.head ∙ sym h.rest
    ∙ next_field trees parts s b i place part below e
    ∙ ap (λ g. g otherwise fields_fault (fields_over trees (drop (i + 1) parts)) s
    (scopes (sizes_of trees (drop (i + 1) parts)) (place + head_size (size_at trees part)) b))
    (sym same ∙ found)

pub FieldsFrom-end : (trees : List SszType) (parts : List Part) (s : ℕ) (b : List ℕ) (i place : ℕ)
    → FieldsFrom trees parts s b i place → length parts ≤ i
    → first_fault (container (fields_over trees parts)) s b ≡ None
FieldsFrom-end trees parts s b i place h all =
    ap (λ g. g otherwise fields_fault (fields_over trees parts) s
    (scopes (sizes_of trees parts) 0 b)) h.head ∙ sym h.rest
    ∙ ap (λ ps. fields_fault (fields_over trees ps) s (scopes (sizes_of trees ps) place b))
    (drop_all i parts all)
