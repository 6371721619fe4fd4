-- Elements of one type, one after another.
use Rattle.std.proofs.Common.{ℕ, zero, suc, ◌+◌, ◌-◌, ◌*◌, ◌<◌, ◌≤◌, ◌≡◌, inl, inr, cond, List, [], ◌∷◌, length, replicate, slice_range, Option, Some, None, refl, sym, ap, ap₂, ◌∙◌, arith, ltb, ltb-false, eqb, eqb-true, le-ltb, lt-ltb, eq-eqb, zero-mul}
use Rattle.std.proofs.lemmas.Bool.{cases_lt, cond-true, cond-false}
use Rattle.ssz_bytes.specs.declared.fault.Fault.{Fault}
use Rattle.ssz_value.specs.Encoding.{heads_length}
use Rattle.ssz_value.proofs.Agree.{right_length}
use Rattle.ssz_value.proofs.Cut.{passes, chosen_none_of}
use Rattle.ssz_value.specs.Faults.{alike_fault, elements_fault, scopes, head_fault, first_offset_fault, later_fault, next_offset, offset_at, length_fault, ◌otherwise◌}
use Rattle.ssz_parts.specs.Heads.{offset_fault}
use Rattle.ssz_parts.proofs.OffsetLemmas.{first_found, found_in, none_in}

-- so many elements are left
pub left : (count i : ℕ) → i < count → count - i ≡ suc (count - (i + 1))
left count i h = omega arith

-- from element i on, elements of this size have the fault of all
pub record FixedFrom (child : ℕ → List ℕ
    → Option Fault) (size count s : ℕ) (b : List ℕ) (i : ℕ) : Type 0 where
  pub rest : alike_fault child s (scopes (replicate (count - i) (Some size)) (i * size) b)
      ≡ alike_fault child s (scopes (replicate count (Some size)) 0 b)
  pub room : length b ≡ count * size

heads_length-alike : (count size : ℕ) → heads_length (replicate count (Some size)) ≡ count * size
heads_length-alike zero size = sym (zero-mul size)
heads_length-alike (suc count) size =
    ap (λ n. size + n) (heads_length-alike count size) ∙ omega arith

first_fault-alike : (count size place end s : ℕ) (b : List ℕ)
    → first_offset_fault (replicate count (Some size)) place end s b
    ≡ first_offset_fault [] place end s b
first_fault-alike zero size place end s b = refl
first_fault-alike (suc count) size place end s b =
    first_fault-alike count size (place + size) end s b

-- the head of elements of this size is their length
pub head_fault-alike : (count size s : ℕ) (b : List ℕ)
    → head_fault (replicate count (Some size)) s b ≡ length_fault (count * size) s b
head_fault-alike count size s b =
    ap (λ rest. cond (ltb (length b) (heads_length (replicate count (Some size))))
    (Some (record { code = 1; position = s })) rest)
    (first_fault-alike count size 0 (heads_length (replicate count (Some size))) s b)
    ∙ ap (λ n. length_fault n s b) (heads_length-alike count size)

next_part : (child : ℕ → List ℕ → Option Fault) (size count s : ℕ) (b : List ℕ) (i : ℕ) → i < count
    → alike_fault child s (scopes (replicate (count - i) (Some size)) (i * size) b)
    ≡ (child (s + i * size) (slice_range b (i * size) (i * size + size))
    otherwise alike_fault child s
    (scopes (replicate (count - (i + 1)) (Some size)) (i * size + size) b))
next_part child size count s b i h =
    ap (λ n. alike_fault child s (scopes (replicate n (Some size)) (i * size) b)) (left count i h)

pub FixedFrom-start : (child : ℕ → List ℕ → Option Fault) (size count s : ℕ) (b : List ℕ)
    → length b ≡ count * size → FixedFrom child size count s b 0
FixedFrom-start child size count s b e =
    record {
      rest = ap₂ (λ n place. alike_fault child s (scopes (replicate n (Some size)) place b))
          (omega arith) (zero-mul size);
      room = e;
    }

pub FixedFrom-more : (child : ℕ → List ℕ → Option Fault) (size count s : ℕ) (b : List ℕ) (i : ℕ)
    → FixedFrom child size count s b i → i < count
    → child (s + i * size) (slice_range b (i * size) (i * size + size)) ≡ None
    → FixedFrom child size count s b (i + 1)
FixedFrom-more child size count s b i h below none = record {
  rest = ap (λ place. alike_fault child s
      (scopes (replicate (count - (i + 1)) (Some size)) place b)) (omega arith)
      ∙ sym (next_part child size count s b i below
      ∙ ap (λ f. f otherwise alike_fault child s
      (scopes (replicate (count - (i + 1)) (Some size)) (i * size + size) b)) none) ∙ h.rest;
  room = h.room;
}

-- a fault of element i is the fault of all
pub FixedFrom-found : (child : ℕ → List ℕ
    → Option Fault) (size count s : ℕ) (b : List ℕ) (i : ℕ) (f : Fault)
    → FixedFrom child size count s b i → i < count
    → child (s + i * size) (slice_range b (i * size) (i * size + size)) ≡ Some f
    → elements_fault child (Some size) count s b ≡ Some f
FixedFrom-found child size count s b i f h below found =
    ap (λ g. g otherwise alike_fault child s (scopes (replicate count (Some size)) 0 b))
    (head_fault-alike count size s b ∙ right_length (count * size) s b h.room)
    ∙ sym h.rest ∙ next_part child size count s b i below
    ∙ ap (λ g. g otherwise alike_fault child s
    (scopes (replicate (count - (i + 1)) (Some size)) (i * size + size) b)) found

pub FixedFrom-end : (child : ℕ → List ℕ → Option Fault) (size count s : ℕ) (b : List ℕ) (i : ℕ)
    → FixedFrom child size count s b i → count ≤ i
    → elements_fault child (Some size) count s b ≡ None
FixedFrom-end child size count s b i h all =
    let none : count - i ≡ 0 = omega arith in
    ap (λ g. g otherwise alike_fault child s (scopes (replicate count (Some size)) 0 b))
    (head_fault-alike count size s b ∙ right_length (count * size) s b h.room)
    ∙ sym h.rest ∙ ap (λ n. alike_fault child s (scopes (replicate n (Some size)) (i * size) b))
    none

-- the same of variable-size elements, whose offsets are in order
pub record VariableFrom (child : ℕ → List ℕ
    → Option Fault) (count s : ℕ) (b : List ℕ) (i : ℕ) : Type 0 where
  pub head : head_fault (replicate count None) s b ≡ None
  pub rest : alike_fault child s (scopes (replicate (count - i) None) (4 * i) b)
      ≡ alike_fault child s (scopes (replicate count None) 0 b)
  pub inside : i < count → offset_at b (4 * i) ≤ length b
  pub order : i < count → later_fault (replicate (count - (i + 1)) None) (4 * i + 4)
      (offset_at b (4 * i)) s b ≡ None
  pub room : 4 * count ≤ length b

-- where a part ends
pub next_offset-alike : (count i : ℕ) (b : List ℕ) → i < count
    → next_offset (replicate (count - (i + 1)) None) (4 * i + 4) b
    ≡ cond (ltb (i + 1) count) (offset_at b (4 * i + 4)) (length b)
next_offset-alike count i b h = elim (cases_lt (i + 1) count) [
  | inl more ↦ ap (λ n. next_offset (replicate n None) (4 * i + 4) b) (left count (i + 1) more)
      ∙ sym (cond-true (ltb (i + 1) count) (offset_at b (4 * i + 4)) (length b)
      (lt-ltb (i + 1) count more))
  | inr last ↦ ap (λ n. next_offset (replicate n None) (4 * i + 4) b) (none_left count i last)
      ∙ sym (cond-false (ltb (i + 1) count) (offset_at b (4 * i + 4)) (length b)
      (le-ltb (i + 1) count last))
]
  where
    none_left : (count i : ℕ) → count ≤ i + 1 → count - (i + 1) ≡ 0
    none_left count i h = omega arith

pub record InOrder (sizes : List (Option ℕ)) (place before : ℕ) (b : List ℕ) : Type 0 where
  pub up : before ≤ next_offset sizes place b
  pub inside : next_offset sizes place b ≤ length b

pub later_in_order : (sizes : List (Option ℕ)) (place before s : ℕ) (b : List ℕ) → before ≤ length b
    → later_fault sizes place before s b ≡ None → InOrder sizes place before b
later_in_order [] place before s b low h = record { up = low; inside = omega arith }
later_in_order (Some z ∷ sizes) place before s b low h = let rest =
    later_in_order sizes (place + z) before s b low h in
    record { up = rest.up; inside = rest.inside }
later_in_order (None ∷ sizes) place before s b low h =
    let within = passes (ltb (length b) (offset_at b place)) _ _ h in
    let after = passes (ltb (offset_at b place) before) _ _ within.1 in
    record { up = ltb-false _ _ after.0; inside = ltb-false _ _ within.0 }

pub heads_length-none : (count : ℕ) → heads_length (replicate count None) ≡ 4 * count
heads_length-none zero = refl
heads_length-none (suc count) = ap (λ n. 4 + n) (heads_length-none count) ∙ omega arith

pub VariableFrom-start : (child : ℕ → List ℕ → Option Fault) (count s : ℕ) (b : List ℕ)
    → head_fault (replicate count None) s b ≡ None → VariableFrom child count s b 0
VariableFrom-start child zero s b h =
    record {
      head = h;
      rest = refl;
      inside = λ below. absurd (omega arith);
      order =
          λ below. absurd (omega arith);
      room = omega arith;
    }
VariableFrom-start child (suc count) s b h =
    let long = passes (ltb (length b) (heads_length (replicate (suc count) None))) _ _ h in
    let room : heads_length (replicate (suc count) None) ≤ length b =
    ltb-false (length b) (heads_length (replicate (suc count) None)) long.0 in
    let first = chosen_none_of
    (eqb (offset_at b 0) (heads_length (replicate (suc count) None))) _ _ long.1 in
    let e : offset_at b 0 ≡ heads_length (replicate (suc count) None) = eqb-true _ _ first.0 in
    let all : suc count - 0 ≡ suc count = omega arith in
    let others : suc count - (0 + 1) ≡ count = omega arith in
    record {
      head = h;
      rest = ap (λ n. alike_fault child s (scopes (replicate n None) 0 b)) all;
      inside = λ below. omega (arith, e, room);
      order = λ below. ap₂ (λ n before. later_fault (replicate n None) 4 before s b) others e
          ∙ first.1;
      room = omega (arith, heads_length-none (suc count), room);
    }

-- the part of element i lies within the bytes
pub VariableFrom-part : (child : ℕ → List ℕ → Option Fault) (count s : ℕ) (b : List ℕ) (i : ℕ)
    → VariableFrom child count s b i → i < count
    → InOrder (replicate (count - (i + 1)) None) (4 * i + 4) (offset_at b (4 * i)) b
VariableFrom-part child count s b i h below =
    later_in_order (replicate (count - (i + 1)) None) (4 * i + 4) (offset_at b (4 * i)) s b
    (h.inside below) (h.order below)

next_variable : (child : ℕ → List ℕ → Option Fault) (count s : ℕ) (b : List ℕ) (i : ℕ) → i < count
    → alike_fault child s (scopes (replicate (count - i) None) (4 * i) b)
    ≡ (child (s + offset_at b (4 * i))
    (slice_range b (offset_at b (4 * i))
    (next_offset (replicate (count - (i + 1)) None) (4 * i + 4) b))
    otherwise alike_fault child s (scopes (replicate (count - (i + 1)) None) (4 * i + 4) b))
next_variable child count s b i h =
    ap (λ n. alike_fault child s (scopes (replicate n None) (4 * i) b)) (left count i h)

-- offset i + 1 as the loop writes its place
later_at : (count s : ℕ) (b : List ℕ) (i : ℕ) → i + 1 < count
    → later_fault (replicate (count - (i + 1)) None) (4 * i + 4) (offset_at b (4 * i)) s b ≡ None
    → (offset_at b (4 * (i + 1)) ≤ length b) ×
    (later_fault (replicate (count - (i + 1 + 1)) None) (4 * (i + 1) + 4)
    (offset_at b (4 * (i + 1))) s b ≡ None)
later_at count s b i more h =
    let place : 4 * i + 4 ≡ 4 * (i + 1) = omega arith in
    let step : later_fault (None ∷ replicate (count - (i + 1 + 1)) None) (4 * (i + 1))
    (offset_at b (4 * i)) s b ≡ None =
    sym (ap₂ (λ n place. later_fault (replicate n None) place (offset_at b (4 * i)) s b)
    (left count (i + 1) more) place) ∙ h in
    let within = passes (ltb (length b) (offset_at b (4 * (i + 1)))) _ _ step in
    let after = passes (ltb (offset_at b (4 * (i + 1))) (offset_at b (4 * i))) _ _ within.1 in
    (ltb-false _ _ within.0, after.1)

pub VariableFrom-more : (child : ℕ → List ℕ → Option Fault) (count s : ℕ) (b : List ℕ) (i : ℕ)
    → VariableFrom child count s b i → i < count
    → child (s + offset_at b (4 * i))
    (slice_range b (offset_at b (4 * i))
    (next_offset (replicate (count - (i + 1)) None) (4 * i + 4) b)) ≡ None
    → VariableFrom child count s b (i + 1)
VariableFrom-more child count s b i h below none =
    let place : 4 * (i + 1) ≡ 4 * i + 4 = omega arith in
    record {
      head = h.head;
      rest = ap (λ place. alike_fault child s (scopes (replicate (count - (i + 1)) None) place b))
          place
          ∙ sym (next_variable child count s b i below
          ∙ ap (λ f. f otherwise alike_fault child s
          (scopes (replicate (count - (i + 1)) None) (4 * i + 4) b)) none) ∙ h.rest;
      inside = λ more. (later_at count s b i more (h.order below)).0;
      order = λ more. (later_at count s b i more (h.order below)).1;
      room = h.room;
    }

pub VariableFrom-found : (child : ℕ → List ℕ
    → Option Fault) (count s : ℕ) (b : List ℕ) (i : ℕ) (f : Fault) → VariableFrom child count s b i
    → i < count
    → child (s + offset_at b (4 * i))
    (slice_range b (offset_at b (4 * i))
    (next_offset (replicate (count - (i + 1)) None) (4 * i + 4) b)) ≡ Some f
    → elements_fault child None count s b ≡ Some f
VariableFrom-found child count s b i f h below found =
    ap (λ g. g otherwise alike_fault child s (scopes (replicate count None) 0 b)) h.head
    ∙ sym h.rest ∙ next_variable child count s b i below
    ∙ ap (λ g. g otherwise alike_fault child s
    (scopes (replicate (count - (i + 1)) None) (4 * i + 4) b)) found

pub VariableFrom-end : (child : ℕ → List ℕ → Option Fault) (count s : ℕ) (b : List ℕ) (i : ℕ)
    → VariableFrom child count s b i → count ≤ i → elements_fault child None count s b ≡ None
VariableFrom-end child count s b i h all =
    let none : count - i ≡ 0 = omega arith in
    ap (λ g. g otherwise alike_fault child s (scopes (replicate count None) 0 b)) h.head
    ∙ sym h.rest ∙ ap (λ n. alike_fault child s (scopes (replicate n None) (4 * i) b)) none

-- the head of variable-size parts, a step at a time

pub head_fault-short : (count s : ℕ) (b : List ℕ) → length b < 4 * count
    → head_fault (replicate count None) s b ≡ Some (record { code = 1; position = s })
head_fault-short count s b h =
    cond-true _ _ _ (lt-ltb (length b) (heads_length (replicate count None))
    (omega (arith, heads_length-none count)))

long_head : (count s : ℕ) (b : List ℕ) → 4 * count ≤ length b
    → head_fault (replicate count None) s b
    ≡ first_offset_fault (replicate count None) 0 (4 * count) s b
long_head count s b h =
    cond-false _ _ _ (le-ltb (length b) (heads_length (replicate count None))
    (omega (arith, heads_length-none count)))
    ∙ ap (λ end. first_offset_fault (replicate count None) 0 end s b) (heads_length-none count)

pub head_fault-none : (s : ℕ) (b : List ℕ) → head_fault (replicate 0 None) s b ≡ length_fault 0 s b
head_fault-none s b = refl

one_first : (count end s : ℕ) (b : List ℕ) → 0 < count
    → first_offset_fault (replicate count None) 0 end s b
    ≡ cond (eqb (offset_at b 0) end) (later_fault (replicate (count - 1) None) 4 end s b)
    (Some (record { code = 4; position = s + 0 }))
one_first zero end s b h = absurd (omega arith)
one_first (suc count) end s b h =
    ap (λ n. cond (eqb (offset_at b 0) end) (later_fault (replicate n None) 4 end s b)
    (Some (record { code = 4; position = s + 0 }))) (omega arith)

-- a fault of the first offset is that of all
pub head_fault-first : (count s before : ℕ) (b : List ℕ) (f : Fault) → 0 < count
    → 4 * count ≤ length b → before ≡ offset_at b 0
    → cond (eqb before (4 * count)) None (Some (record { code = 4; position = s })) ≡ Some f
    → head_fault (replicate count None) s b ≡ Some f
head_fault-first count s before b f some h is e =
    let position : s ≡ s + 0 = omega arith in
    let here : cond (eqb (offset_at b 0) (4 * count)) None
    (Some (record { code = 4; position = s + 0 })) ≡ Some f =
    sym (ap₂ (λ o p. cond (eqb o (4 * count)) None (let bad : Option Fault =
    Some (record { code = 4; position = p }) in bad)) is position) ∙ e in
    long_head count s b h ∙ one_first count (4 * count) s b some
    ∙ first_found (eqb (offset_at b 0) (4 * count)) _ _ f here

pub later-start : (count before s : ℕ) (b : List ℕ) → 0 < count → 4 * count ≤ length b
    → before ≡ offset_at b 0 → before ≡ 4 * count
    → later_fault (replicate (count - 1) None) (4 * 1) before s b
    ≡ head_fault (replicate count None) s b
later-start count before s b some h is e =
    ap (λ before. later_fault (replicate (count - 1) None) 4 before s b) e
    ∙ sym (long_head count s b h ∙ one_first count (4 * count) s b some
    ∙ cond-true _ _ _ (eq-eqb (offset_at b 0) (4 * count) (omega (arith, is, e))))

later_one : (count i before s : ℕ) (b : List ℕ) → i < count
    → later_fault (replicate (count - i) None) (4 * i) before s b
    ≡ later_fault (None ∷ replicate (count - (i + 1)) None) (4 * i) before s b
later_one count i before s b h =
    ap (λ n. later_fault (replicate n None) (4 * i) before s b) (left count i h)

-- a fault of offset i is that of all
pub later-found : (count i before offset s : ℕ) (b : List ℕ) (f : Fault) → i < count
    → offset ≡ offset_at b (4 * i)
    → offset_fault (Some before) 0 (length b) offset (s + 4 * i) ≡ Some f
    → later_fault (replicate (count - i) None) (4 * i) before s b ≡ Some f
later-found count i before offset s b f below is e =
    later_one count i before s b below
    ∙ found_in (ltb (length b) (offset_at b (4 * i))) (ltb (offset_at b (4 * i)) before) _ _ _ f
    (sym (ap (λ o. offset_fault (Some before) 0 (length b) o (s + 4 * i)) is) ∙ e)

pub later-next : (count i before offset s : ℕ) (b : List ℕ) → i < count
    → offset ≡ offset_at b (4 * i)
    → offset_fault (Some before) 0 (length b) offset (s + 4 * i) ≡ None
    → later_fault (replicate (count - (i + 1)) None) (4 * (i + 1)) offset s b
    ≡ later_fault (replicate (count - i) None) (4 * i) before s b
later-next count i before offset s b below is e =
    let none = sym (ap (λ o. offset_fault (Some before) 0 (length b) o (s + 4 * i)) is) ∙ e in
    ap₂ (λ place offset. later_fault (replicate (count - (i + 1)) None) place offset s b)
    (omega arith) is
    ∙ sym (later_one count i before s b below
    ∙ none_in (ltb (length b) (offset_at b (4 * i)))
    (ltb (offset_at b (4 * i)) before) _ _ _ none)

-- a fault of the head is the fault of all
pub fixed_found_head : (child : ℕ → List ℕ
    → Option Fault) (size count s : ℕ) (b : List ℕ) (f : Fault)
    → length_fault (count * size) s b ≡ Some f → elements_fault child (Some size) count s b ≡ Some f
fixed_found_head child size count s b f e =
    ap (λ g. g otherwise alike_fault child s (scopes (replicate count (Some size)) 0 b))
    (head_fault-alike count size s b ∙ e)

pub variable_found_head : (child : ℕ → List ℕ → Option Fault) (count s : ℕ) (b : List ℕ) (f : Fault)
    → head_fault (replicate count None) s b ≡ Some f → elements_fault child None count s b ≡ Some f
variable_found_head child count s b f e =
    ap (λ g. g otherwise alike_fault child s (scopes (replicate count None) 0 b)) e
