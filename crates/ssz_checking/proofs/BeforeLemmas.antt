-- Elements that come after some that have no fault.
use Rattle.std.proofs.Common.{ℕ, zero, suc, ◌+◌, ◌-◌, ◌*◌, ◌<◌, ◌≡◌, inl, inr, List, [], length, replicate, get_or, slice_range, Option, Some, None, sym, ap, subst, ◌∙◌, arith}
use Rattle.std.proofs.lemmas.Bool.{cases_lt}
use Rattle.ssz_schema.specs.Types.{SszType}
use Rattle.ssz_value.specs.Faults.{first_fault, head_fault, offset_at, next_offset}
use Rattle.ssz_value.specs.Reading.{elements_in}
use Rattle.ssz_parts.proofs.ElementFaults.{FixedFrom, FixedFrom-start, FixedFrom-more, VariableFrom, VariableFrom-start, VariableFrom-more}
use Rattle.ssz_parts.proofs.ElementLemmas.{part_fixed_first, part_variable_first}
use Rattle.ssz_checking.specs.Clean.{HasNoFault, AreCleanBefore}

pub before_none : (t : SszType) (size : Option ℕ) (count : ℕ) (b : List ℕ)
    → AreCleanBefore t size count 0 b
before_none t size count b = (omega arith, λ j below. absurd (omega (arith, below)))

before_less : (t : SszType) (size : Option ℕ) (count i : ℕ) (b : List ℕ)
    → AreCleanBefore t size count (suc i) b → AreCleanBefore t size count i b
before_less t size count i b h =
    (omega (arith, h.0), λ j below. h.1 j (omega (arith, below)))

before_more : (t : SszType) (size : Option ℕ) (count i : ℕ) (b : List ℕ)
    → AreCleanBefore t size count i b → i < count
    → HasNoFault t (get_or (elements_in size count b) i [])
    → AreCleanBefore t size count (i + 1) b
before_more t size count i b h below clean = (
  omega (arith, below),
  λ j less. elim (cases_lt j i) [
    | inl before ↦ h.1 j before
    | inr not ↦ subst (λ (k : ℕ). HasNoFault t (get_or (elements_in size count b) k []))
        (omega (arith, less, not)) clean
  ],
)

-- one more of elements of this size
pub before_fixed : (t : SszType) (size count i : ℕ) (b : List ℕ)
    → AreCleanBefore t (Some size) count i b → i < count
    → HasNoFault t (slice_range b (i * size) (i * size + size))
    → AreCleanBefore t (Some size) count (i + 1) b
before_fixed t size count i b h below clean =
    before_more t (Some size) count i b h below
    (subst (HasNoFault t) (sym (part_fixed_first count size b i below)) clean)

-- one more of elements with offsets
pub before_variable : (t : SszType) (count i from to : ℕ) (b : List ℕ)
    → AreCleanBefore t None count i b → i < count → from ≡ offset_at b (4 * i)
    → to ≡ next_offset (replicate (count - (i + 1)) None) (4 * i + 4) b
    → HasNoFault t (slice_range b from to) → AreCleanBefore t None count (i + 1) b
before_variable t count i from to b h below begin is clean =
    before_more t None count i b h below
    (subst (HasNoFault t)
    (ap (λ (f : ℕ). slice_range b f to) begin
    ∙ ap (λ (e : ℕ). slice_range b (offset_at b (4 * i)) e) is
    ∙ sym (part_variable_first count b i below)) clean)

-- the fault of all is that from there on
pub fixed_after : (t : SszType) (size count s i : ℕ) (b : List ℕ) → length b ≡ count * size
    → AreCleanBefore t (Some size) count i b → FixedFrom (first_fault t) size count s b i
fixed_after t size count s zero b whole h = FixedFrom-start (first_fault t) size count s b whole
fixed_after t size count s (suc i) b whole h =
    let below : i < count = omega (arith, h.0) in
    let next : i + 1 ≡ suc i = omega arith in
    subst (FixedFrom (first_fault t) size count s b) next
    (FixedFrom-more (first_fault t) size count s b i
    (fixed_after t size count s i b whole (before_less t (Some size) count i b h)) below
    (ap (first_fault t (s + i * size)) (sym (part_fixed_first count size b i below))
    ∙ h.1 i (omega arith) (s + i * size)))

pub variable_after : (t : SszType) (count s i : ℕ) (b : List ℕ)
    → head_fault (replicate count None) s b ≡ None → AreCleanBefore t None count i b
    → VariableFrom (first_fault t) count s b i
variable_after t count s zero b head h = VariableFrom-start (first_fault t) count s b head
variable_after t count s (suc i) b head h =
    let below : i < count = omega (arith, h.0) in
    let next : i + 1 ≡ suc i = omega arith in
    subst (VariableFrom (first_fault t) count s b) next
    (VariableFrom-more (first_fault t) count s b i
    (variable_after t count s i b head (before_less t None count i b h)) below
    (ap (first_fault t (s + offset_at b (4 * i))) (sym (part_variable_first count b i below))
    ∙ h.1 i (omega arith) (s + offset_at b (4 * i))))
