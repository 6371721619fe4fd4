-- The bytes of one element among those of all.
use Rattle.std.proofs.Common.{◌≡◌, ℕ, zero, suc, ◌+◌, ◌-◌, ◌*◌, ◌<◌, ◌≤◌, List, [], ◌∷◌, ◌++◌, length, map, take, replicate, get_or, slice_range, Option, Some, None, refl, sym, ap, ap₂, subst, ◌∙◌, arith, ltb, ltb-false}
use Rattle.std.proofs.lemmas.List.{length-replicate}
use Rattle.std.proofs.Math.Nat.{mul-le-mul_left}
use Rattle.ssz_schema.specs.Types.{SszType}
use Rattle.ssz_schema.specs.format.Format.{Format}
use Rattle.ssz_bytes.specs.declared.fault.Fault.{Fault}
use Rattle.ssz_schema.specs.Legal.{IsLegal}
use Rattle.ssz_value.specs.Encoding.{heads_length}
use Rattle.ssz_value.specs.Faults.{Scope, scopes, scope_bytes, head_fault, alike_fault, elements_fault, offset_at, next_offset, first_fault}
use Rattle.ssz_value.specs.Reading.{elements_in}
use Rattle.ssz_value.proofs.Agree.{IsInput, AreInputs, AreInputs-scopes, no_faults, length_from_fault, length-scopes, length-bytes_of}
use Rattle.ssz_value.proofs.Cut.{passes}
use Rattle.ssz_parts.proofs.ElementFaults.{head_fault-alike, heads_length-none}
use Rattle.ssz_parts.proofs.FieldLemmas.{InRange, first_in_range}
use Rattle.ssz_parts.proofs.Faultless.{IsFaultless, anywhere}

-- elements of one size
pub part_fixed : (count z place : ℕ) (b : List ℕ) (i : ℕ) → i < count
    → get_or (scope_bytes (scopes (replicate count (Some z)) place b)) i []
    ≡ slice_range b (place + i * z) (place + i * z + z)
part_fixed zero z place b i h = absurd (omega arith)
part_fixed (suc count) z place b zero h = let e : place ≡ place + 0 * z = omega arith in
    ap (λ n. slice_range b n (n + z)) e
part_fixed (suc count) z place b (suc i) h =
    let e : place + z + i * z ≡ place + suc i * z = omega arith in
    part_fixed count z (place + z) b i (omega arith) ∙ ap (λ n. slice_range b n (n + z)) e

pub part_fixed_first : (count z : ℕ) (b : List ℕ) (i : ℕ) → i < count
    → get_or (scope_bytes (scopes (replicate count (Some z)) 0 b)) i []
    ≡ slice_range b (i * z) (i * z + z)
part_fixed_first count z b i h = let e : 0 + i * z ≡ i * z = omega arith in
    part_fixed count z 0 b i h ∙ ap (λ n. slice_range b n (n + z)) e

-- elements of variable size
pub part_variable : (count place : ℕ) (b : List ℕ) (i : ℕ) → i < count
    → get_or (scope_bytes (scopes (replicate count None) place b)) i []
    ≡ slice_range b (offset_at b (place + 4 * i))
    (next_offset (replicate (count - (i + 1)) None) (place + 4 * i + 4) b)
part_variable zero place b i h = absurd (omega arith)
part_variable (suc count) place b zero h =
    let here : place ≡ place + 4 * 0 = omega arith in
    let left : count ≡ suc count - (0 + 1) = omega arith in
    ap₂ (λ n c. slice_range b (offset_at b n) (next_offset (replicate c None) (n + 4) b)) here left
part_variable (suc count) place b (suc i) h =
    let here : place + 4 + 4 * i ≡ place + 4 * suc i = omega arith in
    let left : count - (i + 1) ≡ suc count - (suc i + 1) = omega arith in
    part_variable count (place + 4) b i (omega arith)
    ∙ ap₂ (λ n c. slice_range b (offset_at b n) (next_offset (replicate c None) (n + 4) b))
    here left

pub part_variable_first : (count : ℕ) (b : List ℕ) (i : ℕ) → i < count
    → get_or (scope_bytes (scopes (replicate count None) 0 b)) i []
    ≡ slice_range b (offset_at b (4 * i)) (next_offset (replicate (count - (i + 1)) None)
    (4 * i + 4) b)
part_variable_first count b i h =
    let e : 0 + 4 * i ≡ 4 * i = omega arith in
    part_variable count 0 b i h ∙ ap (λ n. slice_range b (offset_at b n)
    (next_offset (replicate (count - (i + 1)) None) (n + 4) b)) e

-- the room that a head without a fault has
pub fixed_room : (count z : ℕ) (b : List ℕ) (i : ℕ) → head_fault (replicate count (Some z)) 0 b
    ≡ None → i < count → i * z + z ≤ length b
fixed_room count z b i h below =
    let whole : length b ≡ count * z = length_from_fault (count * z) 0 b
    (sym (head_fault-alike count z 0 b) ∙ h) in
    let few : z * (i + 1) ≤ z * count = mul-le-mul_left z (omega arith) in
    omega arith

pub variable_room : (count : ℕ) (b : List ℕ) → head_fault (replicate count None) 0 b ≡ None
    → 4 * count ≤ length b
variable_room count b h =
    let long = passes (ltb (length b) (heads_length (replicate count None))) _ _ h in
    omega (arith, heads_length-none count, ltb-false _ _ long.0)

-- where the part of element i lies
pub record LiesAt (count : ℕ) (b : List ℕ) (i : ℕ) : Type 0 where
  pub up : offset_at b (4 * i) ≤ next_offset (replicate (count - (i + 1)) None) (4 * i + 4) b
  pub inside : next_offset (replicate (count - (i + 1)) None) (4 * i + 4) b ≤ length b

in_range_at : (count place : ℕ) (b : List ℕ) (i : ℕ) → i < count
    → InRange (replicate count None) place b
    → (offset_at b (place + 4 * i) ≤ next_offset (replicate (count - (i + 1)) None)
    (place + 4 * i + 4) b) × (next_offset (replicate (count - (i + 1)) None) (place + 4 * i + 4) b
    ≤ length b)
in_range_at zero place b i h range = absurd (omega arith)
in_range_at (suc count) place b zero h range =
    let here : place ≡ place + 4 * 0 = omega arith in
    let left : count ≡ suc count - (0 + 1) = omega arith in
    let P : ℕ → ℕ → Type 0 = λ n c. (offset_at b n ≤ next_offset (replicate c None) (n + 4) b)
    × (next_offset (replicate c None) (n + 4) b ≤ length b) in
    subst (λ n. P n (suc count - (0 + 1))) here (subst (λ c. P place c) left (range.0, range.1))
in_range_at (suc count) place b (suc i) h range =
    let here : place + 4 + 4 * i ≡ place + 4 * suc i = omega arith in
    let left : count - (i + 1) ≡ suc count - (suc i + 1) = omega arith in
    let P : ℕ → ℕ → Type 0 = λ n c. (offset_at b n ≤ next_offset (replicate c None) (n + 4) b)
    × (next_offset (replicate c None) (n + 4) b ≤ length b) in
    subst (λ n. P n (suc count - (suc i + 1))) here
    (subst (λ c. P (place + 4 + 4 * i) c) left
    (in_range_at count (place + 4) b i (omega arith) range.2))

pub variable_lies : (count : ℕ) (b : List ℕ) (i : ℕ) → head_fault (replicate count None) 0 b ≡ None
    → i < count → LiesAt count b i
variable_lies count b i h below =
    let long = passes (ltb (length b) (heads_length (replicate count None))) _ _ h in
    let room : heads_length (replicate count None) ≤ length b = ltb-false _ _ long.0 in
    let all = in_range_at count 0 b i below (first_in_range (replicate count None) 0
    (heads_length (replicate count None)) 0 b room (omega arith) long.1) in
    let e : 0 + 4 * i ≡ 4 * i = omega arith in
    record {
      up = subst (λ n. offset_at b n ≤ next_offset (replicate (count - (i + 1)) None) (n + 4) b)
          e all.0;
      inside = subst (λ n. next_offset (replicate (count - (i + 1)) None) (n + 4) b ≤ length b)
          e all.1;
    }

-- a part of bytes without a fault has none
alike_at : (child : ℕ → List ℕ → Option Fault) (s : ℕ) (parts : List Scope) (i : ℕ)
    → alike_fault child s parts ≡ None → i < length parts → (p : ℕ)
    × (child p (get_or (scope_bytes parts) i []) ≡ None)
alike_at child s [] i h below = absurd (omega arith)
alike_at child s (part ∷ parts) zero h below = (s + part.0, (no_faults _ _ h).0)
alike_at child s (part ∷ parts) (suc i) h below =
    alike_at child s parts i (no_faults _ _ h).1 (omega arith)

input_at : (parts : List Scope) (i : ℕ) → AreInputs parts → i < length parts
    → IsInput (get_or (scope_bytes parts) i [])
input_at [] i all below = absurd (omega arith)
input_at (part ∷ parts) zero all below = all.0
input_at (part ∷ parts) (suc i) all below = input_at parts i all.1 (omega arith)

pub element_faultless : (format : Format) (t : SszType) → IsLegal format t
    → (size : Option ℕ) (count : ℕ) (b : List ℕ) (i : ℕ) → IsInput b
    → elements_fault (first_fault t) size count 0 b ≡ None → i < count
    → IsFaultless t (get_or (elements_in size count b) i [])
element_faultless format t legal size count b i input h below =
    let both = no_faults (head_fault (replicate count size) 0 b)
    (alike_fault (first_fault t) 0 (scopes (replicate count size) 0 b)) h in
    let within : i < length (scopes (replicate count size) 0 b) =
    omega (arith, length-scopes (replicate count size) 0 b, length-replicate count size) in
    let part = alike_at (first_fault t) 0 (scopes (replicate count size) 0 b) i both.1 within in
    let inside = input_at (scopes (replicate count size) 0 b) i
    (AreInputs-scopes (replicate count size) 0 b input) within in
    record {
      input = inside;
      none = anywhere format t legal part.0 0
          (get_or (elements_in size count b) i []) inside part.1;
    }

pub elements_head : (t : SszType) (size : Option ℕ) (count : ℕ) (b : List ℕ)
    → elements_fault (first_fault t) size count 0 b ≡ None
    → head_fault (replicate count size) 0 b ≡ None
elements_head t size count b h = (no_faults (head_fault (replicate count size) 0 b)
    (alike_fault (first_fault t) 0 (scopes (replicate count size) 0 b)) h).0

pub length-elements_in : (size : Option ℕ) (count : ℕ) (b : List ℕ)
    → length (elements_in size count b) ≡ count
length-elements_in size count b = length-bytes_of (scopes (replicate count size) 0 b)
    ∙ length-scopes (replicate count size) 0 b ∙ length-replicate count size

-- one more of the values of elements
pub take-map-more : {X : Type 0} (f : List ℕ → X) (parts : List (List ℕ)) (i : ℕ) → i < length parts
    → take (i + 1) (map f parts) ≡ take i (map f parts) ++ f (get_or parts i []) ∷ []
take-map-more f parts i h = let e : i + 1 ≡ suc i = omega arith in
    ap (λ n. take n (map f parts)) e ∙ more f parts i h
  where
    more : {X : Type 0} (f : List ℕ → X) (parts : List (List ℕ)) (i : ℕ) → i < length parts
        → take (suc i) (map f parts) ≡ take i (map f parts) ++ f (get_or parts i []) ∷ []
    more f [] i h = absurd (omega arith)
    more f (part ∷ parts) zero h = refl
    more f (part ∷ parts) (suc i) h = ap (λ xs. f part ∷ xs) (more f parts i (omega arith))
