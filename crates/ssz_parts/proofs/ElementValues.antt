-- The values of elements, as many as were asked for, and written back as they were read.
use Rattle.ssz_schema.specs.format.Format.{Format}
use Rattle.std.proofs.Common.{◌≡◌, ℕ, ◌+◌, List, [], ◌∷◌, length, map, replicate, Option, None, refl, ap, ap₂, ◌∙◌}
use Rattle.std.proofs.lemmas.List.{length-map}
use Rattle.ssz_schema.specs.Types.{SszType}
use Rattle.ssz_schema.specs.Sizes.{fixed_size}
use Rattle.ssz_schema.specs.Legal.{IsLegal}
use Rattle.ssz_value.specs.Encoding.{serialize, joined, joined_alike}
use Rattle.ssz_value.specs.Faults.{first_fault, Scope, scopes, scope_bytes, head_fault, alike_fault, elements_fault}
use Rattle.ssz_value.specs.Reading.{value_in, elements_in}
use Rattle.ssz_value.proofs.Agree.{IsInput, AreInputs, AreInputs-scopes, no_faults}
use Rattle.ssz_value.proofs.ExactLaw.{agrees}
use Rattle.ssz_value.proofs.Cut.{joined-cut}
use Rattle.ssz_parts.specs.PartValues.{element_values}
use Rattle.ssz_parts.proofs.ElementLemmas.{length-elements_in}

pub length-element_values : (t : SszType) (count : ℕ) (b : List ℕ)
    → length (element_values t count b) ≡ count
length-element_values t count b = length-map (elements_in (fixed_size t) count b) (value_in t)
    ∙ length-elements_in (fixed_size t) count b

-- the elements are written back as they were read
parts_written : (format : Format) (t : SszType) → IsLegal format t → (s : ℕ) (parts : List Scope)
    → AreInputs parts → alike_fault (first_fault t) s parts ≡ None
    → map (serialize t) (map (value_in t) (scope_bytes parts)) ≡ scope_bytes parts
parts_written format t legal s [] all h = refl
parts_written format t legal s (part ∷ parts) all h =
    let both = no_faults (first_fault t (s + part.0) part.1)
    (alike_fault (first_fault t) s parts) h in
    ap₂ (λ bytes rest. bytes ∷ rest) ((agrees format t legal).only (s + part.0)
    part.1 all.0 both.0).bytes (parts_written format t legal s parts all.1 both.1)

-- all of them
pub elements_written : (format : Format) (t : SszType) → IsLegal format t → (count : ℕ)
    (b : List ℕ)
    → IsInput b → elements_fault (first_fault t) (fixed_size t) count 0 b ≡ None
    → joined_alike (fixed_size t) (map (serialize t) (element_values t count b)) ≡ b
elements_written format t legal count b input h =
    let sizes : List (Option ℕ) = replicate count (fixed_size t) in
    let both = no_faults (head_fault (replicate count (fixed_size t)) 0 b)
    (alike_fault (first_fault t) 0 (scopes (replicate count (fixed_size t)) 0 b)) h in
    ap (joined_alike (fixed_size t)) (parts_written format t legal 0 (scopes sizes 0 b)
    (AreInputs-scopes sizes 0 b input) both.1)
    ∙ ap (λ n. joined (replicate n (fixed_size t)) (elements_in (fixed_size t) count b))
    (length-elements_in (fixed_size t) count b)
    ∙ joined-cut sizes 0 b input.bytes both.0
