-- What bytes without a fault tell of their parts.
use Rattle.std.proofs.Common.{ℕ, ◌+◌, ◌*◌, ◌<◌, ◌≡◌, true, List, length, replicate, slice_get, slice_range, drop, length-drop, get_or, Option, Some, None, sym, ap, subst, ◌∙◌, arith}
use Rattle.ssz_schema.specs.format.Format.{Format}
use Rattle.ssz_schema.specs.width.Width.TheVariants.{W8}
use Rattle.ssz_schema.specs.Types.{SszType, uint, container, union}
use Rattle.ssz_schema.specs.Sizes.{fixed_size}
use Rattle.ssz_schema.specs.Legal.{IsLegal}
use Rattle.ssz_schema.specs.Unfolding.{type_tree_at, fields_over, options_over}
use Rattle.ssz_value.specs.Standing.{is_byte}
use Rattle.ssz_value.specs.Faults.{first_fault, elements_fault, head_fault}
use Rattle.ssz_value.proofs.Agree.{IsInput, IsInput-range, no_faults, length_from_fault}
use Rattle.ssz_value.proofs.FormLemmas.{byte_type}
use Rattle.ssz_value.proofs.PartLemmas.{Part, sizes_of, size_at}
use Rattle.ssz_parts.specs.Ranges.{part_range}
use Rattle.ssz_parts.proofs.ElementFaults.{head_fault-alike}
use Rattle.ssz_parts.proofs.ElementLemmas.{elements_head}
use Rattle.ssz_parts.proofs.Faultless.{anywhere, container_faultless}
use Rattle.ssz_parts.proofs.FieldLemmas.{FieldsFrom, next_field}
use Rattle.ssz_parts.proofs.UnionLemmas.{union_past, union_some}
use Rattle.ssz_parts.proofs.UnionValues.{union_chosen}
use Rattle.ssz_bytes.proofs.Numbers.{IsBytes-drop}

-- a field of bytes without a fault has none
pub record IsCleanField (t : SszType) (b : List ℕ) (from to : ℕ) : Type 0 where
  pub here : first_fault t (0 + from) (slice_range b from to) ≡ None
  pub none : first_fault t 0 (slice_range b from to) ≡ None

pub field_clean : (format : Format) (trees : List SszType) (parts : List Part) (b : List ℕ)
    (i place from to : ℕ) (part : Part) → FieldsFrom trees parts 0 b i place → i < length parts
    → part ≡ get_or parts i part
    → (from, to) ≡ part_range (size_at trees part) (sizes_of trees (drop (i + 1) parts)) place b
    → IsLegal format (type_tree_at trees part.1) → IsInput b
    → first_fault (container (fields_over trees parts)) 0 b ≡ None
    → IsCleanField (type_tree_at trees part.1) b from to
field_clean format trees parts b i place from to part h below e is legal input good =
    let there = (no_faults _ _ (sym (next_field trees parts 0 b i place part below e) ∙ h.rest
    ∙ (container_faultless trees parts b good).fields)).0 in
    let here : first_fault (type_tree_at trees part.1) (0 + from) (slice_range b from to) ≡ None =
    subst (λ (r : ℕ × ℕ).
    first_fault (type_tree_at trees part.1) (0 + r.0) (slice_range b r.0 r.1) ≡ None) (sym is)
    there in
    record {
      here = here;
      none = anywhere format (type_tree_at trees part.1) legal (0 + from) 0 (slice_range b from to)
          (IsInput-range b from to input) here;
    }

-- elements of fixed size are exactly as long as they should be
pub elements_length : (t : SszType) (z count : ℕ) (b : List ℕ) → fixed_size t ≡ Some z
    → elements_fault (first_fault t) (fixed_size t) count 0 b ≡ None → length b ≡ count * z
elements_length t z count b e h =
    let head : head_fault (replicate count (Some z)) 0 b ≡ None =
    subst (λ (size : Option ℕ). head_fault (replicate count size) 0 b ≡ None) e
    (elements_head t (fixed_size t) count b h) in
    length_from_fault (count * z) 0 b (sym (head_fault-alike count z 0 b) ∙ head)

-- elements of one byte are as many as the bytes
pub of_bytes : (t : SszType) (count : ℕ) (b : List ℕ) (P : SszType → ℕ → Type 0)
    → is_byte t ≡ true → elements_fault (first_fault t) (fixed_size t) count 0 b ≡ None
    → P (uint W8) (length b) → P t count
of_bytes t count b P byte clean h =
    let is : t ≡ uint W8 = byte_type t byte in
    let size : fixed_size t ≡ Some 1 = ap fixed_size is in
    let many : length b ≡ count = omega (arith, elements_length t 1 count b size clean) in
    subst (λ (ty : SszType). P ty count) (sym is) (subst (P (uint W8)) many h)

-- the value of the option that is chosen
pub option_clean : (format : Format) (trees : List SszType) (ids : List (Option ℕ)) (id : ℕ)
    (b : List ℕ) → Some (Some id) ≡ slice_get ids (get_or b 0 0)
    → IsLegal format (type_tree_at trees id) → IsInput b
    → first_fault (union (options_over trees ids)) 0 b ≡ None
    → first_fault (type_tree_at trees id) 0 (drop 1 b) ≡ None
option_clean format trees ids id b e legal input h =
    let some = (union_chosen trees ids b h).some in
    anywhere format (type_tree_at trees id) legal (0 + 1) 0 (drop 1 b) (record {
      bytes = IsBytes-drop 1 b input.bytes;
      short = omega (arith, length-drop 1 b, input.short);
    }) (sym (union_some trees ids 0 id b some e) ∙ h)

-- there is such an option
pub option_there : (trees : List SszType) (ids : List (Option ℕ)) (b : List ℕ)
    → None ≡ slice_get ids (get_or b 0 0)
    → first_fault (union (options_over trees ids)) 0 b ≡ None → ⊥
option_there trees ids b e h =
    let some = (union_chosen trees ids b h).some in
    let bad = union_past trees ids 0 b some e in cc
