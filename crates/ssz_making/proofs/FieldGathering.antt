-- The values of fields, one after another.
use Rattle.ssz_schema.specs.format.Format.{Format}
use Rattle.std.proofs.Common.{◌≡◌, ℕ, zero, suc, ◌+◌, ◌<◌, ◌≤◌, List, [], ◌∷◌, length, take, drop, get_or, slice_range, Option, Some, None, refl, sym, ap, subst, ◌∙◌, arith}
use Rattle.ssz_schema.specs.Types.{SszType, Fields, no_fields, field, container}
use Rattle.ssz_schema.specs.Sizes.{head_size, depth}
use Rattle.ssz_schema.specs.Unfolding.{type_tree_at, fields_over}
use Rattle.ssz_schema.specs.Legal.{IsLegal, AreLegalFields}
use Rattle.ssz_value.specs.Encoding.{heads_length}
use Rattle.ssz_value.specs.Faults.{first_fault, scopes, scope_bytes}
use Rattle.ssz_value.specs.Reading.{value_in, fields_in}
use Rattle.ssz_value.proofs.Agree.{IsInput, IsInput-range, no_faults}
use Rattle.ssz_schema.proofs.WalkFields.{drop_at}
use Rattle.ssz_value.proofs.PartLemmas.{Part as FieldPart, sizes_of, size_at}
use Rattle.ssz_parts.specs.Ranges.{part_range}
use Rattle.ssz_parts.proofs.FieldLemmas.{FieldsFrom, FieldsFrom-start, FieldsFrom-next, FieldsFrom-more, next_field}
use Rattle.ssz_parts.proofs.Faultless.{anywhere, IsFaultless}
use Rattle.ssz_parts.specs.PartValues.{field_values}
use Rattle.ssz_parts.proofs.Faultless.{container_faultless}
use Rattle.ssz_making.specs.Parts.{MadePart, whole_of, part_of_value, field_parts}
use Rattle.ssz_making.proofs.Forms.{container-part}
use Rattle.ssz_making.proofs.Placing.{IsAt, IsAt-drop}

-- the values of these fields, whose fixed parts begin at place
abbrev pub parts_from : List SszType → List FieldPart → ℕ → List ℕ → List MadePart
parts_from trees parts place b = field_parts (fields_over trees parts)
    (fields_in (fields_over trees parts) (scope_bytes (scopes (sizes_of trees parts) place b)))

-- the value that lies there
abbrev pub value_from : List SszType → FieldPart → (ℕ × ℕ) → List ℕ → MadePart
value_from trees part range b = part_of_value (type_tree_at trees part.1)
    (value_in (type_tree_at trees part.1) (slice_range b range.0 range.1))

parts_next : (trees : List SszType) (part : FieldPart) (parts : List FieldPart) (place : ℕ)
    (b : List ℕ) (size : Option ℕ) → size_at trees part ≡ size
    → field_parts (fields_over trees (part ∷ parts))
    (fields_in (fields_over trees (part ∷ parts))
    (scope_bytes (scopes (size ∷ sizes_of trees parts) place b)))
    ≡ value_from trees part (part_range size (sizes_of trees parts) place b) b
    ∷ parts_from trees parts (place + head_size size) b
parts_next trees part parts place b (Some z) e = refl
parts_next trees part parts place b None e = refl

pub length-parts_from : (trees : List SszType) (parts : List FieldPart) (place : ℕ) (b : List ℕ)
    → length (parts_from trees parts place b) ≡ length parts
length-parts_from trees [] place b = refl
length-parts_from trees (part ∷ parts) place b = omega (
  arith,
  ap (λ (ps : List MadePart). length ps)
      (parts_next trees part parts place b (size_at trees part) refl),
  length-parts_from trees parts (place + head_size (size_at trees part)) b,
)

-- one part for each value
length-field_parts : (fs : Fields) (bytes : List (List ℕ))
    → length (field_parts fs (fields_in fs bytes)) ≡ length (fields_in fs bytes)
length-field_parts no_fields bytes = refl
length-field_parts (field name t fs) [] = refl
length-field_parts (field name t fs) (b ∷ bytes) = omega (arith, length-field_parts fs bytes)

pub container-bytes : (fs : Fields) (b : List ℕ)
    → whole_of (depth (container fs)) (field_parts fs (field_values fs b))
    ≡ part_of_value (container fs) (value_in (container fs) b)
container-bytes fs b = container-part fs (field_values fs b) (length-field_parts fs _)

-- from the field at i on, the values are the last of all
pub record FieldsAt (trees : List SszType) (parts : List FieldPart) (b : List ℕ)
    (i place : ℕ) : Type 0 where
  pub fields : FieldsFrom trees parts 0 b i place
  pub rest : drop i (parts_from trees parts 0 b) ≡ parts_from trees (drop i parts) place b

pub FieldsAt-start : (trees : List SszType) (parts : List FieldPart) (b : List ℕ)
    → first_fault (container (fields_over trees parts)) 0 b ≡ None → FieldsAt trees parts b 0 0
FieldsAt-start trees parts b h = record {
  fields = FieldsFrom-start trees parts 0 b (container_faultless trees parts b h).head;
  rest = refl;
}

legal_at : (format : Format) (trees : List SszType) (parts : List FieldPart) (i : ℕ)
    (part : FieldPart) → i < length parts → part ≡ get_or parts i part
    → AreLegalFields format (fields_over trees parts) → IsLegal format (type_tree_at trees part.1)
legal_at format trees [] i part h e legal = absurd (omega arith)
legal_at format trees (p ∷ parts) zero part h e legal =
    subst (λ (q : FieldPart). IsLegal format (type_tree_at trees q.1)) (sym e) legal.1
legal_at format trees (p ∷ parts) (suc i) part h e legal =
    legal_at format trees parts i part (omega arith) e legal.2

-- where field i lies
abbrev pub range_of : List SszType → List FieldPart → List ℕ → ℕ → ℕ → FieldPart → ℕ × ℕ
range_of trees parts b i place part =
    part_range (size_at trees part) (sizes_of trees (drop (i + 1) parts)) place b

-- the next field lies within the bytes, and behind it the fixed parts of the others
pub FieldsAt-within : (trees : List SszType) (parts : List FieldPart) (b : List ℕ) (i place : ℕ)
    (part : FieldPart) (range : ℕ × ℕ) → FieldsAt trees parts b i place → i < length parts
    → part ≡ get_or parts i part → range ≡ range_of trees parts b i place part
    → (range.0 ≤ range.1) × (range.1 ≤ length b)
FieldsAt-within trees parts b i place part range h below e is =
    let next = FieldsFrom-next trees parts 0 b i place part h.fields below e in
    subst (λ (r : ℕ × ℕ). (r.0 ≤ r.1) × (r.1 ≤ length b)) (sym is) (next.up, next.inside)

pub FieldsAt-room : (trees : List SszType) (parts : List FieldPart) (b : List ℕ) (i place : ℕ)
    (part : FieldPart) → FieldsAt trees parts b i place → i < length parts
    → part ≡ get_or parts i part
    → place + head_size (size_at trees part)
    + heads_length (sizes_of trees (drop (i + 1) parts)) ≤ length b
FieldsAt-room trees parts b i place part h below e =
    (FieldsFrom-next trees parts 0 b i place part h.fields below e).room

-- field i has no fault
pub FieldsAt-faultless : (format : Format) (trees : List SszType) (parts : List FieldPart)
    (b : List ℕ) (i place : ℕ) (part : FieldPart) → FieldsAt trees parts b i place
    → i < length parts → part ≡ get_or parts i part
    → AreLegalFields format (fields_over trees parts) → IsInput b
    → first_fault (container (fields_over trees parts)) 0 b ≡ None
    → IsFaultless (type_tree_at trees part.1)
    (slice_range b (range_of trees parts b i place part).0 (range_of trees parts b i place part).1)
FieldsAt-faultless format trees parts b i place part h below e legal input good =
    let range = range_of trees parts b i place part in
    let none = (no_faults _ _ (sym (next_field trees parts 0 b i place part below e) ∙ h.fields.rest
    ∙ (container_faultless trees parts b good).fields)).0 in
    let inside = IsInput-range b range.0 range.1 input in
    record {
      input = inside;
      none = anywhere format (type_tree_at trees part.1)
          (legal_at format trees parts i part below e legal) (0 + range.0) 0
          (slice_range b range.0 range.1) inside none;
    }

-- the value of field i is the next, and behind it are the others
pub record IsNextField (trees : List SszType) (parts : List FieldPart) (b : List ℕ) (i place : ℕ)
    (part : FieldPart) (range : ℕ × ℕ) : Type 0 where
  pub at : IsAt (parts_from trees parts 0 b) i (value_from trees part range b)
  pub after : FieldsAt trees parts b (i + 1) (place + head_size (size_at trees part))

pub FieldsAt-next : (trees : List SszType) (parts : List FieldPart) (b : List ℕ) (i place : ℕ)
    (part : FieldPart) (range : ℕ × ℕ) → FieldsAt trees parts b i place → i < length parts
    → part ≡ get_or parts i part → range ≡ range_of trees parts b i place part
    → first_fault (container (fields_over trees parts)) 0 b ≡ None
    → IsNextField trees parts b i place part range
FieldsAt-next trees parts b i place part range h below e is good =
    let where_is = range_of trees parts b i place part in
    let none = (no_faults _ _ (sym (next_field trees parts 0 b i place part below e) ∙ h.fields.rest
    ∙ (container_faultless trees parts b good).fields)).0 in
    let split : drop i (parts_from trees parts 0 b)
    ≡ value_from trees part range b
    ∷ parts_from trees (drop (i + 1) parts) (place + head_size (size_at trees part)) b =
    h.rest ∙ ap (λ ps. parts_from trees ps place b) (drop_at parts i part below e)
    ∙ parts_next trees part (drop (i + 1) parts) place b (size_at trees part) refl
    ∙ ap (λ (r : ℕ × ℕ). value_from trees part r b
    ∷ parts_from trees (drop (i + 1) parts) (place + head_size (size_at trees part)) b) (sym is) in
    let found = IsAt-drop (parts_from trees parts 0 b) i (value_from trees part range b) _ split in
    record {
      at = found.0;
      after = record {
        fields = FieldsFrom-more trees parts 0 b i place where_is.0 where_is.1 part h.fields below e
            refl none;
        rest = found.1;
      };
    }

-- the first i fields were made and pushed
pub record FirstFields {S R : Type 0} (gathered : S → S → ℕ → ℕ → List MadePart → R → Type 0)
    (start now : S) (depth : ℕ) (rows : R) (trees : List SszType) (parts : List FieldPart)
    (b : List ℕ) (i place : ℕ) : Type 0 where
  pub fields : FieldsAt trees parts b i place
  pub pushed : gathered start now depth (length parts) (take i (parts_from trees parts 0 b)) rows

pub container_made : (form : SszType) (trees : List SszType) (parts : List FieldPart) (d : ℕ)
    (b : List ℕ) → form ≡ container (fields_over trees parts) → d ≡ depth form
    → whole_of d (parts_from trees parts 0 b) ≡ part_of_value form (value_in form b)
container_made form trees parts d b e deep =
    ap (λ k. whole_of k (parts_from trees parts 0 b)) (deep ∙ ap depth e)
    ∙ container-bytes (fields_over trees parts) b
    ∙ ap (λ ty. part_of_value ty (value_in ty b)) (sym e)
