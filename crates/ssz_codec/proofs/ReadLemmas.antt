-- Parts that are read one after another.
use Rattle.std.proofs.Common.{ℕ, ◌+◌, ◌-◌, ◌*◌, ◌<◌, ◌≤◌, ◌≡◌, List, [], ◌∷◌, ◌++◌, length, map, replicate, slice_range, drop, get_or, Option, Some, None, sym, ap, ap₂, subst, ◌∙◌, arith, append_assoc, refl}
use Rattle.std.proofs.lemmas.List.{append-nil, drop_all}
use Rattle.ssz_schema.specs.Types.{SszType}
use Rattle.ssz_schema.specs.Sizes.{head_size}
use Rattle.ssz_schema.specs.format.Format.{Format}
use Rattle.ssz_schema.specs.Legal.{IsLegal}
use Rattle.ssz_schema.specs.Unfolding.{type_tree_at, fields_over}
use Rattle.ssz_value.specs.declared.value.Value.{Value}
use Rattle.ssz_value.specs.Values.{SszValue, values, Fits}
use Rattle.ssz_value.specs.Laws.{Encodes}
use Rattle.ssz_value.proofs.Agree.{IsInput}
use Rattle.ssz_value.proofs.ExactLaw.{agrees}
use Rattle.ssz_value.specs.Standing.{value_of, Stands, IsValue}
use Rattle.ssz_value.specs.Faults.{first_fault, scopes, scope_bytes}
use Rattle.ssz_value.specs.Reading.{value_in, elements_in, fields_in}
use Rattle.ssz_parts.specs.Ranges.{part_range}
use Rattle.ssz_parts.proofs.ElementFaults.{left}
use Rattle.ssz_schema.proofs.WalkFields.{drop_at}
use Rattle.ssz_value.proofs.PartLemmas.{Part, sizes_of, size_at}

-- the values read, and those of the parts from element i on, are all
pub record ReadFrom (t : SszType) (size : Option ℕ) (count : ℕ) (b : List ℕ) (i place : ℕ)
    (values : List SszValue) : Type 0 where
  pub all : values ++ map (value_in t) (scope_bytes (scopes (replicate (count - i) size) place b))
      ≡ map (value_in t) (elements_in size count b)

pub ReadFrom-start : (t : SszType) (size : Option ℕ) (count place : ℕ) (b : List ℕ) → place ≡ 0
    → ReadFrom t size count b 0 place []
ReadFrom-start t size count place b e =
    record {
      all = ap₂ (λ n p. map (value_in t) (scope_bytes (scopes (replicate n size) p b)))
          (omega arith) e;
    }

pub ReadFrom-fixed : (t : SszType) (z count : ℕ) (b : List ℕ) (i : ℕ) (values : List SszValue)
    (v : SszValue) → ReadFrom t (Some z) count b i (i * z) values → i < count
    → v ≡ value_in t (slice_range b (i * z) (i * z + z))
    → ReadFrom t (Some z) count b (i + 1) ((i + 1) * z) (values ++ v ∷ [])
ReadFrom-fixed t z count b i values v h below is =
    let next : i * z + z ≡ (i + 1) * z = omega arith in
    let cut : scopes (replicate (count - i) (Some z)) (i * z) b
    ≡ (i * z, slice_range b (i * z) (i * z + z)) ∷ scopes (replicate (count - (i + 1)) (Some z))
    ((i + 1) * z) b =
    ap (λ n. scopes (replicate n (Some z)) (i * z) b) (left count i below)
    ∙ ap (λ place. (i * z, slice_range b (i * z) (i * z + z)) ∷ scopes
    (replicate (count - (i + 1)) (Some z)) place b) next in
    record {
      all = append_assoc values (v ∷ [])
          (map (value_in t) (scope_bytes
          (scopes (replicate (count - (i + 1)) (Some z)) ((i + 1) * z) b)))
          ∙ ap (λ w. values ++ w ∷ map (value_in t)
          (scope_bytes (scopes (replicate (count - (i + 1)) (Some z)) ((i + 1) * z) b))) is
          ∙ sym (ap (λ parts. values ++ map (value_in t) (scope_bytes parts)) cut) ∙ h.all;
    }

pub ReadFrom-end : (t : SszType) (size : Option ℕ) (count : ℕ) (b : List ℕ) (i place : ℕ)
    (values : List SszValue) → ReadFrom t size count b i place values → count ≤ i
    → values ≡ map (value_in t) (elements_in size count b)
ReadFrom-end t size count b i place values h all =
    let none : count - i ≡ 0 = omega arith in
    sym (append-nil values) ∙ sym
    (ap (λ n. values ++ map (value_in t) (scope_bytes (scopes (replicate n size) place b))) none)
    ∙ h.all

-- the same of fields
pub record FieldsRead (trees : List SszType) (parts : List Part) (b : List ℕ) (i place : ℕ)
    (values : List SszValue) : Type 0 where
  pub all : values ++ fields_in (fields_over trees (drop i parts))
      (scope_bytes (scopes (sizes_of trees (drop i parts)) place b))
      ≡ fields_in (fields_over trees parts) (scope_bytes (scopes (sizes_of trees parts) 0 b))

pub FieldsRead-start : (trees : List SszType) (parts : List Part) (b : List ℕ)
    → FieldsRead trees parts b 0 0 []
FieldsRead-start trees parts b = record { all = refl }

next_read : (trees : List SszType) (parts : List Part) (b : List ℕ) (place : ℕ) (part : Part)
    (size : Option ℕ) → size_at trees part ≡ size
    → fields_in (fields_over trees (part ∷ parts))
    (scope_bytes (scopes (size ∷ sizes_of trees parts) place b))
    ≡ value_in (type_tree_at trees part.1)
    (slice_range b (part_range size (sizes_of trees parts) place b).0
    (part_range size (sizes_of trees parts) place b).1)
    ∷ fields_in (fields_over trees parts)
    (scope_bytes (scopes (sizes_of trees parts) (place + head_size size) b))
next_read trees parts b place part (Some z) e = refl
next_read trees parts b place part None e = refl

pub FieldsRead-more : (trees : List SszType) (parts : List Part) (b : List ℕ) (i place from to : ℕ)
    (part : Part) (values : List SszValue) (v : SszValue) → FieldsRead trees parts b i place values
    → i < length parts → part ≡ get_or parts i part
    → (from, to) ≡ part_range (size_at trees part) (sizes_of trees (drop (i + 1) parts)) place b
    → v ≡ value_in (type_tree_at trees part.1) (slice_range b from to)
    → FieldsRead trees parts b (i + 1) (place + head_size (size_at trees part)) (values ++ v ∷ [])
FieldsRead-more trees parts b i place from to part values v h below e is read =
    let here = ap (λ ps. fields_in (fields_over trees ps)
    (scope_bytes (scopes (sizes_of trees ps) place b))) (drop_at parts i part below e)
    ∙ next_read trees (drop (i + 1) parts) b place part (size_at trees part) refl in
    let same : v ≡ value_in (type_tree_at trees part.1)
    (slice_range b (part_range (size_at trees part)
    (sizes_of trees (drop (i + 1) parts)) place b).0
    (part_range (size_at trees part) (sizes_of trees (drop (i + 1) parts)) place b).1) =
    read ∙ ap (λ (r : ℕ × ℕ). value_in (type_tree_at trees part.1) (slice_range b r.0 r.1)) is in
    record {
      all = append_assoc values (v ∷ [])
          (fields_in (fields_over trees (drop (i + 1) parts))
          (scope_bytes (scopes (sizes_of trees (drop (i + 1) parts))
          (place + head_size (size_at trees part)) b)))
          ∙ ap (λ w. values ++ w ∷ fields_in (fields_over trees (drop (i + 1) parts))
          (scope_bytes (scopes (sizes_of trees (drop (i + 1) parts))
          (place + head_size (size_at trees part)) b))) same
          ∙ sym (ap (λ vs. values ++ vs) here) ∙ h.all;
    }

pub FieldsRead-end : (trees : List SszType) (parts : List Part) (b : List ℕ) (i place : ℕ)
    (values : List SszValue) → FieldsRead trees parts b i place values → length parts ≤ i
    → values ≡ fields_in (fields_over trees parts) (scope_bytes (scopes (sizes_of trees parts) 0 b))
FieldsRead-end trees parts b i place values h all =
    sym (append-nil values) ∙ sym
    (ap (λ ps. values ++ fields_in (fields_over trees ps)
    (scope_bytes (scopes (sizes_of trees ps) place b))) (drop_all i parts all)) ∙ h.all

-- what is decoded is a value whose encoding the bytes are
pub decoded_encodes : (format : Format) (t : SszType) (b : List ℕ) (v : Value) → IsLegal format t
    → IsInput b → first_fault t 0 b ≡ None → Stands t (value_in t b) v → Encodes t (value_of v) b
decoded_encodes format t b v legal input none h =
    let back = (agrees format t legal).only 0 b input none in
    subst (λ (w : SszValue). Encodes t w b) (sym h.value)
    (record { fits = back.fits; bytes = back.bytes })

pub decoded_fits : (format : Format) (t : SszType) (b : List ℕ) (v : Value) → IsLegal format t
    → IsInput b → first_fault t 0 b ≡ None → Stands t (value_in t b) v → IsValue t v
decoded_fits format t b v legal input none h =
    let back = (agrees format t legal).only 0 b input none in
    record { fits = subst (Fits t) (sym h.value) back.fits; formed = h.formed }
