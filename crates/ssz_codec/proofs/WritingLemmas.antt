-- Parts that are written one after another.
use Rattle.std.proofs.Common.{ℕ, suc, ◌≡◌, ◌<◌, ◌≤◌, ◌+◌, ◌-◌, List, [], ◌∷◌, ◌++◌, length, map, take, drop, get_or, replicate, Option, Some, None, refl, sym, ap, ap₂, subst, ◌∙◌, arith, append_assoc, length-append}
use Rattle.std.proofs.Math.Seq.{take-length}
use Rattle.std.proofs.lemmas.List.{append-nil, drop_all, length-take}
use Rattle.ssz_schema.specs.Types.{SszType}
use Rattle.ssz_schema.specs.Sizes.{fixed_size, head_size, part_sizes}
use Rattle.ssz_schema.specs.Unfolding.{type_tree_at, fields_over}
use Rattle.ssz_value.specs.declared.value.Value.{Value}
use Rattle.ssz_value.specs.Standing.{value_of, IsValue}
use Rattle.ssz_bytes.specs.Bytes.{le_bytes}
use Rattle.ssz_value.specs.Encoding.{serialize, heads, bodies, heads_length, joined, field_encodings}
use Rattle.ssz_value.specs.Values.{values}
use Rattle.ssz_schema.proofs.WalkFields.{drop_at}
use Rattle.ssz_value.proofs.PartLemmas.{Part, size_at, field_count_is}
use Rattle.ssz_value.specs.Shapes.{AreFields}
use Rattle.ssz_codec.specs.Writing.{WritesEncoding, PutsPart, PutsAll, Place}
use Rattle.ssz_parts.specs.Encoded.{body_of}

-- up to here the parts are written, but for these
pub record Writing (sizes : List (Option ℕ)) (parts : List (List ℕ)) (rest_sizes : List (Option ℕ))
    (rest_parts : List (List ℕ)) (at : Place) (front back : List ℕ) : Type 0 where
  pub fixed : take at.0 front ++ heads rest_sizes rest_parts (length front + at.1)
      ≡ heads sizes parts (length front)
  pub variable : take at.1 back ++ bodies rest_sizes rest_parts ≡ bodies sizes parts
  pub place : at.0 + heads_length rest_sizes ≡ length front
  pub end : at.1 + length (bodies rest_sizes rest_parts) ≤ length back

pub Writing-start : (sizes : List (Option ℕ)) (parts : List (List ℕ)) (front back : List ℕ)
    → length front ≡ heads_length sizes → length (bodies sizes parts) ≤ length back
    → Writing sizes parts sizes parts (0, 0) front back
Writing-start sizes parts front back fixed room = record {
  fixed = ap (heads sizes parts) (omega arith);
  variable = refl;
  place = omega arith;
  end = omega arith;
}

pub record HasRoom (size : Option ℕ) (bytes : List ℕ) (at : Place)
    (front back : List ℕ) : Type 0 where
  pub place : at.0 + head_size size ≤ length front
  pub end : at.1 + length (body_of size bytes) ≤ length back

pub Writing-room : (sizes : List (Option ℕ)) (parts : List (List ℕ)) (size : Option ℕ)
    (rest_sizes : List (Option ℕ)) (bytes : List ℕ) (rest_parts : List (List ℕ)) (at : Place)
    (front back : List ℕ)
    → Writing sizes parts (size ∷ rest_sizes) (bytes ∷ rest_parts) at front back
    → HasRoom size bytes at front back
Writing-room sizes parts (Some z) rest_sizes bytes rest_parts at front back h =
    record { place = omega (arith, h.place); end = omega (arith, h.end) }
Writing-room sizes parts None rest_sizes bytes rest_parts at front back h =
    record {
      place = omega (arith, h.place);
      end =
          omega (arith, h.end, length-append bytes (bodies rest_sizes rest_parts));
    }

pub Writing-more : (sizes : List (Option ℕ)) (parts : List (List ℕ)) (size : Option ℕ)
    (rest_sizes : List (Option ℕ)) (bytes : List ℕ) (rest_parts : List (List ℕ)) (at next : Place)
    (front back new_front new_back : List ℕ)
    → Writing sizes parts (size ∷ rest_sizes) (bytes ∷ rest_parts) at front back
    → PutsPart size bytes at next front back new_front new_back
    → length new_front ≡ length front → length new_back ≡ length back
    → Writing sizes parts rest_sizes rest_parts next new_front new_back
Writing-more sizes parts
    (Some z) rest_sizes bytes rest_parts at next front back new_front new_back h put same_front
    same_back =
    let offset : length new_front + next.1 ≡ length front + at.1 =
    omega (arith, put.end, same_front) in
    record {
      fixed = ap₂ (λ done o. done ++ heads rest_sizes rest_parts o) put.fixed offset
          ∙ append_assoc (take at.0 front) bytes (heads rest_sizes rest_parts (length front + at.1))
          ∙ h.fixed ∙ ap (heads sizes parts) (sym same_front);
      variable = ap (λ done. done ++ bodies rest_sizes rest_parts) (put.variable
          ∙ append-nil (take at.1 back)) ∙ h.variable;
      place = omega (arith, h.place, put.place, same_front);
      end = omega (arith, h.end, put.end, same_back);
    }
Writing-more sizes parts None rest_sizes bytes rest_parts at next front back new_front new_back h
    put same_front same_back =
    let offset : length new_front + next.1 ≡ length front + at.1 + length bytes =
    omega (arith, put.end, same_front) in
    record {
      fixed = ap₂ (λ done o. done ++ heads rest_sizes rest_parts o) put.fixed offset
          ∙ append_assoc (take at.0 front) (le_bytes 4 (length front + at.1))
          (heads rest_sizes rest_parts (length front + at.1 + length bytes))
          ∙ h.fixed ∙ ap (heads sizes parts) (sym same_front);
      variable = ap (λ done. done ++ bodies rest_sizes rest_parts) put.variable
          ∙ append_assoc (take at.1 back) bytes (bodies rest_sizes rest_parts) ∙ h.variable;
      place = omega (arith, h.place, put.place, same_front);
      end = omega (
        arith,
        h.end,
        put.end,
        same_back,
        length-append bytes
            (bodies rest_sizes rest_parts),
      );
    }

pub Writing-end : (sizes : List (Option ℕ)) (parts : List (List ℕ)) (at : Place)
    (front back : List ℕ) → Writing sizes parts [] [] at front back
    → PutsAll sizes parts at.1 front back
Writing-end sizes parts at front back h =
    let all : at.0 ≡ length front = omega (arith, h.place) in
    let variable : take at.1 back ≡ bodies sizes parts =
    sym (append-nil (take at.1 back)) ∙ h.variable in
    record {
      fixed = sym (ap (λ n. take n front) all ∙ take-length front)
          ∙ sym (append-nil (take at.0 front)) ∙ h.fixed;
      variable = variable;
      count = omega (arith, h.end, length-take at.1 back, ap length variable);
    }

-- both rooms together
pub joined_writes : (sizes : List (Option ℕ)) (parts : List (List ℕ)) (n count : ℕ)
    (front back : List ℕ) → PutsAll sizes parts n front back → length front ≡ heads_length sizes
    → count ≡ length front + n
    → WritesEncoding (joined sizes parts) count (front ++ back)
joined_writes sizes parts n count front back h e is =
    let bytes : take count (front ++ back) ≡ front ++ take n back =
    ap (λ m. take m (front ++ back)) is ∙ take_both front back n in
    let fixed : front ≡ heads sizes parts (heads_length sizes) =
    h.fixed ∙ ap (heads sizes parts) e in
    record {
      count = omega (
        arith,
        is,
        h.count,
        ap length fixed,
        length-append
            (heads sizes parts (heads_length sizes)) (bodies sizes parts),
      );
      bytes = bytes ∙ ap₂ (λ x y. x ++ y) fixed h.variable;
    }
  where
    take_both : (xs ys : List ℕ) (m : ℕ) → take (length xs + m) (xs ++ ys) ≡ xs ++ take m ys
    take_both [] ys m = ap (λ k. take k ys) (omega arith)
    take_both (x ∷ xs) ys m =
        let next : suc (length xs) + m ≡ suc (length xs + m) = omega arith in
        ap (λ k. take k (x ∷ xs ++ ys)) next ∙ ap (λ zs. x ∷ zs) (take_both xs ys m)

-- the elements from i on are left
pub record ElementsLeft (t : SszType) (vs : List Value) (i : ℕ) (at : Place)
    (front back : List ℕ) : Type 0 where
  pub written : Writing (replicate (length vs) (fixed_size t)) (map (serialize t) (map value_of vs))
      (replicate (length vs - i) (fixed_size t))
      (map (serialize t) (map value_of (drop i vs))) at front back

pub ElementsLeft-start : (t : SszType) (vs : List Value) (front back : List ℕ)
    → length front ≡ heads_length (replicate (length vs) (fixed_size t))
    → length (bodies (replicate (length vs) (fixed_size t))
    (map (serialize t) (map value_of vs))) ≤ length back
    → ElementsLeft t vs 0 (0, 0) front back
ElementsLeft-start t vs front back fixed room =
    let none : length vs ≡ length vs - 0 = omega arith in
    record {
      written = subst (λ (n : ℕ).
          Writing (replicate (length vs) (fixed_size t)) (map (serialize t) (map value_of vs))
          (replicate n (fixed_size t)) (map (serialize t) (map value_of vs)) (0, 0) front back) none
          (Writing-start (replicate (length vs) (fixed_size t))
          (map (serialize t) (map value_of vs)) front back fixed room);
    }

-- the same, with the element at i before the others
element_next : (t : SszType) (vs : List Value) (i : ℕ) (v : Value) (at : Place)
    (front back : List ℕ) → ElementsLeft t vs i at front back → i < length vs → v ≡ get_or vs i v
    → Writing (replicate (length vs) (fixed_size t)) (map (serialize t) (map value_of vs))
    (fixed_size t ∷ replicate (length vs - (i + 1)) (fixed_size t))
    (serialize t (value_of v) ∷ map (serialize t) (map value_of (drop (i + 1) vs))) at front back
element_next t vs i v at front back h below e =
    let count : length vs - i ≡ suc (length vs - (i + 1)) = omega arith in
    subst (λ (ws : List Value).
    Writing (replicate (length vs) (fixed_size t)) (map (serialize t) (map value_of vs))
    (fixed_size t ∷ replicate (length vs - (i + 1)) (fixed_size t))
    (map (serialize t) (map value_of ws)) at front back) (drop_at vs i v below e)
    (subst (λ (n : ℕ). Writing (replicate (length vs) (fixed_size t))
    (map (serialize t) (map value_of vs)) (replicate n (fixed_size t))
    (map (serialize t) (map value_of (drop i vs))) at front back) count h.written)

pub ElementsLeft-room : (t : SszType) (vs : List Value) (i : ℕ) (v : Value) (at : Place)
    (front back : List ℕ) → ElementsLeft t vs i at front back → i < length vs → v ≡ get_or vs i v
    → HasRoom (fixed_size t) (serialize t (value_of v)) at front back
ElementsLeft-room t vs i v at front back h below e =
    Writing-room _ _ _ _ _ _ _ _ _ (element_next t vs i v at front back h below e)

pub ElementsLeft-more : (t : SszType) (vs : List Value) (i : ℕ) (v : Value) (at next : Place)
    (front back new_front new_back : List ℕ) → ElementsLeft t vs i at front back → i < length vs
    → v ≡ get_or vs i v
    → PutsPart (fixed_size t) (serialize t (value_of v)) at next front back new_front new_back
    → length new_front ≡ length front → length new_back ≡ length back
    → ElementsLeft t vs (i + 1) next new_front new_back
ElementsLeft-more t vs i v at next front back new_front new_back h below e put same_front same_back
    =
    record {
      written = Writing-more _ _ _ _ _ _ _ _ _ _ _ _
          (element_next t vs i v at front back h below e) put same_front same_back;
    }

pub ElementsLeft-end : (t : SszType) (vs : List Value) (i : ℕ) (at : Place) (front back : List ℕ)
    → ElementsLeft t vs i at front back → length vs ≤ i
    → PutsAll (replicate (length vs) (fixed_size t))
    (map (serialize t) (map value_of vs)) at.1 front back
ElementsLeft-end t vs i at front back h all =
    let none : length vs - i ≡ 0 = omega arith in
    Writing-end _ _ at front back
    (subst (λ (ws : List Value).
    Writing (replicate (length vs) (fixed_size t)) (map (serialize t) (map value_of vs)) []
    (map (serialize t) (map value_of ws)) at front back) (drop_all i vs all)
    (subst (λ (n : ℕ). Writing (replicate (length vs) (fixed_size t))
    (map (serialize t) (map value_of vs)) (replicate n (fixed_size t))
    (map (serialize t) (map value_of (drop i vs))) at front back) none h.written))

-- the same of fields
pub record FieldsLeft (trees : List SszType) (fields : List Part) (vs : List Value) (i : ℕ)
    (at : Place) (front back : List ℕ) : Type 0 where
  pub written : Writing (part_sizes (fields_over trees fields))
      (field_encodings (fields_over trees fields) (map value_of vs))
      (part_sizes (fields_over trees (drop i fields)))
      (field_encodings (fields_over trees (drop i fields)) (map value_of (drop i vs))) at front back
  pub values : AreFields (fields_over trees (drop i fields)) (drop i vs)

pub FieldsLeft-start : (trees : List SszType) (fields : List Part) (vs : List Value)
    (front back : List ℕ) → AreFields (fields_over trees fields) vs
    → length front ≡ heads_length (part_sizes (fields_over trees fields))
    → length (bodies (part_sizes (fields_over trees fields))
    (field_encodings (fields_over trees fields) (map value_of vs))) ≤ length back
    → FieldsLeft trees fields vs 0 (0, 0) front back
FieldsLeft-start trees fields vs front back values fixed room =
    record {
      written = Writing-start (part_sizes (fields_over trees fields))
          (field_encodings (fields_over trees fields) (map value_of vs)) front back fixed room;
      values = values;
    }

pub FieldsLeft-within : (trees : List SszType) (fields : List Part) (vs : List Value)
    → AreFields (fields_over trees fields) vs → (i : ℕ) → i < length fields → i < length vs
FieldsLeft-within trees fields vs h i below = omega (arith, field_count_is trees fields vs h)

field_next : (trees : List SszType) (fields : List Part) (vs : List Value) (i : ℕ) (part : Part)
    (v : Value) (at : Place) (front back : List ℕ) → FieldsLeft trees fields vs i at front back
    → i < length fields → i < length vs → part ≡ get_or fields i part → v ≡ get_or vs i v
    → Writing (part_sizes (fields_over trees fields))
    (field_encodings (fields_over trees fields) (map value_of vs))
    (size_at trees part ∷ part_sizes (fields_over trees (drop (i + 1) fields)))
    (serialize (type_tree_at trees part.1) (value_of v) ∷ field_encodings
    (fields_over trees (drop (i + 1) fields)) (map value_of (drop (i + 1) vs))) at front back
field_next trees fields vs i part v at front back h below within e is =
    subst (λ (ws : List Value).
    Writing (part_sizes (fields_over trees fields))
    (field_encodings (fields_over trees fields) (map value_of vs))
    (size_at trees part ∷ part_sizes (fields_over trees (drop (i + 1) fields)))
    (field_encodings (fields_over trees (part ∷ drop (i + 1) fields)) (map value_of ws)) at front
    back) (drop_at vs i v within is)
    (subst (λ (fs : List Part).
    Writing (part_sizes (fields_over trees fields))
    (field_encodings (fields_over trees fields) (map value_of vs))
    (part_sizes (fields_over trees fs))
    (field_encodings (fields_over trees fs) (map value_of (drop i vs))) at front back)
    (drop_at fields i part below e) h.written)

both_next : (trees : List SszType) (fields : List Part) (vs : List Value) (i : ℕ) (part : Part)
    (v : Value) → AreFields (fields_over trees (drop i fields)) (drop i vs) → i < length fields
    → i < length vs → part ≡ get_or fields i part → v ≡ get_or vs i v
    → IsValue (type_tree_at trees part.1) v × AreFields (fields_over trees (drop (i + 1) fields))
    (drop (i + 1) vs)
both_next trees fields vs i part v h below within e is =
    subst (λ (ws : List Value). AreFields (fields_over trees (part ∷ drop (i + 1) fields)) ws)
    (drop_at vs i v within is)
    (subst (λ (fs : List Part). AreFields (fields_over trees fs) (drop i vs))
    (drop_at fields i part below e) h)

pub FieldsLeft-value : (trees : List SszType) (fields : List Part) (vs : List Value) (i : ℕ)
    (part : Part) (v : Value) (at : Place) (front back : List ℕ)
    → FieldsLeft trees fields vs i at front back → i < length fields → i < length vs
    → part ≡ get_or fields i part → v ≡ get_or vs i v
    → IsValue (type_tree_at trees part.1) v
FieldsLeft-value trees fields vs i part v at front back h below within e is =
    (both_next trees fields vs i part v h.values below within e is).0

pub FieldsLeft-room : (trees : List SszType) (fields : List Part) (vs : List Value) (i : ℕ)
    (part : Part) (v : Value) (at : Place) (front back : List ℕ)
    → FieldsLeft trees fields vs i at front back → i < length fields → i < length vs
    → part ≡ get_or fields i part → v ≡ get_or vs i v
    → HasRoom (size_at trees part)
    (serialize (type_tree_at trees part.1) (value_of v)) at front back
FieldsLeft-room trees fields vs i part v at front back h below within e is =
    Writing-room _ _ _ _ _ _ _ _ _
    (field_next trees fields vs i part v at front back h below within e is)

pub FieldsLeft-more : (trees : List SszType) (fields : List Part) (vs : List Value) (i : ℕ)
    (part : Part) (v : Value) (at next : Place) (front back new_front new_back : List ℕ)
    → FieldsLeft trees fields vs i at front back
    → i < length fields → i < length vs → part ≡ get_or fields i part → v ≡ get_or vs i v
    → PutsPart (size_at trees part)
    (serialize (type_tree_at trees part.1) (value_of v)) at next front back new_front new_back
    → length new_front ≡ length front → length new_back ≡ length back
    → FieldsLeft trees fields vs (i + 1) next new_front new_back
FieldsLeft-more trees fields vs i part v at next front back new_front new_back h below within e is
    put same_front same_back =
    record {
      written = Writing-more _ _ _ _ _ _ _ _ _ _ _ _
          (field_next trees fields vs i part v at front back h below within e is) put same_front
          same_back;
      values = (both_next trees fields vs i part v h.values below within e is).1;
    }

pub FieldsLeft-end : (trees : List SszType) (fields : List Part) (vs : List Value) (i : ℕ)
    (at : Place) (front back : List ℕ) → FieldsLeft trees fields vs i at front back
    → length fields ≤ i
    → PutsAll (part_sizes (fields_over trees fields))
    (field_encodings (fields_over trees fields) (map value_of vs)) at.1 front back
FieldsLeft-end trees fields vs i at front back h all =
    Writing-end _ _ at front back
    (subst (λ (fs : List Part).
    Writing (part_sizes (fields_over trees fields))
    (field_encodings (fields_over trees fields) (map value_of vs))
    (part_sizes (fields_over trees fs))
    (field_encodings (fields_over trees fs) (map value_of (drop i vs))) at front back)
    (drop_all i fields all) h.written)
