-- Encodings of fields that are written one after another, and of each form of a type.
use Rattle.std.proofs.Common.{ℕ, zero, suc, ◌+◌, ◌-◌, ◌/◌, ◌%◌, ◌^◌, ◌<◌, ◌≤◌, ◌≡◌, min, Bool, List, [], ◌∷◌, ◌++◌, length, map, drop, get_or, slice_get, Option, Some, None, Result, OnOk, inl, inr, refl, sym, ap, ap₂, ◌∙◌, subst, arith, append_assoc}
use Rattle.std.proofs.lemmas.List.{drop_all}
use Rattle.ssz_chunk.specs.Tree.{Tree}
use Rattle.ssz_schema.specs.format.Format.{Format}
use Rattle.ssz_schema.specs.Types.{SszType, Fields, container, vector, list, bitvector, bitlist, union}
use Rattle.ssz_schema.specs.Sizes.{fixed_size, head_size, part_sizes, depth}
use Rattle.ssz_bytes.specs.Bytes.{le_bytes, number_of_bits}
use Rattle.ssz_schema.specs.Unfolding.{type_tree_at, fields_over, options_over}
use Rattle.ssz_schema.specs.Legal.{IsLegal, AreLegalFields}
use Rattle.ssz_value.specs.Values.{SszValue, bits, items, FitFields}
use Rattle.ssz_value.specs.Encoding.{serialize, heads_length, heads, bodies, joined, joined_alike, field_encodings, option_encoding}
use Rattle.ssz_bytes.proofs.Numbers.{length-le_bytes}
use Rattle.ssz_value.proofs.ExactLaw.{fields_agree}
use Rattle.ssz_schema.proofs.WalkFields.{drop_at}
use Rattle.ssz_value.proofs.PartLemmas.{Part, size_at}
use Rattle.ssz_places.proofs.BitPacking.{bit_bytes}
use Rattle.ssz_places.specs.PlaceLaws.{IsTreeOf}
use Rattle.ssz_parts.specs.Encoded.{head_of, body_of}
use Rattle.ssz_value.specs.Written.{capped}
use Rattle.ssz_nodes.specs.Shown.{ForValue, ForPlace, AreElements, AreFieldsIn, AreBits, ArePacked, ForElements, ForFields}
use Rattle.ssz_writing.specs.Offsets.{AreCountedBits, AddsBytes, room_of, rooms, delimited_bytes}
use Rattle.ssz_writing.proofs.Rooms.{rooms_step, fixed_rooms, Filled, Filled-start, Filled-more, Filled-end, joined_adds}
use Rattle.ssz_nodes.proofs.Walked.{FieldsLeft, FieldsLeft-start, FieldsLeft-first}
use Rattle.ssz_nodes.proofs.Formed.{IsVector, vector_elements, IsList, list_elements, IsContainer, container_fields, IsBitvector, bitvector_bits, IsBitlist, bitlist_bits, IsUnion, union_option, Unmixes}
use Rattle.ssz_nodes.proofs.Chunked.{on_ok}

-- the fixed parts of the fields from i on are still to be written
pub record FieldHeads (trees : List SszType) (fields : List Part) (i depth : ℕ)
    (all out : List ℕ) (node : Tree) : Type 0 where
  pub rest : List SszValue
  pub left : FieldsLeft trees fields i depth rest node
  pub is : out ++ rooms (part_sizes (fields_over trees (drop i fields)))
      (field_encodings (fields_over trees (drop i fields)) rest) ≡ all

pub FieldHeads-start : (trees : List SszType) (fields : List Part) (depth : ℕ)
    (vs : List SszValue) (out : List ℕ) (node : Tree)
    → AreFieldsIn (fields_over trees fields) depth vs node
    → FieldHeads trees fields 0 depth (out ++ rooms (part_sizes (fields_over trees fields))
    (field_encodings (fields_over trees fields) vs)) out node
FieldHeads-start trees fields depth vs out node are = record {
  rest = vs;
  left = FieldsLeft-start trees fields depth vs node are;
  is = refl;
}

pub FieldHeads-more : (trees : List SszType) (fields : List Part) (i depth : ℕ) (part : Part)
    (all out written : List ℕ) (node : Tree) → FieldHeads trees fields i depth all out node
    → i < length fields → part ≡ get_or fields i part
    → ForPlace (type_tree_at trees part.1) depth i node
    (λ v. written ≡ out ++ room_of (size_at trees part) (serialize (type_tree_at trees part.1) v))
    → FieldHeads trees fields (i + 1) depth all written node
FieldHeads-more trees fields i depth part all out written node h below e head =
    let first = FieldsLeft-first trees fields i depth part h.rest node h.left below e in
    let here = drop_at fields i part below e in
    record {
      rest = first.others;
      left = first.left;
      is = rooms_step (size_at trees part)
          (part_sizes (fields_over trees (drop (i + 1) fields)))
          (serialize (type_tree_at trees part.1) first.value)
          (field_encodings (fields_over trees (drop (i + 1) fields)) first.others) out written all
          (subst (λ (ws : List SszValue). out ++ rooms
          (part_sizes (fields_over trees (part ∷ drop (i + 1) fields)))
          (field_encodings (fields_over trees (part ∷ drop (i + 1) fields)) ws) ≡ all) first.are
          (subst (λ (ps : List Part). out ++ rooms (part_sizes (fields_over trees ps))
          (field_encodings (fields_over trees ps) h.rest) ≡ all) here h.is))
          (head first.value first.is);
    }

-- their variable parts
pub record FieldBodies (trees : List SszType) (fields : List Part) (i depth start room : ℕ)
    (all out : List ℕ) (node : Tree) : Type 0 where
  pub rest : List SszValue
  pub left : FieldsLeft trees fields i depth rest node
  pub filled : Filled (part_sizes (fields_over trees (drop i fields)))
      (field_encodings (fields_over trees (drop i fields)) rest) start room all out

pub FieldBodies-start : (format : Format) (trees : List SszType) (fields : List Part)
    (depth start : ℕ) (vs : List SszValue) (front out : List ℕ) (node : Tree)
    → AreLegalFields format (fields_over trees fields)
    → AreFieldsIn (fields_over trees fields) depth vs node
    → start < 2 ^ 64 → length front ≡ start
    → out ≡ front ++ rooms (part_sizes (fields_over trees fields))
    (field_encodings (fields_over trees fields) vs)
    → FieldBodies trees fields 0 depth start start
    (front ++ heads (part_sizes (fields_over trees fields))
    (field_encodings (fields_over trees fields) vs) (length out - start)
    ++ bodies (part_sizes (fields_over trees fields))
    (field_encodings (fields_over trees fields) vs)) out node
FieldBodies-start format trees fields depth start vs front out node legal are small at is =
    record {
      rest = vs;
      left = FieldsLeft-start trees fields depth vs node are;
      filled = Filled-start (part_sizes (fields_over trees fields))
          (field_encodings (fields_over trees fields) vs) start front out
          ((fields_agree format (fields_over trees fields) legal).sized vs are.fit) small at is;
    }

pub FieldBodies-more : (trees : List SszType) (fields : List Part)
    (i depth start room next : ℕ) (part : Part) (all out written : List ℕ) (node : Tree)
    → FieldBodies trees fields i depth start room all out node → i < length fields
    → part ≡ get_or fields i part
    → next ≡ min (room + head_size (size_at trees part)) (2 ^ 64 - 1)
    → ForPlace (type_tree_at trees part.1) depth i node (λ v. (front back : List ℕ)
    → room ≡ capped (length front)
    → out ≡ front ++ room_of (size_at trees part) (serialize (type_tree_at trees part.1) v) ++ back
    → written ≡ front ++ head_of (size_at trees part) (serialize (type_tree_at trees part.1) v)
    (length out - start) ++ back
    ++ body_of (size_at trees part) (serialize (type_tree_at trees part.1) v))
    → FieldBodies trees fields (i + 1) depth start next all written node
FieldBodies-more trees fields i depth start room next part all out written node h below e is
    body =
    let first = FieldsLeft-first trees fields i depth part h.rest node h.left below e in
    let here = drop_at fields i part below e in
    record {
      rest = first.others;
      left = first.left;
      filled = Filled-more (size_at trees part)
          (part_sizes (fields_over trees (drop (i + 1) fields)))
          (serialize (type_tree_at trees part.1) first.value)
          (field_encodings (fields_over trees (drop (i + 1) fields)) first.others) start room next
          all out written
          (subst (λ (ws : List SszValue). Filled
          (part_sizes (fields_over trees (part ∷ drop (i + 1) fields)))
          (field_encodings (fields_over trees (part ∷ drop (i + 1) fields)) ws) start room all
          out) first.are
          (subst (λ (ps : List Part). Filled (part_sizes (fields_over trees ps))
          (field_encodings (fields_over trees ps) h.rest) start room all out) here h.filled))
          is (body first.value first.is);
    }

pub FieldBodies-end : (trees : List SszType) (fields : List Part) (i depth start room : ℕ)
    (all out : List ℕ) (node : Tree) → FieldBodies trees fields i depth start room all out node
    → length fields ≤ i → out ≡ all
FieldBodies-end trees fields i depth start room all out node h past =
    end h.rest (subst (λ (ps : List Part). FitFields (fields_over trees ps) h.rest)
    (drop_all i fields past) h.left.fit)
    (subst (λ (ps : List Part). Filled (part_sizes (fields_over trees ps))
    (field_encodings (fields_over trees ps) h.rest) start room all out) (drop_all i fields past)
    h.filled)
  where
    end : (rest : List SszValue) → FitFields (fields_over trees []) rest
        → Filled (part_sizes (fields_over trees []))
        (field_encodings (fields_over trees []) rest) start room all out → out ≡ all
    end [] fit filled = Filled-end start room all out filled
    end (v ∷ rest) fit filled = absurd fit

-- where all fields are of fixed size
pub fixed_fields_add : (fs : Fields) (z : ℕ) (vs : List SszValue) (old new : List ℕ)
    → fixed_size (container fs) ≡ Some z
    → new ≡ old ++ rooms (part_sizes fs) (field_encodings fs vs)
    → new ≡ old ++ joined (part_sizes fs) (field_encodings fs vs)
fixed_fields_add fs z vs old new fixed is =
    is ∙ ap (λ xs. old ++ xs)
    (fixed_rooms (part_sizes fs) (field_encodings fs vs) z (heads_length (part_sizes fs)) fixed)

pub fields_adds : (format : Format) (fs : Fields) (start : ℕ) (vs : List SszValue)
    (old mid new : List ℕ) → AreLegalFields format fs → FitFields fs vs → start ≡ length old
    → mid ≡ old ++ rooms (part_sizes fs) (field_encodings fs vs)
    → new ≡ old ++ heads (part_sizes fs) (field_encodings fs vs) (length mid - start)
    ++ bodies (part_sizes fs) (field_encodings fs vs)
    → new ≡ old ++ joined (part_sizes fs) (field_encodings fs vs)
fields_adds format fs start vs old mid new legal fit at front end =
    joined_adds (part_sizes fs) (field_encodings fs vs) start old mid new
    ((fields_agree format fs legal).sized vs fit) at front end

-- by the form of the type

pub vector_adds : {E : Type 0} (elem : SszType) (n d : ℕ) (node : Tree) (old new : List ℕ)
    (result : Result Unit E) → d ≡ depth (vector elem n)
    → ForElements elem d n node
    (λ vs. AddsBytes (joined_alike (fixed_size elem) (map (serialize elem) vs)) old new result)
    → ForValue (vector elem n) node (λ v. AddsBytes (serialize (vector elem n) v) old new result)
vector_adds elem n d node old new result deep adds = λ v h.
    let of : IsVector elem n v node = vector_elements elem n v node h in
    subst (λ (w : SszValue). AddsBytes (serialize (vector elem n) w) old new result) (sym of.is)
    (adds (items of.parts) (subst (λ k. AreElements elem k n (items of.parts) node) (sym deep)
    of.are))

pub list_adds : {E : Type 0} (format : Format) (elem : SszType) (limit d count : ℕ)
    (node content : Tree) (old new : List ℕ) (result : Result Unit E)
    → IsLegal format (list elem limit) → d ≡ depth (list elem limit) → Unmixes node content count
    → ForElements elem d count content
    (λ vs. AddsBytes (joined_alike (fixed_size elem) (map (serialize elem) vs)) old new result)
    → ForValue (list elem limit) node
    (λ v. AddsBytes (serialize (list elem limit) v) old new result)
list_adds format elem limit d count node content old new result legal deep mixed adds = λ v h.
    let of : IsList elem limit v node = list_elements format elem limit v node legal h in
    let many : count ≡ length (items of.parts) = mixed.number _ _ of.tree of.small in
    let under : content ≡ of.content = mixed.tree _ _ of.tree in
    let are : AreElements elem d count (items of.parts) content =
    subst (λ k. AreElements elem k count (items of.parts) content) (sym deep)
    (subst (λ k. AreElements elem (depth (list elem limit)) k (items of.parts) content) (sym many)
    (subst (λ c. AreElements elem (depth (list elem limit)) (length (items of.parts))
    (items of.parts) c) (sym under) of.are)) in
    subst (λ (w : SszValue). AddsBytes (serialize (list elem limit) w) old new result) (sym of.is)
    (adds (items of.parts) are)

pub container_adds : {E : Type 0} (fs : Fields) (d : ℕ) (node : Tree) (old new : List ℕ)
    (result : Result Unit E) → d ≡ depth (container fs)
    → ForFields fs d node (λ vs. AddsBytes (joined (part_sizes fs) (field_encodings fs vs)) old new
    result)
    → ForValue (container fs) node (λ v. AddsBytes (serialize (container fs) v) old new result)
container_adds fs d node old new result deep adds = λ v h.
    let of : IsContainer fs v node = container_fields fs v node h in
    subst (λ (w : SszValue). AddsBytes (serialize (container fs) w) old new result) (sym of.is)
    (adds (items of.parts) (subst (λ k. AreFieldsIn fs k (items of.parts) node) (sym deep) of.are))

packed_bits : (d n : ℕ) (bs : List Bool) (node : Tree) → AreBits d n bs node
    → ArePacked d ((n + 7) / 8) (bit_bytes bs) node
packed_bits d n bs node are = record {
  many = length-le_bytes ((length bs + 7) / 8) (number_of_bits bs)
      ∙ ap (λ k. (k + 7) / 8) are.many;
  few = are.few;
  tree = are.tree;
}

pub bitvector_adds : {E : Type 0} (n d len : ℕ) (node : Tree) (old new : List ℕ)
    (result : Result Unit E) → d ≡ depth (bitvector n) → len ≡ (n + 7) / 8
    → ((bytes : List ℕ) → ArePacked d len bytes node → OnOk result (new ≡ old ++ bytes))
    → ForValue (bitvector n) node (λ v. AddsBytes (serialize (bitvector n) v) old new result)
bitvector_adds n d len node old new result deep long adds = λ v h.
    let of : IsBitvector n v node = bitvector_bits n v node h in
    let packed : ArePacked d len (bit_bytes of.run) node =
    subst (λ k. ArePacked d k (bit_bytes of.run) node) (sym long)
    (packed_bits d n of.run node (subst (λ k. AreBits k n of.run node) (sym deep) of.are)) in
    let bytes : bit_bytes of.run ≡ serialize (bitvector n) (bits of.run) =
    ap (λ k. le_bytes ((k + 7) / 8) (number_of_bits of.run)) of.are.many in
    subst (λ (w : SszValue). AddsBytes (serialize (bitvector n) w) old new result) (sym of.is)
    (on_ok result (λ is. is ∙ ap (λ xs. old ++ xs) bytes) (adds (bit_bytes of.run) packed))

pub bitlist_adds : {E : Type 0} (format : Format) (limit d : ℕ) (node : Tree) (old new : List ℕ)
    (result : Result Unit E) → IsLegal format (bitlist limit) → d ≡ depth (bitlist limit)
    → ((bs : List Bool) → AreCountedBits d bs node
    → OnOk result (new ≡ old ++ delimited_bytes bs))
    → ForValue (bitlist limit) node (λ v. AddsBytes (serialize (bitlist limit) v) old new result)
bitlist_adds format limit d node old new result legal deep adds = λ v h.
    let of : IsBitlist limit v node = bitlist_bits format limit v node legal h in
    subst (λ (w : SszValue). AddsBytes (serialize (bitlist limit) w) old new result) (sym of.is)
    (on_ok result (λ is. is) (adds of.run (record {
      content = of.content;
      tree = of.tree;
      are = subst (λ k. AreBits k (length of.run) of.run of.content) (sym deep) of.are;
      small = of.small;
    })))

-- counted bits and their bytes
pub counted_packed : (d count len : ℕ) (bs : List Bool) (node content : Tree)
    → Unmixes node content count → len ≡ (count + 7) / 8 → AreCountedBits d bs node
    → (length bs ≡ count) × ArePacked d len (bit_bytes bs) content
counted_packed d count len bs node content mixed long are =
    let many : length bs ≡ count = sym (mixed.number _ _ are.tree are.small) in
    let under : are.content ≡ content = sym (mixed.tree _ _ are.tree) in (
      many,
      subst (λ c. ArePacked d len (bit_bytes bs) c) under
          (subst (λ n. ArePacked d n (bit_bytes bs) are.content)
          (ap (λ k. (k + 7) / 8) many ∙ sym long)
          (packed_bits d (length bs) bs are.content are.are)),
    )

option_encoding_at : (trees : List SszType) (ids : List (Option ℕ)) (k id : ℕ) (w : SszValue)
    → slice_get ids k ≡ Some (Some id)
    → option_encoding (options_over trees ids) k w ≡ serialize (type_tree_at trees id) w
option_encoding_at trees [] k id w e = cc
option_encoding_at trees (None ∷ ids) zero id w e = cc
option_encoding_at trees (Some other ∷ ids) zero id w e =
    let same : other ≡ id = cc in ap (λ n. serialize (type_tree_at trees n) w) same
option_encoding_at trees (None ∷ ids) (suc k) id w e = option_encoding_at trees ids k id w e
option_encoding_at trees (Some other ∷ ids) (suc k) id w e =
    option_encoding_at trees ids k id w e

pub option_adds : {E : Type 0} (trees : List SszType) (ids : List (Option ℕ)) (number id : ℕ)
    (node content : Tree) (old mid new : List ℕ) (result : Result Unit E) → length ids ≤ 128
    → Unmixes node content number → slice_get ids (number % 256) ≡ Some (Some id)
    → mid ≡ old ++ number % 256 ∷ []
    → ForValue (type_tree_at trees id) content
    (λ w. AddsBytes (serialize (type_tree_at trees id) w) mid new result)
    → ForValue (union (options_over trees ids)) node
    (λ v. AddsBytes (serialize (union (options_over trees ids)) v) old new result)
option_adds {E = E} trees ids number id node content old mid new result few mixed here first adds =
    λ v h. go v (union_option trees ids v node h)
  where
    go : (v : SszValue) → IsUnion trees ids v node
        → AddsBytes (serialize (union (options_over trees ids)) v) old new result
    go v of =
        let same : number % 256 ≡ of.k =
        omega (arith, mixed.number _ _ of.tree (omega (arith, of.below)), of.below) in
        let at : slice_get ids of.k ≡ Some (Some id) =
        subst (λ k. slice_get ids k ≡ Some (Some id)) same here in
        elim of.option [
          | inl some ↦
              (let same_id : some.id ≡ id = cc in
              let bytes : serialize (union (options_over trees ids)) v
              ≡ number % 256 ∷ serialize (type_tree_at trees id) some.value =
              ap (serialize (union (options_over trees ids))) some.is
              ∙ ap₂ (λ k xs. k ∷ xs) (sym same)
              (option_encoding_at trees ids of.k id some.value at) in
              on_ok result (λ is. is
              ∙ ap (λ xs. xs ++ serialize (type_tree_at trees id) some.value) first
              ∙ append_assoc old (number % 256 ∷ []) (serialize (type_tree_at trees id) some.value)
              ∙ ap (λ xs. old ++ xs) (sym bytes))
              (adds some.value
              (subst (λ c. IsTreeOf (type_tree_at trees id) some.value c)
              (sym (mixed.tree _ _ of.tree))
              (subst (λ n. IsTreeOf (type_tree_at trees n) some.value of.content) same_id
              some.tree))))
          | inr none ↦ absurd (let differ : Some None ≡ Some (Some id) =
              sym none.here ∙ at in cc)
        ]

pub none_adds : (trees : List SszType) (ids : List (Option ℕ)) (number : ℕ)
    (node content : Tree) (old new : List ℕ) → length ids ≤ 128 → Unmixes node content number
    → ((id : ℕ) → slice_get ids (number % 256) ≡ Some (Some id) → ⊥)
    → new ≡ old ++ number % 256 ∷ []
    → ForValue (union (options_over trees ids)) node
    (λ v. new ≡ old ++ serialize (union (options_over trees ids)) v)
none_adds trees ids number node content old new few mixed none is = λ v h.
    go v (union_option trees ids v node h)
  where
    go : (v : SszValue) → IsUnion trees ids v node
        → new ≡ old ++ serialize (union (options_over trees ids)) v
    go v of =
        let same : number % 256 ≡ of.k =
        omega (arith, mixed.number _ _ of.tree (omega (arith, of.below)), of.below) in
        elim of.option [
          | inl some ↦ absurd (none some.id
              (subst (λ k. slice_get ids k ≡ Some (Some some.id)) (sym same) some.here))
          | inr at ↦ is ∙ ap (λ k. old ++ k ∷ []) same
              ∙ ap (λ w. old ++ serialize (union (options_over trees ids)) w) (sym at.is)
        ]
