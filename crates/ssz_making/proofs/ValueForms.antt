-- The parts of the program's values, by the forms of types.
use Rattle.std.proofs.Common.{◌≡◌, ℕ, zero, suc, ◌+◌, ◌*◌, ◌/◌, ◌<◌, Bool, List, [], ◌∷◌, length, map, get_or, slice_get, Option, Some, None, Vec, Box, Global, refl, sym, ap, ap₂, subst, ◌∙◌, arith}
use Rattle.std.specs.List.{concat, AllByRecursion}
use Rattle.std.proofs.lemmas.List.{length-map}
use Rattle.std.proofs.lemmas.Simd.{map-map}
use Rattle.ssz_chunk.specs.Tree.{leaf, pair, merkle_tree, merkle_pairs}
use Rattle.ssz_schema.specs.width.Width.TheVariants.{W8}
use Rattle.ssz_schema.specs.Types.{SszType, uint, container, vector, list, bitvector, bitlist, union}
use Rattle.ssz_schema.specs.Sizes.{basic_size, element_chunks, depth}
use Rattle.ssz_schema.specs.Unfolding.{type_tree_at, fields_over, options_over}
use Rattle.ssz_value.specs.declared.value.Value.{Value}
use Rattle.ssz_value.specs.declared.value.Value.TheVariants.{Bytes, Seq, Union}
use Rattle.ssz_value.specs.Values.{SszValue, number, sequence, bits, chosen, chosen_none, items, Fits}
use Rattle.ssz_value.specs.Encoding.{serialize}
use Rattle.ssz_value.specs.Standing.{value_of, IsValue}
use Rattle.ssz_value.specs.Shapes.{IsSequence, ElementsFit, parts_of, part_count_of, bits_of}
use Rattle.ssz_value.specs.Trees.{pack, pack_bits, padded, number_chunk}
use Rattle.ssz_value.proofs.FormLemmas.{bytes_elements, union_inner, chosen_option}
use Rattle.ssz_value.proofs.PartLemmas.{Part as FieldPart}
use Rattle.ssz_value.proofs.Sequences.{items-values}
use Rattle.ssz_value.proofs.ValueLemmas.{bytes_are}
use Rattle.ssz_packing.specs.Elements.{encodings_of}
use Rattle.ssz_packing.proofs.BasicValues.{encodings_sized}
use Rattle.ssz_packing.proofs.BitValues.{pack_bits-chunks}
use Rattle.ssz_packing.proofs.Bounds.{IsBasic-basic}
use Rattle.ssz_packing.proofs.Filling.{length-concat}
use Rattle.ssz_packing.proofs.Chunks.{length-chunks}
use Rattle.ssz_packing.proofs.BasicTrees.{basic_tree}
use Rattle.ssz_packing.proofs.Options.{option_tree-some}
use Rattle.ssz_packing.proofs.ValueArms.{parts_of_seq, seq_fit, bytes_written}
use Rattle.ssz_packing.proofs.ValueArms.{length-fit}
use Rattle.ssz_making.specs.Parts.{MadePart, whole_of, joined_leaf, part_of_value, chunk_part, none_part, elements_part, field_parts}
use Rattle.ssz_making.proofs.Chunks.{cost-chunks, nodes-of_chunks}
use Rattle.ssz_making.proofs.Forms.{part, parts_equal, whole-chunks, elements-packed, elements-composite, trees-fields, costs-fields, nodes-fields}
use Rattle.ssz_making.proofs.NodeCounts.{nodes-basic, nodes-option}
use Rattle.ssz_making.proofs.Placing.{IsAt, IsAt-cons}

-- a basic value
pub basic_value : (t : SszType) (z : ℕ) (v : SszValue) (chunk : List ℕ) → basic_size t ≡ Some z
    → chunk ≡ padded (serialize t v) → chunk_part chunk ≡ part_of_value t v
basic_value t z v chunk e is =
    let basic = IsBasic-basic t z e in
    parts_equal _ _ _ _ _ _ (ap leaf is ∙ sym (basic_tree t z v e)) (sym (basic.no_pairs v))
    (sym (nodes-basic t z v e))

-- bits
pub bits-part : (d : ℕ) (bs : List Bool) → whole_of d (map chunk_part (pack_bits bs))
    ≡ part (merkle_tree d (map leaf (pack_bits bs))) (merkle_pairs d ((length bs + 255) / 256))
    (merkle_pairs d ((length bs + 255) / 256) + (length bs + 255) / 256)
bits-part d bs =
    let count : length (pack_bits bs) ≡ (length bs + 255) / 256 =
    ap (λ (cs : List (List ℕ)). length cs)
    (sym (pack_bits-chunks bs ((length bs + 255) / 256) refl))
    ∙ length-chunks ((length bs + 255) / 256) _ in
    whole-chunks d (pack_bits bs)
    ∙ parts_equal _ _ _ _ _ _ refl (ap (merkle_pairs d) count)
    (ap (λ m. merkle_pairs d m + m) count)

-- their nodes
pub bits-nodes : (d : ℕ) (bs : List Bool) → (whole_of d (map chunk_part (pack_bits bs))).nodes
    ≡ merkle_pairs d ((length bs + 255) / 256) + (length bs + 255) / 256
bits-nodes d bs = ap (λ (p : MadePart). p.nodes) (bits-part d bs)

pub bitvector_value : (form : SszType) (n d : ℕ) (v : SszValue) (bs : List Bool)
    → form ≡ bitvector n → Fits form v → d ≡ depth form → bs ≡ bits_of v
    → whole_of d (map chunk_part (pack_bits bs)) ≡ part_of_value form v
bitvector_value form n d v bs e fits deep is =
    ap₂ (λ k cs. whole_of k (map chunk_part (pack_bits cs))) (deep ∙ ap depth e) is
    ∙ of_bits v (subst (λ ty. Fits ty v) e fits) ∙ ap (λ ty. part_of_value ty v) (sym e)
  where
    of_bits : (v : SszValue) → Fits (bitvector n) v
        → whole_of (depth (bitvector n)) (map chunk_part (pack_bits (bits_of v)))
        ≡ part_of_value (bitvector n) v
    of_bits (bits bs) fits = bits-part (depth (bitvector n)) bs
    of_bits _ fits = absurd fits

pub bitlist_value : (form : SszType) (limit d : ℕ) (v : SszValue) (bs : List Bool)
    (chunk : List ℕ) → form ≡ bitlist limit → Fits form v → d ≡ depth form → bs ≡ bits_of v
    → chunk ≡ number_chunk (length bs)
    → joined_leaf (whole_of d (map chunk_part (pack_bits bs))) chunk ≡ part_of_value form v
bitlist_value form limit d v bs chunk e fits deep is numbered =
    ap₂ (λ k c. joined_leaf (whole_of k (map chunk_part (pack_bits bs))) c)
    (deep ∙ ap depth e) numbered
    ∙ ap (λ cs. joined_leaf (whole_of (depth (bitlist limit)) (map chunk_part (pack_bits cs)))
    (number_chunk (length cs))) is
    ∙ of_bits v (subst (λ ty. Fits ty v) e fits) ∙ ap (λ ty. part_of_value ty v) (sym e)
  where
    of_bits : (v : SszValue) → Fits (bitlist limit) v
        → joined_leaf (whole_of (depth (bitlist limit)) (map chunk_part (pack_bits (bits_of v))))
        (number_chunk (length (bits_of v))) ≡ part_of_value (bitlist limit) v
    of_bits (bits bs) fits = ap (λ p. joined_leaf p (number_chunk (length bs)))
        (bits-part (depth (bitlist limit)) bs)
    of_bits _ fits = absurd fits

-- vectors and lists
pub vector_value : (form t : SszType) (n d : ℕ) (v : SszValue) → form ≡ vector t n → Fits form v
    → d ≡ depth form → elements_part t d (parts_of v) ≡ part_of_value form v
vector_value form t n d v e fits deep =
    ap (λ k. elements_part t k (parts_of v)) (deep ∙ ap depth e)
    ∙ of_parts v (subst (λ ty. Fits ty v) e fits) ∙ ap (λ ty. part_of_value ty v) (sym e)
  where
    of_parts : (v : SszValue) → Fits (vector t n) v
        → elements_part t (depth (vector t n)) (parts_of v) ≡ part_of_value (vector t n) v
    of_parts (sequence vs) fits = refl
    of_parts _ fits = absurd fits

pub list_value : (form t : SszType) (limit d : ℕ) (v : SszValue) (chunk : List ℕ)
    → form ≡ list t limit → Fits form v → d ≡ depth form → chunk ≡ number_chunk (part_count_of v)
    → joined_leaf (elements_part t d (parts_of v)) chunk ≡ part_of_value form v
list_value form t limit d v chunk e fits deep numbered =
    ap₂ (λ k c. joined_leaf (elements_part t k (parts_of v)) c) (deep ∙ ap depth e) numbered
    ∙ of_parts v (subst (λ ty. Fits ty v) e fits) ∙ ap (λ ty. part_of_value ty v) (sym e)
  where
    of_parts : (v : SszValue) → Fits (list t limit) v
        → joined_leaf (elements_part t (depth (list t limit)) (parts_of v))
        (number_chunk (part_count_of v)) ≡ part_of_value (list t limit) v
    of_parts (sequence vs) fits = refl
    of_parts _ fits = absurd fits

-- containers
pub length-field_values : (trees : List SszType) (parts : List FieldPart) (vs : List SszValue)
    → length vs ≡ length parts → length (field_parts (fields_over trees parts) vs) ≡ length parts
length-field_values trees [] [] e = refl
length-field_values trees [] (v ∷ vs) e = absurd (omega arith)
length-field_values trees (p ∷ parts) [] e = absurd (omega arith)
length-field_values trees (p ∷ parts) (v ∷ vs) e =
    omega (arith, length-field_values trees parts vs (omega arith))

pub container_value : (form : SszType) (trees : List SszType) (parts : List FieldPart) (d : ℕ)
    (v : SszValue) → form ≡ container (fields_over trees parts) → Fits form v → d ≡ depth form
    → whole_of d (field_parts (fields_over trees parts) (parts_of v)) ≡ part_of_value form v
container_value form trees parts d v e fits deep =
    ap (λ k. whole_of k (field_parts (fields_over trees parts) (parts_of v))) (deep ∙ ap depth e)
    ∙ of_parts v (subst (λ ty. Fits ty v) e fits) ∙ ap (λ ty. part_of_value ty v) (sym e)
  where
    of_parts : (v : SszValue) → Fits (container (fields_over trees parts)) v
        → whole_of (depth (container (fields_over trees parts)))
        (field_parts (fields_over trees parts) (parts_of v))
        ≡ part_of_value (container (fields_over trees parts)) v
    of_parts (sequence vs) fits =
        let fs = fields_over trees parts in
        let count : length (items vs) ≡ length parts = length-fit trees parts (items vs) fits in
        let above = ap (merkle_pairs (depth (container fs)))
        (length-field_values trees parts (items vs) count ∙ sym count) in
        parts_equal _ _ _ _ _ _
        (ap (merkle_tree (depth (container fs))) (trees-fields fs (items vs)))
        (omega (arith, costs-fields fs (items vs), above))
        (omega (arith, nodes-fields fs (items vs), above))
    of_parts _ fits = absurd fits

-- the value of field i
pub field-value-at : (trees : List SszType) (parts : List FieldPart) (vs : List Value) (i : ℕ)
    (field : FieldPart) (v : Value) → length vs ≡ length parts → i < length parts
    → field ≡ get_or parts i field → v ≡ get_or vs i v
    → IsAt (field_parts (fields_over trees parts) (map value_of vs)) i
    (part_of_value (type_tree_at trees field.1) (value_of v))
field-value-at trees [] vs i field v count below e is = absurd (omega arith)
field-value-at trees (p ∷ parts) [] i field v count below e is = absurd (omega arith)
field-value-at trees (p ∷ parts) (w ∷ vs) zero field v count below e is =
    let same : part_of_value (type_tree_at trees p.1) (value_of w)
    ≡ part_of_value (type_tree_at trees field.1) (value_of v) =
    ap₂ (λ (q : FieldPart) (x : Value). part_of_value (type_tree_at trees q.1) (value_of x)) (sym e)
    (sym is)
    in
    record { below = omega arith; more = ap (λ q. q ∷ []) same }
field-value-at trees (p ∷ parts) (w ∷ vs) (suc i) field v count below e is =
    IsAt-cons _ _ i _ (field-value-at trees parts vs i field v (omega arith) (omega arith) e is)

-- unions
pub chosen_value : (trees : List SszType) (ids : List (Option ℕ)) (k id : ℕ) (v w : SszValue)
    → slice_get ids k ≡ Some (Some id) → w ≡ chosen k v
    → joined_leaf (part_of_value (type_tree_at trees id) v) (number_chunk k)
    ≡ part_of_value (union (options_over trees ids)) w
chosen_value trees ids k id v w here is =
    let held = option_tree-some trees ids k id v here in
    parts_equal _ _ _ _ _ _ (ap (λ t. pair t (leaf (number_chunk k))) (sym held.0))
    (ap (λ n. n + 1) (sym held.1)) (ap (λ n. n + 2) (sym (nodes-option trees ids k id v here)))
    ∙ ap (part_of_value (union (options_over trees ids))) (sym is)

pub none_value : (trees : List SszType) (ids : List (Option ℕ)) (k : ℕ) (w : SszValue)
    → w ≡ chosen_none k → joined_leaf none_part (number_chunk k)
    ≡ part_of_value (union (options_over trees ids)) w
none_value trees ids k w is = ap (part_of_value (union (options_over trees ids))) (sym is)

-- elements of a basic type
pub encodings_long : (t : SszType) (z : ℕ) (vs : List Value) → basic_size t ≡ Some z
    → AllByRecursion (Fits t) (map value_of vs)
    → length (concat (encodings_of t vs)) ≡ length vs * z
encodings_long t z vs e fit = length-concat z (encodings_of t vs) (encodings_sized t z vs e fit)
    ∙ ap (λ n. n * z) (length-map vs (λ (w : Value). serialize t (value_of w)))

pub record ArePackedValues (t : SszType) (d z : ℕ) (vs : List Value)
    (ws : List SszValue) : Type 0 where
  pub fits : AllByRecursion (Fits t) (map value_of vs)
  pub same : whole_of d (map chunk_part (pack (concat (encodings_of t vs)))) ≡ elements_part t d ws
  pub chunks : (length vs * z + 31) / 32 ≡ element_chunks (basic_size t) (length ws)
  pub cost : (elements_part t d ws).cost ≡ merkle_pairs d ((length vs * z + 31) / 32)
  pub nodes : (elements_part t d ws).nodes
      ≡ merkle_pairs d ((length vs * z + 31) / 32) + (length vs * z + 31) / 32

pub packed_values : (t : SszType) (d z : ℕ) (parts : Vec Value Global) (out : List Value)
    (v : Value) → v ≡ Seq parts → out ≡ parts.items → IsSequence t v → basic_size t ≡ Some z
    → ArePackedValues t d z out (parts_of (value_of v))
packed_values t d z parts out v is same h e =
    subst (λ vs. ArePackedValues t d z vs (parts_of (value_of v))) (sym same)
    (subst (λ (w : Value). ArePackedValues t d z parts.items (parts_of (value_of w))) (sym is)
    (subst (ArePackedValues t d z parts.items) (sym (parts_of_seq parts)) of_items))
  where
    vs : List Value
    vs = parts.items

    fit : AllByRecursion (Fits t) (map value_of vs)
    fit = seq_fit t parts (subst (IsSequence t) is h)

    long : length (concat (encodings_of t vs)) ≡ length vs * z
    long = encodings_long t z vs e fit

    count : (length vs * z + 31) / 32 ≡ element_chunks (basic_size t) (length (map value_of vs))
    count = ap (λ n. (n * z + 31) / 32) (sym (length-map vs value_of))
        ∙ ap (λ size. element_chunks size (length (map value_of vs))) (sym e)

    packed : whole_of d (map chunk_part (pack (concat (encodings_of t vs))))
        ≡ elements_part t d (map value_of vs)
    packed = elements-packed t z d (map value_of vs) (concat (encodings_of t vs)) e
        (ap concat (map-map (serialize t) value_of vs))
        (ap (λ n. (n + 31) / 32) long ∙ count)

    of_items : ArePackedValues t d z vs (map value_of vs)
    of_items = record {
      fits = fit;
      same = packed;
      chunks = count;
      cost = sym (ap (λ (p : MadePart). p.cost) packed)
          ∙ cost-chunks d ((length (concat (encodings_of t vs)) + 31) / 32)
          (concat (encodings_of t vs))
          ∙ ap (λ n. merkle_pairs d ((n + 31) / 32)) long;
      nodes = sym (ap (λ (p : MadePart). p.nodes) packed)
          ∙ nodes-of_chunks d ((length (concat (encodings_of t vs)) + 31) / 32)
          (concat (encodings_of t vs))
          ∙ ap (λ n. merkle_pairs d ((n + 31) / 32) + (n + 31) / 32) long;
    }

-- elements of a composite type
pub composite_values : (t : SszType) (d : ℕ) (parts : Vec Value Global) (out : List Value)
    (v : Value) → v ≡ Seq parts → out ≡ parts.items → basic_size t ≡ None
    → whole_of d (map (part_of_value t) (map value_of out))
    ≡ elements_part t d (parts_of (value_of v))
composite_values t d parts out v is same e =
    ap (λ (vs : List Value). whole_of d (map (part_of_value t) (map value_of vs))) same
    ∙ elements-composite t d (map value_of parts.items) e
    ∙ ap (elements_part t d) (sym (parts_of_seq parts))
    ∙ ap (λ (w : Value). elements_part t d (parts_of (value_of w))) (sym is)

-- bytes
pub byte_values : (t : SszType) (d : ℕ) (run out : List ℕ) (v : Value) → v ≡ Bytes run
    → out ≡ run → IsSequence t v
    → whole_of d (map chunk_part (pack out)) ≡ elements_part t d (parts_of (value_of v))
byte_values t d run out v is same h =
    let held : IsSequence t (Bytes run) = subst (IsSequence t) is h in
    let e : t ≡ uint W8 = bytes_elements t run held in
    let parts : parts_of (value_of (Bytes run)) ≡ map number run =
    ap parts_of (bytes_are run) ∙ items-values (map number run) in
    let fits : AllByRecursion (Fits (uint W8)) (map number run) =
    subst (AllByRecursion (Fits (uint W8))) (items-values (map number run))
    (subst (ElementsFit (uint W8)) (bytes_are run)
    (subst (λ ty. ElementsFit ty (value_of (Bytes run))) e held.fit)) in
    let times : length run ≡ length (map number run) * 1 = omega (arith, length-map run number) in
    ap (λ (bs : List ℕ). whole_of d (map chunk_part (pack bs))) same
    ∙ elements-packed (uint W8) 1 d (map number run) run refl (bytes_written run fits)
    (ap (λ n. (n + 31) / 32) times)
    ∙ ap₂ (elements_part_at d) (sym e) (sym parts)
    ∙ ap (λ (w : Value). elements_part t d (parts_of (value_of w))) (sym is)
  where
    elements_part_at : ℕ → SszType → List SszValue → MadePart
    elements_part_at d t vs = elements_part t d vs

-- the value that a union holds is of an option with a type
pub has_type : (trees : List SszType) (ids : List (Option ℕ)) (v : Value) (k : ℕ)
    (o : Option (Box Value Global)) (inner : Box Value Global) (found : Option (Option ℕ))
    → v ≡ Union k o → o ≡ Some inner → IsValue (union (options_over trees ids)) v
    → found ≡ slice_get ids k → (id : ℕ) × (found ≡ Some (Some id))
has_type trees ids v k o inner found is some h at =
    let option = chosen_option trees ids k inner (union_inner trees ids v k o inner is some h) in
    (option.0, at ∙ sym option.1)
