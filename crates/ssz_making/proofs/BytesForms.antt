-- The parts that bytes without a fault make, by the forms of types.
use Rattle.std.proofs.Common.{◌≡◌, ℕ, ◌+◌, ◌*◌, ◌/◌, ◌<◌, List, [], ◌∷◌, ◌++◌, length, map, take, drop, replicate, get_or, slice_get, Bool, Option, Some, None, sym, ap, ap₂, subst, ◌∙◌, arith}
use Rattle.std.specs.List.{concat}
use Rattle.ssz_chunk.specs.Tree.{leaf, pair, merkle_tree, merkle_pairs}
use Rattle.ssz_schema.specs.format.Format.{Format}
use Rattle.ssz_bytes.specs.Bytes.{le_bytes, le_number, number_of_bits, bits_of_number}
use Rattle.ssz_bytes.specs.Faults.{bitvector_fault, bitlist_length, last_byte}
use Rattle.ssz_schema.specs.Legal.{IsLegal}
use Rattle.ssz_schema.specs.Types.{SszType, vector, list, bitvector, bitlist, union}
use Rattle.ssz_schema.specs.Sizes.{fixed_size, basic_size, element_chunks, depth}
use Rattle.ssz_schema.specs.Unfolding.{type_tree_at, options_over}
use Rattle.ssz_bytes.proofs.Bits.{length-bits_of_number}
use Rattle.ssz_value.specs.Encoding.{serialize, joined_alike}
use Rattle.ssz_value.specs.Faults.{first_fault, head_fault, elements_fault, length_fault, element_count}
use Rattle.ssz_value.specs.Reading.{value_in, elements_in}
use Rattle.ssz_value.specs.Trees.{pack, pack_bits, padded, chunks, number_chunk}
use Rattle.ssz_value.specs.Values.{sequence, values}
use Rattle.ssz_value.proofs.Agree.{IsInput, no_faults, length_from_fault}
use Rattle.ssz_value.proofs.ExactLaw.{agrees}
use Rattle.ssz_parts.proofs.ElementFaults.{head_fault-alike}
use Rattle.ssz_parts.proofs.ElementLemmas.{elements_head, take-map-more, length-elements_in}
use Rattle.ssz_parts.proofs.Faultless.{IsFaultless}
use Rattle.ssz_packing.specs.Bits.{undelimited}
use Rattle.ssz_parts.specs.PartValues.{element_values}
use Rattle.ssz_packing.proofs.Bounds.{IsBasic-basic}
use Rattle.ssz_packing.proofs.BitChunks.{pack_bits-undelimited}
use Rattle.ssz_packing.proofs.Chunks.{length-chunks}
use Rattle.ssz_packing.proofs.BasicTrees.{basic_tree, joined_alike-concat}
use Rattle.ssz_parts.proofs.ElementValues.{elements_written, length-element_values}
use Rattle.ssz_parts.proofs.UnionValues.{option_in-some, option_in-none}
use Rattle.ssz_packing.proofs.Options.{option_tree-some}
use Rattle.ssz_making.specs.Parts.{MadePart, whole_of, joined_leaf, part_of_value, chunk_part, elements_part, chosen_part}
use Rattle.ssz_making.proofs.NodeCounts.{nodes-basic, nodes-option}
use Rattle.ssz_making.proofs.Placing.{IsAt, IsAt-map}
use Rattle.ssz_making.proofs.Forms.{part, parts_equal, whole-chunks, elements-packed, vector-part, list-part}

-- a basic value
pub basic-part : (format : Format) (t : SszType) (z : ℕ) (b : List ℕ) → basic_size t ≡ Some z
    → IsLegal format t → IsFaultless t b → chunk_part (padded b) ≡ part_of_value t (value_in t b)
basic-part format t z b e legal h =
    let written = (agrees format t legal).only 0 b h.input h.none in
    let basic = IsBasic-basic t z e in
    parts_equal _ _ _ _ _ _
    (ap (λ (bytes : List ℕ). leaf (padded bytes)) (sym written.bytes)
    ∙ sym (basic_tree t z (value_in t b) e))
    (sym (basic.no_pairs (value_in t b))) (sym (nodes-basic t z (value_in t b) e))

-- elements of a basic type
pub record ArePacked (t : SszType) (d count : ℕ) (b : List ℕ) : Type 0 where
  pub same : whole_of d (map chunk_part (pack b)) ≡ elements_part t d (element_values t count b)
  pub chunks : (length b + 31) / 32 ≡ element_chunks (basic_size t) count

pub packed_elements : (format : Format) (t : SszType) (z d count : ℕ) (b : List ℕ)
    → Some z ≡ basic_size t → IsLegal format t → IsInput b
    → elements_fault (first_fault t) (fixed_size t) count 0 b ≡ None → ArePacked t d count b
packed_elements format t z d count b e legal input h =
    let basic = IsBasic-basic t z (sym e) in
    let head : head_fault (replicate count (Some z)) 0 b ≡ None =
    subst (λ (size : Option ℕ). head_fault (replicate count size) 0 b ≡ None)
    basic.fixed (elements_head t (fixed_size t) count b h) in
    let length_is : length b ≡ count * z =
    length_from_fault (count * z) 0 b (sym (head_fault-alike count z 0 b) ∙ head) in
    let vs = element_values t count b in
    let bytes : concat (map (serialize t) vs) ≡ b =
    sym (joined_alike-concat z (map (serialize t) vs))
    ∙ ap (λ size. joined_alike size (map (serialize t) vs)) (sym basic.fixed)
    ∙ elements_written format t legal count b input h in
    let all : (length b + 31) / 32 ≡ element_chunks (basic_size t) count =
    ap (λ n. (n + 31) / 32) length_is ∙ ap (λ size. element_chunks size count) e in
    record {
      same = elements-packed t z d vs b (sym e) bytes
          (all ∙ ap (element_chunks (basic_size t)) (sym (length-element_values t count b)));
      chunks = all;
    }

-- vectors and lists
pub vector-bytes : (t : SszType) (n : ℕ) (b : List ℕ)
    → elements_part t (depth (vector t n)) (element_values t n b)
    ≡ part_of_value (vector t n) (value_in (vector t n) b)
vector-bytes t n b = vector-part t n (element_values t n b)

pub list-bytes : (t : SszType) (limit count : ℕ) (b : List ℕ)
    → count ≡ element_count (fixed_size t) b
    → joined_leaf (elements_part t (depth (list t limit)) (element_values t count b))
    (number_chunk count) ≡ part_of_value (list t limit) (value_in (list t limit) b)
list-bytes t limit count b is =
    ap (λ n. joined_leaf (elements_part t (depth (list t limit)) (element_values t count b))
    (number_chunk n)) (sym (length-element_values t count b))
    ∙ list-part t limit (element_values t count b)
    ∙ ap (λ n. part_of_value (list t limit) (sequence (values (element_values t n b)))) is

-- bits
pub bitvector-part : (format : Format) (n : ℕ) (b : List ℕ) → IsLegal format (bitvector n)
    → IsInput b → first_fault (bitvector n) 0 b ≡ None
    → whole_of (depth (bitvector n)) (map chunk_part (pack b))
    ≡ part_of_value (bitvector n) (value_in (bitvector n) b)
bitvector-part format n b legal input h =
    let written = (agrees format (bitvector n) legal).only 0 b input h in
    let bs : List Bool = bits_of_number n (le_number b) in
    let count : length (bits_of_number n (le_number b)) ≡ n =
    length-bits_of_number n (le_number b) in
    let len : length b ≡ (n + 7) / 8 = length_from_fault ((n + 7) / 8) 0 b
    (no_faults (length_fault ((n + 7) / 8) 0 b) (bitvector_fault n 0 b) h).0 in
    let packed : pack_bits (bits_of_number n (le_number b)) ≡ pack b =
    ap (λ m. pack (le_bytes ((m + 7) / 8) (number_of_bits (bits_of_number n (le_number b))))) count
    ∙ ap pack written.bytes in
    let chunks_are : (length b + 31) / 32 ≡ (length (bits_of_number n (le_number b)) + 255) / 256 =
    omega (arith, len, count) in
    let all = length-chunks ((length b + 31) / 32) b ∙ chunks_are in
    whole-chunks (depth (bitvector n)) (pack b) ∙ parts_equal _ _ _ _ _ _
    (ap (λ cs. merkle_tree (depth (bitvector n)) (map leaf cs)) (sym packed))
    (ap (merkle_pairs (depth (bitvector n))) all)
    (ap (λ m. merkle_pairs (depth (bitvector n)) m + m) all)

pub bitlist-part : (limit : ℕ) (b : List ℕ) → IsInput b → 0 < length b
    → 0 < last_byte b
    → joined_leaf (whole_of (depth (bitlist limit))
    (map chunk_part (chunks ((bitlist_length b + 255) / 256) (undelimited b))))
    (number_chunk (bitlist_length b))
    ≡ part_of_value (bitlist limit) (value_in (bitlist limit) b)
bitlist-part limit b input some positive =
    let d : ℕ = depth (bitlist limit) in
    let bs : List Bool = bits_of_number (bitlist_length b) (le_number b) in
    let count : length (bits_of_number (bitlist_length b) (le_number b)) ≡ bitlist_length b =
    length-bits_of_number (bitlist_length b) (le_number b) in
    let all = length-chunks ((bitlist_length b + 255) / 256) (undelimited b)
    ∙ ap (λ n. (n + 255) / 256) (sym count) in
    ap (λ p. joined_leaf p (number_chunk (bitlist_length b)))
    (whole-chunks d (chunks ((bitlist_length b + 255) / 256) (undelimited b)))
    ∙ parts_equal _ _ _ _ _ _
    (ap₂ (λ cs n. pair (merkle_tree d (map leaf cs)) (leaf (number_chunk n)))
    (sym (pack_bits-undelimited b input.bytes some positive)) (sym count))
    (ap (λ n. merkle_pairs d n + 1) all) (ap (λ n. merkle_pairs d n + n + 2) all)

-- unions
pub union-part : (trees : List SszType) (ids : List (Option ℕ)) (o : Option ℕ) (b : List ℕ)
    → 0 < length b → slice_get ids (get_or b 0 0) ≡ Some o
    → joined_leaf (chosen_part trees o (drop 1 b)) (number_chunk (get_or b 0 0))
    ≡ part_of_value (union (options_over trees ids)) (value_in (union (options_over trees ids)) b)
union-part trees ids o [] some e = absurd (omega arith)
union-part trees ids None (k ∷ b) some e =
    sym (ap (part_of_value (union (options_over trees ids))) (option_in-none trees ids k k b e))
union-part trees ids (Some id) (k ∷ b) some e =
    let t = type_tree_at trees id in
    let held = option_tree-some trees ids k id (value_in (type_tree_at trees id) b) e in
    sym (ap (part_of_value (union (options_over trees ids))) (option_in-some trees ids k k id b e)
    ∙ parts_equal _ _ _ _ _ _ (ap (λ t. pair t (leaf (number_chunk k))) held.0)
    (ap (λ n. n + 1) held.1)
    (ap (λ n. n + 2) (nodes-option trees ids k id (value_in (type_tree_at trees id) b) e)))

-- The same as the program finds them: the form of the type, its depth, its count.

pub vector_made : (form t : SszType) (n d : ℕ) (b : List ℕ) → form ≡ vector t n → d ≡ depth form
    → elements_part t d (element_values t n b) ≡ part_of_value form (value_in form b)
vector_made form t n d b e deep =
    ap (λ k. elements_part t k (element_values t n b)) (deep ∙ ap depth e)
    ∙ vector-bytes t n b ∙ ap (λ ty. part_of_value ty (value_in ty b)) (sym e)

pub list_made : (form t : SszType) (limit count d : ℕ) (b chunk : List ℕ) → form ≡ list t limit
    → d ≡ depth form → count ≡ element_count (fixed_size t) b → chunk ≡ number_chunk count
    → joined_leaf (elements_part t d (element_values t count b)) chunk
    ≡ part_of_value form (value_in form b)
list_made form t limit count d b chunk e deep is number =
    ap₂ (λ k c. joined_leaf (elements_part t k (element_values t count b)) c)
    (deep ∙ ap depth e) number
    ∙ list-bytes t limit count b is ∙ ap (λ ty. part_of_value ty (value_in ty b)) (sym e)

pub bitvector_made : (format : Format) (form : SszType) (n d : ℕ) (b : List ℕ)
    → form ≡ bitvector n → IsLegal format form → IsInput b → first_fault form 0 b ≡ None
    → d ≡ depth form
    → whole_of d (map chunk_part (pack b)) ≡ part_of_value form (value_in form b)
bitvector_made format form n d b e legal input h deep =
    ap (λ k. whole_of k (map chunk_part (pack b))) (deep ∙ ap depth e)
    ∙ bitvector-part format n b (subst (IsLegal format) e legal) input
    (subst (λ ty. first_fault ty 0 b ≡ None) e h)
    ∙ ap (λ ty. part_of_value ty (value_in ty b)) (sym e)

pub bitlist_made : (form : SszType) (limit d len : ℕ) (b chunk : List ℕ) → form ≡ bitlist limit
    → IsInput b → 0 < length b → 0 < last_byte b → d ≡ depth form → len ≡ bitlist_length b
    → chunk ≡ number_chunk len
    → joined_leaf (whole_of d (map chunk_part (chunks ((len + 255) / 256) (undelimited b)))) chunk
    ≡ part_of_value form (value_in form b)
bitlist_made form limit d len b chunk e input some positive deep is number =
    ap₂ (λ k c. joined_leaf
    (whole_of k (map chunk_part (chunks ((len + 255) / 256) (undelimited b)))) c)
    (deep ∙ ap depth e) number
    ∙ ap (λ n. joined_leaf (whole_of (depth (bitlist limit))
    (map chunk_part (chunks ((n + 255) / 256) (undelimited b)))) (number_chunk n)) is
    ∙ bitlist-part limit b input some positive ∙ ap (λ ty. part_of_value ty (value_in ty b)) (sym e)

pub basic_made : (format : Format) (form : SszType) (z : ℕ) (b chunk : List ℕ)
    → basic_size form ≡ Some z → IsLegal format form → IsInput b → first_fault form 0 b ≡ None
    → chunk ≡ padded b → chunk_part chunk ≡ part_of_value form (value_in form b)
basic_made format form z b chunk e legal input h is =
    ap chunk_part is ∙ basic-part format form z b e legal (record { input = input; none = h })

-- equal parts have equally many nodes
pub same_nodes : (a b : MadePart) → a ≡ b → a.nodes ≡ b.nodes
same_nodes a b e = ap (λ (p : MadePart). p.nodes) e

-- the value of element i
pub element-at : (t : SszType) (count : ℕ) (b : List ℕ) (i : ℕ) (part : List ℕ) → i < count
    → part ≡ get_or (elements_in (fixed_size t) count b) i []
    → IsAt (map (part_of_value t) (element_values t count b)) i (part_of_value t (value_in t part))
element-at t count b i part below is =
    IsAt-map (part_of_value t) (element_values t count b) i (value_in t part)
    (omega (arith, length-element_values t count b))
    (take-map-more (value_in t) (elements_in (fixed_size t) count b) i
    (omega (arith, length-elements_in (fixed_size t) count b))
    ∙ ap (λ (p : List ℕ). take i (element_values t count b) ++ value_in t p ∷ []) (sym is))
