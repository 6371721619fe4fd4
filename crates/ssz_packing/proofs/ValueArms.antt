-- What a value of each form of a type tells, and its root.
use Rattle.std.proofs.Common.{◌≡◌, ℕ, zero, suc, ◌+◌, ◌*◌, ◌/◌, ◌%◌, ◌^◌, ◌<◌, ◌≤◌, List, [], ◌∷◌, length, map, get_or, Some, None, Vec, Global, refl, sym, ap, ap₂, subst, ◌∙◌, arith}
use Rattle.std.specs.List.{concat, sum_by, AllByRecursion}
use Rattle.std.proofs.lemmas.List.{length-map}
use Rattle.std.proofs.lemmas.Simd.{map-map}
use Rattle.ssz_chunk.specs.Tree.{root, merkle_tree, merkle_pairs}
use Rattle.ssz_schema.specs.format.Format.{Format}
use Rattle.ssz_schema.specs.width.Width.TheVariants.{W8}
use Rattle.ssz_schema.specs.Types.{SszType, Fields, uint, container, vector, list, bitvector, bitlist}
use Rattle.ssz_schema.specs.Sizes.{basic_size, element_chunks, depth}
use Rattle.ssz_schema.specs.Legal.{IsLegal}
use Rattle.ssz_schema.specs.Unfolding.{type_tree_at, fields_over}
use Rattle.ssz_schema.proofs.DepthLemmas.{depth_of-holds}
use Rattle.ssz_value.specs.declared.value.Value.{Value}
use Rattle.ssz_value.specs.declared.value.Value.TheVariants.{Bytes, Seq}
use Rattle.ssz_value.specs.Values.{SszValue, number, sequence, bits, items, Fits, FitFields}
use Rattle.ssz_value.specs.Encoding.{serialize}
use Rattle.ssz_value.specs.Standing.{value_of, IsValue}
use Rattle.ssz_value.specs.Shapes.{IsSequence, ElementsFit, AreFields, parts_of, part_count_of, bits_of}
use Rattle.ssz_value.specs.Trees.{tree, pack, pack_bits, number_chunk, element_leaves, field_trees}
use Rattle.ssz_value.specs.Pairs.{pairs, field_pairs}
use Rattle.ssz_value.proofs.Sequences.{items-values}
use Rattle.ssz_value.proofs.ValueLemmas.{seq_is, bytes_are}
use Rattle.ssz_value.proofs.FormLemmas.{seq_elements, bytes_elements}
use Rattle.ssz_value.proofs.PartLemmas.{Part}
use Rattle.ssz_merkle.specs.Frontier.{leaves}
use Rattle.ssz_packing.specs.Elements.{element_trees, encodings_of}
use Rattle.ssz_packing.proofs.Bounds.{IsBasic-basic, no_pairs_in, levels_few, vector_room, list_room}
use Rattle.ssz_packing.proofs.BasicTrees.{composite_trees}

-- bits

pub record HasBitValues (pair_of : List ℕ → List ℕ → List ℕ) (form : SszType) (d : ℕ)
    (v : SszValue) : Type 0 where
  pub few : (length (bits_of v) + 255) / 256 ≤ 2 ^ d
  pub shallow : d ≤ 126
  pub same : root pair_of (merkle_tree d (leaves (pack_bits (bits_of v))))
      ≡ root pair_of (tree form v)
  pub costs : merkle_pairs d ((length (bits_of v) + 255) / 256) ≡ pairs form v

bitvector_has : (pair_of : List ℕ → List ℕ → List ℕ) (format : Format) (n : ℕ) (v : SszValue)
    → IsLegal format (bitvector n) → Fits (bitvector n) v
    → HasBitValues pair_of (bitvector n) (depth (bitvector n)) v
bitvector_has pair_of format n (bits bs) legal fits = record {
  few = let covers : (n + 255) / 256 ≤ 2 ^ depth (bitvector n) = depth_of-holds ((n + 255) / 256) in
      omega (arith, covers, fits);
  shallow = omega (arith, legal.1.levels, levels_few format);
  same = refl;
  costs = refl;
}
bitvector_has pair_of format n _ legal fits = absurd fits

pub HasBitValues-bitvector : (pair_of : List ℕ → List ℕ → List ℕ) (format : Format) (form : SszType)
    (n d : ℕ) (v : SszValue) → form ≡ bitvector n → IsLegal format form → Fits form v → d
    ≡ depth form
    → HasBitValues pair_of form d v
HasBitValues-bitvector pair_of format form n d v e legal fits deep =
    subst (λ k. HasBitValues pair_of form k v) (sym deep)
    (subst (λ t. HasBitValues pair_of t (depth t) v) (sym e)
    (bitvector_has pair_of format n v (subst (IsLegal format) e legal)
    (subst (λ t. Fits t v) e fits)))

pub record HasBitList (pair_of : List ℕ → List ℕ → List ℕ) (form : SszType) (d : ℕ)
    (v : SszValue) : Type 0 where
  pub few : (length (bits_of v) + 255) / 256 ≤ 2 ^ d
  pub shallow : d ≤ 126
  pub same : pair_of (root pair_of (merkle_tree d (leaves (pack_bits (bits_of v)))))
      (number_chunk (length (bits_of v))) ≡ root pair_of (tree form v)
  pub costs : merkle_pairs d ((length (bits_of v) + 255) / 256) + 1 ≡ pairs form v

bitlist_has : (pair_of : List ℕ → List ℕ → List ℕ) (format : Format) (limit : ℕ) (v : SszValue)
    → IsLegal format (bitlist limit) → Fits (bitlist limit) v
    → HasBitList pair_of (bitlist limit) (depth (bitlist limit)) v
bitlist_has pair_of format limit (bits bs) legal fits = record {
  few = let covers : (limit + 255) / 256 ≤ 2 ^ depth (bitlist limit) =
      depth_of-holds ((limit + 255) / 256) in omega (arith, covers, fits);
  shallow = omega (arith, legal.1.levels, levels_few format);
  same = refl;
  costs = refl;
}
bitlist_has pair_of format limit _ legal fits = absurd fits

pub HasBitList-bitlist : (pair_of : List ℕ → List ℕ → List ℕ) (format : Format) (form : SszType)
    (limit d : ℕ) (v : SszValue) → form ≡ bitlist limit → IsLegal format form → Fits form v → d
    ≡ depth form
    → HasBitList pair_of form d v
HasBitList-bitlist pair_of format form limit d v e legal fits deep =
    subst (λ k. HasBitList pair_of form k v) (sym deep)
    (subst (λ t. HasBitList pair_of t (depth t) v) (sym e)
    (bitlist_has pair_of format limit v (subst (IsLegal format) e legal)
    (subst (λ t. Fits t v) e fits)))

-- vectors and lists

pub record HasVector (pair_of : List ℕ → List ℕ → List ℕ) (form t : SszType) (d : ℕ)
    (v : SszValue) : Type 0 where
  pub few : element_chunks (basic_size t) (part_count_of v) ≤ 2 ^ d
  pub shallow : d ≤ 126
  pub same : root pair_of (merkle_tree d (element_trees t (parts_of v)))
      ≡ root pair_of (tree form v)
  pub costs : merkle_pairs d (element_chunks (basic_size t) (part_count_of v)) + sum_by (pairs t)
      (parts_of v) ≡ pairs form v

vector_has : (pair_of : List ℕ → List ℕ → List ℕ) (format : Format) (t : SszType) (n : ℕ)
    (v : SszValue) → IsLegal format (vector t n) → Fits (vector t n) v
    → HasVector pair_of (vector t n) t (depth (vector t n)) v
vector_has pair_of format t n (sequence vs) legal fits =
    let room = vector_room format t n legal in
    record {
      few = subst (λ k. element_chunks (basic_size t) k ≤ 2 ^ depth (vector t n)) (sym fits.0)
          room.few;
      shallow = room.shallow;
      same = refl;
      costs = refl;
    }
vector_has pair_of format t n _ legal fits = absurd fits

pub HasVector-vector : (pair_of : List ℕ → List ℕ → List ℕ) (format : Format) (form t : SszType)
    (n d : ℕ) (v : SszValue) → form ≡ vector t n → IsLegal format form → Fits form v → d
    ≡ depth form
    → HasVector pair_of form t d v
HasVector-vector pair_of format form t n d v e legal fits deep =
    subst (λ k. HasVector pair_of form t k v) (sym deep)
    (subst (λ f. HasVector pair_of f t (depth f) v) (sym e)
    (vector_has pair_of format t n v (subst (IsLegal format) e legal)
    (subst (λ f. Fits f v) e fits)))

pub record HasList (pair_of : List ℕ → List ℕ → List ℕ) (form t : SszType) (d : ℕ)
    (v : SszValue) : Type 0 where
  pub few : element_chunks (basic_size t) (part_count_of v) ≤ 2 ^ d
  pub shallow : d ≤ 126
  pub same : pair_of (root pair_of (merkle_tree d (element_trees t (parts_of v))))
      (number_chunk (part_count_of v)) ≡ root pair_of (tree form v)
  pub costs : merkle_pairs d (element_chunks (basic_size t) (part_count_of v)) + sum_by (pairs t)
      (parts_of v) + 1 ≡ pairs form v

list_has : (pair_of : List ℕ → List ℕ → List ℕ) (format : Format) (t : SszType) (limit : ℕ)
    (v : SszValue) → IsLegal format (list t limit) → Fits (list t limit) v
    → HasList pair_of (list t limit) t (depth (list t limit)) v
list_has pair_of format t limit (sequence vs) legal fits =
    let room = list_room format t limit (length (items vs)) legal fits.0 in
    record { few = room.few; shallow = room.shallow; same = refl; costs = refl }
list_has pair_of format t limit _ legal fits = absurd fits

pub HasList-list : (pair_of : List ℕ → List ℕ → List ℕ) (format : Format) (form t : SszType)
    (limit d : ℕ) (v : SszValue) → form ≡ list t limit → IsLegal format form → Fits form v → d
    ≡ depth form
    → HasList pair_of form t d v
HasList-list pair_of format form t limit d v e legal fits deep =
    subst (λ k. HasList pair_of form t k v) (sym deep)
    (subst (λ f. HasList pair_of f t (depth f) v) (sym e)
    (list_has pair_of format t limit v (subst (IsLegal format) e legal)
    (subst (λ f. Fits f v) e fits)))

-- containers

-- as many values as fields
pub length-fit : (trees : List SszType) (parts : List Part) (vs : List SszValue)
    → FitFields (fields_over trees parts) vs → length vs ≡ length parts
length-fit trees [] [] fit = refl
length-fit trees [] (v ∷ vs) fit = absurd fit
length-fit trees (part ∷ parts) [] fit = absurd fit
length-fit trees (part ∷ parts) (v ∷ vs) fit = omega (arith, length-fit trees parts vs fit.1)

pub record HasContainer (pair_of : List ℕ → List ℕ → List ℕ) (form : SszType) (fs : Fields)
    (d n : ℕ) (v : SszValue) : Type 0 where
  pub same : root pair_of (merkle_tree d (field_trees fs (parts_of v))) ≡ root pair_of (tree form v)
  pub costs : merkle_pairs d n + field_pairs fs (parts_of v) ≡ pairs form v

container_has : (pair_of : List ℕ → List ℕ → List ℕ) (trees : List SszType) (parts : List Part)
    (v : SszValue) → Fits (container (fields_over trees parts)) v
    → HasContainer pair_of (container (fields_over trees parts)) (fields_over trees parts)
    (depth (container (fields_over trees parts))) (length parts) v
container_has pair_of trees parts (sequence vs) fits = record {
  same = refl;
  costs = ap (λ n. merkle_pairs (depth (container (fields_over trees parts))) n + field_pairs
      (fields_over trees parts) (items vs)) (sym (length-fit trees parts (items vs) fits));
}
container_has pair_of trees parts _ fits = absurd fits

pub HasContainer-container : (pair_of : List ℕ → List ℕ → List ℕ) (form : SszType)
    (trees : List SszType) (parts : List Part) (d : ℕ) (v : SszValue) → form
    ≡ container (fields_over trees parts) → Fits form v → d ≡ depth form
    → HasContainer pair_of form (fields_over trees parts) d (length parts) v
HasContainer-container pair_of form trees parts d v e fits deep =
    subst (λ k. HasContainer pair_of form (fields_over trees parts) k (length parts) v) (sym deep)
    (subst (λ f. HasContainer pair_of f (fields_over trees parts) (depth f) (length parts) v)
    (sym e) (container_has pair_of trees parts v (subst (λ f. Fits f v) e fits)))

-- the values of a sequence's parts
pub parts_of_seq : (parts : Vec Value Global) → parts_of (value_of (Seq parts))
    ≡ map value_of parts.items
parts_of_seq parts = ap parts_of (seq_is parts) ∙ items-values (map value_of parts.items)

-- and all of them fit
pub seq_fit : (t : SszType) (parts : Vec Value Global) → IsSequence t (Seq parts)
    → AllByRecursion (Fits t) (map value_of parts.items)
seq_fit t parts h =
    subst (AllByRecursion (Fits t)) (items-values (map value_of parts.items))
    (subst (ElementsFit t) (seq_is parts) h.fit)

-- values of a basic type
pub record HasPackedValues (pair_of : List ℕ → List ℕ → List ℕ) (t : SszType) (d z : ℕ)
    (vs : List Value) (ws : List SszValue) : Type 0 where
  pub fits : AllByRecursion (Fits t) (map value_of vs)
  pub same : root pair_of (merkle_tree d (leaves (pack (concat (encodings_of t vs)))))
      ≡ root pair_of (merkle_tree d (element_trees t ws))
  pub chunks : (length vs * z + 31) / 32 ≡ element_chunks (basic_size t) (length ws)
  pub no_pairs : sum_by (pairs t) ws ≡ 0

pub HasPackedValues-seq : (pair_of : List ℕ → List ℕ → List ℕ) (t : SszType) (d z : ℕ)
    (parts : Vec Value Global) → IsSequence t (Seq parts) → basic_size t ≡ Some z
    → HasPackedValues pair_of t d z parts.items (parts_of (value_of (Seq parts)))
HasPackedValues-seq pair_of t d z parts h e =
    let vs : List Value = parts.items in
    let ws : List SszValue = map value_of vs in
    subst (HasPackedValues pair_of t d z vs) (sym (parts_of_seq parts)) (record {
      fits = seq_fit t parts h;
      same = ap (λ es. root pair_of (merkle_tree d (leaves (pack (concat es)))))
          (sym (map-map (serialize t) value_of vs))
          ∙ ap (λ size. root pair_of (merkle_tree d (element_leaves size (map (serialize t) ws)
          (map (tree t) ws)))) (sym e);
      chunks = ap (λ n. (n * z + 31) / 32) (sym (length-map vs value_of))
          ∙ ap (λ size. element_chunks size (length ws)) (sym e);
      no_pairs = no_pairs_in t z (IsBasic-basic t z e) ws;
    })

-- values of a composite type
pub record HasValues (pair_of : List ℕ → List ℕ → List ℕ) (t : SszType) (d : ℕ) (vs : List Value)
    (ws : List SszValue) : Type 0 where
  pub are : AllByRecursion (IsValue t) vs
  pub same : root pair_of (merkle_tree d (map (tree t) (map value_of vs)))
      ≡ root pair_of (merkle_tree d (element_trees t ws))
  pub count : length vs ≡ element_chunks (basic_size t) (length ws)
  pub costs : sum_by (pairs t) (map value_of vs) ≡ sum_by (pairs t) ws

pub HasValues-seq : (pair_of : List ℕ → List ℕ → List ℕ) (t : SszType) (d : ℕ)
    (parts : Vec Value Global) → IsSequence t (Seq parts) → basic_size t ≡ None
    → HasValues pair_of t d parts.items (parts_of (value_of (Seq parts)))
HasValues-seq pair_of t d parts h e =
    let vs : List Value = parts.items in
    subst (HasValues pair_of t d vs) (sym (parts_of_seq parts)) (record {
      are = seq_elements t parts h;
      same = ap (λ ts. root pair_of (merkle_tree d ts)) (composite_trees t (map value_of vs) e);
      count = sym (length-map vs value_of) ∙ ap (λ size. element_chunks size
          (length (map value_of vs))) (sym e);
      costs = refl;
    })

-- bytes
pub record HasByteValues (pair_of : List ℕ → List ℕ → List ℕ) (t : SszType) (d : ℕ) (run : List ℕ)
    (ws : List SszValue) : Type 0 where
  pub same : root pair_of (merkle_tree d (leaves (pack run)))
      ≡ root pair_of (merkle_tree d (element_trees t ws))
  pub chunks : (length run + 31) / 32 ≡ element_chunks (basic_size t) (length ws)
  pub no_pairs : sum_by (pairs t) ws ≡ 0

-- bytes are the encodings of their numbers
pub bytes_written : (run : List ℕ) → AllByRecursion (Fits (uint W8)) (map number run)
    → concat (map (serialize (uint W8)) (map number run)) ≡ run
bytes_written [] fits = refl
bytes_written (b ∷ run) fits = ap₂ (λ byte rest. byte ∷ rest)
    (let small : b % 256 ≡ b = omega (arith, fits.0) in small) (bytes_written run fits.1)

pub HasByteValues-bytes : (pair_of : List ℕ → List ℕ → List ℕ) (t : SszType) (d : ℕ) (run : List ℕ)
    → IsSequence t (Bytes run)
    → HasByteValues pair_of t d run (parts_of (value_of (Bytes run)))
HasByteValues-bytes pair_of t d run h =
    let e : t ≡ uint W8 = bytes_elements t run h in
    let parts : parts_of (value_of (Bytes run)) ≡ map number run = ap parts_of (bytes_are run)
    ∙ items-values (map number run) in
    let fits : AllByRecursion (Fits (uint W8)) (map number run) =
    subst (AllByRecursion (Fits (uint W8))) (items-values (map number run))
    (subst (ElementsFit (uint W8)) (bytes_are run)
    (subst (λ ty. ElementsFit ty (value_of (Bytes run))) e h.fit)) in
    subst (HasByteValues pair_of t d run) (sym parts)
    (subst (λ ty. HasByteValues pair_of ty d run (map number run)) (sym e) (record {
      same = ap (λ bs. root pair_of (merkle_tree d (leaves (pack bs))))
          (sym (bytes_written run fits));
      chunks = let times : length (map number run) * 1
          ≡ length run = omega (arith, length-map run number) in
          ap (λ n. (n + 31) / 32) (sym times);
      no_pairs = no_pairs_in (uint W8) 1 (IsBasic-basic (uint W8) 1 refl) (map number run);
    }))

-- field i is a value of its type
pub field_value : (trees : List SszType) (parts : List Part) (vs : List Value) (i : ℕ) (part : Part)
    (v : Value) → AreFields (fields_over trees parts) vs → i < length parts → part
    ≡ get_or parts i part → v ≡ get_or vs i v
    → IsValue (type_tree_at trees part.1) v
field_value trees [] vs i part v are below e is = absurd (omega arith)
field_value trees (p ∷ parts) [] i part v are below e is = absurd are
field_value trees (p ∷ parts) (w ∷ vs) zero part v are below e is =
    subst (λ (q : Part). IsValue (type_tree_at trees q.1) v) (sym e)
    (subst (IsValue (type_tree_at trees p.1)) (sym is) are.0)
field_value trees (p ∷ parts) (w ∷ vs) (suc i) part v are below e is =
    field_value trees parts vs i part v are.1 (omega arith) e is

-- and all of them fit
pub fields_fit : (trees : List SszType) (parts : List Part) (vs : List Value)
    → AreFields (fields_over trees parts) vs → FitFields (fields_over trees parts) (map value_of vs)
fields_fit trees [] [] are = tt
fields_fit trees [] (v ∷ vs) are = absurd are
fields_fit trees (p ∷ parts) [] are = absurd are
fields_fit trees (p ∷ parts) (v ∷ vs) are = (are.0.fits, fields_fit trees parts vs are.1)

-- parts without pairs of their own
pub paid : (d n count costs : ℕ) → n ≡ count → costs ≡ 0
    → merkle_pairs d n ≡ merkle_pairs d count + costs
paid d n count costs e none = ap (merkle_pairs d) e ∙ omega (arith, none)
