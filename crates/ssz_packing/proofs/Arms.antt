-- What bytes without a fault tell, for each form of a type.
use Rattle.ssz_schema.specs.format.Format.{Format}
use Rattle.std.proofs.Common.{◌≡◌, ℕ, ◌+◌, ◌/◌, ◌^◌, ◌≤◌, List, length, map, replicate, Option, None, sym, ap, subst, ◌∙◌, arith}
use Rattle.std.proofs.lemmas.List.{length-map, length-replicate}
use Rattle.ssz_chunk.specs.Tree.{leaf, root, merkle_tree, merkle_pairs}
use Rattle.ssz_schema.specs.Types.{SszType, container, vector, list, bitvector}
use Rattle.ssz_schema.specs.Sizes.{fixed_size, basic_size, element_chunks, field_count, depth_of, depth}
use Rattle.ssz_bytes.specs.Bytes.{le_bytes, le_number, number_of_bits, bits_of_number}
use Rattle.ssz_bytes.specs.Faults.{bitvector_fault}
use Rattle.ssz_schema.specs.Legal.{IsLegal, AreLegalFields}
use Rattle.ssz_schema.specs.Unfolding.{fields_over}
use Rattle.ssz_bytes.proofs.Bits.{length-bits_of_number}
use Rattle.ssz_schema.proofs.DepthLemmas.{depth_of-holds}
use Rattle.ssz_schema.proofs.SizeLemmas.{fields_few}
use Rattle.ssz_schema.proofs.SumLemmas.{field_count-over}
use Rattle.ssz_value.specs.Faults.{first_fault, elements_fault, element_count, count_fault, length_fault, scopes}
use Rattle.ssz_value.specs.Reading.{value_in, elements_in}
use Rattle.ssz_value.specs.Trees.{tree, pack, pack_bits}
use Rattle.ssz_value.specs.Values.{SszValue, items, values}
use Rattle.ssz_value.specs.Pairs.{pairs}
use Rattle.ssz_value.proofs.Agree.{IsInput, no_faults, length_from_fault, length-scopes, length-bytes_of}
use Rattle.ssz_value.proofs.ExactLaw.{agrees}
use Rattle.ssz_value.proofs.PartLemmas.{Part}
use Rattle.ssz_value.proofs.Sequences.{items-values}
use Rattle.ssz_merkle.specs.Frontier.{leaves}
use Rattle.ssz_packing.proofs.Bounds.{vector_room, list_room, bitvector_room, levels_few}

-- elements, in a full tree of this depth
pub record HasElements (format : Format) (t : SszType) (count d : ℕ) (b : List ℕ) : Type 0 where
  pub legal : IsLegal format t
  pub few : element_chunks (basic_size t) count ≤ 2 ^ d
  pub shallow : d ≤ 126
  pub faultless : elements_fault (first_fault t) (fixed_size t) count 0 b ≡ None

pub vector_elements : (format : Format) (form t : SszType) (n d : ℕ) (b : List ℕ) → form
    ≡ vector t n → IsLegal format form → first_fault form 0 b ≡ None → d ≡ depth form
    → HasElements format t n d b
vector_elements format form t n d b e legal h deep =
    let law = subst (IsLegal format) e legal in
    let room = vector_room format t n law in
    let same : depth (vector t n) ≡ d = sym (deep ∙ ap depth e) in
    let covers : element_chunks (basic_size t) n
    ≤ 2 ^ d = subst (λ k. element_chunks (basic_size t) n ≤ 2 ^ k) same room.few in
    let shallow : d ≤ 126 = subst (λ k. k ≤ 126) same room.shallow in
    record {
      legal = law.0;
      few = covers;
      shallow = omega arith;
      faultless = subst (λ ty. first_fault ty 0 b ≡ None) e h;
    }

pub list_elements : (format : Format) (form t : SszType) (limit count d : ℕ) (b : List ℕ) → form
    ≡ list t limit → IsLegal format form → IsInput b → first_fault form 0 b ≡ None
    → d ≡ depth form → count ≡ element_count (fixed_size t) b → HasElements format t count d b
list_elements format form t limit count d b e legal input h deep is =
    let law = subst (IsLegal format) e legal in
    let good : first_fault (list t limit) 0 b ≡ None =
    subst (λ ty. first_fault ty 0 b ≡ None) e h in
    let both = no_faults (count_fault (fixed_size t) limit 0 b)
    (elements_fault (first_fault t) (fixed_size t) (element_count (fixed_size t) b) 0 b) good in
    let sizes : List (Option ℕ) = replicate (element_count (fixed_size t) b) (fixed_size t) in
    let vs : List SszValue = map (value_in t)
    (elements_in (fixed_size t) (element_count (fixed_size t) b) b) in
    let fits : length (items (values vs)) ≤ limit =
    ((agrees format (list t limit) law).only 0 b input good).fits.0 in
    let many : length (items (values vs)) ≡ element_count (fixed_size t) b =
    ap length (items-values vs)
    ∙ length-map (elements_in (fixed_size t) (element_count (fixed_size t) b) b) (value_in t)
    ∙ length-bytes_of (scopes sizes 0 b) ∙ length-scopes sizes 0 b
    ∙ length-replicate (element_count (fixed_size t) b) (fixed_size t) in
    let within : element_count (fixed_size t) b ≤ limit = omega (arith, fits, many) in
    let room = list_room format t limit count law (omega (arith, within, is)) in
    let same : depth (list t limit) ≡ d = sym (deep ∙ ap depth e) in
    let covers : element_chunks (basic_size t) count
    ≤ 2 ^ d = subst (λ k. element_chunks (basic_size t) count ≤ 2 ^ k) same room.few in
    let shallow : d ≤ 126 = subst (λ k. k ≤ 126) same room.shallow in
    record {
      legal = law.0;
      few = covers;
      shallow = omega arith;
      faultless = subst (λ n. elements_fault (first_fault t) (fixed_size t) n 0 b ≡ None) (sym is)
          both.1;
    }

-- a bit vector is packed as it stands
pub record IsPackedBits (pair_of : List ℕ → List ℕ → List ℕ) (form : SszType)
    (b : List ℕ) : Type 0 where
  pub same : root pair_of (merkle_tree (depth form) (leaves (pack b)))
      ≡ root pair_of (tree form (value_in form b))
  pub costs : merkle_pairs (depth form) ((length b + 31) / 32) ≡ pairs form (value_in form b)
  pub few : (length b + 31) / 32 ≤ 2 ^ depth form
  pub shallow : depth form ≤ 126

bitvector_packed : (pair_of : List ℕ → List ℕ → List ℕ) (format : Format) (n : ℕ) (b : List ℕ)
    → IsLegal format (bitvector n) → IsInput b → first_fault (bitvector n) 0 b ≡ None
    → IsPackedBits pair_of (bitvector n) b
bitvector_packed pair_of format n b legal input h =
    let written = (agrees format (bitvector n) legal).only 0 b input h in
    let count : length (bits_of_number n (le_number b))
    ≡ n = length-bits_of_number n (le_number b) in
    let len : length b ≡ (n + 7) / 8 = length_from_fault ((n + 7) / 8) 0 b
    (no_faults (length_fault ((n + 7) / 8) 0 b) (bitvector_fault n 0 b) h).0 in
    let packed : pack_bits (bits_of_number n (le_number b)) ≡ pack b =
    ap (λ m. pack (le_bytes ((m + 7) / 8) (number_of_bits (bits_of_number n (le_number b))))) count
    ∙ ap pack written.bytes in
    let room = bitvector_room format n (length b) legal len in
    let chunks : (length b + 31) / 32 ≡ (length (bits_of_number n (le_number b)) + 255) / 256 =
    omega (arith, len, count) in
    record {
      same = ap (λ cs. root pair_of (merkle_tree (depth (bitvector n)) (map leaf cs))) (sym packed);
      costs = ap (merkle_pairs (depth (bitvector n))) chunks;
      few = room.few;
      shallow = room.shallow;
    }

pub IsPackedBits-bitvector : (pair_of : List ℕ → List ℕ → List ℕ) (format : Format) (form : SszType)
    (n : ℕ) (b : List ℕ) → form ≡ bitvector n → IsLegal format form → IsInput b
    → first_fault form 0 b
    ≡ None → IsPackedBits pair_of form b
IsPackedBits-bitvector pair_of format form n b e legal input h =
    subst (λ ty. IsPackedBits pair_of ty b) (sym e)
    (bitvector_packed pair_of format n b (subst (IsLegal format) e legal) input
    (subst (λ ty. first_fault ty 0 b ≡ None) e h))

-- a container has no more fields than its default has bytes

-- the fields' roots, in a full tree of this depth
pub record HasFieldRoom (format : Format) (trees : List SszType) (parts : List Part)
    (d : ℕ) : Type 0 where
  pub legal : AreLegalFields format (fields_over trees parts)
  pub few : length parts ≤ 2 ^ d
  pub shallow : d ≤ 126

pub container_room : (format : Format) (form : SszType) (trees : List SszType) (parts : List Part)
    (d : ℕ) → form ≡ container (fields_over trees parts) → IsLegal format form → d ≡ depth form
    → HasFieldRoom format trees parts d
container_room format form trees parts d e legal deep =
    let law = subst (IsLegal format) e legal in
    let count : field_count (fields_over trees parts)
    ≡ length parts = field_count-over trees parts in
    let few : field_count (fields_over trees parts)
    ≤ 2 ^ 24 = omega (
      arith,
      fields_few format (fields_over trees parts) law.1,
      law.3.default_length,
    ) in
    let covers : field_count (fields_over trees parts)
    ≤ 2 ^ depth_of (field_count (fields_over trees parts)) =
    depth_of-holds (field_count (fields_over trees parts)) in
    let shallow : depth_of (field_count (fields_over trees parts))
    ≤ 126 = omega (arith, law.3.levels, levels_few format) in
    let same : depth_of (field_count (fields_over trees parts)) ≡ d = sym (deep ∙ ap depth e) in
    let room : length parts ≤ 2 ^ d = subst (λ k. length parts ≤ 2 ^ k) same
    (omega (arith, covers, count)) in
    let low : d ≤ 126 = subst (λ k. k ≤ 126) same shallow in
    record { legal = law.1; few = room; shallow = omega arith }

pub record HasFields (format : Format) (trees : List SszType) (parts : List Part) (d : ℕ)
    (b : List ℕ) : Type 0 where
  pub room : HasFieldRoom format trees parts d
  pub faultless : first_fault (container (fields_over trees parts)) 0 b ≡ None

pub container_fields : (format : Format) (form : SszType) (trees : List SszType) (parts : List Part)
    (d : ℕ) (b : List ℕ) → form ≡ container (fields_over trees parts) → IsLegal format form
    → first_fault form 0 b ≡ None → d ≡ depth form → HasFields format trees parts d b
container_fields format form trees parts d b e legal h deep =
    record {
      room = container_room format form trees parts d e legal deep;
      faultless = subst (λ ty. first_fault ty 0 b ≡ None) e h;
    }
