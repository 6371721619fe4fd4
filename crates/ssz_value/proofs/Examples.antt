-- Worked examples of the definitions, each by computing. The expected values were worked out by
-- hand from the standard.
use Rattle.std.specs.Prelude.{ℕ, ◌≡◌, List, [], ◌∷◌, ◌++◌, take, drop, map, bit_xor, replicate, true, false, Option, None, refl}
use Rattle.ssz_bytes.specs.declared.fault.Fault.{Fault}
use Rattle.ssz_schema.specs.width.Width.TheVariants.{W8, W16, W64, W256}
use Rattle.ssz_schema.specs.Types.{SszType, uint, boolean, container, vector, list, bitvector, bitlist, union, no_fields, field, no_options, none_option, option}
use Rattle.ssz_schema.specs.Sizes.{depth_of, exponent}
use Rattle.ssz_bytes.specs.Faults.{short, extra, bad_bool, first_offset, offset_range, offset_order, ragged, too_many, padding_bits, no_delimiter, bad_selector}
use Rattle.ssz_chunk.specs.Chunk.{zero_chunk}
use Rattle.ssz_chunk.specs.Tree.{merkle_tree, merkle_pairs}
use Rattle.ssz_value.specs.Values.{SszValue, number, truth, sequence, bits, chosen, values}
use Rattle.ssz_value.specs.Defaults.{default_of}
use Rattle.ssz_value.specs.Encoding.{serialize}
use Rattle.ssz_value.specs.Faults.{first_fault}
use Rattle.ssz_value.specs.Reading.{value_in}
use Rattle.ssz_value.specs.Trees.{hash_tree_root}
use Rattle.ssz_value.specs.Pairs.{pairs}

-- uint64 a, b
abbrev pair_of_uints : SszType
pair_of_uints = container (field (97 ∷ []) (uint W64) (field (98 ∷ []) (uint W64) no_fields))

abbrev bytes_to_4 : SszType
bytes_to_4 = list (uint W8) 4

-- uint16 a, List[uint8, 4] b
abbrev with_bytes : SszType
with_bytes = container (field (97 ∷ []) (uint W16) (field (98 ∷ []) bytes_to_4 no_fields))

-- boolean a, List[uint8, 4] b
abbrev with_flag : SszType
with_flag = container (field (97 ∷ []) boolean (field (98 ∷ []) bytes_to_4 no_fields))

-- Union[None, uint64]
abbrev none_or_uint : SszType
none_or_uint = union (none_option (option (uint W64) no_options))

abbrev lists : SszType
lists = list bytes_to_4 4

-- List[uint8, 4] a, boolean b, Bitlist[8] c
abbrev two_offsets : SszType
two_offsets = container (field (97 ∷ []) bytes_to_4
    (field (98 ∷ []) boolean (field (99 ∷ []) (bitlist 8) no_fields)))

-- boolean a, b
abbrev flags : SszType
flags = container (field (97 ∷ []) boolean (field (98 ∷ []) boolean no_fields))

-- List[uint16, 4] a, List[uint8, 4] b
abbrev two_lists : SszType
two_lists = container (field (97 ∷ []) (list (uint W16) 4) (field (98 ∷ []) bytes_to_4 no_fields))

-- bytes that are to encode a value of a type, and their first fault
abbrev Row : Type 0
Row = SszType × List ℕ × Option Fault

abbrev rows : List Row
rows =
    (pair_of_uints, replicate 16 0, None)
    ∷ (with_bytes, 0xaa ∷ 0xbb ∷ 6 ∷ 0 ∷ 0 ∷ 0 ∷ 1 ∷ 2 ∷ [], None)
    ∷ (with_bytes, 0xaa ∷ 0xbb ∷ 7 ∷ 0 ∷ 0 ∷ 0 ∷ 1 ∷ 2 ∷ [], first_offset 2)
    ∷ (with_bytes, 0xaa ∷ 0xbb ∷ 6 ∷ [], short 0)
    ∷ (lists, 8 ∷ 0 ∷ 0 ∷ 0 ∷ 8 ∷ 0 ∷ 0 ∷ 0 ∷ [], None)
    ∷ (lists, 8 ∷ 0 ∷ 0 ∷ 0 ∷ 7 ∷ 0 ∷ 0 ∷ 0 ∷ [], offset_order 4)
    ∷ (lists, 8 ∷ 0 ∷ 0 ∷ 0 ∷ 9 ∷ 0 ∷ 0 ∷ 0 ∷ [], offset_range 4)
    ∷ (with_flag, 2 ∷ 6 ∷ 0 ∷ 0 ∷ 0 ∷ [], first_offset 1)
    ∷ (with_flag, 2 ∷ 5 ∷ 0 ∷ 0 ∷ 0 ∷ [], bad_bool 0)
    ∷ (bitlist 8, 1 ∷ [], None)
    ∷ (bitlist 8, [], no_delimiter 0)
    ∷ (bitlist 8, 0 ∷ [], no_delimiter 0)
    ∷ (bitlist 3, 0x10 ∷ [], too_many 0)
    ∷ (bitvector 4, 0x10 ∷ [], padding_bits 0)
    ∷ (bitvector 8, 0x10 ∷ [], None)
    ∷ (none_or_uint, 0 ∷ [], None)
    ∷ (none_or_uint, 0 ∷ 0 ∷ [], extra 1)
    ∷ (none_or_uint, 2 ∷ [], bad_selector 0)
    ∷ (none_or_uint, [], short 0)
    ∷ (list (uint W64) 4, [], None)
    ∷ (list (uint W64) 0, replicate 8 0, too_many 0)
    ∷ (list (uint W64) 0, replicate 5 0, ragged 0)
    ∷ (uint W256, replicate 32 255, None)
    ∷ (uint W256, replicate 31 255, short 0)
    ∷ (uint W256, replicate 33 255, extra 32)
    ∷ (two_offsets, 9 ∷ 0 ∷ 0 ∷ 0 ∷ 1 ∷ 11 ∷ 0 ∷ 0 ∷ 0 ∷ 1 ∷ 2 ∷ 13 ∷ [], None)
    ∷ (two_offsets, 9 ∷ 0 ∷ 0 ∷ 0 ∷ 1 ∷ 13 ∷ 0 ∷ 0 ∷ 0 ∷ 1 ∷ 2 ∷ 13 ∷ [], offset_range 5)
    ∷ (two_offsets, 9 ∷ 0 ∷ 0 ∷ 0 ∷ 1 ∷ 8 ∷ 0 ∷ 0 ∷ 0 ∷ 1 ∷ 2 ∷ 13 ∷ [], offset_order 5)
    ∷ (two_offsets, 9 ∷ 0 ∷ 0 ∷ 0 ∷ 1 ∷ 12 ∷ 0 ∷ 0 ∷ 0 ∷ 1 ∷ 2 ∷ 13 ∷ [], no_delimiter 12)
    ∷ (flags, 1 ∷ 2 ∷ [], bad_bool 1)
    ∷ (flags, 1 ∷ [], short 0)
    ∷ (flags, 1 ∷ 0 ∷ 0 ∷ [], extra 2)
    ∷ (two_lists, 8 ∷ 0 ∷ 0 ∷ 0 ∷ 12 ∷ 0 ∷ 0 ∷ 0 ∷ 1 ∷ 2 ∷ 3 ∷ [], offset_range 4)
    ∷ (two_lists, 8 ∷ 0 ∷ 0 ∷ 0 ∷ 11 ∷ 0 ∷ 0 ∷ 0 ∷ 1 ∷ 2 ∷ 3 ∷ [], ragged 8)
    ∷ (list with_bytes 4, 4 ∷ 0 ∷ 0 ∷ 0 ∷ 0xaa ∷ 0xbb ∷ 7 ∷ 0 ∷ 0 ∷ 0 ∷ 1 ∷ 2 ∷ [], first_offset 6)
    ∷ (vector boolean 3, 1 ∷ 2 ∷ 3 ∷ [], bad_bool 1)
    ∷ []

faults_of_rows : map (λ (row : Row). first_fault row.0 0 row.1) rows
    ≡ map (λ (row : Row). row.2) rows
faults_of_rows = refl

-- values and their encodings

encoding_with_bytes : serialize with_bytes
    (sequence (values (number 0xbbaa ∷ sequence (values (number 1 ∷ number 2 ∷ [])) ∷ [])))
    ≡ 0xaa ∷ 0xbb ∷ 6 ∷ 0 ∷ 0 ∷ 0 ∷ 1 ∷ 2 ∷ []
encoding_with_bytes = refl

abbrev value_of_two_offsets : SszValue
value_of_two_offsets =
    sequence (values (sequence (values (number 1 ∷ number 2 ∷ [])) ∷ truth true ∷ bits
    (true ∷ false ∷ true ∷ []) ∷ []))

encoding_two_offsets : serialize two_offsets value_of_two_offsets
    ≡ 9 ∷ 0 ∷ 0 ∷ 0 ∷ 1 ∷ 11 ∷ 0 ∷ 0 ∷ 0 ∷ 1 ∷ 2 ∷ 13 ∷ []
encoding_two_offsets = refl

-- roots, by a hash that is computed with ease: byte i is left[(i + 1) mod 32] xor right[i]

abbrev xor_bytes : List ℕ → List ℕ → List ℕ
xor_bytes (x ∷ xs) (y ∷ ys) = bit_xor x y ∷ xor_bytes xs ys
xor_bytes _ _ = []

abbrev xor_of : List ℕ → List ℕ → List ℕ
xor_of left right = xor_bytes (drop 1 left ++ take 1 left) right

root_with_bytes : hash_tree_root xor_of with_bytes
    (value_in with_bytes (0xaa ∷ 0xbb ∷ 6 ∷ 0 ∷ 0 ∷ 0 ∷ 1 ∷ 2 ∷ []))
    ≡ 0xbb ∷ replicate 30 0 ++ 0xab ∷ []
unfolding depth_of exponent merkle_tree
root_with_bytes = refl

root_none_or_uint : hash_tree_root xor_of none_or_uint (chosen 1 (number 5))
    ≡ 1 ∷ replicate 30 0 ++ 5 ∷ []
unfolding depth_of exponent merkle_tree
root_none_or_uint = refl

-- whatever the hash: a value whose root is the pair of two zero chunks
abbrev zero_pair : (List ℕ → List ℕ → List ℕ) → List ℕ
zero_pair hash = hash zero_chunk zero_chunk

root_pair_of_uints : (hash : List ℕ → List ℕ → List ℕ)
    → hash_tree_root hash pair_of_uints (default_of pair_of_uints) ≡ zero_pair hash
unfolding depth_of exponent merkle_tree
root_pair_of_uints hash = refl

root_empty_bitlist : (hash : List ℕ → List ℕ → List ℕ)
    → hash_tree_root hash (bitlist 8) (value_in (bitlist 8) (1 ∷ [])) ≡ zero_pair hash
unfolding depth_of exponent merkle_tree
root_empty_bitlist hash = refl

root_none : (hash : List ℕ → List ℕ → List ℕ)
    → hash_tree_root hash none_or_uint (value_in none_or_uint (0 ∷ [])) ≡ zero_pair hash
unfolding depth_of exponent merkle_tree
root_none hash = refl

root_empty_list : (hash : List ℕ → List ℕ → List ℕ)
    → hash_tree_root hash (list (uint W64) 4) (value_in (list (uint W64) 4) []) ≡ zero_pair hash
unfolding depth_of exponent merkle_tree
root_empty_list hash = refl

root_bitvector : (hash : List ℕ → List ℕ → List ℕ)
    → hash_tree_root hash (bitvector 8) (value_in (bitvector 8) (0x10 ∷ [])) ≡ 0x10 ∷ replicate 31 0
unfolding depth_of exponent merkle_tree
root_bitvector hash = refl

root_wide : (hash : List ℕ → List ℕ → List ℕ)
    → hash_tree_root hash (uint W256) (value_in (uint W256) (replicate 32 255)) ≡ replicate 32 255
unfolding depth_of exponent merkle_tree
root_wide hash = refl

pairs_with_bytes : pairs with_bytes (value_in with_bytes (0xaa ∷ 0xbb ∷ 6 ∷ 0 ∷ 0 ∷ 0 ∷ 1 ∷ 2 ∷ []))
    ≡ 2
unfolding depth_of exponent merkle_tree merkle_pairs
pairs_with_bytes = refl
