-- The tree of a value and its root (simple-serialize.md, Merkleization).
use Rattle.std.specs.Prelude.{ℕ, zero, suc, ◌+◌, ◌/◌, List, [], ◌∷◌, ◌++◌, length, map, take, drop, Option, Some, None, Bool}
use Rattle.std.specs.List.{concat}
use Rattle.ssz_chunk.specs.Chunk.{zero_chunk}
use Rattle.ssz_chunk.specs.Tree.{Tree, leaf, pair, merkle_tree, root}
use Rattle.ssz_schema.specs.Types.{SszType, Fields, Options, uint, boolean, container, vector, list, bitvector, bitlist, union, field, none_option, option}
use Rattle.ssz_schema.specs.Sizes.{depth, basic_size}
use Rattle.ssz_bytes.specs.Bytes.{le_bytes, number_of_bits}
use Rattle.ssz_value.specs.Values.{SszValue, sequence, bits, chosen, chosen_none, items}
use Rattle.ssz_value.specs.Encoding.{serialize}

-- the number as 32 bytes
abbrev pub number_chunk : ℕ → List ℕ
number_chunk n = le_bytes 32 n

-- a chunk of at most 32 bytes, and zeros behind them
abbrev pub padded : List ℕ → List ℕ
padded bytes = take 32 (bytes ++ zero_chunk)

abbrev pub chunks : ℕ → List ℕ → List (List ℕ)
chunks zero bytes = []
chunks (suc count) bytes = padded bytes ∷ chunks count (drop 32 bytes)

-- pack: the bytes in chunks, the last one padded
abbrev pub pack : List ℕ → List (List ℕ)
pack bytes = chunks ((length bytes + 31) / 32) bytes

-- pack_bits: the bits in chunks, with no delimiter
abbrev pub pack_bits : List Bool → List (List ℕ)
pack_bits bs = pack (le_bytes ((length bs + 7) / 8) (number_of_bits bs))

-- mix_in_length, mix_in_selector: the number stands beside the tree
abbrev pub mixed_in : ℕ → Tree → Tree
mixed_in n tree = pair tree (leaf (number_chunk n))

-- the leaves of elements: packed chunks where they are basic, a tree each where they are composite
abbrev pub element_leaves : Option ℕ → List (List ℕ) → List Tree → List Tree
element_leaves (Some z) encodings trees = map leaf (pack (concat encodings))
element_leaves None encodings trees = trees

abbrev mutual
  -- the tree of a value that fits: merkleize is `merkle_tree`, padded to the depth of chunk_count
  pub tree : SszType → SszValue → Tree
  tree (uint w) v = leaf (padded (serialize (uint w) v))
  tree boolean v = leaf (padded (serialize boolean v))
  tree (container fs) (sequence vs) = merkle_tree (depth (container fs)) (field_trees fs (items vs))
  tree (vector elem n) (sequence vs) =
      merkle_tree (depth (vector elem n))
      (element_leaves (basic_size elem) (map (serialize elem) (items vs))
      (map (tree elem) (items vs)))
  tree (list elem limit) (sequence vs) =
      mixed_in (length (items vs))
      (merkle_tree (depth (list elem limit))
      (element_leaves (basic_size elem) (map (serialize elem) (items vs))
      (map (tree elem) (items vs))))
  tree (bitvector n) (bits bs) = merkle_tree (depth (bitvector n)) (map leaf (pack_bits bs))
  tree (bitlist limit) (bits bs) =
      mixed_in (length bs) (merkle_tree (depth (bitlist limit)) (map leaf (pack_bits bs)))
  tree (union os) (chosen k v) = mixed_in k (option_tree os k v)
  tree (union os) (chosen_none k) = mixed_in k (leaf zero_chunk)
  -- no other value fits
  tree _ _ = leaf zero_chunk

  -- the trees of the fields
  pub field_trees : Fields → List SszValue → List Tree
  field_trees (field name t fs) (v ∷ vs) = tree t v ∷ field_trees fs vs
  field_trees _ _ = []

  -- of a value of the option of this number
  pub option_tree : Options → ℕ → SszValue → Tree
  option_tree (option t os) zero v = tree t v
  option_tree (option t os) (suc k) v = option_tree os k v
  option_tree (none_option os) (suc k) v = option_tree os k v
  option_tree _ _ v = leaf zero_chunk

-- where pair_of hashes two chunks
abbrev pub hash_tree_root : (List ℕ → List ℕ → List ℕ) → SszType → SszValue → List ℕ
hash_tree_root pair_of t v = root pair_of (tree t v)
