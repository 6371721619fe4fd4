-- How many nodes are made for a value, zero trees aside (this project's measure).
use Rattle.std.specs.Prelude.{ℕ, zero, suc, ◌+◌, ◌/◌, List, ◌∷◌, length, Option, Some, None, sum_by}
use Rattle.ssz_chunk.specs.Tree.{merkle_pairs}
use Rattle.ssz_schema.specs.Types.{SszType, Fields, Options, uint, boolean, container, vector, list, bitvector, bitlist, union, field, none_option, option}
use Rattle.ssz_schema.specs.Sizes.{depth, basic_size, element_chunks}
use Rattle.ssz_value.specs.Values.{SszValue, sequence, bits, chosen, chosen_none, items}

-- below the pairs above n elements: a leaf for each of their chunks where they are packed, and else
-- the nodes of all of them
abbrev pub element_nodes : Option ℕ → ℕ → ℕ → ℕ
element_nodes (Some z) n all = element_chunks (Some z) n
element_nodes None n all = all

abbrev mutual
  -- a leaf for a chunk, and the nodes of parts; the pairs above the chunks or parts that are
  -- present; a pair and a leaf for a length or a selector
  pub new_nodes : SszType → SszValue → ℕ
  new_nodes (uint w) v = 1
  new_nodes boolean v = 1
  new_nodes (container fs) (sequence vs) =
      merkle_pairs (depth (container fs)) (length (items vs)) + field_nodes fs (items vs)
  new_nodes (vector elem n) (sequence vs) =
      merkle_pairs (depth (vector elem n)) (element_chunks (basic_size elem) (length (items vs)))
      + element_nodes (basic_size elem) (length (items vs)) (sum_by (new_nodes elem) (items vs))
  new_nodes (list elem limit) (sequence vs) =
      merkle_pairs (depth (list elem limit)) (element_chunks (basic_size elem) (length (items vs)))
      + element_nodes (basic_size elem) (length (items vs)) (sum_by (new_nodes elem) (items vs))
      + 2
  new_nodes (bitvector n) (bits bs) =
      merkle_pairs (depth (bitvector n)) ((length bs + 255) / 256) + (length bs + 255) / 256
  new_nodes (bitlist limit) (bits bs) =
      merkle_pairs (depth (bitlist limit)) ((length bs + 255) / 256) + (length bs + 255) / 256 + 2
  new_nodes (union os) (chosen k v) = option_nodes os k v + 2
  new_nodes (union os) (chosen_none k) = 2
  -- no other value fits
  new_nodes _ _ = 0

  pub field_nodes : Fields → List SszValue → ℕ
  field_nodes (field name t fs) (v ∷ vs) = new_nodes t v + field_nodes fs vs
  field_nodes _ _ = 0

  -- of a value of the option of this number
  pub option_nodes : Options → ℕ → SszValue → ℕ
  option_nodes (option t os) zero v = new_nodes t v
  option_nodes (option t os) (suc k) v = option_nodes os k v
  option_nodes (none_option os) (suc k) v = option_nodes os k v
  option_nodes _ _ v = 0
