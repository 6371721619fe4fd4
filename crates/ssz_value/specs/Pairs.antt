-- How many pairs are hashed for the root of a value, zero subtrees aside (this project's measure).
use Rattle.std.specs.Prelude.{ℕ, zero, suc, ◌+◌, ◌/◌, List, ◌∷◌, length, sum_by}
use Rattle.ssz_chunk.specs.Tree.{merkle_pairs}
use Rattle.ssz_schema.specs.Types.{SszType, Fields, Options, uint, boolean, container, vector, list, bitvector, bitlist, union, field, none_option, option}
use Rattle.ssz_schema.specs.Sizes.{depth, basic_size, element_chunks}
use Rattle.ssz_value.specs.Values.{SszValue, sequence, bits, chosen, chosen_none, items}

abbrev mutual
  -- those above the chunks or parts that are present, those of the parts, one for a length or a
  -- selector
  pub pairs : SszType → SszValue → ℕ
  pairs (uint w) v = 0
  pairs boolean v = 0
  pairs (container fs) (sequence vs) =
      merkle_pairs (depth (container fs)) (length (items vs)) + field_pairs fs (items vs)
  pairs (vector elem n) (sequence vs) =
      merkle_pairs (depth (vector elem n)) (element_chunks (basic_size elem) (length (items vs)))
      + sum_by (pairs elem) (items vs)
  pairs (list elem limit) (sequence vs) =
      merkle_pairs (depth (list elem limit)) (element_chunks (basic_size elem) (length (items vs)))
      + sum_by (pairs elem) (items vs) + 1
  pairs (bitvector n) (bits bs) = merkle_pairs (depth (bitvector n)) ((length bs + 255) / 256)
  pairs (bitlist limit) (bits bs) =
      merkle_pairs (depth (bitlist limit)) ((length bs + 255) / 256) + 1
  pairs (union os) (chosen k v) = option_pairs os k v + 1
  pairs (union os) (chosen_none k) = 1
  -- no other value fits
  pairs _ _ = 0

  pub field_pairs : Fields → List SszValue → ℕ
  field_pairs (field name t fs) (v ∷ vs) = pairs t v + field_pairs fs vs
  field_pairs _ _ = 0

  -- of a value of the option of this number
  pub option_pairs : Options → ℕ → SszValue → ℕ
  option_pairs (option t os) zero v = pairs t v
  option_pairs (option t os) (suc k) v = option_pairs os k v
  option_pairs (none_option os) (suc k) v = option_pairs os k v
  option_pairs _ _ v = 0
