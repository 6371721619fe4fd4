-- The nodes that are made for the default of a type, where equal elements share one node.
use Rattle.std.specs.Prelude.{ℕ, ◌+◌, ◌*◌, min, [], Option, Some, None}
use Rattle.ssz_chunk.specs.Chunk.{zero_chunk}
use Rattle.ssz_chunk.specs.Tree.{merkle_pairs}
use Rattle.ssz_schema.specs.Types.{SszType, Fields, Options, uint, boolean, container, vector, list, bitvector, bitlist, union, no_fields, field, no_options, none_option, option}
use Rattle.ssz_schema.specs.Sizes.{depth, basic_size, field_count}
use Rattle.ssz_value.specs.Defaults.{default_of}
use Rattle.ssz_arena.specs.declared.node.NodeId.{NodeId}
use Rattle.ssz_arena.specs.Content.{ArenaContent}
use Rattle.ssz_tree.specs.Added.{AddsNodes, IsPartNode}
use Rattle.ssz_making.specs.Parts.{MadePart, whole_of, joined_leaf, part_of_value}

-- of a vector: none where it is packed; else those of one element, and on each level at most one
-- whole subtree and one that is not whole
abbrev pub shared_vector : Option ℕ → ℕ → ℕ → ℕ
shared_vector (Some z) nodes d = 0
shared_vector None nodes d = nodes + 2 * d

abbrev mutual
  pub shared : SszType → ℕ
  shared (uint w) = 0
  shared boolean = 0
  shared (bitvector n) = 0
  shared (list elem limit) = 1
  shared (bitlist limit) = 1
  shared (union os) = 1 + shared_option os
  shared (container fs) = merkle_pairs (depth (container fs)) (field_count fs) + shared_fields fs
  shared (vector elem n) = shared_vector (basic_size elem) (shared elem) (depth (vector elem n))

  -- of the defaults of the fields
  pub shared_fields : Fields → ℕ
  shared_fields no_fields = 0
  shared_fields (field name t fs) = shared t + shared_fields fs

  -- of the default of the first option
  pub shared_option : Options → ℕ
  shared_option no_options = 0
  shared_option (none_option os) = 0
  shared_option (option t os) = shared t

-- the default of the type
abbrev pub default_part : SszType → MadePart
default_part t = part_of_value t (default_of t)

-- no element, with a length of 0; or the option None, with the selector 0
abbrev pub empty_part : ℕ → MadePart
empty_part d = joined_leaf (whole_of d []) zero_chunk

-- the node of a part was made with so many new nodes at most, and with no more pairs than these nor
-- than the part costs
pub record MakesWith (nodes : ℕ) (old new : ArenaContent) (part : MadePart) (id : NodeId)
    : Type 0 where
  pub is : IsPartNode new part id
  pub adds : AddsNodes nodes (min nodes part.cost) old new
