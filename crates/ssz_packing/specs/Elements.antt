-- What stands below the tree of elements.
use Rattle.std.specs.Prelude.{ℕ, List, map}
use Rattle.ssz_chunk.specs.Tree.{Tree}
use Rattle.ssz_schema.specs.Types.{SszType}
use Rattle.ssz_schema.specs.Sizes.{basic_size}
use Rattle.ssz_value.specs.declared.value.Value.{Value}
use Rattle.ssz_value.specs.Values.{SszValue}
use Rattle.ssz_value.specs.Standing.{value_of}
use Rattle.ssz_value.specs.Encoding.{serialize}
use Rattle.ssz_value.specs.Trees.{tree, element_leaves}

-- the chunks of elements of a basic type, packed, and the trees of others
abbrev pub element_trees : SszType → List SszValue → List Tree
element_trees t vs = element_leaves (basic_size t) (map (serialize t) vs) (map (tree t) vs)

-- the encodings of these values of the program
abbrev pub encodings_of : SszType → List Value → List (List ℕ)
encodings_of t vs = map (λ v. serialize t (value_of v)) vs
