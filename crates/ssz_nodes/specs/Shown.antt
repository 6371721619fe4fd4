-- The values whose trees nodes have.
use Rattle.std.specs.Prelude.{ℕ, ◌^◌, ◌+◌, ◌<◌, ◌≤◌, ◌≡◌, ◌==◌, ◌*◌, ◌/◌, ◌%◌, slice_index, drop, Bool, List, ◌++◌, length, map}
use Rattle.std.specs.List.{AllByRecursion}
use Rattle.ssz_chunk.specs.Tree.{Tree, leaf, merkle_tree, place}
use Rattle.ssz_schema.specs.Types.{SszType, Fields, uint, boolean}
use Rattle.ssz_schema.specs.Sizes.{basic_size, element_chunks}
use Rattle.ssz_value.specs.Values.{SszValue, Fits, FitFields}
use Rattle.ssz_value.specs.Encoding.{serialize}
use Rattle.ssz_places.specs.PlaceLaws.{IsTreeOf}
use Rattle.ssz_value.specs.Trees.{tree, element_leaves, field_trees, padded, pack, pack_bits}
use Rattle.ssz_arena.specs.declared.node.NodeId.{NodeId}
use Rattle.ssz_arena.specs.Content.{ArenaContent, row_node, tree_of}
use Rattle.ssz_nodes.specs.declared.basics.Basic.{Basic}
use Rattle.ssz_nodes.specs.declared.basics.Basic.TheVariants.{Number, Flag}

-- of the value whose tree this is
abbrev pub ForValue : SszType → Tree → (SszValue → Type 0) → Type 0
ForValue t node P = (v : SszValue) → IsTreeOf t v node → P v

-- the trees below that of elements
abbrev pub element_trees : SszType → List SszValue → List Tree
element_trees t vs = element_leaves (basic_size t) (map (serialize t) vs) (map (tree t) vs)

-- count elements of a type in a full tree of this depth
pub record AreElements (t : SszType) (depth count : ℕ) (vs : List SszValue) (node : Tree)
    : Type 0 where
  pub fit : AllByRecursion (Fits t) vs
  pub many : length vs ≡ count
  pub few : element_chunks (basic_size t) count ≤ 2 ^ depth
  pub tree : node ≡ merkle_tree depth (element_trees t vs)

abbrev pub ForElements : SszType → ℕ → ℕ → Tree → (List SszValue → Type 0) → Type 0
ForElements t depth count node P = (vs : List SszValue) → AreElements t depth count vs node → P vs

-- the values of fields in a full tree of this depth
pub record AreFieldsIn (fs : Fields) (depth : ℕ) (vs : List SszValue) (node : Tree) : Type 0 where
  pub fit : FitFields fs vs
  pub few : length vs ≤ 2 ^ depth
  pub tree : node ≡ merkle_tree depth (field_trees fs vs)

abbrev pub ForFields : Fields → ℕ → Tree → (List SszValue → Type 0) → Type 0
ForFields fs depth node P = (vs : List SszValue) → AreFieldsIn fs depth vs node → P vs

-- a value whose tree stands at place i of a full tree of this depth
pub record IsAtPlace (t : SszType) (depth i : ℕ) (v : SszValue) (node : Tree) : Type 0 where
  pub fits : Fits t v
  pub inside : i < 2 ^ depth
  pub trees : List Tree
  pub whole : node ≡ merkle_tree depth trees
  pub here : place trees i ≡ tree t v

abbrev pub ForPlace : SszType → ℕ → ℕ → Tree → (SszValue → Type 0) → Type 0
ForPlace t depth i node P = (v : SszValue) → IsAtPlace t depth i v node → P v

-- so many bytes, packed in chunks in a full tree of this depth
pub record ArePacked (depth len : ℕ) (bytes : List ℕ) (node : Tree) : Type 0 where
  pub many : length bytes ≡ len
  pub few : length (pack bytes) ≤ 2 ^ depth
  pub tree : node ≡ merkle_tree depth (map leaf (pack bytes))

-- the bytes that were there stay, and there may be more behind them
pub record ExtendsBytes (old new : List ℕ) : Type 0 where
  pub more : List ℕ
  pub is : new ≡ old ++ more

-- count bits in a full tree of this depth
pub record AreBits (depth count : ℕ) (bs : List Bool) (node : Tree) : Type 0 where
  pub many : length bs ≡ count
  pub few : length (pack_bits bs) ≤ 2 ^ depth
  pub tree : node ≡ merkle_tree depth (map leaf (pack_bits bs))

-- bit k of a chunk
abbrev pub bit_in : List ℕ → ℕ → Bool
bit_in chunk k = slice_index chunk (k / 8) / 2 ^ (k % 8) % 2 == 1

-- chunk j of some bytes
abbrev pub chunk_from : List ℕ → ℕ → List ℕ
chunk_from bytes j = padded (drop (32 * j) bytes)

-- the nodes of a row have these chunks of some bytes, from chunk j on
abbrev pub AreChunksFrom : ArenaContent → List ℕ → ℕ → List NodeId → Type 0
AreChunksFrom arena bytes j row = (i : ℕ) → i < length row
    → tree_of arena (row_node row i) ≡ leaf (chunk_from bytes (j + i))

abbrev pub basic_type : Basic → SszType
basic_type (Number width) = uint width
basic_type Flag = boolean
