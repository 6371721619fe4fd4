-- Values that are one leaf, and containers of few fields.
use Rattle.std.specs.Prelude.{ℕ, ◌≡◌, ◌<◌, ◌≤◌, List, length, take, None, Some, slice_index_or}
use Rattle.std.specs.List.{AllByRecursion}
use Rattle.ssz_chunk.specs.Tree.{Tree, leaf}
use Rattle.ssz_schema.specs.Types.{SszType, container, list}
use Rattle.ssz_schema.specs.Sizes.{basic_size, depth, fixed_size}
use Rattle.ssz_schema.specs.Unfolding.{Types, type_of, type_tree_at, fields_over}
use Rattle.ssz_value.specs.Encoding.{serialize}
use Rattle.ssz_nodes.specs.Shown.{ForValue}

-- the bytes are the first so many of a leaf
pub record LeafOf (len : ℕ) (bytes : List ℕ) (node : Tree) : Type 0 where
  pub chunk : List ℕ
  pub is : node ≡ leaf chunk
  pub same : take len chunk ≡ bytes

-- 0, or each value of the type is a leaf and its encoding the first so many bytes of it
pub record IsLeafLen (t : SszType) (len : ℕ) : Type 0 where
  pub few : len ≤ 32
  pub size : 0 < len → fixed_size t ≡ Some len
  pub leaf : 0 < len → (node : Tree) → ForValue t node (λ v. LeafOf len (serialize t v) node)

-- a container of these fields, at most eight, whose types stand before it
pub record AreFewFields (schema : Types) (id : ℕ) (fields : List (List ℕ × ℕ)) : Type 0 where
  pub form : type_of schema id ≡ container (fields_over schema.trees fields)
  pub before : AllByRecursion (λ part. part.1 < id) fields
  pub few : length fields ≤ 8
  pub flat : depth (type_of schema id) ≤ 3

-- of each field such a number
abbrev pub AreLeafLens : Types → List (List ℕ × ℕ) → List ℕ → Type 0
AreLeafLens schema fields lens = (i : ℕ) (part : List ℕ × ℕ) → i < length fields
    → part ≡ slice_index_or fields i part
    → IsLeafLen (type_tree_at schema.trees part.1) (slice_index_or lens i 0)

-- where no such number is told, a field has no fixed size
abbrev pub AreShort : Types → List (List ℕ × ℕ) → List ℕ → Type 0
AreShort schema fields lens = (i : ℕ) (part : List ℕ × ℕ) → i < length fields
    → part ≡ slice_index_or fields i part → slice_index_or lens i 0 ≡ 0
    → fixed_size (type_tree_at schema.trees part.1) ≡ None

-- a list of basic elements of so many bytes each
pub record IsListOf (t : SszType) (size : ℕ) : Type 0 where
  pub elem : SszType
  pub most : ℕ
  pub is : t ≡ list elem most
  pub basic : basic_size elem ≡ Some size

-- 0, or the type is such a list
abbrev pub IsItemSize : SszType → ℕ → Type 0
IsItemSize t size = 0 < size → IsListOf t size

-- of each field such a number
abbrev pub AreItemSizes : Types → List (List ℕ × ℕ) → List ℕ → Type 0
AreItemSizes schema fields sizes = (i : ℕ) (part : List ℕ × ℕ) → i < length fields
    → part ≡ slice_index_or fields i part
    → IsItemSize (type_tree_at schema.trees part.1) (slice_index_or sizes i 0)
