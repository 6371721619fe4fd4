-- How nodes are kept: for each a chunk and a byte, and one after another the links, which are the
-- places of children.
use Rattle.std.specs.Prelude.{◌≡◌, ◌≢◌, ℕ, ◌+◌, ◌-◌, ◌*◌, ◌/◌, ◌%◌, ◌^◌, ◌<◌, ◌≤◌, ◌==◌, nat_le, if◌then◌else◌, List, [], ◌∷◌, ◌++◌, Option, Some, None, map, length, slice_index, slice_index_or}
use Rattle.std.specs.List.{range_with_len}
use Rattle.ssz_chunk.specs.Chunk.{zero_chunk}
use Rattle.ssz_chunk.specs.declared.Chunk.{Chunk}
use Rattle.ssz_arena.specs.declared.node.Node.{Node}
use Rattle.ssz_arena.specs.declared.node.Node.TheVariants.{Leaf, Pair}

-- the places of a pair's children are below 2^31
abbrev pub IsShort : Node → Type 0
IsShort (Leaf chunk) = Unit {0}
IsShort (Pair left right cached) = (left.0 < 2 ^ 31) × (right.0 < 2 ^ 31)

-- the chunk of a leaf, and that which is cached of a pair
abbrev pub chunk_of : Node → Option Chunk
chunk_of (Leaf chunk) = Some chunk
chunk_of (Pair left right cached) = cached

-- the shape of a node, by the low two bits of its byte: 0 is a leaf, 1 a pair whose right child
-- stands just before it, 3 one whose left child does, and 2 each other pair
abbrev pub shape_of : List ℕ → ℕ → ℕ
shape_of kinds i = slice_index kinds i % 4

-- so many nodes, the last of them at a place, are pairs whose left child stands just before them
abbrev pub AreBehindLefts : List ℕ → ℕ → ℕ → Type 0
AreBehindLefts kinds i n = (n ≤ i) × ((k : ℕ) → k < n → shape_of kinds (i - k) ≡ 3)

-- how many links it has: one for each child, but for one that stands just before it
abbrev pub count_of : ℕ → ℕ
count_of shape = if shape == 3 then 1 else shape

abbrev pub link_count : List ℕ → ℕ → ℕ
link_count kinds i = count_of (shape_of kinds i)

-- where its links begin: the nodes before its block of 32 have so many, and the other six bits say
-- how many those before it in its block have
abbrev pub first_link : List ℕ → List ℕ → ℕ → ℕ
first_link kinds firsts i = slice_index firsts (i / 32) + slice_index kinds i / 4

-- the mark on the first link of a pair without a cached chunk
abbrev pub mark_of : ℕ → ℕ
mark_of link = if nat_le (2 ^ 31) link then 2 ^ 31 else 0

-- the left child of a node with links, with its mark, and the right child
abbrev pub links_with : ℕ → ℕ → List ℕ → ℕ → Option (ℕ × ℕ)
links_with shape first links i =
    if shape == 0 then None
    else if shape == 1 then Some (slice_index links first, i - 1)
    else if shape == 3 then Some (
      i - 1 + mark_of (slice_index links first),
      slice_index links first - mark_of (slice_index links first),
    )
    else Some (slice_index links first, slice_index links (first + 1))

-- those of the node at a place
abbrev pub links_at : List ℕ → List ℕ → List ℕ → ℕ → Option (ℕ × ℕ)
links_at kinds firsts links i =
    links_with (shape_of kinds i) (first_link kinds firsts i) links i

-- a pair, to whose left child 2^31 is added where no chunk is cached
abbrev pub pair_in : Chunk → ℕ → ℕ → Node
pair_in chunk link right =
    if nat_le (2 ^ 31) link
    then Pair (record { 0 = link - 2 ^ 31 }) (record { 0 = right }) None
    else Pair (record { 0 = link }) (record { 0 = right }) (Some chunk)

-- a leaf where there are no links
abbrev pub node_with : Chunk → Option (ℕ × ℕ) → Node
node_with chunk None = Leaf chunk
node_with chunk (Some links) = pair_in chunk links.0 links.1

-- 32 zero bytes
abbrev pub no_chunk : Chunk
no_chunk = record { 0 = zero_chunk }

-- the node at a place
abbrev pub node_in : List Chunk → List ℕ → List ℕ → List ℕ → ℕ → Node
node_in chunks kinds firsts links i =
    node_with (slice_index_or chunks i no_chunk) (links_at kinds firsts links i)

-- all nodes
unfoldable pub nodes_in : List Chunk → List ℕ → List ℕ → List ℕ → List Node
nodes_in chunks kinds firsts links =
    map (node_in chunks kinds firsts links) (range_with_len 0 (length chunks))

-- n nodes with so many links in all: each block begins before its nodes do, and the links of a node
-- stand behind those of the nodes before it
pub record IsStored (n : ℕ) (kinds firsts : List ℕ) (total : ℕ) : Type 0 where
  pub count : length kinds ≡ n
  pub all : total ≤ 2 * n
  -- no node stands before the first
  pub first : link_count kinds 0 ≢ 1
  pub enough : n ≤ 32 * length firsts
  pub no_more : 32 * length firsts ≤ n + 31
  pub begins : (b : ℕ) → b < length firsts
      → (slice_index firsts b ≤ total) × (total + 64 * b ≤ slice_index firsts b + 2 * n)
  pub inside : (i : ℕ) → i < n → first_link kinds firsts i + link_count kinds i ≤ total
  pub apart : (i j : ℕ) → i < j → j < n
      → first_link kinds firsts i + link_count kinds i ≤ first_link kinds firsts j

-- the shape of a new pair at a place, and its links: the first has the mark of the left child
abbrev pub pair_shape : ℕ → ℕ → ℕ → ℕ
pair_shape left right place =
    if right + 1 == place then 1
    else if left - mark_of left + 1 == place then 3 else 2

abbrev pub pair_links : ℕ → ℕ → ℕ → List ℕ
pair_links left right place =
    if right + 1 == place then left ∷ []
    else if left - mark_of left + 1 == place then (right + mark_of left) ∷ []
    else left ∷ right ∷ []

-- the blocks, and one more if the node at a place begins one
abbrev pub blocks_for : List ℕ → ℕ → ℕ → List ℕ
blocks_for firsts place total =
    if 32 * length firsts == place then firsts ++ total ∷ [] else firsts
