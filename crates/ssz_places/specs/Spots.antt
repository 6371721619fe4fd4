-- What a node of a value's tree has of a part, and the node with another part.
use Rattle.std.specs.Prelude.{ℕ, ◌+◌, ◌-◌, ◌*◌, ◌/◌, ◌%◌, ◌^◌, ◌≡◌, ◌<◌, ◌≤◌, Some, Bool, true, false, List, ◌++◌, length, take, drop, set, replicate, slice_index, slice_range, unwrap_or}
use Rattle.ssz_chunk.specs.Chunk.{zero_chunk}
use Rattle.ssz_chunk.specs.Tree.{Tree, leaf, pair}
use Rattle.ssz_schema.specs.Types.{SszType, boolean}
use Rattle.ssz_schema.specs.Sizes.{basic_size}
use Rattle.ssz_bytes.specs.Bytes.{bit_value}
use Rattle.ssz_schema.specs.Indices.{Spot, whole, byte, bit}
use Rattle.ssz_value.specs.Values.{SszValue, truth}
use Rattle.ssz_value.specs.Encoding.{serialize}
use Rattle.ssz_value.specs.Trees.{tree}

-- the bytes with others written over them from a place on
abbrev pub spot_written : List ℕ → ℕ → List ℕ → List ℕ
spot_written bytes at part = take at bytes ++ part ++ drop (at + length part) bytes

-- the byte with this bit at a place, the lowest first
abbrev pub with_bit : ℕ → ℕ → Bool → ℕ
with_bit n place b = n - n / 2 ^ place % 2 * 2 ^ place + bit_value b * 2 ^ place

-- the bytes with this bit at a place
abbrev pub bit_written : List ℕ → ℕ → Bool → List ℕ
bit_written bytes at b = set bytes (at / 8) (with_bit (slice_index bytes (at / 8)) (at % 8) b)

-- the node has the part at this spot: it is its tree, or a leaf with its bytes or its bit there
abbrev pub HasPart : Spot → SszType → SszValue → Tree → Type 0
HasPart whole t v node = node ≡ tree t v
HasPart (byte at) t v (leaf chunk) =
    slice_range chunk at (at + length (serialize t v)) ≡ serialize t v
HasPart (bit at) t (truth b) (leaf chunk) =
    slice_index chunk (at / 8) / 2 ^ (at % 8) % 2 ≡ bit_value b
HasPart _ _ _ _ = ⊥

-- the node with this part at a spot
abbrev pub with_part : Spot → SszType → SszValue → Tree → Tree
with_part whole t v node = tree t v
with_part (byte at) t v (leaf chunk) = leaf (spot_written chunk at (serialize t v))
with_part (bit at) t (truth b) (leaf chunk) = leaf (bit_written chunk at b)
-- no other node has a part there
with_part _ t v node = node

-- the node with nothing at a spot, where an element of the type was
abbrev pub without_part : Spot → SszType → Tree → Tree
without_part whole t node = leaf zero_chunk
without_part (byte at) t (leaf chunk) =
    leaf (spot_written chunk at (replicate (unwrap_or (basic_size t) 0) 0))
without_part (bit at) t (leaf chunk) = leaf (bit_written chunk at false)
without_part _ t node = node

-- the node can have a part at the spot: it is the whole node, or the node is a leaf
abbrev pub CanHold : Spot → Tree → Type 0
CanHold whole node = Unit {0}
CanHold spot (leaf chunk) = Unit {0}
CanHold spot (pair left right) = ⊥

-- a part of the type at the spot lies in one chunk
abbrev pub LiesWithin : SszType → Spot → Type 0
LiesWithin u whole = Unit {0}
LiesWithin u (byte at) = (z : ℕ) × (basic_size u ≡ Some z) × (at + z ≤ 32)
LiesWithin u (bit at) = (u ≡ boolean) × (at < 256)

-- the byte of its leaf at which a basic part begins
abbrev pub offset_of : Spot → ℕ
offset_of whole = 0
offset_of (byte at) = at
offset_of (bit at) = at / 8

-- a bit lies in no bytes of its own
abbrev pub is_bit : Spot → Bool
is_bit (bit at) = true
is_bit _ = false
