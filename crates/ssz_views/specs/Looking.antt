-- What a view stands for, and what is read of it.
use Rattle.std.specs.Prelude.{ℕ, ◌+◌, ◌*◌, ◌≤◌, ◌<◌, ◌≡◌, Bool, List, length, Option, Some, None, IsSome}
use Rattle.ssz_chunk.specs.Index.{at}
use Rattle.ssz_schema.specs.Types.{SszType, vector, list, bitvector, bitlist}
use Rattle.ssz_schema.specs.Sizes.{basic_size}
use Rattle.ssz_schema.specs.Unfolding.{Types, type_of}
use Rattle.ssz_schema.specs.Indices.{Spot, whole, byte, bit, generalized_index, spot_from}
use Rattle.ssz_schema.specs.Paths.{Path, path_type}
use Rattle.ssz_value.specs.Values.{SszValue, number, wide, truth, sequence, bits, chosen, chosen_none, items, Fits}
use Rattle.ssz_value.specs.Parts.{part}
use Rattle.ssz_arena.specs.declared.node.NodeId.{NodeId}
use Rattle.ssz_arena.specs.Content.{ArenaContent, tree_of, IsNodeOf}
use Rattle.ssz_places.specs.Spots.{HasPart, offset_of}
use Rattle.ssz_value.specs.declared.path_fault.PathFault.{PathFault}
use Rattle.ssz_value.specs.declared.path_fault.PathFault.TheVariants.{BadPath, Absent}

-- an arena and a schema, the type of a part, its node, and where in the node it lies
pub record Looking : Type 0 where
  pub arena : ArenaContent
  pub types : Types
  pub id : ℕ
  pub node : NodeId
  pub lies : Spot

-- the type of the part
abbrev pub type_seen : Looking → SszType
type_seen view = type_of view.types view.id

-- a part of the type can lie there: a composite one is a whole node, a basic one is in the leaf
pub record CanLie (t : SszType) (lies : Spot) : Type 0 where
  pub composite : basic_size t ≡ None → lies ≡ whole
  pub basic : (z : ℕ) → basic_size t ≡ Some z → offset_of lies + z ≤ 32

-- the bit of its leaf at which a part begins
abbrev pub bit_offset : Spot → ℕ
bit_offset whole = 0
bit_offset (byte at) = 8 * at
bit_offset (bit at) = at

-- what every view keeps
pub record IsView (view : Looking) : Type 0 where
  pub known : view.id < length view.types.trees
  pub inside : IsNodeOf view.arena view.node
  pub lies : CanLie (type_seen view) view.lies

-- the view stands for this value
pub record ViewStandsFor (view : Looking) (v : SszValue) : Type 0 where
  pub fits : Fits (type_seen view) v
  pub has : HasPart view.lies (type_seen view) v (tree_of view.arena view.node)

-- of the value that the view stands for
abbrev pub ForPart : Looking → (SszValue → Type 0) → Type 0
ForPart view P = (v : SszValue) → ViewStandsFor view v → P v

-- the part of a value, for which another view stands
pub record IsPartSeen (old : Looking) (path : Path) (new : Looking) (v : SszValue) : Type 0 where
  pub value : SszValue
  pub is : part (type_seen old) v path ≡ Some value
  pub stands : ViewStandsFor new value

-- the new view stands for the part at the path of what the old one stands for: at the path's index
-- below the old node, so in the very leaf in which the part lies, and at the spot that the path has
pub record ViewReaches (old : Looking) (path : Path) (new : Looking) : Type 0 where
  pub arena : new.arena ≡ old.arena
  pub types : new.types ≡ old.types
  pub type_at : path_type (type_seen old) path ≡ Some (type_seen new)
  pub tree_at : (g : ℕ) → generalized_index (type_seen old) path ≡ Some g
      → at (tree_of old.arena old.node) g ≡ Some (tree_of new.arena new.node)
  pub spot_at : spot_from old.lies (type_seen old) path ≡ Some new.lies
  pub part : ForPart old (IsPartSeen old path new)

-- the path does not fit the type; or it fits, and the part is not there
abbrev pub Misses : Looking → Path → PathFault → Type 0
Misses view path BadPath = path_type (type_seen view) path ≡ None
Misses view path Absent =
    IsSome (path_type (type_seen view) path)
    × ForPart view (λ v. part (type_seen view) v path ≡ None)

-- how many elements or bits
abbrev pub length_in : SszType → SszValue → Option ℕ
length_in (vector elem n) (sequence vs) = Some (length (items vs))
length_in (list elem limit) (sequence vs) = Some (length (items vs))
length_in (bitvector n) (bits bs) = Some (length bs)
length_in (bitlist limit) (bits bs) = Some (length bs)
length_in _ _ = None

-- the selector of a union
abbrev pub selector_in : SszValue → Option ℕ
selector_in (chosen k v) = Some k
selector_in (chosen_none k) = Some k
selector_in _ = None

-- a number of at most 128 bits
abbrev pub number_of_value : SszValue → Option ℕ
number_of_value (number n) = Some n
number_of_value _ = None

-- the bytes of a uint256
abbrev pub wide_in : SszValue → Option (List ℕ)
wide_in (wide bytes) = Some bytes
wide_in _ = None

abbrev pub truth_in : SszValue → Option Bool
truth_in (truth b) = Some b
truth_in _ = None
