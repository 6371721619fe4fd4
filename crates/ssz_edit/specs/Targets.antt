-- Where an edit puts what is given to it, and why it is refused before that is known.
use Rattle.std.specs.Prelude.{ℕ, ◌≡◌, ◌+◌, ◌<◌, ◌≤◌, ◌^◌, false, true, List, length, slice_get, Option, Some, None}
use Rattle.ssz_chunk.specs.Index.{at}
use Rattle.ssz_chunk.specs.Tree.{Tree}
use Rattle.ssz_schema.specs.Types.{SszType, union}
use Rattle.ssz_schema.specs.Legal.{IsLegal}
use Rattle.ssz_schema.specs.Paths.{Path}
use Rattle.ssz_schema.specs.Unfolding.{Types, type_of, options_over, IsBelow}
use Rattle.ssz_value.specs.declared.edit_fault.EditFault.{EditFault}
use Rattle.ssz_value.specs.declared.edit_fault.EditFault.TheVariants.{BadPath, Absent, NotThat, Full, Empty, BadSelector, Memory}
use Rattle.ssz_value.specs.declared.path_fault.PathFault.TheVariants.{BadPath as NoPath, Absent as Missing}
use Rattle.ssz_value.specs.Values.{SszValue}
use Rattle.ssz_value.specs.Parts.{part}
use Rattle.ssz_value.specs.Trees.{mixed_in}
use Rattle.ssz_places.specs.Spots.{LiesWithin}
use Rattle.ssz_places.specs.PlaceLaws.{IsTreeOf}
use Rattle.ssz_places.specs.EditLaws.{is_changeable, count_of}
use Rattle.ssz_arena.specs.declared.node.NodeId.{NodeId}
use Rattle.ssz_arena.specs.Content.{ArenaContent, tree_of, IsNodeOf}
use Rattle.ssz_walk.specs.declared.place.Place.{Place}
use Rattle.ssz_walk.specs.Found.{IsFound, IsLost, spot_of}
use Rattle.ssz_walk.specs.Mixed.{HasContentNode, IsMixed}
use Rattle.ssz_edit.specs.declared.lists.ListEnd.{ListEnd}
use Rattle.ssz_edit.specs.declared.choosing.Choice.{Choice}
use Rattle.ssz_edit.specs.Chosen.{HasNoOptions}
use Rattle.ssz_edit.specs.Slots.{HasList, IsSlot, slot_limit}

-- An edit can be made at a target, whatever value of its type is given.

-- the node has the place, where a part of its type can lie
pub record HasPlace (types : Types) (arena : ArenaContent) (node : NodeId) (place : Place)
    : Type 0 where
  pub known : place.id < length types.trees
  pub top : IsNodeOf arena node
  pub inside : IsNodeOf arena place.node
  pub lies : LiesWithin (type_of types place.id) (spot_of place.spot)
  pub there : at (tree_of arena node) place.index ≡ Some (tree_of arena place.node)

-- the node has the list or bitlist, and in it the place of the element, where one can lie
pub record HasEnd (types : Types) (arena : ArenaContent) (node : NodeId) (end : ListEnd)
    : Type 0 where
  pub known : end.slot.element.id < length types.trees
  pub few : end.count + 1 < 2 ^ 64
  pub has_list : HasList arena node end.list end.slot.below
  pub inside : IsNodeOf arena end.slot.element.node
  pub lies : LiesWithin (type_of types end.slot.element.id) (spot_of end.slot.element.spot)

-- the node has the union
pub record HasUnion (types : Types) (arena : ArenaContent) (node : NodeId) (choice : Choice)
    : Type 0 where
  pub below : IsBelow (length types.trees) choice.option
  pub top : IsNodeOf arena node
  pub inside : IsNodeOf arena choice.place.node
  pub there : at (tree_of arena node) choice.place.index ≡ Some (tree_of arena choice.place.node)

-- A path leads to a target, from the node of a value of a type.

-- the part at the path is there, and can be changed alone
pub record SetsAt (types : Types) (arena : ArenaContent) (id : ℕ) (node : NodeId) (path : Path)
    (place : Place) : Type 0 where
  pub legal : IsLegal types.format (type_of types id)
  pub found : IsFound types arena id node path place
  pub free : is_changeable path ≡ true

-- a list or bitlist is there, whose length is below its limit: the element comes behind the last
pub record AppendsAt (types : Types) (arena : ArenaContent) (id : ℕ) (node : NodeId) (path : Path)
    (end : ListEnd) : Type 0 where
  pub legal : IsLegal types.format (type_of types id)
  pub found : IsFound types arena id node path end.list
  pub limit : ℕ
  pub limited : slot_limit (type_of types end.list.id) ≡ Some limit
  pub within : end.count < limit
  pub content : NodeId
  pub content_node : HasContentNode arena end.list.node content
  pub counts : (n : ℕ) (tree : Tree) → tree_of arena end.list.node ≡ mixed_in n tree → n < 2 ^ 64
      → IsMixed arena tree n (Some (content, end.count))
  pub slot : IsSlot types arena end.list.id end.list.node content end.count end.slot

-- a union is there, which has the option under the selector
pub record ChoosesAt (types : Types) (arena : ArenaContent) (id : ℕ) (node : NodeId) (path : Path)
    (selector : ℕ) (choice : Choice) : Type 0 where
  pub legal : IsLegal types.format (type_of types id)
  pub found : IsFound types arena id node path choice.place
  pub options : List (Option ℕ)
  pub is : type_of types choice.place.id ≡ union (options_over types.trees options)
  pub option_there : Some choice.option ≡ slice_get options selector
  pub selects : choice.selector ≡ selector

-- Why there is no target: the path leads to no part, or the part is none that can be edited so.

-- so of each part at the path, and of its type
abbrev pub OfPart : Types → ArenaContent → ℕ → NodeId → Path → (SszType → SszValue → Type 0)
    → Type 0
OfPart types arena id node path P =
    (place : Place) × IsFound types arena id node path place
    × ((v w : SszValue) → IsTreeOf (type_of types id) v (tree_of arena node)
    → part (type_of types id) v path ≡ Some w → P (type_of types place.id) w)

-- which fault a part that cannot be set is, and no other comes
abbrev pub CannotSet : Types → ArenaContent → ℕ → NodeId → Path → EditFault → Type 0
CannotSet types arena id node path BadPath = IsLost types arena id node path NoPath
CannotSet types arena id node path Absent = IsLost types arena id node path Missing
CannotSet types arena id node path NotThat =
    OfPart types arena id node path (λ u w. is_changeable path ≡ false)
CannotSet types arena id node path Full = ⊥
CannotSet types arena id node path Empty = ⊥
CannotSet types arena id node path BadSelector = ⊥
CannotSet types arena id node path Memory = ⊥

-- the value has as many elements as the limit of its type
abbrev pub IsFull : SszType → SszValue → Type 0
IsFull u w = (limit : ℕ) × (slot_limit u ≡ Some limit) × (limit ≤ count_of w)

-- so of an element that cannot be appended
abbrev pub CannotAppend : Types → ArenaContent → ℕ → NodeId → Path → EditFault → Type 0
CannotAppend types arena id node path BadPath = IsLost types arena id node path NoPath
CannotAppend types arena id node path Absent = IsLost types arena id node path Missing
CannotAppend types arena id node path NotThat =
    OfPart types arena id node path (λ u w. slot_limit u ≡ None)
CannotAppend types arena id node path Full = OfPart types arena id node path IsFull
CannotAppend types arena id node path Empty = ⊥
CannotAppend types arena id node path BadSelector = ⊥
CannotAppend types arena id node path Memory = ⊥

-- the union has no option of this number
abbrev pub IsPast : Types → ℕ → SszType → Type 0
IsPast types selector u =
    (options : List (Option ℕ)) × (u ≡ union (options_over types.trees options))
    × (None ≡ slice_get options selector)

-- so of an option that cannot be chosen
abbrev pub CannotChoose : Types → ArenaContent → ℕ → NodeId → Path → ℕ → EditFault → Type 0
CannotChoose types arena id node path selector BadPath = IsLost types arena id node path NoPath
CannotChoose types arena id node path selector Absent = IsLost types arena id node path Missing
CannotChoose types arena id node path selector NotThat =
    OfPart types arena id node path (λ u w. HasNoOptions u)
CannotChoose types arena id node path selector BadSelector =
    OfPart types arena id node path (λ u w. IsPast types selector u)
CannotChoose types arena id node path selector Full = ⊥
CannotChoose types arena id node path selector Empty = ⊥
CannotChoose types arena id node path selector Memory = ⊥
