-- The fields of containers that stand beside one another, and are still to come.
use Rattle.std.specs.Prelude.{ℕ, ◌+◌, ◌-◌, ◌*◌, ◌^◌, ◌<◌, ◌≤◌, List, length, drop}
use Rattle.std.specs.List.{All}
use Rattle.ssz_chunk.specs.Tree.{Tree, place}
use Rattle.ssz_arena.specs.declared.node.NodeId.{NodeId}
use Rattle.ssz_arena.specs.Content.{ArenaContent, IsNodeOf}
use Rattle.ssz_nodes.specs.Ahead.{Ahead, AheadAreNodes, AheadHolds, IsRowOf}

-- the places of full trees of one depth, those of each behind those of the one before it, of which
-- those of the trees from one number up to another are next, and the places of further trees
pub record FieldsAhead : Type 0 where
  pub depth : ℕ
  pub nodes : List NodeId
  pub from : ℕ
  pub to : ℕ
  pub places : Ahead

-- those of the tree of this number, and what is behind them
abbrev pub fields_at : ℕ → List NodeId → ℕ → List NodeId
fields_at depth nodes k = drop (k * 2 ^ depth) nodes

-- they are nodes of the arena
abbrev pub FieldsAreNodes : ArenaContent → FieldsAhead → Type 0
FieldsAreNodes arena ahead = All (IsNodeOf arena) ahead.nodes × AheadAreNodes arena ahead.places

-- these are the next trees: of the first of them the nodes are those of their places
pub record FieldsHold (arena : ArenaContent) (trees : List Tree)
    (ahead : FieldsAhead) : Type 0 where
  pub rows : (i : ℕ) → i < ahead.to - ahead.from → i < length trees
      → IsRowOf arena ahead.depth (place trees i)
      (fields_at ahead.depth ahead.nodes (ahead.from + i))
  pub behind : ahead.to - ahead.from ≤ length trees
      → AheadHolds arena (drop (ahead.to - ahead.from) trees) ahead.places
