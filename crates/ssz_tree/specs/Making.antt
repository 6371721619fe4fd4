-- What a maker of nodes keeps of the parts that it pushed.
use Rattle.std.specs.Prelude.{◌≡◌, ℕ, ◌+◌, List, length}
use Rattle.ssz_merkle.specs.Frontier.{whole_pairs}
use Rattle.ssz_arena.specs.Content.{ArenaContent}
use Rattle.ssz_making.specs.Parts.{MadePart, costs, part_nodes}
use Rattle.ssz_tree.specs.Added.{AddsNodes}
use Rattle.ssz_tree.specs.Stack.{Stack, StackHolds}

-- the nodes of these parts, of a full tree of depth d, were made and pushed
pub record PushesNodes (start now : ArenaContent) (d : ℕ) (parts : List MadePart) (rows : Stack)
    : Type 0 where
  pub deep : rows.depth ≡ d
  pub holds : StackHolds now parts rows
  pub adds : AddsNodes (whole_pairs d (length parts) + part_nodes parts)
      (whole_pairs d (length parts) + costs parts) start now
