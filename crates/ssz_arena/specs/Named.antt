-- A name for what stands in an arena's list of nodes, which the crate does not export.
use Rattle.ssz_arena.specs.declared.node.Node.{Node}

-- a leaf or a pair
abbrev pub ArenaNode : Type 0
ArenaNode = Node
