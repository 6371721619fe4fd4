-- What an upgrade gives on the nodes of an arena.
use Rattle.std.specs.Prelude.{ℕ, ◌≡◌, ◌+◌, ◌*◌, ◌≤◌, Option, Some, None, Result, Ok, Err}
use Rattle.ssz_chunk.specs.Tree.{merkle_pairs}
use Rattle.ssz_schema.specs.Types.{SszType, Fields, container, no_fields, field}
use Rattle.ssz_schema.specs.Sizes.{depth, field_count}
use Rattle.ssz_value.specs.Values.{SszValue, Fits}
use Rattle.ssz_value.specs.Trees.{tree}
use Rattle.ssz_arena.specs.declared.node.NodeId.{NodeId}
use Rattle.ssz_arena.specs.Content.{ArenaContent, tree_of, todo, unhashed, node_count, IsNodeOf}
use Rattle.ssz_forms.specs.declared.upgrade_fault.UpgradeFault.{UpgradeFault}
use Rattle.ssz_forms.specs.declared.upgrade_fault.UpgradeFault.TheVariants.{NotContainer, Memory}
use Rattle.ssz_forms.specs.Upgrades.{field_taken, upgrade_charge}
use Rattle.ssz_tree.specs.Shared.{shared}

-- the nodes that are made for a new field's default; a field that is taken shares the node it had
abbrev pub made_for : SszType → Option ℕ → ℕ
made_for t (Some k) = 0
made_for t None = shared t

abbrev pub made_fields : Fields → Fields → ℕ
made_fields old no_fields = 0
made_fields old (field name t fs) = made_for t (field_taken old name t) + made_fields old fs

-- the nodes that an upgrade makes: the pairs above the new fields, and those of the defaults
abbrev pub upgrade_nodes : SszType → SszType → ℕ
upgrade_nodes (container old) (container new) =
    merkle_pairs (depth (container new)) (field_count new) + made_fields old new
upgrade_nodes s t = 0

-- the node made has the tree of the upgraded value, which fits; by the upgrade at most as many
-- pairs more are to be hashed as it is charged, for this node and in all; no nodes are new but the
-- pairs above the fields and those of the defaults, at most twice as many as the charge and one
pub record IsUpgrade (s t : SszType) (old new : ArenaContent) (node made : NodeId)
    (result : SszValue)
    : Type 0 where
  pub known : IsNodeOf new made
  pub fits : Fits t result
  pub is : tree_of new made ≡ tree t result
  pub due : todo new made ≤ todo old node + upgrade_charge s t
  pub more : unhashed new ≤ unhashed old + upgrade_charge s t
  pub shares : node_count new ≤ node_count old + upgrade_nodes s t
  pub few : node_count new ≤ node_count old + 2 * upgrade_charge s t + 1

-- the answer is that of the upgrade of the whole value, or want of memory
abbrev pub AnswersUpgrade : SszType → SszType → ArenaContent → ArenaContent → NodeId
    → Result SszValue UpgradeFault → Result NodeId UpgradeFault → Type 0
AnswersUpgrade s t old new node given (Ok made) =
    (result : SszValue) × (given ≡ Ok result) × IsUpgrade s t old new node made result
AnswersUpgrade s t old new node given (Err Memory) = Unit {0}
AnswersUpgrade s t old new node given (Err NotContainer) = given ≡ Err NotContainer
