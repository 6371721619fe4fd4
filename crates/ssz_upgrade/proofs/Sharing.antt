-- The nodes that an upgrade makes, and that they are few beside its charge.
use Rattle.std.proofs.Common.{◌≡◌, ℕ, ◌+◌, ◌*◌, ◌≤◌, List, ◌∷◌, map, Option, Some, None, refl, ap, ◌∙◌, slice_get, arith}
use Rattle.ssz_schema.specs.format.Format.{Format}
use Rattle.ssz_schema.specs.Types.{SszType, Fields, container, no_fields, field}
use Rattle.ssz_schema.specs.Legal.{IsLegal, AreLegalFields}
use Rattle.ssz_arena.specs.declared.node.NodeId.{NodeId}
use Rattle.ssz_arena.specs.Content.{ArenaContent, tree_of}
use Rattle.ssz_value.specs.Values.{SszValue, FitFields}
use Rattle.ssz_value.specs.Trees.{field_trees}
use Rattle.ssz_forms.specs.Upgrades.{field_taken, all_taken, default_pairs, default_pairs_of_fields, upgrade_charge}
use Rattle.ssz_tree.specs.Given.{left_fields}
use Rattle.ssz_tree.specs.Shared.{shared_fields}
use Rattle.ssz_upgrade.specs.Fields.{pick}
use Rattle.ssz_upgrade.specs.Upgraded.{made_for, made_fields, upgrade_nodes}
use Rattle.ssz_upgrade.proofs.Picking.{IsPicked, picked}
use Rattle.ssz_tree.proofs.Sharing.{shared_few}

module _ (format : Format) where
  -- the fields that are not taken have at most twice as many nodes as pairs
  field_few : (t : SszType) (number : Option ℕ) → IsLegal format t
      → made_for t number ≤ 2 * default_pairs t number
  field_few t (Some k) legal = omega arith
  field_few t None legal = shared_few format t legal

  fields_few : (old new : Fields) → AreLegalFields format new
      → made_fields old new ≤ 2 * default_pairs_of_fields old new
  fields_few old no_fields legal = omega arith
  fields_few old (field name t new) legal =
      omega (arith, field_few t (field_taken old name t) legal.1, fields_few old new legal.2)

  -- an upgrade makes at most two nodes for each pair that it is charged
  pub upgrade_few : (old new : Fields) → AreLegalFields format new
      → upgrade_nodes (container old) (container new)
      ≤ 2 * upgrade_charge (container old) (container new)
  upgrade_few old new legal = omega (arith, fields_few old new legal)

-- the nodes of the defaults of the fields that are left
left_nodes : (arena : ArenaContent) (nodes : List NodeId) (vs : List SszValue) (name : List ℕ)
    (t : SszType) (number : Option ℕ) (fs : Fields) (given : List (Option NodeId))
    → IsPicked arena nodes vs t number
    → shared_fields (left_fields (field name t fs) (pick nodes number ∷ given))
    ≡ made_for t number + shared_fields (left_fields fs given)
left_nodes arena nodes vs name t None fs given is = refl
left_nodes arena nodes vs name t (Some k) fs given is =
    let none : shared_fields (left_fields (field name t fs) (slice_get nodes k ∷ given))
    ≡ shared_fields (left_fields fs given) =
    ap (λ node. shared_fields (left_fields (field name t fs) (node ∷ given))) is.there in
    omega (arith, none)

pub nodes_left : (arena : ArenaContent) (nodes : List NodeId) (old : Fields) (vs : List SszValue)
    (new : Fields) → FitFields old vs → map (tree_of arena) nodes ≡ field_trees old vs
    → shared_fields (left_fields new (map (pick nodes) (all_taken old new)))
    ≡ made_fields old new
nodes_left arena nodes old vs no_fields fit trees = refl
nodes_left arena nodes old vs (field name t new) fit trees =
    left_nodes arena nodes vs name t (field_taken old name t) new
    (map (pick nodes) (all_taken old new)) (picked arena old vs nodes name t fit trees)
    ∙ ap (λ n. made_for t (field_taken old name t) + n)
    (nodes_left arena nodes old vs new fit trees)
