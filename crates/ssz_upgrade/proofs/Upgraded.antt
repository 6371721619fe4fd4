-- The node of an upgraded value.
use Rattle.std.proofs.Common.{◌≡◌, ℕ, zero, suc, ◌+◌, ◌^◌, ◌<◌, ◌≤◌, min, List, [], ◌∷◌, length, map, Option, Some, refl, sym, ap, ◌∙◌, subst, slice_get, arith}
use Rattle.std.specs.Prelude.{Ok}
use Rattle.std.specs.List.{sum_by}
use Rattle.std.proofs.lemmas.Option.{none-some, same_Some}
use Rattle.ssz_chunk.specs.Index.{at}
use Rattle.ssz_chunk.specs.Tree.{merkle_tree, place, merkle_pairs}
use Rattle.ssz_chunk.proofs.FullTrees.{at-full}
use Rattle.ssz_schema.specs.format.Format.{Format}
use Rattle.ssz_schema.specs.Types.{SszType, Fields, container, no_fields, field}
use Rattle.ssz_schema.specs.Sizes.{depth, field_count}
use Rattle.ssz_schema.specs.Legal.{IsLegal}
use Rattle.ssz_schema.specs.Unfolding.{fields_over}
use Rattle.ssz_schema.proofs.DepthLemmas.{depth_of-holds}
use Rattle.ssz_arena.specs.declared.node.NodeId.{NodeId}
use Rattle.ssz_arena.specs.Content.{ArenaContent, tree_of, todo, node_count, IsNodeOf}
use Rattle.ssz_arena.specs.Laws.{LawOfParts}
use Rattle.ssz_value.specs.Values.{SszValue, sequence, Values, values, items, FitFields}
use Rattle.ssz_value.specs.Trees.{tree, field_trees}
use Rattle.ssz_value.proofs.PartLaw.{length-field_trees}
use Rattle.ssz_value.proofs.PartLemmas.{Part as FieldPart}
use Rattle.ssz_value.proofs.Sequences.{items-values}
use Rattle.ssz_places.specs.PlaceLaws.{IsTreeOf}
use Rattle.ssz_forms.specs.Upgrades.{all_taken, upgraded, upgraded_fields}
use Rattle.ssz_tree.specs.Added.{AddsNodes, IsPartNode}
use Rattle.ssz_tree.specs.Given.{parts_with, given_part_with, pairs_with, shared_with}
use Rattle.ssz_tree.proofs.DefaultForms.{count-fields}
use Rattle.ssz_upgrade.specs.Fields.{AreFieldNodes, pick}
use Rattle.ssz_upgrade.specs.Upgraded.{AnswersUpgrade, IsUpgrade, upgrade_nodes}
use Rattle.ssz_upgrade.proofs.Weighing.{weights-few}
use Rattle.ssz_upgrade.proofs.Picking.{trees_taken, all_fit, costs_taken, costs_left}
use Rattle.ssz_upgrade.proofs.Sharing.{nodes_left, upgrade_few}
use Rattle.ssz_upgrade.proofs.Walking.{trees_alike}

-- the parts of fields are as many as the fields
parts_many : (arena : ArenaContent) (fs : Fields) (given : List (Option NodeId))
    → length (parts_with arena fs given) ≡ field_count fs
parts_many arena no_fields given = refl
parts_many arena (field name t fs) [] = omega (arith, parts_many arena fs [])
parts_many arena (field name t fs) (first ∷ given) = omega (arith, parts_many arena fs given)

-- the nodes of the fields of a value have the trees of its parts
fields_found : (arena : ArenaContent) (node : NodeId) (fs : Fields) (vs : List SszValue)
    (nodes : List NodeId) → FitFields fs vs
    → tree_of arena node ≡ merkle_tree (depth (container fs)) (field_trees fs vs)
    → AreFieldNodes arena node (depth (container fs)) (field_count fs) nodes
    → map (tree_of arena) nodes ≡ field_trees fs vs
fields_found arena node fs vs nodes fit whole are =
    let d = depth (container fs) in
    let few : field_count fs ≤ 2 ^ d = depth_of-holds (field_count fs) in
    let many : length nodes ≡ field_count fs = are.all (λ i below missing.
    none-some (place (field_trees fs vs) i) (sym missing ∙ ap (λ t. at t (2 ^ d + i)) whole
    ∙ at-full d i (field_trees fs vs) (omega (arith, below, few)))) in
    trees_alike arena nodes (field_trees fs vs) (omega (arith, many, length-field_trees fs vs fit))
    (λ i id here. same_Some (tree_of arena id) (place (field_trees fs vs) i)
    (sym (are.each i id here).tree ∙ ap (λ t. at t (2 ^ d + i)) whole
    ∙ at-full d i (field_trees fs vs)
    (let below : i < length nodes = slice_get-below nodes i id here in
    omega (arith, below, many, few))))
  where
    slice_get-below : (xs : List NodeId) (i : ℕ) (x : NodeId) → slice_get xs i ≡ Some x
        → i < length xs
    slice_get-below [] i x e = absurd (none-some x e)
    slice_get-below (y ∷ xs) zero x e = omega arith
    slice_get-below (y ∷ xs) (suc i) x e = omega (arith, slice_get-below xs i x e)

-- what the calls below made of two containers
pub record Made (format : Format) (old new : ArenaContent) (node made : NodeId) (fs gs : Fields)
    (nodes : List NodeId) (given : List (Option NodeId)) : Type 0 where
  pub inside : IsNodeOf old node
  pub law : LawOfParts old
  pub legal : IsLegal format (container gs)
  pub fields : AreFieldNodes old node (depth (container fs)) (field_count fs) nodes
  pub picks : given ≡ map (pick nodes) (all_taken fs gs)
  pub part : IsPartNode new (given_part_with old (container gs) given) made
  pub adds : (let nodes = shared_with (container gs) given in
      AddsNodes nodes (min nodes (pairs_with (container gs) given)) old new)

-- the value is a sequence of the fields' values
made_of : (format : Format) (old new : ArenaContent) (node made : NodeId) (fs gs : Fields)
    (nodes : List NodeId) (given : List (Option NodeId))
    → Made format old new node made fs gs nodes given → (vs : Values)
    → FitFields fs (items vs) → tree_of old node ≡ tree (container fs) (sequence vs)
    → IsUpgrade (container fs) (container gs) old new node made
    (sequence (values (upgraded_fields fs (items vs) gs)))
made_of format old new node made fs gs nodes given h vs fit whole =
    let picked = map (pick nodes) (all_taken fs gs) in
    let ups = upgraded_fields fs (items vs) gs in
    let trees = fields_found old node fs (items vs) nodes fit whole h.fields in
    let part : IsPartNode new (given_part_with old (container gs) picked) made =
    subst (λ ns. IsPartNode new (given_part_with old (container gs) ns) made) h.picks h.part in
    let back : items (values ups) ≡ ups = items-values ups in
    let hashed : sum_by (todo old) nodes ≤ todo old node =
    h.law node h.inside (depth (container fs)) nodes h.fields.places in
    let all = costs_taken old nodes fs (items vs) gs fit trees in
    let few = weights-few (todo old) fs nodes gs h.legal.2 in
    let left = ap (λ ns. pairs_with (container gs) ns) h.picks in
    let nodes_made = ap (λ ns. shared_with (container gs) ns) h.picks in
    let shares : node_count new ≤ node_count old + upgrade_nodes (container fs) (container gs) =
    omega (
      arith,
      h.adds.count,
      nodes_made,
      nodes_left old nodes fs (items vs) gs fit trees,
    ) in
    record {
      known = part.node;
      fits = subst (FitFields gs) (sym back)
          (all_fit format old nodes fs (items vs) gs fit trees h.legal.1);
      is = part.tree
          ∙ ap (merkle_tree (depth (container gs)))
          (trees_taken old nodes fs (items vs) gs fit trees)
          ∙ ap (λ ws. merkle_tree (depth (container gs)) (field_trees gs ws)) (sym back);
      due = omega (
        arith,
        part.todo,
        ap (merkle_pairs (depth (container gs))) (parts_many old gs picked),
        all,
        few,
        hashed,
      );
      more = omega (
        arith,
        h.adds.unhashed,
        left,
        costs_left old nodes fs (items vs) gs fit trees,
      );
      shares = shares;
      few = omega (arith, shares, upgrade_few format fs gs h.legal.1);
    }

-- for each value of the old type
answers_of : (format : Format) (old new : ArenaContent) (node made : NodeId) (fs gs : Fields)
    (nodes : List NodeId) (given : List (Option NodeId))
    → Made format old new node made fs gs nodes given → (v : SszValue)
    → IsTreeOf (container fs) v (tree_of old node)
    → AnswersUpgrade (container fs) (container gs) old new node
    (upgraded (container fs) v (container gs)) (Ok made)
answers_of format old new node made fs gs nodes given h (sequence vs) of = (
  sequence (values (upgraded_fields fs (items vs) gs)),
  refl,
  made_of format old new node made fs gs nodes given h vs of.fits of.is,
)
answers_of format old new node made fs gs nodes given h _ of = absurd of.fits

pub upgrade_answers : (s t : SszType) (format : Format) (old new : ArenaContent)
    (node made : NodeId)
    (fs gs : Fields) (nodes : List NodeId) (given : List (Option NodeId)) → s ≡ container fs
    → t ≡ container gs → Made format old new node made fs gs nodes given → (v : SszValue)
    → IsTreeOf s v (tree_of old node)
    → AnswersUpgrade s t old new node (upgraded s v t) (Ok made)
upgrade_answers s t format old new node made fs gs nodes given is_old is_new h v of =
    subst (λ x. AnswersUpgrade x t old new node (upgraded x v t) (Ok made)) (sym is_old)
    (subst (λ y. AnswersUpgrade (container fs) y old new node (upgraded (container fs) v y)
    (Ok made))
    (sym is_new)
    (answers_of format old new node made fs gs nodes given h v
    (subst (λ x. IsTreeOf x v (tree_of old node)) is_old of)))

-- a container has places for its fields
pub few_fields : (s : SszType) (trees : List SszType) (parts : List FieldPart) (d count : ℕ)
    → s ≡ container (fields_over trees parts) → d ≡ depth s → count ≡ length parts
    → count ≤ 2 ^ d
few_fields s trees parts d count form deep many =
    let fs : Fields = fields_over trees parts in
    let all : field_count fs ≤ 2 ^ depth (container fs) = depth_of-holds (field_count fs) in
    let few : field_count fs ≤ 2 ^ d =
    subst (λ k. field_count fs ≤ 2 ^ k) (sym (deep ∙ ap depth form)) all in
    omega (arith, few, many, count-fields trees parts)

-- the nodes of the fields of a container, by its fields
pub fields_of : (arena : ArenaContent) (node : NodeId) (s : SszType) (trees : List SszType)
    (parts : List FieldPart) (d count : ℕ) (nodes : List NodeId)
    → s ≡ container (fields_over trees parts) → d ≡ depth s → count ≡ length parts
    → AreFieldNodes arena node d count nodes
    → AreFieldNodes arena node (depth (container (fields_over trees parts)))
    (field_count (fields_over trees parts)) nodes
fields_of arena node s trees parts d count nodes form deep many are =
    subst (λ k. AreFieldNodes arena node k (field_count (fields_over trees parts)) nodes)
    (deep ∙ ap depth form)
    (subst (λ n. AreFieldNodes arena node d n nodes) (many ∙ sym (count-fields trees parts)) are)
