use Rattle.std.proofs.Common.{◌≡◌, ◌∙◌, List, length, map, min, slice_get, sym, ap, subst, arith}
use Rattle.std.specs.List.{AllByRecursion}
use Rattle.ssz_schema.specs.Types.{container}
use Rattle.ssz_schema.specs.Legal.{IsLegal}
use Rattle.ssz_schema.specs.Unfolding.{type_of, tree_over, fields_over}
use Rattle.ssz_arena.specs.declared.node.NodeId.{NodeId}
use Rattle.ssz_value.proofs.PartLemmas.{Part}
use Rattle.ssz_forms.specs.Upgrades.{all_taken}
use Rattle.ssz_tree.specs.Added.{AddsNodes, IsPartNode}
use Rattle.ssz_tree.specs.Given.{IsGiven, given_part_with, shared_with, pairs_with}
use Rattle.ssz_upgrade.specs.Fields.{pick}
use Rattle.ssz_upgrade.proofs.Picking.{picks_there}
use Rattle.ssz_upgrade.proofs.Upgraded.{few_fields, fields_of, upgrade_answers}
use Rattle.ssz_upgrade.proofs.upgrading.upgrade.Goals as goal

pub field_nodes-requires-clause-few : goal.field_nodes-requires-clause-few
field_nodes-requires-clause-few g c =
    let trees = c.args.schema.now.trees in
    let form = sym c.ty.ensures.form ∙ ap (tree_over trees) c.in-Container.is
    ∙ ap (λ (parts : List Part). container (fields_over trees parts))
    (sym c.as_slice.ensures.value) in
    let many : c.len.result ≡ length c.as_slice.result.now =
    omega (arith, c.len.ensures, c.as_slice.ensures.len) in
    few_fields (type_of c.args.schema.now c.args.from) trees c.as_slice.result.now
    c.depth.result c.len.result form c.depth.ensures.exact many

pub build_fields-requires-clause-given : goal.build_fields-requires-clause-given
build_fields-requires-clause-given g c =
    subst (AllByRecursion (IsGiven c.args.arena.now))
    (sym (c.as_slice-5.ensures.value ∙ c.in_ok-given.ensures))
    (picks_there c.args.arena.now c.as_slice-3.result.now c.as_slice-4.result.now
    (λ i id here. (c.in_ok-nodes.ensures.each i id
    (ap (λ (xs : List NodeId). slice_get xs i) (sym c.as_slice-3.ensures.value) ∙ here)).node_of))

pub returns-clause-answers : goal.returns-clause-answers
returns-clause-answers g c =
    let trees = c.args.schema.now.trees in
    let s = type_of c.args.schema.now c.args.from in
    let t = type_of c.args.schema.now c.args.to in
    let fs = fields_over trees c.as_slice.result.now in
    let gs = fields_over trees c.as_slice-2.result.now in
    let form_old : s ≡ container fs = sym c.ty.ensures.form
    ∙ ap (tree_over trees) c.in-Container.is
    ∙ ap (λ (parts : List Part). container (fields_over trees parts))
    (sym c.as_slice.ensures.value) in
    let form_new : t ≡ container gs = sym c.ty-2.ensures.form
    ∙ ap (tree_over trees) c.in-Container-ty.is
    ∙ ap (λ (parts : List Part). container (fields_over trees parts))
    (sym c.as_slice-2.ensures.value) in
    let picks : c.as_slice-5.result.now ≡ map (pick c.in_ok-nodes.nodes.items) (all_taken fs gs) =
    c.as_slice-5.ensures.value ∙ c.in_ok-given.ensures
    ∙ ap (λ (ns : List NodeId). map (pick ns) c.as_slice-4.result.now) c.as_slice-3.ensures.value
    ∙ ap (map (pick c.in_ok-nodes.nodes.items))
    (c.as_slice-4.ensures.value ∙ c.in_ok-taken.ensures) in
    upgrade_answers s t c.args.schema.now.format c.args.arena.now c.build_fields.new.arena
    c.args.node c.in_ok-made.made fs gs c.in_ok-nodes.nodes.items c.as_slice-5.result.now
    form_old form_new (record {
      inside = c.requires.node;
      law = c.parts_add_up.ensures;
      legal = subst (IsLegal c.args.schema.now.format) form_new c.ty-2.ensures.legal;
      fields = fields_of c.args.arena.now c.args.node s trees c.as_slice.result.now
          c.depth.result c.len.result c.in_ok-nodes.nodes.items form_old c.depth.ensures.exact
          (let many : c.len.result ≡ length c.as_slice.result.now =
          omega (arith, c.len.ensures, c.as_slice.ensures.len) in many)
          c.in_ok-nodes.ensures;
      picks = picks;
      part = subst (λ u. IsPartNode c.build_fields.new.arena
          (given_part_with c.args.arena.now u c.as_slice-5.result.now) c.in_ok-made.made) form_new
          c.in_ok-made.ensures.part;
      adds = subst (λ u. AddsNodes (shared_with u c.as_slice-5.result.now)
          (min (shared_with u c.as_slice-5.result.now) (pairs_with u c.as_slice-5.result.now))
          c.args.arena.now c.build_fields.new.arena) form_new c.in_ok-made.ensures.adds;
    })
