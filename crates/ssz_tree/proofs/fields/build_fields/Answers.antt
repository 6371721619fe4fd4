use Rattle.std.proofs.Common.{◌≡◌, ◌+◌, ◌<◌, ◌∙◌, List, length, min, sym, ap, subst, arith}
use Rattle.std.specs.List.{AllByRecursion}
use Rattle.std.proofs.lemmas.Bool.{false≢true}
use Rattle.ssz_schema.specs.Types.{container}
use Rattle.ssz_schema.specs.Unfolding.{type_of, tree_over, fields_over, AreBelow}
use Rattle.ssz_value.proofs.PartLemmas.{Part}
use Rattle.ssz_packing.proofs.Arms.{container_room}
use Rattle.ssz_chunk.specs.Tree.{merkle_pairs}
use Rattle.ssz_tree.specs.Added.{AddsNodes}
use Rattle.ssz_tree.specs.Given.{left_fields, pairs_with, shared_with}
use Rattle.ssz_tree.specs.Shared.{shared_fields}
use Rattle.ssz_tree.proofs.Adding.{Adds-after, Takes-after}
use Rattle.ssz_tree.proofs.GivenFields.{given-room, nodes-made, part-made, shared-fields}
use Rattle.ssz_tree.proofs.fields.build_fields.Goals as goal
use Rattle.ssz_tree.proofs.fields.build_fields.Goals.{After-container_node}

-- the type is a container of the fields
form_of : (g : _) (c : After-container_node g) → type_of c.args.schema.now c.args.id
    ≡ container (fields_over c.args.schema.now.trees c.as_slice-2.result.now)
form_of g c =
    let trees = c.args.schema.now.trees in
    sym c.ty.ensures.form ∙ ap (tree_over trees) c.in-Container.is
    ∙ ap (λ (parts : List Part). container (fields_over trees parts))
    (sym c.as_slice-2.ensures.value)

counted : (g : _) (c : After-container_node g)
    → merkle_pairs c.depth-depth.result (length c.as_slice.result.now)
    + shared_fields (left_fields (fields_over c.args.schema.now.trees c.as_slice.result.now)
    c.args.given.now) ≡ shared_with (type_of c.args.schema.now c.args.id) c.args.given.now
counted g c =
    let trees = c.args.schema.now.trees in
    shared-fields (type_of c.args.schema.now c.args.id) trees c.as_slice.result.now
    c.depth-depth.result c.args.given.now
    (sym c.ty.ensures.form ∙ ap (tree_over trees) c.in-Container.is
    ∙ ap (λ (parts : List Part). container (fields_over trees parts))
    (sym c.as_slice.ensures.value)) c.depth-depth.ensures.exact

added : (g : _) (c : After-container_node g)
    → (let t = type_of c.args.schema.now c.args.id in
    let nodes = shared_with t c.args.given.now in
    AddsNodes nodes (min nodes (pairs_with t c.args.given.now)) c.reserve_nodes.new.arena
    c.container_node.new.arena)
added g c =
    nodes-made c.reserve_nodes.new.arena c.container_node.new.arena
    (type_of c.args.schema.now c.args.id)
    (fields_over c.args.schema.now.trees c.as_slice-2.result.now) c.depth-depth.result
    c.args.given.now c.container_node.result (form_of g c) c.depth-depth.ensures.exact
    c.container_node.ensures

pub returns-in_err-reserve_nodes-clause-enough :
    goal.returns-in_err-reserve_nodes-clause-enough
returns-in_err-reserve_nodes-clause-enough g c room =
    let trees = c.args.schema.now.trees in
    let form = sym c.ty.ensures.form ∙ ap (tree_over trees) c.in-Container.is
    ∙ ap (λ (parts : List Part). container (fields_over trees parts))
    (sym c.as_slice.ensures.value) in
    let counted = shared-fields (type_of c.args.schema.now c.args.id) trees c.as_slice.result.now
    c.depth-depth.result c.args.given.now form c.depth-depth.ensures.exact in
    absurd (false≢true (c.in_err-reserve_nodes.ensures.enough _ c.container_nodes.ensures
    (omega (arith, room, counted))))

pub container_node-requires-clause-before : goal.container_node-requires-clause-before
container_node-requires-clause-before g c =
    subst (AllByRecursion (λ (part : Part). part.1 < c.args.id)) (sym c.as_slice-2.ensures.value)
    (subst (AreBelow c.args.id) c.in-Container.is c.ty.ensures.before)

pub container_node-requires-clause-few : goal.container_node-requires-clause-few
container_node-requires-clause-few g c =
    let trees = c.args.schema.now.trees in
    let form = sym c.ty.ensures.form ∙ ap (tree_over trees) c.in-Container.is
    ∙ ap (λ (parts : List Part). container (fields_over trees parts))
    (sym c.as_slice-2.ensures.value) in
    (container_room c.args.schema.now.format (type_of c.args.schema.now c.args.id) trees
    c.as_slice-2.result.now c.depth-depth.result form c.ty.ensures.legal
    c.depth-depth.ensures.exact).few

pub container_node-requires-clause-given : goal.container_node-requires-clause-given
container_node-requires-clause-given g c =
    given-room c.args.arena.now c.reserve_nodes.new.arena c.args.given.now
    c.reserve_nodes.ensures.nodes c.requires.given

pub returns-clause-part : goal.returns-clause-part
returns-clause-part g c =
    let trees = c.args.schema.now.trees in
    let form = sym c.ty.ensures.form ∙ ap (tree_over trees) c.in-Container.is
    ∙ ap (λ (parts : List Part). container (fields_over trees parts))
    (sym c.as_slice-2.ensures.value) in
    part-made c.args.arena.now c.reserve_nodes.new.arena c.container_node.new.arena
    (type_of c.args.schema.now c.args.id) (fields_over trees c.as_slice-2.result.now)
    c.depth-depth.result c.args.given.now c.container_node.result c.reserve_nodes.ensures.nodes form
    c.depth-depth.ensures.exact c.container_node.ensures

pub returns-clause-adds : goal.returns-clause-adds
returns-clause-adds g c =
    Adds-after _ _ c.args.arena.now c.reserve_nodes.new.arena c.container_node.new.arena
    c.reserve_nodes.ensures.nodes c.reserve_nodes.ensures.more
    (λ enough. c.reserve_nodes.ensures.stays (omega (
      arith,
      enough,
      counted g c,
      c.container_nodes.ensures,
    ))) (added g c)

pub returns-clause-room : goal.returns-clause-room
returns-clause-room g c =
    Takes-after _ _ _ c.args.arena.now c.reserve_nodes.new.arena c.container_node.new.arena
    c.reserve_nodes.ensures.most (omega (arith, counted g c, c.container_nodes.ensures))
    (omega (
      arith,
      c.in_ok-reserve_nodes.ensures.ok _ c.container_nodes.ensures,
      counted g c,
    )) (added g c)
