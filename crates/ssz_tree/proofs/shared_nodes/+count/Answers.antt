use Rattle.std.proofs.Common.{◌≡◌, ◌∙◌, ◌-◌, ◌^◌, ℕ, min, List, slice_get, Some, None, sym, ap, arith}
use Rattle.ssz_schema.specs.Types.{container}
use Rattle.ssz_schema.specs.Unfolding.{type_of, type_tree_at, tree_over, fields_over}
use Rattle.ssz_tree.specs.Shared.{shared_fields}
use Rattle.ssz_tree.specs.Given.{made_at}
use Rattle.ssz_tree.proofs.FieldPieces.{CountsPieces-start, CountsPieces-more, CountsPieces-end, nothing_given}
use Rattle.ssz_tree.proofs.DefaultForms.{shared-chosen, shared-none, shared-empty, shared-container}
use Rattle.ssz_tree.proofs.shared_nodes.+count.Goals as goal

pub container_nodes-loop-i-init : goal.container_nodes-loop-i-init
container_nodes-loop-i-init t c = CountsPieces-start c.args.schema.now.trees c.args.fields.now
    c.args.given.now c.args.depth c.pairs_above-nodes.result c.pairs_above-nodes.ensures

pub container_nodes-loop-i-preserved : goal.container_nodes-loop-i-preserved
container_nodes-loop-i-preserved t c =
    CountsPieces-more c.args.schema.now.trees c.args.fields.now c.args.given.now c.args.depth
    c.loop-i.i c.loop-i.nodes c.index-fields-i.result c.field_nodes.result _ c.loop-i.invariant
    c.loop-i-test.true c.index-fields-i.is
    (c.field_nodes.ensures ∙ ap (λ given. min (made_at (type_tree_at c.args.schema.now.trees
    c.index-fields-i.result.1) given) (2 ^ 64 - 1)) c.given_at.ensures)
    c.saturating_add-nodes.ensures

pub container_nodes-returns : goal.container_nodes-returns
container_nodes-returns t c =
    CountsPieces-end c.args.schema.now.trees c.args.fields.now c.args.given.now c.args.depth
    c.loop-i.i c.loop-i.nodes c.loop-i.invariant (λ h. omega arith)

pub shared_nodes-returns-in-Container : goal.shared_nodes-returns-in-Container
shared_nodes-returns-in-Container t c =
    let trees = c.args.schema.now.trees in
    let fields : c.in-Container.fields.items ≡ c.as_slice.result.now =
    sym c.as_slice.ensures.value in
    let form = sym c.ty.ensures.form ∙ ap (tree_over trees) c.in-Container.is
    ∙ ap (λ (parts : List (List ℕ × ℕ)). container (fields_over trees parts)) fields in
    omega (
      arith,
      c.container_nodes.ensures,
      ap shared_fields (nothing_given (fields_over trees c.as_slice.result.now)),
      shared-container (type_of c.args.schema.now c.args.id) trees c.as_slice.result.now
          c.depth-in-Container.result form c.depth-in-Container.ensures.exact,
    )

pub union_nodes-returns-in-Some-Some : goal.union_nodes-returns-in-Some-Some
union_nodes-returns-in-Some-Some t c =
    let here : Some (Some c.in-Some-Some.option) ≡ slice_get c.args.options.now 0 =
    ap Some (sym c.in-Some-Some.field-0-is) ∙ sym c.in-Some-Some.is ∙ c.option_at.ensures in
    omega (
      arith,
      c.shared_nodes.ensures,
      c.saturating_add.ensures,
      shared-chosen c.args.schema.now.trees c.args.options.now c.in-Some-Some.option here,
    )

pub union_nodes-returns-in-Some-None : goal.union_nodes-returns-in-Some-None
union_nodes-returns-in-Some-None t c =
    let here : Some None ≡ slice_get c.args.options.now 0 =
    ap Some (sym c.in-Some-None.field-0-is) ∙ sym c.in-Some-None.is ∙ c.option_at.ensures in
    omega (arith, shared-none c.args.schema.now.trees c.args.options.now here)

pub union_nodes-returns-in-None : goal.union_nodes-returns-in-None
union_nodes-returns-in-None t c =
    omega (
      arith,
      shared-empty c.args.schema.now.trees c.args.options.now
          (sym c.in-None.is ∙ c.option_at.ensures),
    )
