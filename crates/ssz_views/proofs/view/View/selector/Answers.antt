use Rattle.std.proofs.Common.{◌≡◌, ◌%◌, Some, None, ap, sym, subst, ◌∙◌}
use Rattle.std.specs.Prelude.{option_map}
use Rattle.ssz_schema.specs.Types.{union}
use Rattle.ssz_schema.specs.Legal.{IsLegal}
use Rattle.ssz_schema.specs.Unfolding.{type_of, tree_over, options_over}
use Rattle.ssz_walk.specs.Found.{spot_of}
use Rattle.ssz_nodes.proofs.Formed.{union_few}
use Rattle.ssz_views.specs.Looking.{Looking, ForPart, selector_in}
use Rattle.ssz_views.proofs.Seeing.{Tells, union_selector}
use Rattle.ssz_views.proofs.view.View.selector.Goals as goal

pub returns-in-Some : goal.returns-in-Some
returns-in-Some g c =
    let inside : Looking = record {
      arena = c.self.inside.arena.now;
      types = c.self.inside.schema.now;
      id = c.self.inside.id;
      node = c.self.inside.node;
      lies = spot_of c.self.inside.spot;
    } in
    let form : union (options_over c.self.inside.schema.now.trees c.in-Union.field-0.items)
    ≡ type_of c.self.inside.schema.now c.self.inside.id =
    ap (tree_over c.self.inside.schema.now.trees) (sym c.in-Union.is) ∙ c.ty.ensures.form in
    let tells : Tells inside c.number_beside.result =
    subst (λ (view : Looking). Tells view c.number_beside.result) (sym c.self.view_is)
    c.number_beside.ensures in
    subst (λ (view : Looking). ForPart view (λ v. Some (c.in-Some.number % 256) ≡ selector_in v))
    c.self.view_is
    (λ v stands. ap (option_map (λ n. n % 256)) (sym c.in-Some.is)
    ∙ union_selector inside c.self.invariant c.self.inside.schema.now.format c.ty.ensures.legal
    c.number_beside.result tells c.self.inside.schema.now.trees c.in-Union.field-0.items form
    (union_few c.self.inside.schema.now.format c.self.inside.schema.now.trees
    c.in-Union.field-0.items
    (subst (IsLegal c.self.inside.schema.now.format) (sym form) c.ty.ensures.legal))
    v stands)

pub returns-in-None : goal.returns-in-None
returns-in-None g c =
    let inside : Looking = record {
      arena = c.self.inside.arena.now;
      types = c.self.inside.schema.now;
      id = c.self.inside.id;
      node = c.self.inside.node;
      lies = spot_of c.self.inside.spot;
    } in
    let form : union (options_over c.self.inside.schema.now.trees c.in-Union.field-0.items)
    ≡ type_of c.self.inside.schema.now c.self.inside.id =
    ap (tree_over c.self.inside.schema.now.trees) (sym c.in-Union.is) ∙ c.ty.ensures.form in
    let tells : Tells inside c.number_beside.result =
    subst (λ (view : Looking). Tells view c.number_beside.result) (sym c.self.view_is)
    c.number_beside.ensures in
    subst (λ (view : Looking). ForPart view (λ v. None ≡ selector_in v))
    c.self.view_is
    (λ v stands. ap (option_map (λ n. n % 256)) (sym c.in-None.is)
    ∙ union_selector inside c.self.invariant c.self.inside.schema.now.format c.ty.ensures.legal
    c.number_beside.result tells c.self.inside.schema.now.trees c.in-Union.field-0.items form
    (union_few c.self.inside.schema.now.format c.self.inside.schema.now.trees
    c.in-Union.field-0.items
    (subst (IsLegal c.self.inside.schema.now.format) (sym form) c.ty.ensures.legal))
    v stands)
