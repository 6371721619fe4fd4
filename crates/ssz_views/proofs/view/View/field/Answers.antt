use Rattle.std.proofs.Common.{[], ◌∷◌, sym, subst, lit<}
use Rattle.std.proofs.lemmas.Result.{err_from_is_err_and}
use Rattle.ssz_schema.specs.declared.path.PathStep.TheVariants.{Field}
use Rattle.ssz_schema.specs.Unfolding.{type_of}
use Rattle.ssz_walk.specs.Found.{spot_of, IsFound, IsLost}
use Rattle.ssz_views.specs.Looking.{Looking, CanLie, Misses, ViewReaches}
use Rattle.ssz_views.proofs.Reaching.{CanLie-found, Reaches-found, Misses-lost, view_of}
use Rattle.ssz_views.proofs.view.View.field.Goals as goal

pub to-requires-clause-lies : goal.to-requires-clause-lies
to-requires-clause-lies g c =
    let inside : Looking = record {
      arena = c.self.inside.arena.now;
      types = c.self.inside.schema.now;
      id = c.self.inside.id;
      node = c.self.inside.node;
      lies = spot_of c.self.inside.spot;
    } in
    subst (λ (view : Looking). CanLie (type_of view.types c.in_ok-field.field.id)
    (spot_of c.in_ok-field.field.spot)) c.self.view_is
    (CanLie-found inside (Field c.args.name.now ∷ []) c.self.invariant (lit< tt)
    c.in_ok-field.field
    (subst (λ name. IsFound c.self.inside.schema.now c.self.inside.arena.now c.self.inside.id
    c.self.inside.node (Field name ∷ []) c.in_ok-field.field) c.as_bytes.ensures.value
    c.in_ok-field.ensures.found))

pub returns-clause-reached : goal.returns-clause-reached
returns-clause-reached g c =
    let inside : Looking = record {
      arena = c.self.inside.arena.now;
      types = c.self.inside.schema.now;
      id = c.self.inside.id;
      node = c.self.inside.node;
      lies = spot_of c.self.inside.spot;
    } in
    subst (ViewReaches c.args.self.now (Field c.args.name.now ∷ [])) (sym c.to.ensures)
    (subst (λ (view : Looking). ViewReaches view (Field c.args.name.now ∷ [])
    (view_of view c.in_ok-field.field)) c.self.view_is
    (Reaches-found inside (Field c.args.name.now ∷ []) c.self.invariant (lit< tt)
    c.in_ok-field.field
    c.self.inside.schema.now.format c.ty-legal.ensures.legal
    (subst (λ name. IsFound c.self.inside.schema.now c.self.inside.arena.now c.self.inside.id
    c.self.inside.node (Field name ∷ []) c.in_ok-field.field) c.as_bytes.ensures.value
    c.in_ok-field.ensures.found)))

pub returns-in_err-field-clause-missed : goal.returns-in_err-field-clause-missed
returns-in_err-field-clause-missed g c =
    let p = err_from_is_err_and c.from_residual.result c.from_residual.ensures.1 in
    let inside : Looking = record {
      arena = c.self.inside.arena.now;
      types = c.self.inside.schema.now;
      id = c.self.inside.id;
      node = c.self.inside.node;
      lies = spot_of c.self.inside.spot;
    } in
    rw (p.1, p.2) (subst (λ (view : Looking). Misses view (Field c.args.name.now ∷ [])
    c.in_err-field.field-0.0) c.self.view_is
    (Misses-lost inside (Field c.args.name.now ∷ []) c.self.invariant (lit< tt)
    c.in_err-field.field-0.0
    (subst (λ name. IsLost c.self.inside.schema.now c.self.inside.arena.now c.self.inside.id
    c.self.inside.node (Field name ∷ []) c.in_err-field.field-0.0) c.as_bytes.ensures.value
    c.in_err-field.ensures.lost)))
