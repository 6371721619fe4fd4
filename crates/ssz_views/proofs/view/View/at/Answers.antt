use Rattle.std.proofs.Common.{◌≡◌, ◌<◌, Bool, false, eqb, List, [], ◌∷◌, length, sym, subst, arith}
use Rattle.std.proofs.lemmas.Result.{err_from_is_err_and}
use Rattle.ssz_schema.specs.Unfolding.{type_of}
use Rattle.ssz_walk.specs.Found.{spot_of}
use Rattle.ssz_views.specs.Looking.{Looking, CanLie, Misses, ViewReaches}
use Rattle.ssz_views.proofs.Reaching.{CanLie-found, Reaches-found, Reaches-none, Misses-lost, view_of}
use Rattle.ssz_views.proofs.view.View.at.Goals as goal

some_path : {X : Type 0} (path : List X) {b : Bool} → b ≡ eqb (length path) 0 → b ≡ false
    → 0 < length path
some_path [] is none = cc
some_path (step ∷ path) is none = omega arith

pub returns-then-is_empty-clause-reached : goal.returns-then-is_empty-clause-reached
returns-then-is_empty-clause-reached g c =
    Reaches-none c.args.self.now c.same.result c.args.path.now c.is_empty.ensures
    c.if-is_empty.true c.same.ensures

pub to-requires-clause-lies : goal.to-requires-clause-lies
to-requires-clause-lies g c =
    let inside : Looking = record {
      arena = c.self.inside.arena.now;
      types = c.self.inside.schema.now;
      id = c.self.inside.id;
      node = c.self.inside.node;
      lies = spot_of c.self.inside.spot;
    } in
    let some : 0 < length c.args.path.now = some_path c.args.path.now
    (c.is_empty.ensures) c.if-is_empty.false in
    subst (λ (view : Looking). CanLie (type_of view.types c.in_ok-place.place.id)
    (spot_of c.in_ok-place.place.spot)) c.self.view_is
    (CanLie-found inside c.args.path.now c.self.invariant some c.in_ok-place.place
    c.in_ok-place.ensures.found)

pub returns-clause-reached : goal.returns-clause-reached
returns-clause-reached g c =
    let inside : Looking = record {
      arena = c.self.inside.arena.now;
      types = c.self.inside.schema.now;
      id = c.self.inside.id;
      node = c.self.inside.node;
      lies = spot_of c.self.inside.spot;
    } in
    let some : 0 < length c.args.path.now = some_path c.args.path.now
    (c.is_empty.ensures) c.if-is_empty.false in
    subst (ViewReaches c.args.self.now c.args.path.now) (sym c.to.ensures)
    (subst (λ (view : Looking). ViewReaches view c.args.path.now
    (view_of view c.in_ok-place.place))
    c.self.view_is
    (Reaches-found inside c.args.path.now c.self.invariant some c.in_ok-place.place
    c.self.inside.schema.now.format c.ty-legal.ensures.legal c.in_ok-place.ensures.found))

pub returns-in_err-place-clause-missed : goal.returns-in_err-place-clause-missed
returns-in_err-place-clause-missed g c =
    let p = err_from_is_err_and c.from_residual.result c.from_residual.ensures.1 in
    let inside : Looking = record {
      arena = c.self.inside.arena.now;
      types = c.self.inside.schema.now;
      id = c.self.inside.id;
      node = c.self.inside.node;
      lies = spot_of c.self.inside.spot;
    } in
    let some : 0 < length c.args.path.now = some_path c.args.path.now
    (c.is_empty.ensures) c.if-is_empty.false in
    rw (p.1, p.2) (subst (λ (view : Looking). Misses view c.args.path.now c.in_err-place.field-0.0)
    c.self.view_is
    (Misses-lost inside c.args.path.now c.self.invariant some c.in_err-place.field-0.0
    c.in_err-place.ensures.lost))
