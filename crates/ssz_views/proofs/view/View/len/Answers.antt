use Rattle.std.proofs.Common.{◌≡◌, ap, sym, subst, ◌∙◌}
use Rattle.ssz_schema.specs.Types.{list, bitlist}
use Rattle.ssz_schema.specs.Unfolding.{type_of, tree_over}
use Rattle.ssz_walk.specs.Found.{spot_of}
use Rattle.ssz_views.specs.Looking.{Looking, ForPart, type_seen, length_in}
use Rattle.ssz_views.proofs.Seeing.{Tells, list_length, bitlist_length}
use Rattle.ssz_views.proofs.view.View.len.Goals as goal

pub returns-in-List : goal.returns-in-List
returns-in-List g c =
    let inside : Looking = record {
      arena = c.self.inside.arena.now;
      types = c.self.inside.schema.now;
      id = c.self.inside.id;
      node = c.self.inside.node;
      lies = spot_of c.self.inside.spot;
    } in
    let form : list (type_of c.self.inside.schema.now c.in-List.field-0) c.in-List.field-1
    ≡ type_of c.self.inside.schema.now c.self.inside.id =
    ap (tree_over c.self.inside.schema.now.trees) (sym c.in-List.is) ∙ c.ty.ensures.form in
    let tells : Tells inside c.number_beside.result =
    subst (λ (view : Looking). Tells view c.number_beside.result) (sym c.self.view_is)
    c.number_beside.ensures in
    subst (λ (view : Looking). ForPart view (λ v. c.number_beside.result
    ≡ length_in (type_seen view) v)) c.self.view_is
    (list_length inside c.self.invariant c.self.inside.schema.now.format c.ty.ensures.legal
    c.number_beside.result tells
    (type_of c.self.inside.schema.now c.in-List.field-0) c.in-List.field-1 form)

pub returns-in-Bitlist : goal.returns-in-Bitlist
returns-in-Bitlist g c =
    let inside : Looking = record {
      arena = c.self.inside.arena.now;
      types = c.self.inside.schema.now;
      id = c.self.inside.id;
      node = c.self.inside.node;
      lies = spot_of c.self.inside.spot;
    } in
    let form : bitlist c.in-Bitlist.field-0
    ≡ type_of c.self.inside.schema.now c.self.inside.id =
    ap (tree_over c.self.inside.schema.now.trees) (sym c.in-Bitlist.is) ∙ c.ty.ensures.form in
    let tells : Tells inside c.number_beside-in-Bitlist.result =
    subst (λ (view : Looking). Tells view c.number_beside-in-Bitlist.result) (sym c.self.view_is)
    c.number_beside-in-Bitlist.ensures in
    subst (λ (view : Looking). ForPart view (λ v. c.number_beside-in-Bitlist.result
    ≡ length_in (type_seen view) v)) c.self.view_is
    (bitlist_length inside c.self.invariant c.self.inside.schema.now.format c.ty.ensures.legal
    c.number_beside-in-Bitlist.result tells c.in-Bitlist.field-0 form)
