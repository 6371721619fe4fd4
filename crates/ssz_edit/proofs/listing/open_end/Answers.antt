use Rattle.std.proofs.Common.{◌<◌, [], ◌∷◌, sym, subst, ap, ◌∙◌, arith}
use Rattle.std.proofs.lemmas.Option.{same_Some}
use Rattle.std.proofs.lemmas.Result.{err_from_is_err_and}
use Rattle.ssz_schema.specs.Unfolding.{type_of}
use Rattle.ssz_schema.specs.declared.path.PathStep.TheVariants.{Index}
use Rattle.ssz_value.specs.Defaults.{default_of}
use Rattle.ssz_value.proofs.SizeLaw.{default_fits}
use Rattle.ssz_places.specs.EditLaws.{content, count_of, element_type}
use Rattle.ssz_places.proofs.ListEdits.{law_of_append}
use Rattle.ssz_walk.specs.Found.{LeadsNowhere}
use Rattle.ssz_edit.proofs.Counted.{counted_where, more_made, count_small, element_legal}
use Rattle.ssz_edit.proofs.ListLanding.{list_value, not_nowhere, element_lies, list_there}
use Rattle.ssz_edit.proofs.Refusing.{lost_append}
use Rattle.ssz_edit.proofs.listing.open_end.Goals as goal

pub returns-in_err-list-clause-err : goal.returns-in_err-list-clause-err
returns-in_err-list-clause-err g c =
    let p = err_from_is_err_and c.from_residual.result c.from_residual.ensures.1 in
    rw (p.1, p.2) (lost_append c.args.schema.now c.args.arena.now c.args.id c.args.node
    c.args.path.now c.in_err-list.field-0.0 c.in_err-list.ensures.lost)

pub returns-in_default-clause-err : goal.returns-in_default-clause-err
returns-in_default-clause-err g c = (
  c.in_ok-list.list,
  c.in_ok-list.ensures.found,
  λ v w of there. sym c.limit_of.ensures ∙ c.in_default.is,
)

pub returns-in_default-mixed_in-clause-err : goal.returns-in_default-mixed_in-clause-err
returns-in_default-mixed_in-clause-err g c = (
  c.in_ok-list.list,
  c.in_ok-list.ensures.found,
  λ v w of there.
      let types = c.args.schema.now in
      let u = type_of types c.in_ok-list.list.id in
      let limited = sym c.limit_of.ensures ∙ c.in-Some.is in
      let l = list_value types.format types c.args.arena.now c.args.id c.args.node
      c.args.path.now c.in_ok-list.list c.ty-legal.ensures.legal c.in_ok-list.ensures.found
      c.in-Some.limit limited v of in
      let few = count_small types.format u c.in-Some.limit l.w limited l.legal l.fits in
      absurd (c.in_default-mixed_in.ensures.exact (count_of l.w) (content u l.w) l.mixed few.1),
)

pub returns-then-count-limit-clause-err : goal.returns-then-count-limit-clause-err
returns-then-count-limit-clause-err g c = (
  c.in_ok-list.list,
  c.in_ok-list.ensures.found,
  λ v w of there.
      let types = c.args.schema.now in
      let u = type_of types c.in_ok-list.list.id in
      let limited = sym c.limit_of.ensures ∙ c.in-Some.is in
      let l = list_value types.format types c.args.arena.now c.args.id c.args.node
      c.args.path.now c.in_ok-list.list c.ty-legal.ensures.legal c.in_ok-list.ensures.found
      c.in-Some.limit limited v of in
      let few = count_small types.format u c.in-Some.limit l.w limited l.legal l.fits in
      let mixed = c.in-Some-mixed_in.ensures.exact (count_of l.w) (content u l.w) l.mixed few.1 in
      let same = same_Some w l.w (sym there ∙ l.value) in (
        c.in-Some.limit,
        limited,
        omega (arith, mixed.1, ap count_of same, c.if-count-limit.true),
      ),
)

pub returns-in_default-slot_at-clause-err : goal.returns-in_default-slot_at-clause-err
returns-in_default-slot_at-clause-err g c = (
  c.in_ok-list.list,
  c.in_ok-list.ensures.found,
  λ v w of there.
      let types = c.args.schema.now in
      let u = type_of types c.in_ok-list.list.id in
      let limited = sym c.limit_of.ensures ∙ c.in-Some.is in
      let l = list_value types.format types c.args.arena.now c.args.id c.args.node
      c.args.path.now c.in_ok-list.list c.ty-legal.ensures.legal c.in_ok-list.ensures.found
      c.in-Some.limit limited v of in
      let few = count_small types.format u c.in-Some.limit l.w limited l.legal l.fits in
      let mixed = c.in-Some-mixed_in.ensures.exact (count_of l.w) (content u l.w) l.mixed few.1 in
      let x = default_of (element_type u) in
      let fits = default_fits types.format (element_type u)
      (element_legal types.format u (counted_where u c.in-Some.limit limited) l.legal) in
      let below : count_of l.w < c.in-Some.limit =
      omega (arith, mixed.1, c.if-count-limit.false) in
      let more = more_made u c.in-Some.limit x l.w limited l.fits fits below in
      let law = law_of_append types.format u l.w x more.0
      (record { legal = l.legal; fits = l.fits }) fits more.1 in
      not_nowhere types.format types c.args.arena.now c.args.id c.args.node c.args.path.now
      c.in_ok-list.list c.ty-legal.ensures.legal c.in_ok-list.ensures.found c.in-Some.limit limited
      c.in-Some-mixed_in.content c.in-Some-mixed_in.ensures.content (count_of l.w) below l.w more.0
      _ mixed.0 law.0
      (subst (λ n. LeadsNowhere types c.args.arena.now c.in_ok-list.list.id
      c.in_ok-list.list.node (Index n ∷ [])) mixed.1 c.in_default-slot_at.ensures.none),
)

pub returns-clause-end : goal.returns-clause-end
returns-clause-end g c =
    let types = c.args.schema.now in
    let limited = sym c.limit_of.ensures ∙ c.in-Some.is in
    let slot = c.in-Some-slot_at.ensures.slot in
    record {
      known = slot.led.known;
      few = omega (arith, c.if-count-limit.false);
      has_list = list_there types.format types c.args.arena.now c.args.id c.args.node
          c.args.path.now c.in_ok-list.list c.ty-legal.ensures.legal c.in_ok-list.ensures.found
          c.in-Some.limit limited c.in-Some-mixed_in.content c.in-Some-mixed_in.ensures.content
          c.in-Some-mixed_in.count c.if-count-limit.false c.in-Some-slot_at.slot slot
          c.requires.node;
      inside = slot.led.inside;
      lies = element_lies types.format types c.args.arena.now c.args.id c.args.node
          c.args.path.now c.in_ok-list.list c.ty-legal.ensures.legal c.in_ok-list.ensures.found
          c.in-Some.limit limited c.in-Some-mixed_in.content c.in-Some-mixed_in.ensures.content
          c.in-Some-mixed_in.count c.if-count-limit.false c.in-Some-slot_at.slot slot;
    }

pub returns-clause-at : goal.returns-clause-at
returns-clause-at g c = record {
  legal = c.ty-legal.ensures.legal;
  found = c.in_ok-list.ensures.found;
  limit = c.in-Some.limit;
  limited = sym c.limit_of.ensures ∙ c.in-Some.is;
  within = c.if-count-limit.false;
  content = c.in-Some-mixed_in.content;
  content_node = c.in-Some-mixed_in.ensures.content;
  counts = c.in-Some-mixed_in.ensures.exact;
  slot = c.in-Some-slot_at.ensures.slot;
}
