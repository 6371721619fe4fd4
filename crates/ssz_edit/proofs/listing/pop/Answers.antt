use Rattle.std.proofs.Common.{◌<◌, ◌-◌, [], ◌∷◌, sym, subst, ◌∙◌, arith}
use Rattle.std.proofs.lemmas.Result.{err_from_is_err_and}
use Rattle.ssz_schema.specs.Unfolding.{type_of}
use Rattle.ssz_value.specs.declared.edit_fault.EditFault.TheVariants.{NotThat, Empty}
use Rattle.ssz_value.specs.Edits.{with_less}
use Rattle.ssz_places.specs.EditLaws.{content, count_of}
use Rattle.ssz_places.specs.Charges.{pop_charge}
use Rattle.ssz_places.proofs.ListEdits.{law_of_pop}
use Rattle.ssz_schema.specs.declared.path.PathStep.TheVariants.{Index}
use Rattle.ssz_walk.specs.Found.{LeadsNowhere}
use Rattle.ssz_edit.proofs.Landing.{lost_answers, each_fault}
use Rattle.ssz_edit.proofs.Counted.{counted_where, not_less, less_empty, less_made, count_small}
use Rattle.ssz_edit.proofs.ListLanding.{list_value, own_fault, not_nowhere, element_lies, list_there, pop_made}
use Rattle.ssz_edit.proofs.listing.pop.Goals as goal

pub returns-in_err-place-clause-answers : goal.returns-in_err-place-clause-answers
returns-in_err-place-clause-answers g c v of =
    let p = err_from_is_err_and c.from_residual.result
    c.from_residual.ensures.1 in
    rw (p.1, p.2) (lost_answers c.args.schema.now c.args.arena.now c.args.arena.now c.args.id
    c.args.node c.args.path.now c.in_err-place.field-0.0
    (pop_charge (type_of c.args.schema.now c.args.id) v c.args.path.now) _ v
    c.in_err-place.ensures.lost of)

pub returns-in_default-clause-answers : goal.returns-in_default-clause-answers
returns-in_default-clause-answers g c v of =
    each_fault c.args.schema.now.format c.args.schema.now c.args.arena.now c.args.id c.args.node
    c.args.path.now c.in_ok-place.place c.ty-legal.ensures.legal c.in_ok-place.ensures.found v of
    with_less NotThat
    (λ w. not_less (type_of c.args.schema.now c.in_ok-place.place.id) w
    (sym c.limit_of.ensures ∙ c.in_default.is))

pub returns-in_default-mixed_in-clause-answers : goal.returns-in_default-mixed_in-clause-answers
returns-in_default-mixed_in-clause-answers g c v of =
    let u = type_of c.args.schema.now c.in_ok-place.place.id in
    let l =
    list_value c.args.schema.now.format c.args.schema.now c.args.arena.now c.args.id c.args.node
    c.args.path.now c.in_ok-place.place c.ty-legal.ensures.legal c.in_ok-place.ensures.found
    c.in-Some.limit
    (sym c.limit_of.ensures ∙ c.in-Some.is) v of in
    let few = count_small c.args.schema.now.format u c.in-Some.limit l.w
    (sym c.limit_of.ensures ∙ c.in-Some.is) l.legal l.fits in
    absurd (c.in_default-mixed_in.ensures.exact (count_of l.w) (content u l.w) l.mixed few.1)

pub returns-then-count-eq0-clause-answers : goal.returns-then-count-eq0-clause-answers
returns-then-count-eq0-clause-answers g c v of =
    let u = type_of c.args.schema.now c.in_ok-place.place.id in
    let limited = sym c.limit_of.ensures ∙ c.in-Some.is in
    let l =
    list_value c.args.schema.now.format c.args.schema.now c.args.arena.now c.args.id c.args.node
    c.args.path.now c.in_ok-place.place c.ty-legal.ensures.legal c.in_ok-place.ensures.found
    c.in-Some.limit
    (sym c.limit_of.ensures ∙ c.in-Some.is) v of in
    let few = count_small c.args.schema.now.format u c.in-Some.limit l.w limited l.legal l.fits in
    let mixed = c.in-Some-mixed_in.ensures.exact (count_of l.w) (content u l.w) l.mixed few.1 in
    own_fault c.args.schema.now.format c.args.schema.now c.args.arena.now c.args.id c.args.node
    c.args.path.now c.in_ok-place.place c.ty-legal.ensures.legal c.in_ok-place.ensures.found
    c.in-Some.limit
    (sym c.limit_of.ensures ∙ c.in-Some.is) v with_less Empty l
    (less_empty u l.w (counted_where u c.in-Some.limit limited) l.fits
    (omega (arith, mixed.1, c.if-count-eq0.true)))

pub returns-then-last-limit-clause-answers : goal.returns-then-last-limit-clause-answers
returns-then-last-limit-clause-answers g c v of =
    let u = type_of c.args.schema.now c.in_ok-place.place.id in
    let limited = sym c.limit_of.ensures ∙ c.in-Some.is in
    let l =
    list_value c.args.schema.now.format c.args.schema.now c.args.arena.now c.args.id c.args.node
    c.args.path.now c.in_ok-place.place c.ty-legal.ensures.legal c.in_ok-place.ensures.found
    c.in-Some.limit
    (sym c.limit_of.ensures ∙ c.in-Some.is) v of in
    let few = count_small c.args.schema.now.format u c.in-Some.limit l.w limited l.legal l.fits in
    let mixed = c.in-Some-mixed_in.ensures.exact (count_of l.w) (content u l.w) l.mixed few.1 in
    absurd (omega (arith, few.0, mixed.1, c.if-last-limit.true, c.if-count-eq0.false))

pub returns-in_default-slot_at-clause-answers : goal.returns-in_default-slot_at-clause-answers
returns-in_default-slot_at-clause-answers g c v of =
    let u = type_of c.args.schema.now c.in_ok-place.place.id in
    let limited = sym c.limit_of.ensures ∙ c.in-Some.is in
    let l =
    list_value c.args.schema.now.format c.args.schema.now c.args.arena.now c.args.id c.args.node
    c.args.path.now c.in_ok-place.place c.ty-legal.ensures.legal c.in_ok-place.ensures.found
    c.in-Some.limit
    (sym c.limit_of.ensures ∙ c.in-Some.is) v of in
    let few = count_small c.args.schema.now.format u c.in-Some.limit l.w limited l.legal l.fits in
    let mixed = c.in-Some-mixed_in.ensures.exact (count_of l.w) (content u l.w) l.mixed few.1 in
    let some : 0 < count_of l.w = omega (arith, mixed.1, c.if-count-eq0.false) in
    let below : count_of l.w - 1 < c.in-Some.limit =
    omega (arith, mixed.1, c.if-last-limit.false) in
    let less = less_made u l.w (counted_where u c.in-Some.limit limited) l.fits some in
    let law = law_of_pop c.args.schema.now.format u l.w less.0
    (record { legal = l.legal; fits = l.fits }) less.1 in
    not_nowhere c.args.schema.now.format c.args.schema.now c.args.arena.now c.args.id c.args.node
    c.args.path.now c.in_ok-place.place c.ty-legal.ensures.legal c.in_ok-place.ensures.found
    c.in-Some.limit
    (sym c.limit_of.ensures ∙ c.in-Some.is)
    c.in-Some-mixed_in.content c.in-Some-mixed_in.ensures.content (count_of l.w - 1) below l.w
    less.0 _ mixed.0 law.0
    (subst (λ n. LeadsNowhere c.args.schema.now c.args.arena.now c.in_ok-place.place.id
    c.in_ok-place.place.node (Index (n - 1) ∷ [])) mixed.1 c.in_default-slot_at.ensures.none)

pub empty_slot-requires-clause-list : goal.empty_slot-requires-clause-list
empty_slot-requires-clause-list g c =
    list_there c.args.schema.now.format c.args.schema.now c.args.arena.now c.args.id c.args.node
    c.args.path.now c.in_ok-place.place c.ty-legal.ensures.legal c.in_ok-place.ensures.found
    c.in-Some.limit
    (sym c.limit_of.ensures ∙ c.in-Some.is)
    c.in-Some-mixed_in.content c.in-Some-mixed_in.ensures.content (c.in-Some-mixed_in.count - 1)
    c.if-last-limit.false c.in-Some-slot_at.slot c.in-Some-slot_at.ensures.slot c.requires.node

pub empty_slot-requires-clause-lies : goal.empty_slot-requires-clause-lies
empty_slot-requires-clause-lies g c =
    element_lies c.args.schema.now.format c.args.schema.now c.args.arena.now c.args.id c.args.node
    c.args.path.now c.in_ok-place.place c.ty-legal.ensures.legal c.in_ok-place.ensures.found
    c.in-Some.limit
    (sym c.limit_of.ensures ∙ c.in-Some.is)
    c.in-Some-mixed_in.content c.in-Some-mixed_in.ensures.content (c.in-Some-mixed_in.count - 1)
    c.if-last-limit.false c.in-Some-slot_at.slot c.in-Some-slot_at.ensures.slot

pub returns-clause-answers : goal.returns-clause-answers
returns-clause-answers g c v of =
    let u = type_of c.args.schema.now c.in_ok-place.place.id in
    let limited = sym c.limit_of.ensures ∙ c.in-Some.is in
    let l =
    list_value c.args.schema.now.format c.args.schema.now c.args.arena.now c.args.id c.args.node
    c.args.path.now c.in_ok-place.place c.ty-legal.ensures.legal c.in_ok-place.ensures.found
    c.in-Some.limit
    (sym c.limit_of.ensures ∙ c.in-Some.is) v of in
    let few = count_small c.args.schema.now.format u c.in-Some.limit l.w limited l.legal l.fits in
    let mixed = c.in-Some-mixed_in.ensures.exact (count_of l.w) (content u l.w) l.mixed few.1 in
    pop_made c.args.schema.now.format c.args.schema.now c.args.arena.now c.args.id c.args.node
    c.args.path.now c.in_ok-place.place c.ty-legal.ensures.legal c.in_ok-place.ensures.found
    c.in-Some.limit
    (sym c.limit_of.ensures ∙ c.in-Some.is)
    c.in-Some-mixed_in.content c.in-Some-mixed_in.ensures.content (c.in-Some-mixed_in.count - 1)
    c.if-last-limit.false c.in-Some-slot_at.slot c.in-Some-slot_at.ensures.slot v of l
    mixed.0 (omega (arith, mixed.1, c.if-count-eq0.false)) c.empty_slot.new.arena
    c.in_ok-made.made c.in_ok-made.ensures.grown c.empty_slot.ensures.adds
    c.empty_slot.ensures.room
