use Rattle.std.proofs.Common.{List, ap, sym, ◌∙◌, bytes_eq, arith}
use Rattle.std.specs.List.{position_from}
use Rattle.ssz_schema.proofs.StepLemmas.{Part, IsLead-field, LeadsTo-no_field, found_field}
use Rattle.ssz_schema.proofs.schema.Schema.field_lead.Goals as goal

pub returns-in-None-clause-unfit : goal.returns-in-None-clause-unfit
returns-in-None-clause-unfit c =
    let found = ap (λ (parts : List Part). position_from (λ part. bytes_eq part.0 c.args.name.now) 0
    parts) (sym c.as_slice.ensures.value) in
    sym (LeadsTo-no_field c.args.self.now c.args.id c.ty.result.now c.in-Container.fields
    c.args.name.now c.ty.ensures.form c.in-Container.is
    (found ∙ sym c.field_number.ensures ∙ c.in-None.is)).exact

pub index-requires : goal.index-requires
index-requires c =
    let found = ap (λ (parts : List Part). position_from (λ part. bytes_eq part.0 c.args.name.now) 0
    parts) (sym c.as_slice.ensures.value) in
    let here = found_field c.args.self.now.trees c.in-Container.fields.items c.args.name.now
    c.in-Some.number (found ∙ sym c.field_number.ensures ∙ c.in-Some.is) in
    omega (arith, here.below)

pub returns-in-Some-clause-led : goal.returns-in-Some-clause-led
returns-in-Some-clause-led c =
    let found = ap (λ (parts : List Part). position_from (λ part. bytes_eq part.0 c.args.name.now) 0
    parts) (sym c.as_slice.ensures.value) in
    IsLead-field c.args.self.now c.args.id c.in-Some.number c.ty.result.now c.in-Container.fields
    c.index.result.now c.args.name.now c.requires c.ty.ensures.form c.ty.ensures.before
    c.in-Container.is
    (found ∙ sym c.field_number.ensures ∙ c.in-Some.is) c.index.ensures
