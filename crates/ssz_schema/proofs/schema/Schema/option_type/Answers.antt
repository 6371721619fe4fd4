use Rattle.std.proofs.Common.{ℕ, List, Option, None, get_or, ap, ◌∙◌}
use Rattle.ssz_schema.proofs.StepLemmas.{LeadsTo-option}
use Rattle.ssz_schema.proofs.schema.Schema.option_type.Goals as goal

pub returns-in-Union : goal.returns-in-Union
returns-in-Union c =
    LeadsTo-option c.args.self.now c.args.id c.args.selector c.ty.result.now c.in-Union.options
    c.option_at.result c.requires c.ty.ensures.form c.ty.ensures.before c.in-Union.is
    (c.option_at.ensures ∙ ap (λ (ids : List (Option ℕ)). get_or ids c.from.result None)
    c.as_slice.ensures.value
    ∙ ap (λ (k : ℕ). get_or c.in-Union.options.items k None) c.from.ensures)
