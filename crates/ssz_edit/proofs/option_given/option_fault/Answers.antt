use Rattle.std.proofs.Common.{◌∙◌, Some, sym, ap}
use Rattle.ssz_edit.proofs.Optional.{typed, untyped}
use Rattle.ssz_edit.proofs.option_given.option_fault.Goals as goal

pub returns-in-Some : goal.returns-in-Some
returns-in-Some c options k there =
    c.check.ensures
    ∙ sym (let option = typed c.args.schema.now.trees options k c.in-Some.id
    (there ∙ ap Some c.in-Some.is) in option.fault c.args.literal.now)

pub returns-in-None : goal.returns-in-None
returns-in-None c options k there =
    c.none_fault.ensures
    ∙ sym (let option = untyped c.args.schema.now.trees options k (there ∙ ap Some c.in-None.is) in
    option.fault c.args.literal.now)
