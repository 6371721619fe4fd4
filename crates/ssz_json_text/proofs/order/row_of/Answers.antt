use Rattle.std.proofs.Common.{ap, ◌∙◌}
use Rattle.ssz_json_text.proofs.FieldNames.{names_over}
use Rattle.ssz_schema.specs.Order.{name_order, field_order}
use Rattle.ssz_json_text.proofs.order.row_of.Goals as goal

pub returns-clause-order : goal.returns-clause-order
returns-clause-order c =
    c.field_order.ensures ∙ ap field_order c.requires.form
    ∙ ap name_order (names_over c.args.schema.now.trees c.args.fields.now)
