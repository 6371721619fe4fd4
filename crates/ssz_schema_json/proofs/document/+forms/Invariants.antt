use Rattle.ssz_schema_json.proofs.Items.{ReadsSome}
use Rattle.ssz_schema_json.proofs.Fields.{fields}
use Rattle.ssz_schema_json.proofs.Options.{options}
use Rattle.ssz_schema_json.proofs.document.+forms.Given as goal

abbrev pub invariant-fields_of-loop-item : goal.invariant-fields_of-loop-item
invariant-fields_of-loop-item l = ReadsSome fields l.fn.items.items l.item-iterator l.fields.items

abbrev pub invariant-options_of-loop-item : goal.invariant-options_of-loop-item
invariant-options_of-loop-item l =
    ReadsSome options l.fn.items.items l.item-iterator l.options.items
