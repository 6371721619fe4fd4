use Rattle.std.proofs.Common.{Err}
use Rattle.serde_json.specs.View.{view}
use Rattle.ssz_schema_json.specs.declared.fault.SchemaRead.TheVariants.{NotJson, Shape, Def, Memory}
use Rattle.ssz_schema_json.specs.Schema.{json_read}
use Rattle.ssz_schema_json.specs.Views.{IsSchemaFaultOf, ReadsSchemaJson}
use Rattle.ssz_schema_json.proofs.Json.{json_of-text, json_of-no_text}
use Rattle.ssz_schema_json.proofs.read.value_of.Goals as goal

pub returns-in-Ok : goal.returns-in-Ok
returns-in-Ok c =
    let read = c.in-Ok.ensures.ok in
    json_of-text c.args.bytes.now (view c.in-Ok.value) read.0 read.1

pub returns-in-Err : goal.returns-in-Err
returns-in-Err c =
    let bytes = c.args.bytes.now in
    elim c.fault_of.result
    as (λ fault. IsSchemaFaultOf c.in-Err.error fault
    → ReadsSchemaJson (Err fault) (json_read bytes)) [
      | NotJson ↦ λ other. json_of-no_text bytes (c.in-Err.ensures.err other)
      | Shape ↦ λ none. none
      | Def number fault ↦ λ none. none
      | Memory ↦ λ memory. tt
    ] c.fault_of.ensures
