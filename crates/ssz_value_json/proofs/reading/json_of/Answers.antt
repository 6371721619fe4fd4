use Rattle.std.proofs.Common.{Err}
use Rattle.serde_json.specs.View.{view}
use Rattle.ssz_schema_json.specs.Schema.{json_read}
use Rattle.ssz_schema_json.proofs.Json.{json_of-text, json_of-no_text}
use Rattle.ssz_value_json.specs.declared.fault.JsonRead.TheVariants.{Bad, Memory}
use Rattle.ssz_value_json.specs.Answers.{IsJsonFaultOf, ReadsJson}
use Rattle.ssz_value_json.proofs.reading.json_of.Goals as goal

pub returns-in-Ok : goal.returns-in-Ok
returns-in-Ok c =
    let read = c.in-Ok.ensures.ok in
    json_of-text c.args.bytes.now (view c.in-Ok.json) read.0 read.1

pub returns-in-Err : goal.returns-in-Err
returns-in-Err c =
    let bytes = c.args.bytes.now in
    elim c.fault_of.result
    as (λ fault. IsJsonFaultOf c.in-Err.error fault → ReadsJson (Err fault) (json_read bytes)) [
      | Bad f ↦ λ other. (json_of-no_text bytes (c.in-Err.ensures.err other.0), other.1)
      | Memory ↦ λ memory. tt
    ] c.fault_of.ensures
