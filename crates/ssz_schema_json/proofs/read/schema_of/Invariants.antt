use Rattle.ssz_schema_json.proofs.Adding.{Adds}
use Rattle.ssz_schema_json.proofs.read.schema_of.Given as goal

abbrev pub invariant-loop-name : goal.invariant-loop-name
invariant-loop-name l = Adds l.fn.definitions l.number l.name-iterator l.schema
