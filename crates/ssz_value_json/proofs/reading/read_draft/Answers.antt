use Rattle.std.proofs.Common.{rules, ◌≡◌, ◌++◌}
use Rattle.ssz_schema.specs.Unfolding.{type_of}
use Rattle.ssz_value.specs.Standing.{value_of, IsValue}
use Rattle.ssz_json_text.specs.Text.{json}
use Rattle.ssz_value_json.proofs.Exact.{read_as}
use Rattle.ssz_value_json.proofs.reading.read_draft.Goals as goal

pub returns-then-is_empty-clause-answer : goal.returns-then-is_empty-clause-answer
returns-then-is_empty-clause-answer c =
    let t = type_of c.args.schema.now c.args.id in
    let b = c.args.bytes.now in
    let v = c.in-Some.value in
    let rest = c.in-Some-2.rest.now in
    let is : b ≡ json t (value_of v) ++ rest = search rules in
    let fit : IsValue t v = search rules in
    read_as c.args.schema.now.format t b rest v c.ty-legal.ensures.legal fit is (search rules)
