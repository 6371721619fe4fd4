use Rattle.std.proofs.Common.{◌∙◌, sym}
use Rattle.std.proofs.lemmas.Slice.Eq.{bytes_eq-Decides}
use Rattle.serde_json.specs.View.{view}
use Rattle.ssz_schema.specs.Unfolding.{type_of}
use Rattle.ssz_value.specs.Standing.{value_of}
use Rattle.ssz_json_text.specs.Text.{json}
use Rattle.ssz_value_json.proofs.WalkFits.{fit_law}
use Rattle.ssz_value_json.proofs.Exact.{read_same}
use Rattle.ssz_value_json.proofs.reading.read_whole.Goals as goal

pub is_text_of-requires-clause-value : goal.is_text_of-requires-clause-value
is_text_of-requires-clause-value c = record {
  fits = (fit_law (type_of c.args.schema.now c.args.id)).fits 0 c.value_in.new.number
      (view c.in_ok-json.json) (value_of c.in_ok-value.value) c.in_ok-value.ensures.0;
  formed = c.in_ok-value.ensures.1;
}

pub returns-clause-answer : goal.returns-clause-answer
returns-clause-answer c =
    let t = type_of c.args.schema.now c.args.id in
    let b = c.args.bytes.now in
    let d = view c.in_ok-json.json in
    let v = value_of c.in_ok-value.value in
    let same = sym c.in_ok-is_text_of.ensures ∙ c.if-not-branch.false in (
      read_same t b d v c.value_in.new.number c.in_ok-json.ensures c.in_ok-value.ensures.0 same,
      (bytes_eq-Decides (json t v) b).0 same,
    )

pub returns-clause-fits : goal.returns-clause-fits
returns-clause-fits c = record {
  fits = (fit_law (type_of c.args.schema.now c.args.id)).fits 0 c.value_in.new.number
      (view c.in_ok-json.json) (value_of c.in_ok-value.value) c.in_ok-value.ensures.0;
  formed = c.in_ok-value.ensures.1;
}
