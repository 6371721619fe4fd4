use Rattle.ssz_json_text.proofs.OneLine.{texts_are_one_line_lem}
use Rattle.ssz_json_text.proofs.law.texts_are_one_line.Goals as goal

pub returns : goal.returns
returns c = texts_are_one_line_lem
