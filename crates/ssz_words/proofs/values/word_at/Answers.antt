use Rattle.std.proofs.Common.{◌∙◌}
use Rattle.clap.specs.Words.{found_of}
use Rattle.clap.proofs.WalkLemmas.{first_value-rows}
use Rattle.ssz_words.proofs.GetterLemmas.{ok_or_reads}
use Rattle.ssz_words.proofs.values.word_at.Goals as goal

pub returns : goal.returns
returns c = rw c.ok_or.ensures.value (ok_or_reads _ c.get_str.result _
    (c.get_str.ensures ∙ first_value-rows (found_of c.args.found.now) c.args.id.now))
