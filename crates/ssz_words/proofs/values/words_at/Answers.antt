use Rattle.std.proofs.Common.{◌∙◌}
use Rattle.clap.specs.Words.{found_of}
use Rattle.clap.proofs.WalkLemmas.{raw_values-rows}
use Rattle.ssz_words.proofs.GetterLemmas.{ok_or_reads}
use Rattle.ssz_words.proofs.values.words_at.Goals as goal

pub returns : goal.returns
returns c = rw c.ok_or.ensures.value (ok_or_reads _ c.get_strs.result _
    (c.get_strs.ensures ∙ raw_values-rows (found_of c.args.found.now) c.args.id.now))
