use Rattle.std.proofs.Common.{[]}
use Rattle.std.proofs.lemmas.Result.{IfOk-weaker}
use Rattle.ssz_words.proofs.InTurnLemmas.{adds_in_turn}
use Rattle.ssz_words.proofs.command_set.command_with.Goals as goal

pub returns : goal.returns
returns c = IfOk-weaker c.args-2.result _ _ (λ r added. adds_in_turn _ [] _ r _ c.new.ensures.app
    c.new.ensures.local c.requires.local added) c.args-2.ensures
