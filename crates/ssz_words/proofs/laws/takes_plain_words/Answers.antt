use Rattle.ssz_words.proofs.PlainLemmas.{takes_plain_words}
use Rattle.ssz_words.proofs.laws.takes_plain_words.Goals as goal

pub returns : goal.returns
returns c = takes_plain_words
