use Rattle.ssz_line.proofs.WordsLemmas.{words_of-drop}
use Rattle.ssz_line.proofs.words.skip_blanks.Goals as goal

pub returns-clause-words : goal.returns-clause-words
returns-clause-words c =
    rw c.split_at.ensures.back
    (words_of-drop c.word_start.result c.args.line.now c.word_start.ensures.within
    c.word_start.ensures.before)
