use Rattle.ssz_line.proofs.WordsLemmas.{words_of-word}
use Rattle.ssz_line.proofs.words.split_word.Goals as goal

pub returns : goal.returns
returns c =
    rw (c.split_at.ensures.front, c.split_at.ensures.back)
    (words_of-word c.word_end.result c.args.line.now c.requires.some c.requires.front
    c.word_end.ensures.within c.word_end.ensures.before c.word_end.ensures.at)
