use Rattle.std.proofs.Common.{◌≡◌, ℕ, ◌<◌, get_or, true}
use Rattle.ssz_line.specs.Words.{is_blank}
use Rattle.ssz_line.proofs.words.word_start.Given as goal

abbrev pub invariant-loop-i : goal.invariant-loop-i
invariant-loop-i l = (k : ℕ) → k < l.i → is_blank (get_or l.line k 0) ≡ true
