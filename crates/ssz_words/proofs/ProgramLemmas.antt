-- The program's command is one of those whose matches and faults `clap` states.
use Rattle.std.proofs.Common.{◌≡◌, true, refl}
use Rattle.clap.specs.Words.{is_simple, is_simple_and_free}
use Rattle.clap.proofs.OnLiterals.{clap_on_literals}
use Rattle.ssz_words.specs.CommandSet.{program}

pub program_simple : is_simple program ≡ true
unfolding program clap_on_literals
program_simple = refl

pub program_simple_and_free : is_simple_and_free program ≡ true
unfolding program clap_on_literals
program_simple_and_free = refl
