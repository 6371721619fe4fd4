use Rattle.std.proofs.Common.{◌≡◌, ◌<◌, ◌∷◌, [], length}
use Rattle.ssz_line.specs.Paths.{read_all}
use Rattle.ssz_line.proofs.ReadAll.{after_read}
use Rattle.ssz_line.specs.Paths.{index}
use Rattle.ssz_script.proofs.forms.indices.Given as goal

-- the indices so far, and those that are left to read, are all
abbrev pub invariant-loop-word : goal.invariant-loop-word
invariant-loop-word l = record {
  read : after_read l.indices.items (read_all index l.words) ≡ after_read (l.fn.first ∷ [])
      (read_all index l.fn.words);
  some : 0 < length l.indices.items;
}

abbrev pub decreases-loop-word : goal.decreases-loop-word
decreases-loop-word l = length l.words
