use Rattle.std.proofs.Common.{◌≡◌, ℕ, ◌<◌, true, take}
use Rattle.ssz_gindex.specs.Laws.{contains}
use Rattle.ssz_gindex.proofs.walk.are_positive.Given as goal

abbrev pub invariant-loop-index : goal.invariant-loop-index
invariant-loop-index l = (k : ℕ) → contains (take l.index-index l.indices) k ≡ true → 0 < k
