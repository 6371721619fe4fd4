use Rattle.std.proofs.Common.{◌≡◌, ◌<◌, ℕ, get_or}
use Rattle.ssz_proof.specs.Calculation.{indices_of}
use Rattle.ssz_clash.proofs.places.same_places.Given as goal

abbrev pub invariant-loop-i : goal.invariant-loop-i
invariant-loop-i l =
    (k : ℕ) → k < l.i → get_or (indices_of l.first) k 0 ≡ get_or (indices_of l.second) k 0
