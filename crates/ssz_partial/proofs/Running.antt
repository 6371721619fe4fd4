-- Any calls go along with a value.
use Rattle.std.proofs.Common.{◌≡◌, List, [], ◌∷◌, Result, Ok, Err, refl}
use Rattle.ssz_schema.specs.format.Format.{Format}
use Rattle.ssz_schema.specs.Types.{SszType}
use Rattle.ssz_schema.specs.Paths.{Path}
use Rattle.ssz_value.specs.Values.{SszValue}
use Rattle.ssz_proof.specs.Calculation.{PairOf}
use Rattle.ssz_proof.specs.Multiproof.{Multiproof}
use Rattle.ssz_partial.specs.declared.fault.PartialFault.{PartialFault}
use Rattle.ssz_partial.specs.Partial.{set_to}
use Rattle.ssz_partial.specs.Laws.{HasKnown}
use Rattle.ssz_partial.specs.Runs.{Call, reads, sets, AllFit, IsSet, RunsAlong, LawOfRuns}
use Rattle.ssz_partial.proofs.Values.{gets_are_parts, roots_are_roots}
use Rattle.ssz_partial.proofs.Setting.{sets_are_edits}

set_of : (pair_of : PairOf) (format : Format) (t : SszType) (v : SszValue) (proof : Multiproof)
    (path : Path) (x : SszValue) (calls : List Call) (made : Result Multiproof PartialFault)
    → HasKnown pair_of format t v proof → AllFit t (sets path x ∷ calls)
    → set_to proof t path x ≡ made
    → ((w : SszValue) (new : Multiproof) → HasKnown pair_of format t w new
    → RunsAlong pair_of format t calls w new)
    → IsSet t v path x (RunsAlong pair_of format t calls)
    (RunsAlong pair_of format t calls v proof) made
set_of pair_of format t v proof path x calls (Ok new) has fit e go =
    let edited = sets_are_edits pair_of format t v proof path x new has fit.0 e in
    (edited.0, edited.1, go edited.0 new edited.2)
set_of pair_of format t v proof path x calls (Err fault) has fit e go = go v proof has

pub runs_go_along : LawOfRuns
runs_go_along pair_of format t v proof [] has fit =
    (has, roots_are_roots pair_of format t v proof has)
runs_go_along pair_of format t v proof (reads path ∷ calls) has fit = (
  gets_are_parts pair_of format t v proof path has,
  runs_go_along pair_of format t v proof calls has fit,
)
runs_go_along pair_of format t v proof (sets path x ∷ calls) has fit =
    set_of pair_of format t v proof path x calls (set_to proof t path x) has fit refl
    (λ w new known. runs_go_along pair_of format t w new calls known fit.1)
