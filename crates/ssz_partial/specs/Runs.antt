-- Calls of a partial tree one after the other, beside a value whose tree it is a part of.
use Rattle.std.specs.Prelude.{◌≡◌, List, [], ◌∷◌, Result, Ok, Err, ⊤}
use Rattle.ssz_schema.specs.format.Format.{Format}
use Rattle.ssz_schema.specs.Types.{SszType}
use Rattle.ssz_schema.specs.Paths.{Path}
use Rattle.ssz_value.specs.Values.{SszValue}
use Rattle.ssz_value.specs.Trees.{hash_tree_root}
use Rattle.ssz_value.specs.Edits.{set_at}
use Rattle.ssz_proof.specs.Calculation.{PairOf, calculate_root}
use Rattle.ssz_proof.specs.Multiproof.{Multiproof, known_of}
use Rattle.ssz_partial.specs.declared.fault.PartialFault.{PartialFault}
use Rattle.ssz_partial.specs.Partial.{got, set_to, FitsAt}
use Rattle.ssz_partial.specs.Laws.{HasKnown, IsGot}

-- a part is read, or set
pub data Call : Type 0 where
  reads : Path → Call
  sets : Path → SszValue → Call

-- the values that are set fit where they are set
abbrev pub AllFit : SszType → List Call → Type 0
AllFit t [] = ⊤
AllFit t (reads path ∷ calls) = AllFit t calls
AllFit t (sets path x ∷ calls) = FitsAt t path x × AllFit t calls

-- what is set is set in the value, from which the calls after it go on; a refusal changes nothing
abbrev pub IsSet : SszType → SszValue → Path → SszValue → (SszValue → Multiproof → Type 0)
    → Type 0 → Result Multiproof PartialFault → Type 0
IsSet t v path x after same (Ok new) =
    (result : SszValue) × (set_at t v path x ≡ Ok result) × after result new
IsSet t v path x after same (Err fault) = same

-- what the calls tell and set, and after all of them what is known and the root
abbrev pub RunsAlong : PairOf → Format → SszType → List Call → SszValue → Multiproof → Type 0
RunsAlong pair_of format t [] v proof =
    HasKnown pair_of format t v proof
    × (calculate_root pair_of (known_of proof) 1 ≡ hash_tree_root pair_of t v)
RunsAlong pair_of format t (reads path ∷ calls) v proof =
    IsGot t v path (got (known_of proof) t path) × RunsAlong pair_of format t calls v proof
RunsAlong pair_of format t (sets path x ∷ calls) v proof =
    IsSet t v path x (RunsAlong pair_of format t calls) (RunsAlong pair_of format t calls v proof)
    (set_to proof t path x)

-- any calls go along with every value whose tree has the chunks that are known first
abbrev pub LawOfRuns : Type 0
LawOfRuns =
    (pair_of : PairOf) (format : Format) (t : SszType) (v : SszValue) (proof : Multiproof)
    (calls : List Call) → HasKnown pair_of format t v proof → AllFit t calls
    → RunsAlong pair_of format t calls v proof
