-- Whether a proof leads to a root.
use Rattle.std.specs.Prelude.{◌≡◌, ◌≢◌, ℕ, ◌<◌, ◌≤◌, List, length}
use Rattle.ssz_chunk.specs.Chunk.{sha_pair}
use Rattle.ssz_proof.specs.Calculation.{calculate_root}
use Rattle.ssz_proof.specs.Multiproof.{Multiproof, known_of}
use Rattle.ssz_proof.specs.Text.{IsReadAs, IsRefused}
use Rattle.ssz_said.specs.declared.status.TheConstants.{OK, UNLIKE, BAD_PROOF, TOO_LONG, NO_MEMORY}
use Rattle.ssz_said.specs.declared.status.TheConstants.{MOST_TEXT}
use Rattle.ssz_said.specs.declared.verdict.Verdict.{Verdict}
use Rattle.ssz_said.specs.declared.verdict.Verdict.TheVariants.{Holds, Unlike, BadProof, TooLong}
use Rattle.ssz_said.specs.declared.verdict.Verdict.TheVariants.{Memory}

-- the root that a proof leads to
abbrev pub sha_root_of : Multiproof → List ℕ
sha_root_of proof = calculate_root sha_pair (known_of proof) 1

-- what a verdict says of a root and a text
abbrev pub Judges : Verdict → List ℕ → List ℕ → Type 0
Judges Holds root text =
    (length text ≤ MOST_TEXT)
    × ((proof : Multiproof) × IsReadAs text proof × (sha_root_of proof ≡ root))
Judges Unlike root text =
    (length text ≤ MOST_TEXT)
    × ((proof : Multiproof) × IsReadAs text proof × (sha_root_of proof ≢ root))
Judges BadProof root text = (length text ≤ MOST_TEXT) × IsRefused text
Judges TooLong root text = MOST_TEXT < length text
Judges Memory root text = length text ≤ MOST_TEXT

-- its status
abbrev pub verdict_status : Verdict → ℕ
verdict_status Holds = OK
verdict_status Unlike = UNLIKE
verdict_status BadProof = BAD_PROOF
verdict_status TooLong = TOO_LONG
verdict_status Memory = NO_MEMORY

-- a status that says so
abbrev pub IsVerdict : ℕ → List ℕ → List ℕ → Type 0
IsVerdict status root text =
    (verdict : Verdict) × (status ≡ verdict_status verdict) × Judges verdict root text
