-- Whether a branch leads from a leaf to a root (ssz/merkle-proofs.md, verify_merkle_proof).
use Rattle.std.specs.Prelude.{◌≡◌, ◌≢◌, ℕ, zero, suc, ◌*◌, ◌/◌, ◌%◌, ◌<◌, ◌==◌, if◌then◌else◌, List, length}
use Rattle.ssz_chunk.specs.Chunk.{sha_pair}
use Rattle.ssz_chunk.specs.Index.{levels}
use Rattle.ssz_merkle.specs.Packing.{packed_chunk}
use Rattle.ssz_said.specs.declared.entries.SszIndex.{SszIndex}
use Rattle.ssz_said.specs.declared.verdict.Verdict.{Verdict}
use Rattle.ssz_said.specs.declared.verdict.Verdict.TheVariants.{Holds, Unlike, BadProof, TooLong, Memory}
use Rattle.ssz_said.specs.Entries.{index_whole}
use Rattle.ssz_said.specs.Verdict.{verdict_status}

-- an index so many levels up
abbrev pub index_up : ℕ → ℕ → ℕ
index_up zero index = index
index_up (suc up) index = index_up up index / 2

-- the chunk so many levels above a leaf, of which the branch's chunks are the neighbours from below
abbrev pub climbed : ℕ → List ℕ → ℕ → List ℕ → List ℕ
climbed zero leaf index branch = leaf
climbed (suc up) leaf index branch =
    let below = climbed up leaf index branch in
    let beside = packed_chunk branch up in
    if index_up up index % 2 == 1 then sha_pair beside below else sha_pair below beside

-- the chunk at the top (calculate_merkle_root)
abbrev pub top_of : List ℕ → ℕ → List ℕ → List ℕ
top_of leaf index branch = climbed (levels index) leaf index branch

-- a branch of an index has one chunk for each level, and no index is 0
abbrev pub IsBranchOf : ℕ → List ℕ → Type 0
IsBranchOf index branch = (0 < index) × (length branch ≡ 32 * levels index)

-- what a verdict says of a branch: it is one of the index, and leads to the root or to another one
abbrev pub JudgesBranch : Verdict → List ℕ → List ℕ → SszIndex → List ℕ → Type 0
JudgesBranch Holds root leaf index branch =
    IsBranchOf (index_whole index) branch × (top_of leaf (index_whole index) branch ≡ root)
JudgesBranch Unlike root leaf index branch =
    IsBranchOf (index_whole index) branch × (top_of leaf (index_whole index) branch ≢ root)
JudgesBranch BadProof root leaf index branch = ¬ IsBranchOf (index_whole index) branch
JudgesBranch TooLong root leaf index branch = ⊥
JudgesBranch Memory root leaf index branch = ⊥

-- a status that says so
abbrev pub IsBranchVerdict : ℕ → List ℕ → List ℕ → SszIndex → List ℕ → Type 0
IsBranchVerdict status root leaf index branch =
    (verdict : Verdict) × (status ≡ verdict_status verdict)
    × JudgesBranch verdict root leaf index branch
