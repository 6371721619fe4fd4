-- Proofs as arrays: chunks with their generalized indices, each index in two halves.
use Rattle.std.specs.Prelude.{◌≡◌, ◌≢◌, ◌⊎◌, ℕ, ◌+◌, ◌*◌, ◌/◌, ◌%◌, ◌^◌, ◌==◌, if◌then◌else◌, List, [], ◌∷◌, ◌++◌, map, length, Option, Some, None, Ok, Err}
use Rattle.ssz_line.specs.declared.index.Index.{Index}
use Rattle.ssz_line.specs.declared.index.Index.TheVariants.{Number}
use Rattle.ssz_proof.specs.declared.entry.Entry.{Entry}
use Rattle.ssz_proof.specs.Calculation.{Known}
use Rattle.ssz_proof.specs.Multiproof.{IsMultiproof, IsProofOf, Multiproof}
use Rattle.ssz_proof.specs.Text.{IsReadAs, IsRefused as IsNoProof}
use Rattle.ssz_script.specs.declared.reply.Reply.{Reply}
use Rattle.ssz_script.specs.declared.reply.Reply.TheVariants as reply
use Rattle.ssz_script.specs.declared.statement.Statement.{Statement}
use Rattle.ssz_script.specs.declared.statement.Statement.TheVariants as says
use Rattle.ssz_said.specs.declared.entries.SszEntry.{SszEntry}
use Rattle.ssz_said.specs.declared.entries.SszIndex.{SszIndex}
use Rattle.ssz_said.specs.declared.fault.SszFault.{SszFault}
use Rattle.ssz_said.specs.declared.status.TheConstants.{BAD_PROOF, NO_MEMORY, REFUSED, SYNTAX}
use Rattle.ssz_said.specs.declared.verdict.Verdict.{Verdict}
use Rattle.ssz_said.specs.declared.verdict.Verdict.TheVariants.{Holds, Unlike, BadProof, TooLong, Memory}
use Rattle.ssz_said.specs.Outcome.{CallOutcome, ◌>>=◌, IsCopied, refused}
use Rattle.ssz_said.specs.Texts.{name_in}
use Rattle.ssz_said.specs.Verdict.{sha_root_of, verdict_status}

-- a number in two halves, and the number of two halves
abbrev pub index_parts : ℕ → SszIndex
index_parts n = record { low = n % 2 ^ 64; high = n / 2 ^ 64 }

abbrev pub index_whole : SszIndex → ℕ
index_whole index = index.low + 2 ^ 64 * index.high

-- a chunk of a proof as C has it, and the other way round
abbrev pub entry_shown : Entry → SszEntry
entry_shown entry = record { index = index_parts entry.index; chunk = entry.chunk.0 }

abbrev pub entry_said : SszEntry → Entry
entry_said entry =
    record { index = index_whole entry.index; chunk = record { 0 = entry.chunk } }

-- the chunks of an array behind those before, or none where an index is 0
abbrev pub said_behind : Known → List SszEntry → Option Known
said_behind known [] = Some known
said_behind known (entry ∷ entries) =
    if index_whole entry.index == 0 then None
    else said_behind (known ++ entry_said entry ∷ []) entries

-- the leaves and nodes of two arrays
abbrev pub lists_said : List SszEntry → List SszEntry → Option Multiproof
lists_said leaves nodes = both (said_behind [] leaves) (said_behind [] nodes)
  where
    both : Option Known → Option Known → Option Multiproof
    both (Some leaves) (Some nodes) = Some (record { leaves = leaves; nodes = nodes })
    both leaves nodes = None

-- two arrays that are the arrays of a multiproof, or of none
pub record EntriesSay (leaves nodes : List SszEntry) (proof : Multiproof) : Type 0 where
  pub lists : Multiproof
  pub says : lists_said leaves nodes ≡ Some lists
  pub is : IsProofOf lists proof

abbrev pub EntriesSayNone : List SszEntry → List SszEntry → Type 0
EntriesSayNone leaves nodes =
    (lists : Multiproof) → lists_said leaves nodes ≡ Some lists → ¬ IsMultiproof lists

-- what a verdict says of a root and two arrays
abbrev pub JudgesEntries : Verdict → List ℕ → List SszEntry → List SszEntry → Type 0
JudgesEntries Holds root leaves nodes =
    (proof : Multiproof) × EntriesSay leaves nodes proof × (sha_root_of proof ≡ root)
JudgesEntries Unlike root leaves nodes =
    (proof : Multiproof) × EntriesSay leaves nodes proof × (sha_root_of proof ≢ root)
JudgesEntries BadProof root leaves nodes = EntriesSayNone leaves nodes
JudgesEntries TooLong root leaves nodes = ⊥
JudgesEntries Memory root leaves nodes = Unit {0}

-- a status that says so
abbrev pub IsEntriesVerdict : ℕ → List ℕ → List SszEntry → List SszEntry → Type 0
IsEntriesVerdict status root leaves nodes =
    (verdict : Verdict) × (status ≡ verdict_status verdict)
    × JudgesEntries verdict root leaves nodes

-- numbers as indices of a statement
abbrev pub numbers_said : List SszIndex → List Index
numbers_said indices = map (λ index. Number (index_whole index)) indices

-- `prove V I ..`, of one index or more, each a number
abbrev pub prove_all_said : List ℕ → List SszIndex → CallOutcome Statement
prove_all_said v [] = Err (refused SYNTAX)
prove_all_said v (index ∷ indices) = do
  version ← name_in v
  Ok (says.Prove version (numbers_said (index ∷ indices)))

-- the multiproof that is answered, or why there is none; no reply but a proof's is that of `prove`
abbrev pub IsProofReply : CallOutcome Reply → CallOutcome Multiproof → Type 0
IsProofReply (Err why) proof = proof ≡ Err why
IsProofReply (Ok (reply.Proof text)) (Ok proof) = IsReadAs text proof
IsProofReply (Ok (reply.Proof text)) (Err why) =
    (why ≡ refused NO_MEMORY) ⊎ ((why ≡ refused BAD_PROOF) × IsNoProof text)
IsProofReply (Ok other) proof = proof ≡ Err (refused REFUSED)

-- the leaves, how many they are, and then the nodes
abbrev pub all_shown : Multiproof → List SszEntry
all_shown proof = map entry_shown proof.leaves ++ map entry_shown proof.nodes

-- what stands behind the pointers after a call, and the fault: the leaves and nodes in front of
-- what stood there, where there is room for them, and in any case how many they are; memory may run
-- out
abbrev pub AreEntriesShown : List SszEntry → List SszEntry → ℕ → ℕ → ℕ → ℕ → SszFault
    → CallOutcome Multiproof → Type 0
AreEntriesShown old new leaves_before leaves before len fault (Err why) =
    (new ≡ old) × (leaves ≡ leaves_before) × (len ≡ before) × (fault ≡ why)
AreEntriesShown old new leaves_before leaves before len fault (Ok proof) =
    ((fault ≡ refused NO_MEMORY) × (new ≡ old) × (leaves ≡ leaves_before) × (len ≡ before))
    ⊎ ((leaves ≡ length proof.leaves) × IsCopied old new before len fault (Ok (all_shown proof)))

-- so it is of the proof that is answered
abbrev pub IsProofShown : List SszEntry → List SszEntry → ℕ → ℕ → ℕ → ℕ → SszFault
    → CallOutcome Reply → Type 0
IsProofShown old new leaves_before leaves before len fault answer =
    (proof : CallOutcome Multiproof) × IsProofReply answer proof
    × AreEntriesShown old new leaves_before leaves before len fault proof
