-- The chunks from which the root of a version can be calculated.
use Rattle.std.specs.Prelude.{◌≡◌, ◌⊎◌, ℕ, List, [], ◌∷◌, ◌++◌, Ok, Err}
use Rattle.std.specs.List.{flat_map}
use Rattle.ssz_proof.specs.Calculation.{Known}
use Rattle.ssz_proof.specs.Multiproof.{Multiproof}
use Rattle.ssz_proof.specs.Text.{IsReadAs, IsRefused}
use Rattle.ssz_script.specs.declared.reply.Reply.{Reply}
use Rattle.ssz_script.specs.declared.reply.Reply.TheVariants as reply
use Rattle.ssz_script.specs.declared.statement.Statement.{Statement}
use Rattle.ssz_script.specs.declared.statement.Statement.TheVariants as says
use Rattle.ssz_said.specs.declared.status.TheConstants.{BAD_PROOF, NO_MEMORY, REFUSED}
use Rattle.ssz_said.specs.declared.fault.SszFault.{SszFault}
use Rattle.ssz_said.specs.Outcome.{CallOutcome, ◌>>=◌, IsCopied, refused}
use Rattle.ssz_said.specs.Texts.{index_in, name_in}

-- `prove V I`, of one index
abbrev pub prove_said : List ℕ → List ℕ → CallOutcome Statement
prove_said v asked = do
  version ← name_in v
  one ← index_in asked
  Ok (says.Prove version (one ∷ []))

-- the chunks of entries
abbrev pub chunks_in : Known → List ℕ
chunks_in known = flat_map (λ entry. entry.chunk.0) known

-- The chunk at the index, and those beside its way to the root from below; or why there are none.
-- No reply but a proof's is that of `prove`.
abbrev pub IsBranchIn : CallOutcome Reply → CallOutcome (List ℕ) → Type 0
IsBranchIn (Err why) branch = branch ≡ Err why
IsBranchIn (Ok (reply.Proof text)) (Ok bytes) =
    (proof : Multiproof) × IsReadAs text proof
    × (bytes ≡ chunks_in proof.leaves ++ chunks_in proof.nodes)
IsBranchIn (Ok (reply.Proof text)) (Err why) =
    (why ≡ refused NO_MEMORY) ⊎ ((why ≡ refused BAD_PROOF) × IsRefused text)
IsBranchIn (Ok other) branch = branch ≡ Err (refused REFUSED)

-- they were copied to a room
abbrev pub IsBranchCopied : List ℕ → List ℕ → ℕ → ℕ → SszFault → CallOutcome Reply → Type 0
IsBranchCopied old new before len fault answer =
    (branch : CallOutcome (List ℕ)) × IsBranchIn answer branch
    × IsCopied old new before len fault branch
