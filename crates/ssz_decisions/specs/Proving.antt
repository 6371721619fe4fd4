-- What `prove` says, by the tree of a version and the numbers of the indices that are asked.
use Rattle.std.specs.Prelude.{◌≡◌, ◌⊎◌, ℕ, is_none, not, List, Contains, Ok, Err}
use Rattle.std.specs.List.{list_any}
use Rattle.ssz_chunk.specs.Tree.{Tree}
use Rattle.ssz_chunk.specs.Index.{at}
use Rattle.ssz_schema.specs.Types.{SszType}
use Rattle.ssz_line.specs.declared.index.Index.{Index}
use Rattle.ssz_proof.specs.Calculation.{PairOf}
use Rattle.ssz_proof.specs.Judgement.{are_flat}
use Rattle.ssz_proof.specs.Text.{multiproof_text}
use Rattle.ssz_script.specs.declared.reply.Reply.TheVariants.{Proof}
use Rattle.ssz_script.specs.declared.reply.TheConstants.Reply.{BAD_PATH, NO_NODE, NESTED}
use Rattle.ssz_machine.specs.State.{Versions}
use Rattle.ssz_machine.specs.Rules.{Row, ◌>>◌, coded, refuse, says_reply}
use Rattle.ssz_machine.specs.Asking.{asked_indices, ascending, proof_of}
use Rattle.ssz_decisions.specs.declared.decision.Decision.{Decision}
use Rattle.ssz_decisions.specs.declared.decision.Decision.TheVariants as decision

-- what is said of these numbers of a tree
abbrev pub proved : PairOf → Tree → Versions → List ℕ → Row
proved pair_of t versions asked =
    refuse NO_NODE (list_any (λ g. is_none (at t g)) asked)
    >> (refuse NESTED (not (are_flat asked))
    >> says_reply versions (Proof (multiproof_text (proof_of pair_of t (ascending asked)))))

-- a decision says it
abbrev pub Proves : PairOf → Tree → List ℕ → Decision → Type 0
Proves pair_of t asked (decision.Refused code) =
    (versions : Versions) → proved pair_of t versions asked ≡ Err (coded code)
Proves pair_of t asked (decision.Said reply) =
    (versions : Versions) → proved pair_of t versions asked ≡ says_reply versions reply
Proves pair_of t asked (decision.BadBytes fault) = ⊥
Proves pair_of t asked (decision.BadJson fault) = ⊥
Proves pair_of t asked (decision.Made name id node room) = ⊥
Proves pair_of t asked (decision.Edited name node) = ⊥
Proves pair_of t asked (decision.Dropped name) = ⊥
Proves pair_of t asked (decision.Saved name bytes) = ⊥

-- the number of one of the indices is 0, which is of no node
pub record HasZero (t : SszType) (indices : List Index) : Type 0 where
  pub numbers : List ℕ
  pub asked : Ok numbers ≡ asked_indices t indices
  pub zero : Contains numbers 0

-- by the type alone it is known that there is no node at one of the indices
abbrev pub IsNowhere : SszType → List Index → ℕ → Type 0
IsNowhere t indices code =
    ((code ≡ BAD_PATH) × (asked_indices t indices ≡ Err (coded BAD_PATH)))
    ⊎ ((code ≡ NO_NODE) × HasZero t indices)
