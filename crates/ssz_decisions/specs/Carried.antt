-- What a decision leaves that is carried out.
use Rattle.std.specs.Prelude.{◌≡◌, ℕ, List, ◌++◌, Option, Some, None}
use Rattle.ssz_outside.specs.Content.{Content as Files, told_with_bytes}
use Rattle.ssz_outside.specs.Outcome.{WritesPart}
use Rattle.ssz_arena.specs.declared.node.NodeId.{NodeId}
use Rattle.ssz_script.specs.declared.reply.Reply.{Reply}
use Rattle.ssz_script.specs.declared.reply.Reply.TheVariants as reply
use Rattle.ssz_script.specs.declared.reply.TheConstants.Reply.{BAD_LITERAL}
use Rattle.ssz_script.specs.Texts.{reply_line}
use Rattle.ssz_versions.specs.Content.{Entries, Held, held_at, with_held, without_held}
use Rattle.ssz_machine.specs.State.{Name}
use Rattle.ssz_decisions.specs.declared.decision.Decision.{Decision}
use Rattle.ssz_decisions.specs.declared.decision.Decision.TheVariants as decision
use Rattle.ssz_decisions.specs.declared.outcome.Outcome.{Outcome}
use Rattle.ssz_decisions.specs.declared.outcome.Outcome.TheVariants.{Accepted, Refused}
use Rattle.ssz_decisions.specs.declared.fault.EngineFault.{EngineFault}
use Rattle.ssz_decisions.specs.declared.fault.EngineFault.TheVariants.{Read, Write, Memory}

-- the entry has its type and another node
abbrev pub Edits : Entries → Entries → ℕ → Name → NodeId → Type 0
Edits old new writer name node =
    (held : Held) × (held_at old writer name ≡ Some held)
    × (new ≡ with_held old writer name (held.0, node))

-- what a decision that is carried out does to the entries
abbrev pub DecisionDoes : Decision → ℕ → Entries → Entries → Type 0
DecisionDoes (decision.Refused code) writer old new = new ≡ old
DecisionDoes (decision.BadBytes fault) writer old new = new ≡ old
DecisionDoes (decision.BadJson fault) writer old new = new ≡ old
DecisionDoes (decision.Said reply) writer old new = new ≡ old
DecisionDoes (decision.Made name id node room) writer old new =
    new ≡ with_held old writer name.now (id, node)
DecisionDoes (decision.Edited name node) writer old new = Edits old new writer name.now node
DecisionDoes (decision.Dropped name) writer old new = new ≡ without_held old writer name.now
DecisionDoes (decision.Saved name bytes) writer old new = new ≡ old

-- the reply to the statement of this line
abbrev pub reply_to : ℕ → Decision → Reply
reply_to line (decision.Refused code) = reply.Refused line code None
reply_to line (decision.BadBytes fault) = reply.Refused line BAD_LITERAL (Some fault)
reply_to line (decision.BadJson fault) = reply.BadJson line fault.code fault.number
reply_to line (decision.Said said) = said
reply_to line (decision.Made name id node room) = reply.Done
reply_to line (decision.Edited name node) = reply.Done
reply_to line (decision.Dropped name) = reply.Done
reply_to line (decision.Saved name bytes) = reply.Done

-- a refusal changes nothing
abbrev pub outcome_of : Decision → Outcome
outcome_of (decision.Refused code) = Refused
outcome_of (decision.BadBytes fault) = Refused
outcome_of (decision.BadJson fault) = Refused
outcome_of (decision.Said reply) = Accepted
outcome_of (decision.Made name id node room) = Accepted
outcome_of (decision.Edited name node) = Accepted
outcome_of (decision.Dropped name) = Accepted
outcome_of (decision.Saved name bytes) = Accepted

-- what the files then tell
abbrev pub told_after : Decision → Option Files → Option Files
told_after (decision.Saved name bytes) told = told_with_bytes name.now bytes.items told
told_after _ told = told

-- A decision was carried out.
pub record IsCarriedOut (made : Decision) (writer line : ℕ) (old new : Entries) (done : Outcome)
    (told_old told_new : Option Files) (out_old out_new : List ℕ) : Type 0 where
  pub entries : DecisionDoes made writer old new
  pub outcome : done ≡ outcome_of made
  pub files : told_new ≡ told_after made told_old
  pub text : out_new ≡ out_old ++ reply_line (reply_to line made)

-- A decision was carried out, and this is the reply.
pub record IsAnswered (made : Decision) (writer line : ℕ) (old new : Entries)
    (told_old told_new : Option Files) (reply : Reply) : Type 0 where
  pub entries : DecisionDoes made writer old new
  pub files : told_new ≡ told_after made told_old
  pub says : reply ≡ reply_to line made

-- What is left of the files where a decision was not carried out: only a save can fail in writing.
abbrev pub Fails : EngineFault → Decision → Option Files → Option Files → Type 0
Fails Read made old new = ⊥
Fails Memory made old new = new ≡ old
Fails Write (decision.Refused code) old new = ⊥
Fails Write (decision.BadBytes fault) old new = ⊥
Fails Write (decision.BadJson fault) old new = ⊥
Fails Write (decision.Said reply) old new = ⊥
Fails Write (decision.Made name id node room) old new = ⊥
Fails Write (decision.Edited name node) old new = ⊥
Fails Write (decision.Dropped name) old new = ⊥
Fails Write (decision.Saved name bytes) old new = WritesPart name.now bytes.items old new

-- What may lack memory: a decision that makes, edits or drops a version has all that it takes.
abbrev pub CanLack : Decision → Type 0
CanLack (decision.Made name id node room) = ⊥
CanLack (decision.Edited name node) = ⊥
CanLack (decision.Dropped name) = ⊥
CanLack made = Unit {0}
