-- A decision that is carried out is an answer.
use Rattle.std.proofs.lemmas.Bool.{false≢true}
use Rattle.std.proofs.Common.{◌≡◌, ◌-◌, ℕ, [], Option, refl, sym, ap, subst, ◌∙◌}
use Rattle.ssz_outside.specs.Content.{Content as Files}
use Rattle.ssz_proof.specs.Calculation.{PairOf}
use Rattle.ssz_script.specs.declared.statement.Statement.{Statement}
use Rattle.ssz_script.specs.declared.statement.Statement.TheVariants.{Compact}
use Rattle.ssz_script.specs.declared.reply.Reply.{Reply}
use Rattle.ssz_script.specs.declared.reply.Reply.TheVariants.{Done}
use Rattle.ssz_script.specs.Texts.{reply_line}
use Rattle.ssz_versions.specs.Content.{Entries, with_held, without_held}
use Rattle.ssz_versions.specs.Compacted.{IsCompacted}
use Rattle.ssz_machine.specs.declared.place.Place.{Place}
use Rattle.ssz_machine.specs.State.{Versions}
use Rattle.ssz_machine.specs.Rules.{Row}
use Rattle.ssz_machine.specs.Machine.{reply_in}
use Rattle.ssz_machine.specs.Changes.{Touch, touch}
use Rattle.ssz_engine.specs.Answered.{DoesAnswer, Effects}
use Rattle.ssz_decisions.specs.Content.{EngineContent, Grows, SameNodes, KeepsEngine}
use Rattle.ssz_decisions.specs.Decisions.{DecidesRow, IsOf, MakesFork}
use Rattle.ssz_decisions.specs.Carried.{DecisionDoes, IsCarriedOut, outcome_of, reply_to, IsAnswered}
use Rattle.ssz_decisions.specs.Roots.{LeavesHashed}
use Rattle.ssz_engine.specs.Steps.{Decides, MakesUpgrade, Touches, TouchesWhere}
use Rattle.ssz_engine.specs.Tops.{MakesTop}
use Rattle.ssz_decisions.specs.declared.decision.Decision.{Decision}
use Rattle.ssz_decisions.specs.declared.decision.Decision.TheVariants as decision
use Rattle.ssz_decisions.specs.declared.outcome.Outcome.TheVariants.{Accepted, Refused}
use Rattle.ssz_engine.proofs.Forking.{forks}
use Rattle.ssz_engine.proofs.Moving.{compact-step}
use Rattle.ssz_engine.proofs.Rooting.{roots}
use Rattle.ssz_engine.proofs.Stepping.{does-step}
use Rattle.ssz_engine.proofs.TopSteps.{tops}
use Rattle.ssz_engine.proofs.UpgradeSteps.{upgrades}

-- the reply to a decision is that of the row which it comes to
pub replies-as : (old new : EngineContent) (before after writer line : ℕ) (versions : Versions)
    (row : Row) (made : Decision) → DecidesRow old new before after writer versions row made
    → reply_to line made ≡ reply_in line row
replies-as old new before after writer line versions row (decision.Refused code) comes =
    sym (ap (reply_in line) comes)
replies-as old new before after writer line versions row (decision.BadBytes fault) comes =
    sym (ap (reply_in line) comes)
replies-as old new before after writer line versions row (decision.BadJson fault) comes =
    sym (ap (reply_in line) comes)
replies-as old new before after writer line versions row (decision.Said reply) comes =
    sym (ap (reply_in line) comes)
replies-as old new before after writer line versions row (decision.Made name id node room) comes =
    sym (ap (reply_in line) comes.row)
replies-as old new before after writer line versions row (decision.Edited name node) comes =
    sym (ap (reply_in line) comes.row)
replies-as old new before after writer line versions row (decision.Dropped name) comes =
    sym (ap (reply_in line) comes)
replies-as old new before after writer line versions row (decision.Saved name bytes) comes =
    sym (ap (reply_in line) comes)

-- a decision that is carried out changes what its statement touches
touched : (made : Decision) (does : Touch) (writer : ℕ) (first mid new : Entries) → mid ≡ first
    → IsOf does made → DecisionDoes made writer mid new
    → TouchesWhere (outcome_of made) does writer first new
touched (decision.Refused code) does writer first mid new same of out = out ∙ same
touched (decision.BadBytes fault) does writer first mid new same of out = out ∙ same
touched (decision.BadJson fault) does writer first mid new same of out = out ∙ same
touched (decision.Said reply) does writer first mid new same of out =
    subst (λ (t : Touch). Touches t writer first new) (sym of) (out ∙ same)
touched (decision.Made name id node room) does writer first mid new same of out =
    subst (λ (t : Touch). Touches t writer first new) (sym of)
    ((id, node), out ∙ ap (λ (es : Entries). with_held es writer name.now (id, node)) same)
touched (decision.Edited name node) does writer first mid new same of out =
    subst (λ (t : Touch). Touches t writer first new) (sym of) (
      (out.0.0, node),
      out.2 ∙ ap (λ (es : Entries). with_held es writer name.now (out.0.0, node)) same,
    )
touched (decision.Dropped name) does writer first mid new same of out =
    subst (λ (t : Touch). Touches t writer first new) (sym of)
    (out ∙ ap (λ (es : Entries). without_held es writer name.now) same)
touched (decision.Saved name bytes) does writer first mid new same of out =
    subst (λ (t : Touch). Touches t writer first new) (sym of) (out ∙ same)

module _ (first mid new : EngineContent) (grows : Grows first mid) (same : SameNodes mid new)
    (before after writer line : ℕ) (told_old told_new : Option Files) (pair_of : PairOf)
    (place : Place) (statement : Statement) (made : Decision)
    (found : Decides pair_of place statement writer (before - first.base) told_old first mid before
    after made) (forked : MakesFork statement writer first.entries made)
    (upgraded : MakesUpgrade statement writer first mid made)
    (topped : MakesTop statement writer first mid made)
    (rooted : LeavesHashed statement writer mid)
    (still : outcome_of made ≡ Refused → after ≡ before) where
  -- it is carried out, with the reply's line alone
  carried : (reply : Reply)
      → IsAnswered made writer line mid.entries new.entries told_old told_new reply
      → IsCarriedOut made writer line mid.entries new.entries (outcome_of made) told_old told_new []
      (reply_line (reply_to line made))
  carried reply out = record {
    entries = out.entries;
    outcome = refl;
    files = out.files;
    text = refl;
  }

  effects : (reply : Reply)
      → IsAnswered made writer line mid.entries new.entries told_old told_new reply
      → Effects statement writer first new (outcome_of made)
  effects reply out = record {
    entries = λ other. touched made (touch statement) writer first.entries mid.entries new.entries
        grows.entries found.answers.of out.entries;
    forks = forks made writer line first.entries mid.entries new.entries (outcome_of made) told_old
        told_new [] (reply_line (reply_to line made)) grows.entries (carried reply out) statement
        forked;
    upgrades = upgrades writer line first mid new same told_old told_new []
        (reply_line (reply_to line made)) made (outcome_of made) statement upgraded
        (carried reply out);
    roots = roots made writer line mid new same (outcome_of made) told_old told_new []
        (reply_line (reply_to line made)) (carried reply out) statement found.answers.of rooted;
    tops = tops writer line first mid new same told_old told_new []
        (reply_line (reply_to line made)) made (outcome_of made) statement found.answers.of topped
        (carried reply out);
  }

  -- so a decision that is carried out answers as the machine
  answers : (reply : Reply)
      → IsAnswered made writer line mid.entries new.entries told_old told_new reply
      → DoesAnswer pair_of place writer line statement first new before after told_old told_new
      (reply_to line made)
  unfolding does-step
  answers reply out =
      let step = does-step first mid new grows same before after writer line (outcome_of made)
      told_old told_new [] (reply_line (reply_to line made)) pair_of place statement made found
      (carried reply out) in
      record {
        made = outcome_of made;
        step = step;
        turns = λ versions stands.
            let comes = found.answers.comes (versions writer) (stands.each writer) in
            let left = step.leaves versions stands in
            record {
              says = replies-as first mid before after writer line (versions writer) _ made comes;
              versions = left.versions;
              files = left.files;
            };
        effects = effects reply out;
        refused = still;
      }

  pub does-answer : (reply : Reply)
      → IsAnswered made writer line mid.entries new.entries told_old told_new reply
      → DoesAnswer pair_of place writer line statement first new before after told_old told_new
      reply
  does-answer reply out =
      subst (DoesAnswer pair_of place writer line statement first new before after told_old
      told_new) (sym out.says) (answers reply out)

-- and so does a compaction
pub compact-answer : (first new : EngineContent) → KeepsEngine first new
    → IsCompacted first.entries new.entries first.arena new.arena
    → (pair_of : PairOf) (place : Place) (writer line count : ℕ) (told : Option Files)
    → DoesAnswer pair_of place writer line Compact first new count count told told Done
compact-answer first new keeps is pair_of place writer line count told =
    let step = compact-step first new keeps is pair_of place writer line count told []
    (reply_line Done) refl in
    record {
      made = Accepted;
      step = step;
      turns = λ versions stands.
          let left = step.leaves versions stands in
          record { says = refl; versions = left.versions; files = left.files };
      effects = record {
        entries = λ other. absurd (false≢true (sym other));
        forks = tt;
        upgrades = tt;
        roots = tt;
        tops = tt;
      };
      refused = λ e. refl;
    }
