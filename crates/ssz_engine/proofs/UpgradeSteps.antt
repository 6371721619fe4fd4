-- What an upgrade makes has no more to be hashed than what it was made of, and the charge.
use Rattle.std.proofs.Common.{Bor, ◌≡◌, ◌≤◌, ◌+◌, ◌∙◌, ℕ, List, Option, Some, sym, ap, subst}
use Rattle.ssz_outside.specs.Content.{Content as Files}
use Rattle.ssz_schema.specs.Unfolding.{type_of}
use Rattle.ssz_arena.specs.Content.{ArenaContent as Nodes, todo}
use Rattle.ssz_arena.specs.declared.node.NodeId.{NodeId}
use Rattle.ssz_forms.specs.Upgrades.{upgrade_charge}
use Rattle.ssz_script.specs.declared.statement.Statement.{Statement}
use Rattle.ssz_script.specs.declared.statement.Statement.TheVariants as statement
use Rattle.ssz_versions.specs.Content.{Entries, Held, held_at}
use Rattle.ssz_machine.specs.State.{Name}
use Rattle.ssz_decisions.specs.Content.{EngineContent, SameNodes}
use Rattle.ssz_decisions.specs.Carried.{IsCarriedOut}
use Rattle.ssz_engine.specs.Steps.{MakesUpgrade, StatementUpgrades, WhereAccepted}
use Rattle.ssz_decisions.specs.declared.decision.Decision.{Decision}
use Rattle.ssz_decisions.specs.declared.decision.Decision.TheVariants as decision
use Rattle.ssz_decisions.specs.declared.outcome.Outcome.{Outcome}
use Rattle.ssz_decisions.specs.declared.outcome.Outcome.TheVariants.{Accepted, Refused}
use Rattle.ssz_decisions.proofs.Entries.{held-there-now, some_held}

module _ (writer line : ℕ) (first mid new : EngineContent) (same : SameNodes mid new)
    (told_old told_new : Option Files) (out_old out_new : List ℕ) where
  -- it was carried out
  abbrev IsDone : Decision → Outcome → Type 0
  IsDone made done =
      IsCarriedOut made writer line mid.entries new.entries done told_old told_new out_old out_new

  made_of : (name : Bor (List ℕ)) (id : ℕ) (node : NodeId) (room : Unit {0}) (v w t : Name)
      → MakesUpgrade (statement.Upgrade v w t) writer first mid (decision.Made name id node room)
      → IsDone (decision.Made name id node room) Accepted
      → StatementUpgrades (statement.Upgrade v w t) writer first new
  made_of name id node room v w t makes out = λ was is there here.
      let found : Some (id, node) ≡ Some is =
      sym (ap (λ (n : Name). held_at new.entries writer n) (sym makes.named)
      ∙ ap (λ (es : Entries). held_at es writer name.now) out.entries
      ∙ held-there-now mid.entries writer name.now (id, node)) ∙ here in
      subst (λ (h : Held). todo new.arena h.1 ≤ todo first.arena was.1
      + upgrade_charge (type_of first.types was.0) (type_of first.types h.0))
      (some_held (id, node) is found)
      (subst (λ (arena : Nodes). todo arena node ≤ todo first.arena was.1
      + upgrade_charge (type_of first.types was.0) (type_of first.types id)) (sym same.arena)
      (makes.due was there))

  upgraded : (made : Decision) (v w t : Name) (done : Outcome)
      → MakesUpgrade (statement.Upgrade v w t) writer first mid made → IsDone made done
      → WhereAccepted done (StatementUpgrades (statement.Upgrade v w t) writer first new)
  upgraded made v w t Refused makes out = tt
  upgraded (decision.Made name id node room) v w t Accepted makes out =
      made_of name id node room v w t makes out
  upgraded (decision.Refused code) v w t Accepted makes out = absurd (not-both out.outcome)
    where
      not-both : Accepted ≡ Refused → ⊥
      not-both e = cc
  upgraded (decision.BadBytes f) v w t Accepted makes out = absurd makes
  upgraded (decision.BadJson f) v w t Accepted makes out = absurd makes
  upgraded (decision.Said r) v w t Accepted makes out = absurd makes
  upgraded (decision.Edited n node) v w t Accepted makes out = absurd makes
  upgraded (decision.Dropped n) v w t Accepted makes out = absurd makes
  upgraded (decision.Saved n bytes) v w t Accepted makes out = absurd makes

  -- a refused statement says nothing of it
  other : (outcome : Outcome) (Fact : Type 0) → Fact → WhereAccepted outcome Fact
  other Accepted Fact h = h
  other Refused Fact h = tt

  pub upgrades : (made : Decision) (done : Outcome) (s : Statement)
      → MakesUpgrade s writer first mid made → IsDone made done
      → WhereAccepted done (StatementUpgrades s writer first new)
  upgrades made done (statement.Upgrade v w t) makes out = upgraded made v w t done makes out
  upgrades made done (statement.New v t) makes out = other done _ tt
  upgrades made done (statement.Lit v t l) makes out = other done _ tt
  upgrades made done (statement.Load v t f) makes out = other done _ tt
  upgrades made done (statement.Fork v w) makes out = other done _ tt
  upgrades made done (statement.Drop v) makes out = other done _ tt
  upgrades made done statement.List makes out = other done _ tt
  upgrades made done (statement.Set v p l) makes out = other done _ tt
  upgrades made done (statement.Append v p l) makes out = other done _ tt
  upgrades made done (statement.Pop v p) makes out = other done _ tt
  upgrades made done (statement.Choose v p k l) makes out = other done _ tt
  upgrades made done (statement.Root v) makes out = other done _ tt
  upgrades made done (statement.Bytes v p) makes out = other done _ tt
  upgrades made done (statement.Len v p) makes out = other done _ tt
  upgrades made done (statement.Save v f) makes out = other done _ tt
  upgrades made done (statement.Gindex t p) makes out = other done _ tt
  upgrades made done (statement.Prove v i) makes out = other done _ tt
  upgrades made done statement.Hashes makes out = other done _ tt
  upgrades made done (statement.Json v p) makes out = other done _ tt
  upgrades made done (statement.LoadJson v t f) makes out = other done _ tt
  upgrades made done statement.Compact makes out = other done _ tt
