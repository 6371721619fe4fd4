-- A fork holds what its source holds.
use Rattle.std.proofs.Common.{◌≡◌, ◌∙◌, ℕ, List, Option, sym, ap}
use Rattle.ssz_outside.specs.Content.{Content as Files}
use Rattle.ssz_script.specs.declared.statement.Statement.{Statement}
use Rattle.ssz_script.specs.declared.statement.Statement.TheVariants as statement
use Rattle.ssz_versions.specs.Content.{Entries, held_at}
use Rattle.ssz_machine.specs.State.{Name}
use Rattle.ssz_engine.specs.Steps.{StatementForks, WhereAccepted}
use Rattle.ssz_decisions.specs.Carried.{IsCarriedOut}
use Rattle.ssz_decisions.specs.Decisions.{MakesFork}
use Rattle.ssz_decisions.specs.declared.decision.Decision.{Decision}
use Rattle.ssz_decisions.specs.declared.decision.Decision.TheVariants as decision
use Rattle.ssz_decisions.specs.declared.outcome.Outcome.{Outcome}
use Rattle.ssz_decisions.specs.declared.outcome.Outcome.TheVariants.{Accepted, Refused}
use Rattle.ssz_decisions.proofs.Entries.{held-there-now}

-- a fork that was carried out
forked : (made : Decision) (v w : Name) (writer line : ℕ) (first mid new : Entries)
    (done : Outcome) (told_old told_new : Option Files) (out_old out_new : List ℕ) → mid ≡ first
    → MakesFork (statement.Fork v w) writer first made
    → IsCarriedOut made writer line mid new done told_old told_new out_old out_new
    → WhereAccepted done (StatementForks (statement.Fork v w) writer first new)
forked (decision.Refused code) v w writer line first mid new Refused told_old told_new out_old
    out_new same makes out = tt
forked (decision.Refused code) v w writer line first mid new Accepted told_old told_new out_old
    out_new same makes out = absurd (not-both out.outcome)
  where
    not-both : Accepted ≡ Refused → ⊥
    not-both e = cc
forked (decision.Made name id node room) v w writer line first mid new Refused told_old told_new
    out_old out_new same makes out = tt
forked (decision.Made name id node room) v w writer line first mid new Accepted told_old told_new
    out_old out_new same makes out =
    ap (λ (n : Name). held_at new writer n) (sym makes.0)
    ∙ ap (λ (es : Entries). held_at es writer name.now) out.entries
    ∙ held-there-now mid writer name.now (id, node)
    ∙ sym makes.1
forked (decision.BadBytes f) v w writer line first mid new done told_old told_new out_old out_new
    same
    makes out = absurd makes
forked (decision.BadJson f) v w writer line first mid new done told_old told_new out_old out_new
    same makes out = absurd makes
forked (decision.Said r) v w writer line first mid new done told_old told_new out_old out_new same
    makes out = absurd makes
forked (decision.Edited n node) v w writer line first mid new done told_old told_new out_old
    out_new same makes out = absurd makes
forked (decision.Dropped n) v w writer line first mid new done told_old told_new out_old out_new
    same
    makes out = absurd makes
forked (decision.Saved n bytes) v w writer line first mid new done told_old told_new out_old
    out_new same makes out = absurd makes

module _ (made : Decision) (writer line : ℕ) (first mid new : Entries) (done : Outcome)
    (told_old told_new : Option Files) (out_old out_new : List ℕ) (same : mid ≡ first)
    (out : IsCarriedOut made writer line mid new done told_old told_new out_old out_new) where
  -- a refused statement says nothing of it
  other : (outcome : Outcome) (Fact : Type 0) → Fact → WhereAccepted outcome Fact
  other Accepted Fact h = h
  other Refused Fact h = tt

  pub forks : (s : Statement) → MakesFork s writer first made
      → WhereAccepted done (StatementForks s writer first new)
  forks (statement.Fork v w) makes =
      forked made v w writer line first mid new done told_old told_new out_old out_new same makes
      out
  forks (statement.New v t) makes = other done _ tt
  forks (statement.Lit v t l) makes = other done _ tt
  forks (statement.Load v t f) makes = other done _ tt
  forks (statement.Drop v) makes = other done _ tt
  forks statement.List makes = other done _ tt
  forks (statement.Set v p l) makes = other done _ tt
  forks (statement.Append v p l) makes = other done _ tt
  forks (statement.Pop v p) makes = other done _ tt
  forks (statement.Choose v p k l) makes = other done _ tt
  forks (statement.Root v) makes = other done _ tt
  forks (statement.Bytes v p) makes = other done _ tt
  forks (statement.Len v p) makes = other done _ tt
  forks (statement.Save v f) makes = other done _ tt
  forks (statement.Gindex t p) makes = other done _ tt
  forks (statement.Prove v i) makes = other done _ tt
  forks statement.Hashes makes = other done _ tt
  forks (statement.Upgrade v w t) makes = other done _ tt
  forks (statement.Json v p) makes = other done _ tt
  forks (statement.LoadJson v t f) makes = other done _ tt
  forks statement.Compact makes = other done _ tt
