-- A root leaves nothing to be hashed of what it was asked of, and nothing is lost of that later.
use Rattle.std.proofs.Common.{◌≡◌, ◌∙◌, ℕ, List, [], ◌∷◌, ◌++◌, Option, Some, None, refl, sym, ap, subst, arith}
use Rattle.std.specs.List.{AllByRecursion}
use Rattle.ssz_outside.specs.Content.{Content as Files}
use Rattle.ssz_arena.specs.Content.{ArenaContent as Nodes, KeepsNodes, todo}
use Rattle.ssz_script.specs.declared.statement.Statement.{Statement}
use Rattle.ssz_script.specs.declared.statement.Statement.TheVariants.{Root}
use Rattle.ssz_versions.specs.Content.{Entries, Held, held_at}
use Rattle.ssz_machine.specs.State.{Name, Version, Versions}
use Rattle.ssz_machine.specs.Machine.{Turn, state_of}
use Rattle.ssz_machine.specs.Changes.{nothing, puts, takes, touch}
use Rattle.ssz_decisions.specs.Content.{EngineContent, SameNodes}
use Rattle.ssz_decisions.specs.Decisions.{IsOf}
use Rattle.ssz_decisions.specs.Standing.{Match, StandsForWriter}
use Rattle.ssz_decisions.specs.Carried.{DecisionDoes, IsCarriedOut}
use Rattle.ssz_decisions.specs.Roots.{LeavesHashed}
use Rattle.ssz_engine.specs.Works.{IsRootHashed, IsHashed, MakesRoot}
use Rattle.ssz_decisions.specs.declared.decision.Decision.{Decision}
use Rattle.ssz_decisions.specs.declared.decision.Decision.TheVariants as decision
use Rattle.ssz_decisions.specs.declared.outcome.Outcome.{Outcome}

not-puts : {P : Type 0} (name : Name) → nothing ≡ puts name → P
not-puts name e = cc

not-takes : {P : Type 0} (name : Name) → nothing ≡ takes name → P
not-takes name e = cc

-- a decision that touches no name leaves the entries
stays : (made : Decision) (writer : ℕ) (old new : Entries) → IsOf nothing made
    → DecisionDoes made writer old new → new ≡ old
stays (decision.Refused code) writer old new of does = does
stays (decision.BadBytes fault) writer old new of does = does
stays (decision.BadJson fault) writer old new of does = does
stays (decision.Said reply) writer old new of does = does
stays (decision.Made name id node room) writer old new of does = not-puts name.now of
stays (decision.Edited name node) writer old new of does = not-puts name.now of
stays (decision.Dropped name) writer old new of does = not-takes name.now of
stays (decision.Saved name bytes) writer old new of does = does

module _ (made : Decision) (writer line : ℕ) (mid new : EngineContent) (same : SameNodes mid new)
    (done : Outcome) (told_old told_new : Option Files) (out_old out_new : List ℕ)
    (out : IsCarriedOut made writer line mid.entries new.entries done told_old told_new out_old
    out_new) where
  -- what was found of a root is so when it was carried out
  pub roots : (s : Statement) → IsOf (touch s) made → LeavesHashed s writer mid
      → LeavesHashed s writer new
  roots (Root v) of leaves = λ held there.
      let kept = stays made writer mid.entries new.entries of out.entries in
      subst (λ (arena : Nodes). todo arena held.1 ≡ 0) (sym same.arena)
      (leaves held (ap (λ (es : Entries). held_at es writer v) (sym kept) ∙ there))
  roots other of leaves = tt

-- what is held for a version
held-hashed : (engine : EngineContent) (version : Version) (held : Option Held)
    → ((it : Held) → held ≡ Some it → todo engine.arena it.1 ≡ 0)
    → Match engine.types engine.arena held (Some version) → IsHashed engine.arena version
held-hashed engine version None leaves match = absurd match
held-hashed engine version (Some it) leaves match =
    record { node = it.1; there = match.node; tree = match.tree; hashed = leaves it refl }

-- the version that the name of a root stands for has a node for which nothing is left to be hashed
pub root-made : (engine : EngineContent) (writer : ℕ) (statement : Statement) (versions : Versions)
    → StandsForWriter engine writer versions → LeavesHashed statement writer engine
    → IsRootHashed engine.arena (Some statement) versions
root-made engine writer (Root v) versions stands leaves = λ version there.
    held-hashed engine version (held_at engine.entries writer v) leaves
    (subst (Match engine.types engine.arena (held_at engine.entries writer v)) there
    (stands.each v))
root-made engine writer other versions stands leaves = tt

module _ (old new : Nodes) (keeps : KeepsNodes old new) where
  hashed-kept : (version : Version) → IsHashed old version → IsHashed new version
  hashed-kept version is = record {
    node = is.node;
    there = omega (arith, is.there, keeps.count);
    tree = keeps.trees is.node is.there ∙ is.tree;
    hashed = omega (arith, keeps.todo is.node is.there, is.hashed);
  }

  root-kept : (asked : Option Statement) (versions : Versions) → IsRootHashed old asked versions
      → IsRootHashed new asked versions
  root-kept (Some (Root v)) versions all = λ version there.
      hashed-kept version (all version there)
  root-kept other versions all = tt

  -- where more nodes come, the roots of earlier steps stay
  pub roots-kept : (turns : List Turn) → AllByRecursion (MakesRoot old) turns
      → AllByRecursion (MakesRoot new) turns
  roots-kept [] all = tt
  roots-kept (turn ∷ turns) all = (
    root-kept turn.line.1 ((state_of turn).versions turn.writer) all.0,
    roots-kept turns all.1,
  )

-- of some steps, and of more
pub roots-joined : (arena : Nodes) (turns more : List Turn) → AllByRecursion (MakesRoot arena) turns
    → AllByRecursion (MakesRoot arena) more → AllByRecursion (MakesRoot arena) (turns ++ more)
roots-joined arena [] more first then = then
roots-joined arena (turn ∷ turns) more first then =
    (first.0, roots-joined arena turns more first.1 then)
