-- A statement that was not done adds no node.
use Rattle.std.proofs.Common.{Bor, ◌≡◌, ◌∙◌, ℕ, List, length, Option, Result, Ok, Err, sym, ap, subst}
use Rattle.std.specs.Prelude.{OnErr}
use Rattle.std.specs.declared.alloc.AllocError.{AllocError}
use Rattle.ssz_outside.specs.Content.{Content as Files}
use Rattle.ssz_value.specs.declared.edit_fault.EditFault.{EditFault}
use Rattle.ssz_value.specs.declared.edit_fault.EditFault.TheVariants as fault
use Rattle.ssz_arena.specs.declared.node.NodeId.{NodeId}
use Rattle.ssz_arena.specs.Content.{ArenaContent as Nodes, node_count}
use Rattle.ssz_proof.specs.Calculation.{PairOf}
use Rattle.ssz_script.specs.declared.statement.Statement.{Statement}
use Rattle.ssz_machine.specs.declared.place.Place.{Place}
use Rattle.ssz_decisions.specs.Content.{EngineContent, SameNodes}
use Rattle.ssz_decisions.specs.Decisions.{MakesFew}
use Rattle.ssz_decisions.specs.Finished.{FinishesEdit, finished_edit}
use Rattle.ssz_decisions.specs.Standing.{StandsForSome}
use Rattle.ssz_decisions.specs.Carried.{CanLack}
use Rattle.ssz_engine.specs.Steps.{Decides}
use Rattle.ssz_decisions.specs.declared.decision.Decision.{Decision}
use Rattle.ssz_decisions.specs.declared.decision.Decision.TheVariants as decision

-- a decision that may lack memory made none
none-made : (made : Decision) (charge : ℕ) (old new : Nodes) → CanLack made
    → MakesFew made charge old new → node_count new ≡ node_count old
none-made (decision.Refused code) charge old new lacks few = few
none-made (decision.BadBytes f) charge old new lacks few = few
none-made (decision.BadJson f) charge old new lacks few = few
none-made (decision.Said reply) charge old new lacks few = few
none-made (decision.Made name id node room) charge old new lacks few = absurd lacks
none-made (decision.Edited name node) charge old new lacks few = absurd lacks
none-made (decision.Dropped name) charge old new lacks few = absurd lacks
none-made (decision.Saved name bytes) charge old new lacks few = few

pub whole : (pair_of : PairOf) (place : Place) (statement : Statement) (writer number : ℕ)
    (told : Option Files) (first mid new : EngineContent) (before after : ℕ) (made : Decision)
    → Decides pair_of place statement writer number told first mid before after made
    → SameNodes mid new → StandsForSome first → {A E : Type 0} (r : Result A E)
    → OnErr r (CanLack made) → OnErr r (node_count new.arena ≡ node_count first.arena)
whole pair_of place statement writer number told first mid new before after made found same some
    (Ok x) lacks = lacks
whole pair_of place statement writer number told first mid new before after made found same some
    (Err e) lacks =
    ap node_count same.arena
    ∙ none-made made _ first.arena mid.arena lacks
    (found.answers.few (some.0 writer) (some.1.each writer))

-- what is so of every answer is so of an error
pub on-err : {A E : Type 0} (P : Type 0) (r : Result A E) → P → OnErr r P
on-err P (Ok x) is = tt
on-err P (Err e) is = is

-- an edit that was not made added none
pub edit-whole : (seen : EngineContent) (new : Nodes) (name : List ℕ)
    (edited : Result NodeId EditFault)
    (result : Result Decision AllocError) → FinishesEdit name edited result
    → OnErr edited (new.nodes ≡ seen.arena.nodes)
    → OnErr result (node_count new ≡ node_count seen.arena)
edit-whole seen new name edited result is same =
    subst (λ (r : Result Decision AllocError).
    OnErr r (node_count new ≡ node_count seen.arena)) (sym is.2) (by is.0 edited same)
  where
    by : (v : Bor (List ℕ)) (e : Result NodeId EditFault)
        → OnErr e (new.nodes ≡ seen.arena.nodes)
        → OnErr (finished_edit v e) (node_count new ≡ node_count seen.arena)
    by v (Ok node) same = tt
    by v (Err fault.Memory) same = ap length same
    by v (Err fault.BadPath) same = tt
    by v (Err fault.Absent) same = tt
    by v (Err fault.NotThat) same = tt
    by v (Err fault.Full) same = tt
    by v (Err fault.Empty) same = tt
    by v (Err fault.BadSelector) same = tt
