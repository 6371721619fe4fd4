-- An edit that makes the pair at the top anew leaves it to be hashed.
use Rattle.std.proofs.Common.{Bor, ◌≡◌, ◌<◌, ◌≤◌, ◌∙◌, refl, ℕ, List, Option, Some, Result, Ok, Err, IfOk, sym, ap, subst, arith}
use Rattle.std.specs.declared.alloc.AllocError.{AllocError}
use Rattle.ssz_outside.specs.Content.{Content as Files}
use Rattle.ssz_schema.specs.Paths.{Path}
use Rattle.ssz_schema.specs.Unfolding.{Types, type_of}
use Rattle.ssz_gindex.specs.Paths.{index_levels}
use Rattle.ssz_value.specs.declared.edit_fault.EditFault.{EditFault}
use Rattle.ssz_value.specs.declared.edit_fault.EditFault.TheVariants as edit_fault
use Rattle.ssz_arena.specs.Content.{ArenaContent as Nodes, todo}
use Rattle.ssz_arena.specs.declared.node.NodeId.{NodeId}
use Rattle.ssz_script.specs.declared.statement.Statement.{Statement}
use Rattle.ssz_script.specs.declared.statement.Statement.TheVariants as statement
use Rattle.ssz_versions.specs.Content.{Entries, Held, held_at}
use Rattle.ssz_machine.specs.State.{Name}
use Rattle.ssz_machine.specs.Changes.{puts, touch}
use Rattle.ssz_decisions.specs.Content.{EngineContent, SameNodes}
use Rattle.ssz_decisions.specs.Decisions.{IsOf}
use Rattle.ssz_decisions.specs.Finished.{FinishesEdit, finished_edit}
use Rattle.ssz_decisions.specs.Carried.{IsCarriedOut}
use Rattle.ssz_engine.specs.Steps.{WhereAccepted}
use Rattle.ssz_engine.specs.Tops.{HasDue, IsDue, MakesTop, Tops}
use Rattle.ssz_decisions.specs.declared.decision.Decision.{Decision}
use Rattle.ssz_decisions.specs.declared.decision.Decision.TheVariants as decision
use Rattle.ssz_decisions.specs.declared.outcome.Outcome.{Outcome}
use Rattle.ssz_decisions.specs.declared.outcome.Outcome.TheVariants.{Accepted, Refused}
use Rattle.ssz_decisions.proofs.Entries.{held-there-now, some_held}

same-name : (a b : Name) → puts a ≡ puts b → a ≡ b
same-name a b e = cc

accepted-refused : Accepted ≡ Refused → ⊥
accepted-refused e = cc

module _ (writer line : ℕ) (first mid new : EngineContent) (same : SameNodes mid new)
    (told_old told_new : Option Files) (out_old out_new : List ℕ) where
  -- it was carried out
  abbrev IsDone : Decision → Outcome → Type 0
  IsDone made done =
      IsCarriedOut made writer line mid.entries new.entries done told_old told_new out_old out_new

  has-due : (made : Decision) (v : Name) → IsOf (puts v) made → IsDue mid.arena made
      → IsDone made Accepted → HasDue v writer new
  has-due (decision.Refused code) v of due out = absurd (accepted-refused out.outcome)
  has-due (decision.BadBytes f) v of due out = absurd (accepted-refused out.outcome)
  has-due (decision.Edited n node) v of due out =
      let held : Held = (out.entries.0.0, node) in
      record {
        held = held;
        there = ap (λ (m : Name). held_at new.entries writer m) (sym (same-name n.now v (sym of)))
            ∙ ap (λ (es : Entries). held_at es writer n.now) out.entries.2
            ∙ held-there-now mid.entries writer n.now held;
        due = subst (λ (arena : Nodes). 0 < todo arena node) (sym same.arena) due;
      }
  has-due (decision.BadJson f) v of due out = absurd due
  has-due (decision.Said r) v of due out = absurd due
  has-due (decision.Made n id node room) v of due out = absurd due
  has-due (decision.Dropped n) v of due out = absurd due
  has-due (decision.Saved n bytes) v of due out = absurd due

  -- a refused statement says nothing of it
  only : (outcome : Outcome) (Fact : Type 0) → (outcome ≡ Accepted → Fact)
      → WhereAccepted outcome Fact
  only Accepted Fact h = h refl
  only Refused Fact h = tt

  done-as : (made : Decision) (done : Outcome) → done ≡ Accepted → IsDone made done
      → IsDone made Accepted
  done-as made done is out = subst (λ (o : Outcome). IsDone made o) is out

  pub tops : (made : Decision) (done : Outcome) (s : Statement) → IsOf (touch s) made
      → MakesTop s writer first mid made → IsDone made done
      → WhereAccepted done (Tops s writer first new)
  tops made done (statement.Set v p l) of makes out = only done _ (λ is was there below.
      has-due made v of (makes was there below) (done-as made done is out))
  tops made done (statement.Append v p l) of makes out =
      only done _ (λ is. has-due made v of makes (done-as made done is out))
  tops made done (statement.Pop v p) of makes out =
      only done _ (λ is. has-due made v of makes (done-as made done is out))
  tops made done (statement.Choose v p k l) of makes out =
      only done _ (λ is. has-due made v of makes (done-as made done is out))
  tops made done (statement.New v t) of makes out = only done _ (λ is. tt)
  tops made done (statement.Lit v t l) of makes out = only done _ (λ is. tt)
  tops made done (statement.Load v t f) of makes out = only done _ (λ is. tt)
  tops made done (statement.Fork v w) of makes out = only done _ (λ is. tt)
  tops made done (statement.Upgrade v w t) of makes out = only done _ (λ is. tt)
  tops made done (statement.Drop v) of makes out = only done _ (λ is. tt)
  tops made done statement.List of makes out = only done _ (λ is. tt)
  tops made done (statement.Root v) of makes out = only done _ (λ is. tt)
  tops made done (statement.Bytes v p) of makes out = only done _ (λ is. tt)
  tops made done (statement.Len v p) of makes out = only done _ (λ is. tt)
  tops made done (statement.Save v f) of makes out = only done _ (λ is. tt)
  tops made done (statement.Gindex t p) of makes out = only done _ (λ is. tt)
  tops made done (statement.Prove v i) of makes out = only done _ (λ is. tt)
  tops made done statement.Hashes of makes out = only done _ (λ is. tt)
  tops made done (statement.Json v p) of makes out = only done _ (λ is. tt)
  tops made done (statement.LoadJson v t f) of makes out = only done _ (λ is. tt)
  tops made done statement.Compact of makes out = only done _ (λ is. tt)

-- an edit's node is to be hashed where it was found to be so
pub finished-due : (arena : Nodes) (v : Bor (List ℕ)) (edited : Result NodeId EditFault)
    → IfOk edited (λ made. 0 < todo arena made) → IfOk (finished_edit v edited) (IsDue arena)
finished-due arena v (Ok made) due = due
finished-due arena v (Err edit_fault.Memory) due = tt
finished-due arena v (Err edit_fault.BadPath) due = tt
finished-due arena v (Err edit_fault.Absent) due = tt
finished-due arena v (Err edit_fault.NotThat) due = tt
finished-due arena v (Err edit_fault.Full) due = tt
finished-due arena v (Err edit_fault.Empty) due = tt
finished-due arena v (Err edit_fault.BadSelector) due = tt

pub finishes-due : (arena : Nodes) (name : Name) (edited : Result NodeId EditFault)
    (result : Result Decision AllocError) → IfOk edited (λ made. 0 < todo arena made)
    → FinishesEdit name edited result → IfOk result (IsDue arena)
finishes-due arena name edited result due finishes =
    subst (λ (r : Result Decision AllocError). IfOk r (IsDue arena)) (sym finishes.2)
    (finished-due arena finishes.0 edited due)

module _ (types : Types) (arena : Nodes) (entries : Entries) (writer : ℕ) (v : Name) (path : Path)
    (held : Held) (there : held_at entries writer v ≡ Some held) where
  -- so that of a set, where the part stands below the top
  abbrev IsSet : Decision → Type 0
  IsSet made = (was : Held) → held_at entries writer v ≡ Some was
      → 0 < index_levels (type_of types was.0) path → IsDue arena made

  pub made-set : (node : NodeId) → index_levels (type_of types held.0) path ≤ todo arena node
      → (name : Bor (List ℕ)) → IsSet (decision.Edited name node)
  made-set node least name was found below =
      let e = ap (λ (h : Held). index_levels (type_of types h.0) path)
      (some_held held was (sym there ∙ found)) in
      omega (arith, least, below, e)
