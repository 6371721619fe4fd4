-- A job that met no fault and no want of memory was done.
use Rattle.std.proofs.Common.{◌≢◌, ◌≤◌, ◌≡◌, ℕ, Bool, Option, inl, inr, refl, arith}
use Rattle.ssz_outside.specs.Content.{Content}
use Rattle.ssz_outside.specs.Outcome.{Rose, RoseOnce, next_count}
use Rattle.ssz_outside.specs.Pieces.{Told}
use Rattle.ssz_outside.specs.Job.{Job, Ends, Finishes, CountsRun}
use Rattle.ssz_outside.specs.declared.status.Status.{Status}
use Rattle.ssz_outside.specs.declared.status.Status.TheVariants as status

-- a count that rose by one rose
pub Rose-once : (before now : ℕ) → RoseOnce before now → Rose before now
Rose-once before now once = (once.0, at_most once.1)
  where
    at_most : now ≡ next_count before → next_count before ≤ now
    at_most is = omega arith

-- whatever job it was: if no count of faults rose, and the status is not that of want of memory,
-- then all its lines are printed, the files are those at its end, and the status is its status
pub Finishes-quiet : (ample : Bool) (ended : Status) (job : Job) (old new : Told)
    (left : Option Content) (gets gets_now puts puts_now sinks sinks_now : ℕ)
    → Ends ample ended job old new left
    → CountsRun ended gets gets_now puts puts_now sinks sinks_now
    → ¬ Rose gets gets_now → ¬ Rose puts puts_now → ¬ Rose sinks sinks_now
    → ended ≢ status.Memory
    → Finishes job ended old new left
Finishes-quiet ample status.Accepted job _ _ _ _ _ _ _ _ _ ends counts get put sink memory = ends
Finishes-quiet ample status.Refused job _ _ _ _ _ _ _ _ _ ends counts get put sink memory = ends
Finishes-quiet ample status.Usage job _ _ _ _ _ _ _ _ _ ends counts get put sink memory = ends
Finishes-quiet ample status.SchemaFault job _ _ _ _ _ _ _ _ _ ends counts get put sink memory = ends
Finishes-quiet ample status.ReadFault job _ _ _ gets gets_now _ _ _ _ ends counts get put sink
    memory =
    absurd (get (Rose-once gets gets_now counts.0))
Finishes-quiet ample status.WriteFault job _ _ _ _ _ puts puts_now _ _ ends (_, inl rose) get put
    sink memory =
    absurd (put (Rose-once puts puts_now rose.0))
Finishes-quiet ample status.WriteFault job _ _ _ _ _ _ _ sinks sinks_now ends (_, inr rose) get put
    sink memory =
    absurd (sink (Rose-once sinks sinks_now rose.1))
Finishes-quiet ample status.Memory job _ _ _ _ _ _ _ _ _ ends counts get put sink memory =
    absurd (memory refl)
