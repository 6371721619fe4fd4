-- The run of a script over a partial tree.
use Rattle.std.proofs.Common.{ℕ, ◌+◌, ◌-◌, Bool, List, [], Some, refl, ap}
use Rattle.ssz_outside.specs.Content.{Content}
use Rattle.ssz_outside.specs.Job.{Ends}
use Rattle.ssz_outside.specs.Pieces.{Told}
use Rattle.ssz_outside.specs.declared.status.Status.{Status}
use Rattle.ssz_proof.specs.Calculation.{PairOf}
use Rattle.ssz_proof.specs.Multiproof.{IsProofOf, Multiproof}
use Rattle.ssz_schema.specs.Types.{SszType}
use Rattle.ssz_machine.specs.Jobs.{after_reading}
use Rattle.ssz_machine.proofs.Endings.{ends_after_reading}
use Rattle.ssz_partial_script.specs.Plays.{partial_script_job}
use Rattle.ssz_partial_script.proofs.Order.{scripts_alike}
use Rattle.ssz_tool.specs.Runs.{JobDoes, job_of_task}
use Rattle.ssz_tool.specs.Tasks.{DoesSame}
use Rattle.ssz_tool.specs.ToDo.{plays_tree}
use Rattle.ssz_tool.proofs.Beginnings.{zero_table}
use Rattle.ssz_tool.proofs.Quiet.{no_counts}

-- a script does the same over the lists of a proof and over the proof
pub tree-given : (t : SszType) (lists proof : Multiproof) (script : List ℕ)
    → IsProofOf lists proof → DoesSame (plays_tree t lists script) (plays_tree t proof script)
tree-given t lists proof script is = record {
  jobs = λ pair_of numbers held reads.
      ap (after_reading reads) ((scripts_alike pair_of t lists proof script is).jobs held);
  turns = λ pair_of numbers held. refl;
  reached = λ pair_of held. refl;
  least = λ pair_of held. refl;
  pairs = λ pair_of held. (scripts_alike pair_of t lists proof script is).charged;
  scripts = refl;
  asks = λ pair_of held. refl;
}

-- the run of a script over a tree ended as its job does
pub tree_does : (ample : Bool) (pair_of : PairOf) (t : SszType) (proof : Multiproof)
    (script : List ℕ) (held : Content) (reads : Bool) (ended : Status) (first last : ℕ)
    (old new : Told)
    → Ends ample ended (partial_script_job pair_of t proof held script) old new (Some held)
    → JobDoes (λ numbers. job_of_task pair_of numbers held reads (plays_tree t proof script))
    (λ numbers. []) ended first last (λ job. Ends ample ended job old new (Some held))
tree_does ample pair_of t proof script held reads ended first last old new ends = record {
  numbers = [];
  left = ends_after_reading ample reads ended
      (partial_script_job pair_of t proof held script) old new
      (Some held) ends;
  base = first + 126;
  zeros = zero_table first;
  counts = no_counts ended (last - (first + 126));
}
