use Rattle.ssz_engine.proofs.Going.{runs_memory}
use Rattle.ssz_engine.proofs.turns.run_next.Goals as goal

pub returns-in-Err-clause-runs : goal.returns-in-Err-clause-runs
returns-in-Err-clause-runs g c = runs_memory
