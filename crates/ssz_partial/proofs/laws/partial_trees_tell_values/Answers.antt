use Rattle.ssz_partial.proofs.Values.{gets_are_parts, roots_are_roots}
use Rattle.ssz_partial.proofs.Setting.{sets_are_edits}
use Rattle.ssz_partial.proofs.Running.{runs_go_along}
use Rattle.ssz_partial.proofs.laws.partial_trees_tell_values.Goals as goal

pub returns-clause-gets : goal.returns-clause-gets
returns-clause-gets c = gets_are_parts

pub returns-clause-roots : goal.returns-clause-roots
returns-clause-roots c = roots_are_roots

pub returns-clause-sets : goal.returns-clause-sets
returns-clause-sets c = sets_are_edits

pub returns-clause-runs : goal.returns-clause-runs
returns-clause-runs c = runs_go_along
