use Rattle.std.proofs.Common.{◌≡◌, length, is_some}
use Rattle.ssz_line.specs.Paths.{path_step, path_parts, read_all}
use Rattle.ssz_line.proofs.path.are_steps.Given as goal

-- all parts are steps where those that are left are
abbrev pub invariant-loop-part : goal.invariant-loop-part
invariant-loop-part l =
    is_some (read_all path_step l.parts) ≡ is_some (read_all path_step (path_parts l.fn.text))

abbrev pub decreases-loop-part : goal.decreases-loop-part
decreases-loop-part l = length l.parts
