use Rattle.std.proofs.Common.{refl}
use Rattle.std.proofs.lemmas.Result.{err_from_is_err_and}
use Rattle.ssz_proof.specs.Multiproof.{IsProofOf}
use Rattle.ssz_tool.specs.Tasks.{IsTask}
use Rattle.ssz_tool.proofs.Steps.{follows_exit, follows_here, follows_stopped, follows_then}
use Rattle.ssz_tool.proofs.Verdicts.{compares-given}
use Rattle.ssz_tool.proofs.clashes.task_of_clash.Goals as goal

pub returns-in_err-one : goal.returns-in_err-one
returns-in_err-one g c =
    let exit = err_from_is_err_and c.from_residual.result c.from_residual.ensures.1 in
    follows_exit g.F.Files IsTask _ _ exit.0 c.in_err-one.field-0.0 _ _ exit.1 exit.2
    (follows_stopped g.F.Files IsProofOf IsTask _ _ c.in_err-one.field-0.0 _ _
    (rw c.as_str.ensures at c.in_err-one.ensures))

pub returns-in_err-other : goal.returns-in_err-other
returns-in_err-other g c =
    let exit = err_from_is_err_and c.from_residual-in_err-other.result
    c.from_residual-in_err-other.ensures.1 in
    follows_exit g.F.Files IsTask _ _ exit.0 c.in_err-other.field-0.0 _ _ exit.1 exit.2
    (follows_then g.F.Files IsProofOf IsTask _ _ c.in_ok-one.one _ _ _ _
    (rw c.as_str.ensures at c.in_ok-one.ensures)
    (λ one is. follows_stopped g.F.Files IsProofOf IsTask _ _ c.in_err-other.field-0.0 _ _
    (rw c.as_str-2.ensures at c.in_err-other.ensures)))

pub returns : goal.returns
returns g c =
    follows_then g.F.Files IsProofOf IsTask _ _ c.in_ok-one.one _ _ _ _
    (rw c.as_str.ensures at c.in_ok-one.ensures)
    (λ one is. follows_then g.F.Files IsProofOf IsTask _ _ c.in_ok-other.other _ _ _ _
    (rw c.as_str-2.ensures at c.in_ok-other.ensures)
    (λ other also. follows_here g.F.Files IsTask _ _ _ refl
    (record {
      same = compares-given one c.in_ok-one.one other c.in_ok-other.other is also;
      ready = tt;
    })))
