use Rattle.std.proofs.Common.{refl}
use Rattle.std.proofs.lemmas.Result.{err_from_is_err_and}
use Rattle.ssz_proof.specs.Multiproof.{IsProofOf}
use Rattle.ssz_tool.specs.Tasks.{IsTask}
use Rattle.ssz_tool.proofs.Steps.{follows_exit, follows_here, follows_stopped, follows_then}
use Rattle.ssz_tool.proofs.Verdicts.{verifies-given}
use Rattle.ssz_tool.proofs.verifying.task_of_verify.Goals as goal

pub returns-in_err-proof : goal.returns-in_err-proof
returns-in_err-proof g c =
    let exit = err_from_is_err_and c.from_residual.result c.from_residual.ensures.1 in
    follows_exit g.F.Files IsTask _ _ exit.0 c.in_err-proof.field-0.0 _ _ exit.1 exit.2
    (follows_stopped g.F.Files IsProofOf IsTask _ _ c.in_err-proof.field-0.0 _ _
    (rw c.as_str.ensures at c.in_err-proof.ensures))

pub returns : goal.returns
returns g c =
    follows_then g.F.Files IsProofOf IsTask _ _ c.in_ok-proof.proof _ _ _ _
    (rw c.as_str.ensures at c.in_ok-proof.ensures)
    (λ lists is. follows_here g.F.Files IsTask _ _ _ refl
    (record {
      same = verifies-given c.args.args.now.root lists c.in_ok-proof.proof is;
      ready = tt;
    }))
