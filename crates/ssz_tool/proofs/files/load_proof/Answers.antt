use Rattle.std.proofs.Common.{Err, refl, ap}
use Rattle.std.proofs.lemmas.Result.{err_from_is_err_and}
use Rattle.ssz_proof.proofs.Judged.{multiproof_of-read, multiproof_of-refused}
use Rattle.ssz_proof.specs.Judgement.{multiproof_of}
use Rattle.ssz_proof.specs.Multiproof.{IsProofOf}
use Rattle.ssz_tool.specs.Commands.{proof_file}
use Rattle.ssz_tool.specs.Tasks.{HasItems}
use Rattle.ssz_tool.proofs.Reading.{need_given, need_refused}
use Rattle.ssz_tool.proofs.Steps.{follows_exit, follows_here, follows_stopped, follows_then, follows_wanting}
use Rattle.ssz_tool.proofs.files.load_proof.Goals as goal

pub returns-in_err-text : goal.returns-in_err-text
unfolding proof_file
returns-in_err-text g c =
    let exit = err_from_is_err_and c.from_residual.result c.from_residual.ensures.1 in
    follows_exit g.F.Files IsProofOf _ _ exit.0 c.in_err-text.field-0.0 _ _ exit.1 exit.2
    (follows_stopped g.F.Files HasItems IsProofOf _ _ c.in_err-text.field-0.0 _ _
    c.in_err-text.ensures)

pub returns-in-Ok : goal.returns-in-Ok
unfolding proof_file
returns-in-Ok g c =
    follows_then g.F.Files HasItems IsProofOf _ _ c.in_ok-text.text _ _ _ _ c.in_ok-text.ensures
    (λ text is.
    let read = rw (c.deref.ensures.value, is) at c.in-Ok.ensures.ok in
    follows_here g.F.Files IsProofOf _ _ _ refl
    (need_given IsProofOf c.args.bad.now (multiproof_of text) read.lists c.in-Ok.proof
    (multiproof_of-read text c.in-Ok.proof read) read.is))

pub returns-in-Err-BadProof : goal.returns-in-Err-BadProof
unfolding proof_file
returns-in-Err-BadProof g c =
    follows_then g.F.Files HasItems IsProofOf _ _ c.in_ok-text.text _ _ _ _ c.in_ok-text.ensures
    (λ text is.
    let refused = rw (c.deref.ensures.value, is) at
    (c.in-Err-BadProof.ensures.bad (ap Err c.in-Err-BadProof.field-0-is)) in
    follows_here g.F.Files IsProofOf _ _ _ refl
    (need_refused IsProofOf c.args.bad.now (multiproof_of text)
    (multiproof_of-refused text refused)))

pub returns : goal.returns
unfolding proof_file
returns g c =
    follows_wanting g.F.Files HasItems IsProofOf _ _ c.in_ok-text.text _ _ c.in_ok-text.ensures
