use Rattle.std.proofs.Common.{◌≡◌, ap₂, ◌∙◌, subst}
use Rattle.std.specs.Prelude.{IfOk}
use Rattle.std.proofs.lemmas.Result.{IfOk-weaker}
use Rattle.clap.specs.Words.{app_of, with_subcommand}
use Rattle.ssz_words.specs.CommandSet.{IsLocal}
use Rattle.ssz_words.proofs.command_set.with_command.Goals as goal

pub returns : goal.returns
returns c app shape is local =
    let program = subst (λ p. IfOk p (λ p. app_of p ≡ app)) c.in_ok-program.was is in
    let command = subst (λ p. IfOk p (IsLocal shape)) c.in_ok-command.was local in
    IfOk-weaker c.subcommand.result _ _ (λ r h. h.shape command.1
    ∙ ap₂ with_subcommand program command.0) c.subcommand.ensures
