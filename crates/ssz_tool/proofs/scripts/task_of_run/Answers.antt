use Rattle.std.proofs.Common.{refl, sym}
use Rattle.std.proofs.lemmas.Result.{err_from_is_err_and}
use Rattle.ssz_tool.specs.Tasks.{HasItems, NamesHaveTypes, IsTask}
use Rattle.ssz_tool.proofs.Steps.{follows_exit, follows_here, follows_stopped, follows_then}
use Rattle.ssz_tool.proofs.Verdicts.{DoesSame-equal}
use Rattle.ssz_tool.proofs.scripts.task_of_run.Goals as goal

pub returns-in_err-schema : goal.returns-in_err-schema
returns-in_err-schema g c =
    let exit = err_from_is_err_and c.from_residual.result c.from_residual.ensures.1 in
    follows_exit g.F.Files IsTask _ _ exit.0 c.in_err-schema.field-0.0 _ _ exit.1 exit.2
    (follows_stopped g.F.Files NamesHaveTypes IsTask _ _ c.in_err-schema.field-0.0 _ _
    (rw (c.as_str.ensures) at c.in_err-schema.ensures))

pub returns-in_err-script : goal.returns-in_err-script
returns-in_err-script g c =
    let exit = err_from_is_err_and c.from_residual-in_err-script.result
    c.from_residual-in_err-script.ensures.1 in
    follows_exit g.F.Files IsTask _ _ exit.0 c.in_err-script.field-0.0 _ _ exit.1 exit.2
    (follows_then g.F.Files NamesHaveTypes IsTask _ _ c.in_ok-schema.schema _ _ _ _
    (rw c.as_str.ensures at c.in_ok-schema.ensures)
    (λ types has. follows_stopped g.F.Files HasItems IsTask _ _ c.in_err-script.field-0.0 _ _
    (rw (c.as_str-2.ensures) at c.in_err-script.ensures)))

pub returns : goal.returns
returns g c =
    follows_then g.F.Files NamesHaveTypes IsTask _ _ c.in_ok-schema.schema _ _ _ _
    (rw c.as_str.ensures at c.in_ok-schema.ensures)
    (λ types has. follows_then g.F.Files HasItems IsTask _ _ c.in_ok-script.script _ _ _ _
    (rw c.as_str-2.ensures at c.in_ok-script.ensures)
    (λ bytes is. follows_here g.F.Files IsTask _ _ _ refl
    (record { same = DoesSame-equal _ _ (rw (has, sym is) refl); ready = tt })))
