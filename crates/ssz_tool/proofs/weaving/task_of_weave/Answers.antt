use Rattle.std.proofs.Common.{◌≡◌, refl, ◌∙◌}
use Rattle.std.proofs.lemmas.Result.{err_from_is_err_and}
use Rattle.ssz_tool.specs.declared.stop.Stop.TheVariants as stop
use Rattle.ssz_tool.specs.Tasks.{AreItems, HasItems, NamesHaveTypes, IsTask}
use Rattle.ssz_tool.proofs.Steps.{follows_exit, follows_here, follows_stopped, follows_then, follows_wanting}
use Rattle.ssz_tool.proofs.Verdicts.{DoesSame-equal}
use Rattle.ssz_tool.specs.Commands.{script_files}
use Rattle.ssz_tool.proofs.Reading.{comes_as, so_many}
use Rattle.ssz_tool.proofs.Weaves.{weave_of_many}
use Rattle.ssz_tool.proofs.weaving.task_of_weave.Goals as goal

pub returns-in_err-schema : goal.returns-in_err-schema
returns-in_err-schema g c =
    let exit = err_from_is_err_and c.from_residual.result c.from_residual.ensures.1 in
    follows_exit g.F.Files IsTask _ _ exit.0 c.in_err-schema.field-0.0 _ _ exit.1 exit.2
    (follows_stopped g.F.Files NamesHaveTypes IsTask _ _ c.in_err-schema.field-0.0 _ _
    (rw c.as_str.ensures at c.in_err-schema.ensures))

pub returns-in_err-base : goal.returns-in_err-base
returns-in_err-base g c =
    let exit = err_from_is_err_and c.from_residual-in_err-base.result
    c.from_residual-in_err-base.ensures.1 in
    follows_exit g.F.Files IsTask _ _ exit.0 c.in_err-base.field-0.0 _ _ exit.1 exit.2
    (follows_then g.F.Files NamesHaveTypes IsTask _ _ c.in_ok-schema.schema _ _ _ _
    (rw c.as_str.ensures at c.in_ok-schema.ensures)
    (λ types has. follows_stopped g.F.Files HasItems IsTask _ _ c.in_err-base.field-0.0 _ _
    (rw c.as_str-2.ensures at c.in_err-base.ensures)))

pub returns-in_err-scripts : goal.returns-in_err-scripts
returns-in_err-scripts g c =
    let exit = err_from_is_err_and c.from_residual-in_err-scripts.result
    c.from_residual-in_err-scripts.ensures.1 in
    follows_exit g.F.Files IsTask _ _ exit.0 c.in_err-scripts.field-0.0 _ _ exit.1 exit.2
    (follows_then g.F.Files NamesHaveTypes IsTask _ _ c.in_ok-schema.schema _ _ _ _
    (rw c.as_str.ensures at c.in_ok-schema.ensures)
    (λ types has. follows_then g.F.Files HasItems IsTask _ _ c.in_ok-base.base _ _ _ _
    (rw c.as_str-2.ensures at c.in_ok-base.ensures)
    (λ base is. follows_stopped g.F.Files AreItems IsTask _ _ c.in_err-scripts.field-0.0 _ _
    (rw c.as_slice.ensures at c.in_err-scripts.ensures))))

pub returns : goal.returns
returns g c =
    let order : c.in_ok-order.order.items ≡ c.args.args.now.order =
    c.in_ok-order.ensures.items ∙ c.writers.ensures in
    let read = rw c.as_slice.ensures at c.in_ok-scripts.ensures in
    let count = so_many _ _ c.args.args.now.scripts c.in_ok-scripts.scripts.items
    (comes_as _ _ AreItems (λ meant made. made ≡ meant) (script_files c.args.args.now.scripts)
    c.in_ok-scripts.scripts c.in_ok-scripts.scripts.items (λ x same. same) read.comes) in
    follows_then g.F.Files NamesHaveTypes IsTask _ _ c.in_ok-schema.schema _ _ _ _
    (rw c.as_str.ensures at c.in_ok-schema.ensures)
    (λ types has. follows_then g.F.Files HasItems IsTask _ _ c.in_ok-base.base _ _ _ _
    (rw c.as_str-2.ensures at c.in_ok-base.ensures)
    (λ base is. follows_then g.F.Files AreItems IsTask _ _ c.in_ok-scripts.scripts _ _ _ _
    (rw c.as_slice.ensures at c.in_ok-scripts.ensures)
    (λ scripts are. follows_here g.F.Files IsTask _ _ _ refl (record {
      same = DoesSame-equal _ _ (rw (has, is, are, order) refl);
      ready = rw order (weave_of_many c.args.args.now.scripts c.in_ok-scripts.scripts.items
          c.args.args.now.order count c.requires.weave);
    }))))

pub returns-in_err-order : goal.returns-in_err-order
returns-in_err-order g c =
    let exit = err_from_is_err_and c.from_residual-in_err-order.result
    c.from_residual-in_err-order.ensures.1 in
    follows_exit g.F.Files IsTask _ _ exit.0 stop.Memory _ _ exit.1 exit.2
    (follows_then g.F.Files NamesHaveTypes IsTask _ _ c.in_ok-schema.schema _ _ _ _
    (rw c.as_str.ensures at c.in_ok-schema.ensures)
    (λ types has. follows_then g.F.Files HasItems IsTask _ _ c.in_ok-base.base _ _ _ _
    (rw c.as_str-2.ensures at c.in_ok-base.ensures)
    (λ base is. follows_wanting g.F.Files AreItems IsTask _ _ c.in_ok-scripts.scripts _ _
    (rw c.as_slice.ensures at c.in_ok-scripts.ensures))))
