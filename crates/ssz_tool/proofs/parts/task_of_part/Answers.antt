use Rattle.std.proofs.Common.{◌≡◌, ℕ, List, Err, refl, sym, ap, subst, ◌∙◌}
use Rattle.std.proofs.lemmas.Result.{err_from_is_err_and}
use Rattle.ssz_schema.specs.Unfolding.{type_of}
use Rattle.ssz_tool.specs.Tasks.{HasItems, NamesHaveTypes, IsTask}
use Rattle.ssz_tool.proofs.Reading.{named, not_named, read_within}
use Rattle.ssz_tool.specs.declared.stop.Stop.TheVariants as stop
use Rattle.ssz_tool.proofs.Steps.{follows_exit, follows_here, follows_none, follows_some, follows_stopped, follows_then, follows_wanting}
use Rattle.ssz_tool.proofs.Verdicts.{DoesSame-equal}
use Rattle.ssz_outside.specs.declared.status.Status.TheVariants.{Accepted}
use Rattle.ssz_schema.specs.Paths.{Path, path_type}
use Rattle.ssz_tool.specs.Commands.{encoding_in}
use Rattle.ssz_tool.specs.Follows.{AnswersPlan}
use Rattle.ssz_tool.specs.Tasks.{IsTextOf}
use Rattle.ssz_tool.specs.ToDo.{prints}
use Rattle.ssz_tool.proofs.Reading.{follows_answered, there, where_none}
use Rattle.ssz_tool.proofs.parts.task_of_part.Goals as goal

pub returns-in_err-schema : goal.returns-in_err-schema
returns-in_err-schema g c =
    let exit = err_from_is_err_and c.from_residual.result c.from_residual.ensures.1 in
    follows_exit g.F.Files IsTask _ _ exit.0 c.in_err-schema.field-0.0 _ _ exit.1 exit.2
    (follows_stopped g.F.Files NamesHaveTypes IsTask _ _ c.in_err-schema.field-0.0 _ _
    (rw c.as_str.ensures at c.in_err-schema.ensures))

pub returns-in_default : goal.returns-in_default
returns-in_default g c =
    follows_then g.F.Files NamesHaveTypes IsTask _ _ c.in_ok-schema.schema _ _ _ _
    (rw c.as_str.ensures at c.in_ok-schema.ensures)
    (λ types has. follows_none g.F.Files IsTask _ _ _ _
    (not_named types c.in_ok-schema.schema c.args.args.now.type_name c.as_str-2.result.now
    c.find.result has c.as_str-2.ensures c.find.ensures.exact c.in_default.not-Some))

pub returns-in_default-2 : goal.returns-in_default-2
returns-in_default-2 g c =
    follows_then g.F.Files NamesHaveTypes IsTask _ _ c.in_ok-schema.schema _ _ _ _
    (rw c.as_str.ensures at c.in_ok-schema.ensures)
    (λ types has. follows_some g.F.Files IsTask _ _ (type_of c.in_ok-schema.schema c.in-Some.id) _
    _ _ _
    (named types c.in_ok-schema.schema c.args.args.now.type_name c.as_str-2.result.now c.in-Some.id
    has c.as_str-2.ensures c.in-Some.ensures.exact)
    (follows_none g.F.Files IsTask _ _ _ _
    (where_none _ _ _ c.in_ok-steps.ensures c.in_default-2.not-Some)))

pub returns-in_err-bytes : goal.returns-in_err-bytes
returns-in_err-bytes g c =
    let fit = rw c.in-Some-2.is at c.in_ok-steps.ensures in
    let form = there (path_type (type_of c.in_ok-schema.schema c.in-Some.id) c.args.path.now)
    fit.1 in
    let exit = err_from_is_err_and c.from_residual-in_err-bytes.result
    c.from_residual-in_err-bytes.ensures.1 in
    follows_exit g.F.Files IsTask _ _ exit.0 c.in_err-bytes.field-0.0 _ _ exit.1 exit.2
    (follows_then g.F.Files NamesHaveTypes IsTask _ _ c.in_ok-schema.schema _ _ _ _
    (rw c.as_str.ensures at c.in_ok-schema.ensures)
    (λ types has. follows_some g.F.Files IsTask _ _ (type_of c.in_ok-schema.schema c.in-Some.id) _
    _ _ _
    (named types c.in_ok-schema.schema c.args.args.now.type_name c.as_str-2.result.now c.in-Some.id
    has c.as_str-2.ensures c.in-Some.ensures.exact)
    (follows_some g.F.Files IsTask _ _ (form.0) _ _ _ _
    (form.1)
    (follows_stopped g.F.Files HasItems IsTask _ _ c.in_err-bytes.field-0.0 _ _
    (rw c.as_str-3.ensures at c.in_err-bytes.ensures)))))

pub text_of_part-requires-clause-short : goal.text_of_part-requires-clause-short
text_of_part-requires-clause-short g c =
    rw c.deref-2.ensures.value (read_within _ _ _ _ _ c.in_ok-bytes.bytes
    c.in_ok-bytes.ensures.comes)

pub returns-in_err-text_of_part : goal.returns-in_err-text_of_part
returns-in_err-text_of_part g c =
    let fit = rw c.in-Some-2.is at c.in_ok-steps.ensures in
    let form = there (path_type (type_of c.in_ok-schema.schema c.in-Some.id) c.args.path.now)
    fit.1 in
    let walked : c.deref.result.now ≡ c.args.path.now = c.deref.ensures.value ∙ fit.0 in
    let why = c.in_err-text_of_part.field-0.0 in
    let exit = err_from_is_err_and c.from_residual-in_err-text_of_part.result
    c.from_residual-in_err-text_of_part.ensures.1 in
    follows_exit g.F.Files IsTask _ _ exit.0 why _ _ exit.1 exit.2
    (follows_then g.F.Files NamesHaveTypes IsTask _ _ c.in_ok-schema.schema _ _ _ _
    (rw c.as_str.ensures at c.in_ok-schema.ensures)
    (λ types has. follows_some g.F.Files IsTask _ _ (type_of c.in_ok-schema.schema c.in-Some.id) _
    _ _ _
    (named types c.in_ok-schema.schema c.args.args.now.type_name c.as_str-2.result.now c.in-Some.id
    has c.as_str-2.ensures c.in-Some.ensures.exact)
    (follows_some g.F.Files IsTask _ _ (form.0) _ _ _ _
    (form.1)
    (follows_then g.F.Files HasItems IsTask _ _ c.in_ok-bytes.bytes _ _ _ _
    (rw c.as_str-3.ensures at c.in_ok-bytes.ensures)
    (λ bytes is. follows_stopped g.F.Files IsTextOf IsTask _ _ why _ _
    (follows_answered g.F.Files IsTextOf (encoding_in c.args.args.now.max_bytes
    (type_of c.in_ok-schema.schema c.in-Some.id)
    form.0 c.args.path.now bytes) (Err why) _
    (subst (λ (walk : Path). AnswersPlan IsTextOf
    (encoding_in c.args.args.now.max_bytes (type_of c.in_ok-schema.schema c.in-Some.id) form.0
    walk bytes) (Err why)) walked
    (subst (λ (b : List ℕ). AnswersPlan IsTextOf
    (encoding_in c.args.args.now.max_bytes (type_of c.in_ok-schema.schema c.in-Some.id) form.0
    c.deref.result.now b) (Err why))
    (c.deref-2.ensures.value ∙ is)
    (c.in_err-text_of_part.ensures form.0 (rw walked form.1))))))))))

pub returns : goal.returns
returns g c =
    let fit = rw c.in-Some-2.is at c.in_ok-steps.ensures in
    let form = there (path_type (type_of c.in_ok-schema.schema c.in-Some.id) c.args.path.now)
    fit.1 in
    let walked : c.deref.result.now ≡ c.args.path.now = c.deref.ensures.value ∙ fit.0 in
    follows_then g.F.Files NamesHaveTypes IsTask _ _ c.in_ok-schema.schema _ _ _ _
    (rw c.as_str.ensures at c.in_ok-schema.ensures)
    (λ types has. follows_some g.F.Files IsTask _ _ (type_of c.in_ok-schema.schema c.in-Some.id) _
    _ _ _
    (named types c.in_ok-schema.schema c.args.args.now.type_name c.as_str-2.result.now c.in-Some.id
    has c.as_str-2.ensures c.in-Some.ensures.exact)
    (follows_some g.F.Files IsTask _ _ (form.0) _ _ _ _
    (form.1)
    (follows_then g.F.Files HasItems IsTask _ _ c.in_ok-bytes.bytes _ _ _ _
    (rw c.as_str-3.ensures at c.in_ok-bytes.ensures)
    (λ bytes is. follows_then g.F.Files IsTextOf IsTask _ _ c.in_ok-text_of_part.field-0 _ _ _ _
    (follows_answered g.F.Files IsTextOf (encoding_in c.args.args.now.max_bytes
    (type_of c.in_ok-schema.schema c.in-Some.id)
    form.0 c.args.path.now bytes) _ _
    (rw (walked, c.deref-2.ensures.value, is) at
    (c.in_ok-text_of_part.ensures form.0 (rw walked form.1))))
    (λ encoding says. follows_here g.F.Files IsTask _ _ _ refl (record {
      same = DoesSame-equal _ _ (ap (λ text. prints (λ pair_of.
          record { text = text; status = Accepted }) 0) (sym says));
      ready = tt;
    }))))))

pub returns-in_err-steps : goal.returns-in_err-steps
returns-in_err-steps g c =
    let exit = err_from_is_err_and c.from_residual-in_err-steps.result
    c.from_residual-in_err-steps.ensures.1 in
    follows_exit g.F.Files IsTask _ _ exit.0 stop.Memory _ _ exit.1 exit.2
    (follows_wanting g.F.Files NamesHaveTypes IsTask _ _ c.in_ok-schema.schema _ _
    (rw c.as_str.ensures at c.in_ok-schema.ensures))
