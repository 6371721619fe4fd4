use Rattle.std.proofs.Common.{◌≡◌, Some, None, refl, sym, ap, ◌∙◌}
use Rattle.std.proofs.lemmas.Result.{err_from_is_err_and}
use Rattle.ssz_schema.specs.Unfolding.{type_of}
use Rattle.ssz_tool.specs.Tasks.{NamesHaveTypes, IsTask}
use Rattle.ssz_tool.proofs.Reading.{named, not_named}
use Rattle.ssz_tool.proofs.Steps.{follows_exit, follows_here, follows_none, follows_some, follows_stopped, follows_then, follows_wanting}
use Rattle.ssz_tool.proofs.Verdicts.{DoesSame-equal}
use Rattle.ssz_line.specs.Single.{name}
use Rattle.ssz_tool.proofs.Worked.{name_is, type_of_name, type_of_no_name}
use Rattle.ssz_tool.proofs.working.task_of_work.Goals as goal

pub returns-in_err-schema : goal.returns-in_err-schema
returns-in_err-schema g c =
    let exit = err_from_is_err_and c.from_residual.result c.from_residual.ensures.1 in
    follows_exit g.F.Files IsTask _ _ exit.0 c.in_err-schema.field-0.0 _ _ exit.1 exit.2
    (follows_stopped g.F.Files NamesHaveTypes IsTask _ _ c.in_err-schema.field-0.0 _ _
    (rw c.as_str.ensures at c.in_err-schema.ensures))

pub returns-in-Err-Syntax : goal.returns-in-Err-Syntax
returns-in-Err-Syntax g c =
    let word : name c.args.args.now.type_name ≡ None =
    ap name (sym (c.as_bytes.ensures.value ∙ c.as_str-2.ensures))
    ∙ (rw c.in-Err-Syntax.field-0-is at c.in-Err-Syntax.ensures) in
    follows_then g.F.Files NamesHaveTypes IsTask _ _ c.in_ok-schema.schema _ _ _ _
    (rw c.as_str.ensures at c.in_ok-schema.ensures)
    (λ types has. follows_none g.F.Files IsTask _ _ _ _
    (type_of_no_name types c.args.args.now.type_name word))

pub returns-in-Some : goal.returns-in-Some
returns-in-Some g c =
    let word : name c.args.args.now.type_name ≡ Some c.in-Ok.name =
    ap name (sym (c.as_bytes.ensures.value ∙ c.as_str-2.ensures)) ∙ c.in-Ok.ensures in
    let is = name_is c.args.args.now.type_name c.in-Ok.name word in
    follows_then g.F.Files NamesHaveTypes IsTask _ _ c.in_ok-schema.schema _ _ _ _
    (rw c.as_str.ensures at c.in_ok-schema.ensures)
    (λ types has. follows_some g.F.Files IsTask _ _
    (type_of c.in_ok-schema.schema c.in-Some.field-0) _ _ _ _
    (type_of_name types c.args.args.now.type_name c.in-Ok.name word
    ∙ named types c.in_ok-schema.schema c.args.args.now.type_name c.as_name.result.now
    c.in-Some.field-0 has (c.as_name.ensures.text ∙ is) c.in-Some.ensures.exact)
    (follows_here g.F.Files IsTask _ _ _ refl (record {
      same = DoesSame-equal _ _ (rw (has, is) refl);
      ready = tt;
    })))

pub returns-in-None : goal.returns-in-None
returns-in-None g c =
    let word : name c.args.args.now.type_name ≡ Some c.in-Ok.name =
    ap name (sym (c.as_bytes.ensures.value ∙ c.as_str-2.ensures)) ∙ c.in-Ok.ensures in
    let is = name_is c.args.args.now.type_name c.in-Ok.name word in
    follows_then g.F.Files NamesHaveTypes IsTask _ _ c.in_ok-schema.schema _ _ _ _
    (rw c.as_str.ensures at c.in_ok-schema.ensures)
    (λ types has. follows_none g.F.Files IsTask _ _ _ _
    (type_of_name types c.args.args.now.type_name c.in-Ok.name word
    ∙ not_named types c.in_ok-schema.schema c.args.args.now.type_name c.as_name.result.now None
    has (c.as_name.ensures.text ∙ is) c.in-None.ensures.exact
    (λ id differ. let no : None ≡ Some id = differ in cc)))

pub returns-in-Err-Memory : goal.returns-in-Err-Memory
returns-in-Err-Memory g c =
    follows_wanting g.F.Files NamesHaveTypes IsTask _ _ c.in_ok-schema.schema _ _
    (rw c.as_str.ensures at c.in_ok-schema.ensures)
