use Rattle.std.proofs.Common.{◌<◌, length, refl, sym, subst}
use Rattle.std.proofs.lemmas.Result.{err_from_is_err_and}
use Rattle.ssz_proof.specs.Multiproof.{IsProofOf}
use Rattle.ssz_schema.specs.Unfolding.{type_of}
use Rattle.ssz_tool.specs.declared.stop.Stop.TheVariants as stop
use Rattle.ssz_tool.specs.Tasks.{HasItems, NamesHaveTypes, IsTask}
use Rattle.ssz_tool.proofs.Reading.{named, not_named}
use Rattle.ssz_tool.proofs.Steps.{follows_exit, follows_here, follows_none, follows_some, follows_stopped, follows_then, follows_wanting}
use Rattle.ssz_partial.specs.Partial.{Knowledge}
use Rattle.ssz_tool.specs.Tasks.{DoesSame}
use Rattle.ssz_tool.specs.ToDo.{plays_tree}
use Rattle.ssz_tool.proofs.Trees.{tree-given}
use Rattle.ssz_tool.proofs.partials.task_of_partial.Goals as goal

pub returns-in_err-schema : goal.returns-in_err-schema
returns-in_err-schema g c =
    let exit = err_from_is_err_and c.from_residual.result c.from_residual.ensures.1 in
    follows_exit g.F.Files IsTask _ _ exit.0 c.in_err-schema.field-0.0 _ _ exit.1 exit.2
    (follows_stopped g.F.Files NamesHaveTypes IsTask _ _ c.in_err-schema.field-0.0 _ _
    (rw c.as_str.ensures at c.in_err-schema.ensures))

pub returns-in_default : goal.returns-in_default
returns-in_default g c =
    follows_then g.F.Files NamesHaveTypes IsTask _ _ c.in_ok-schema.schema _ _ _ _
    (rw c.as_str.ensures at c.in_ok-schema.ensures)
    (λ types has. follows_none g.F.Files IsTask _ _ _ _
    (not_named types c.in_ok-schema.schema c.args.args.now.type_name c.as_str-2.result.now
    c.find.result has c.as_str-2.ensures c.find.ensures.exact c.in_default.not-Some))

pub returns-in_err-proof : goal.returns-in_err-proof
returns-in_err-proof g c =
    let exit = err_from_is_err_and c.from_residual-in_err-proof.result
    c.from_residual-in_err-proof.ensures.1 in
    follows_exit g.F.Files IsTask _ _ exit.0 c.in_err-proof.field-0.0 _ _ exit.1 exit.2
    (follows_then g.F.Files NamesHaveTypes IsTask _ _ c.in_ok-schema.schema _ _ _ _
    (rw c.as_str.ensures at c.in_ok-schema.ensures)
    (λ types has. follows_some g.F.Files IsTask _ _ (type_of c.in_ok-schema.schema c.in-Some.id) _
    _ _ _
    (named types c.in_ok-schema.schema c.args.args.now.type_name c.as_str-2.result.now c.in-Some.id
    has c.as_str-2.ensures c.in-Some.ensures.exact)
    (follows_stopped g.F.Files IsProofOf IsTask _ _ c.in_err-proof.field-0.0 _ _
    (rw c.as_str-3.ensures at c.in_err-proof.ensures))))

pub returns-in_err-script : goal.returns-in_err-script
returns-in_err-script g c =
    let exit = err_from_is_err_and c.from_residual-in_err-script.result
    c.from_residual-in_err-script.ensures.1 in
    follows_exit g.F.Files IsTask _ _ exit.0 c.in_err-script.field-0.0 _ _ exit.1 exit.2
    (follows_then g.F.Files NamesHaveTypes IsTask _ _ c.in_ok-schema.schema _ _ _ _
    (rw c.as_str.ensures at c.in_ok-schema.ensures)
    (λ types has. follows_some g.F.Files IsTask _ _ (type_of c.in_ok-schema.schema c.in-Some.id) _
    _ _ _
    (named types c.in_ok-schema.schema c.args.args.now.type_name c.as_str-2.result.now c.in-Some.id
    has c.as_str-2.ensures c.in-Some.ensures.exact)
    (follows_then g.F.Files IsProofOf IsTask _ _ c.in_ok-proof.proof _ _ _ _
    (rw c.as_str-3.ensures at c.in_ok-proof.ensures)
    (λ lists is. follows_stopped g.F.Files HasItems IsTask _ _ c.in_err-script.field-0.0 _ _
    (rw c.as_str-4.ensures at c.in_err-script.ensures)))))

pub returns : goal.returns
returns g c =
    follows_then g.F.Files NamesHaveTypes IsTask _ _ c.in_ok-schema.schema _ _ _ _
    (rw c.as_str.ensures at c.in_ok-schema.ensures)
    (λ types has. follows_some g.F.Files IsTask _ _ (type_of c.in_ok-schema.schema c.in-Some.id) _
    _ _ _
    (named types c.in_ok-schema.schema c.args.args.now.type_name c.as_str-2.result.now c.in-Some.id
    has c.as_str-2.ensures c.in-Some.ensures.exact)
    (follows_then g.F.Files IsProofOf IsTask _ _ c.in_ok-proof.proof _ _ _ _
    (rw c.as_str-3.ensures at c.in_ok-proof.ensures)
    (λ lists is. follows_then g.F.Files HasItems IsTask _ _ c.in_ok-script.script _ _ _ _
    (rw c.as_str-4.ensures at c.in_ok-script.ensures)
    (λ script same. follows_here g.F.Files IsTask _ _ _ refl (record {
      same = subst (λ (k : Knowledge). DoesSame
          (plays_tree (type_of c.in_ok-schema.schema c.in-Some.id) lists script)
          (plays_tree (type_of c.in_ok-schema.schema k.id) k.proof c.in_ok-script.script.items))
          (sym c.in_ok-tree.ensures)
          (rw same (tree-given (type_of c.in_ok-schema.schema c.in-Some.id) lists
          c.in_ok-proof.proof script is));
      ready = subst (λ (k : Knowledge). k.id < length c.in_ok-schema.schema.trees)
          (sym c.in_ok-tree.ensures) (c.in-Some.ensures.known c.in-Some.id refl);
    })))))

pub returns-in_err-tree : goal.returns-in_err-tree
returns-in_err-tree g c =
    let exit = err_from_is_err_and c.from_residual-in_err-tree.result
    c.from_residual-in_err-tree.ensures.1 in
    follows_exit g.F.Files IsTask _ _ exit.0 stop.Memory _ _ exit.1 exit.2
    (follows_then g.F.Files NamesHaveTypes IsTask _ _ c.in_ok-schema.schema _ _ _ _
    (rw c.as_str.ensures at c.in_ok-schema.ensures)
    (λ types has. follows_some g.F.Files IsTask _ _ (type_of c.in_ok-schema.schema c.in-Some.id) _
    _ _ _
    (named types c.in_ok-schema.schema c.args.args.now.type_name c.as_str-2.result.now c.in-Some.id
    has c.as_str-2.ensures c.in-Some.ensures.exact)
    (follows_then g.F.Files IsProofOf IsTask _ _ c.in_ok-proof.proof _ _ _ _
    (rw c.as_str-3.ensures at c.in_ok-proof.ensures)
    (λ lists is. follows_wanting g.F.Files HasItems IsTask _ _ c.in_ok-script.script _ _
    (rw c.as_str-4.ensures at c.in_ok-script.ensures)))))
