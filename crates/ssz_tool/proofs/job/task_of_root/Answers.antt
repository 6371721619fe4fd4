use Rattle.std.proofs.Common.{refl, sym, ap, arith}
use Rattle.std.proofs.lemmas.Result.{err_from_is_err_and}
use Rattle.ssz_schema.specs.Unfolding.{type_of}
use Rattle.ssz_tool.specs.Tasks.{HasItems, NamesHaveTypes, IsTask}
use Rattle.ssz_tool.proofs.Reading.{named, not_named, read_within}
use Rattle.ssz_tool.proofs.Steps.{follows_exit, follows_fault, follows_faultless, follows_here, follows_none, follows_some, follows_stopped, follows_then}
use Rattle.ssz_tool.proofs.Verdicts.{DoesSame-equal}
use Rattle.ssz_tool.specs.ToDo.{roots}
use Rattle.ssz_tool.proofs.job.task_of_root.Goals as goal

pub returns-in_err-schema : goal.returns-in_err-schema
returns-in_err-schema g c =
    let exit = err_from_is_err_and c.from_residual.result c.from_residual.ensures.1 in
    follows_exit g.F.Files IsTask _ _ exit.0 c.in_err-schema.field-0.0 _ _ exit.1 exit.2
    (follows_stopped g.F.Files NamesHaveTypes IsTask _ _ c.in_err-schema.field-0.0 _ _
    (rw c.as_str.ensures at c.in_err-schema.ensures))

pub returns-in_default : goal.returns-in_default
returns-in_default g c =
    follows_then g.F.Files NamesHaveTypes IsTask _ _ c.in_ok-schema.schema _ _ _ _
    (rw c.as_str.ensures at c.in_ok-schema.ensures)
    (λ types has. follows_none g.F.Files IsTask _ _ _ _
    (not_named types c.in_ok-schema.schema c.args.args.now.type_name c.as_str-2.result.now
    c.find.result has c.as_str-2.ensures c.find.ensures.exact c.in_default.not-Some))

pub returns-in_err-bytes : goal.returns-in_err-bytes
returns-in_err-bytes g c =
    let exit = err_from_is_err_and c.from_residual-in_err-bytes.result
    c.from_residual-in_err-bytes.ensures.1 in
    follows_exit g.F.Files IsTask _ _ exit.0 c.in_err-bytes.field-0.0 _ _ exit.1 exit.2
    (follows_then g.F.Files NamesHaveTypes IsTask _ _ c.in_ok-schema.schema _ _ _ _
    (rw c.as_str.ensures at c.in_ok-schema.ensures)
    (λ types has. follows_some g.F.Files IsTask _ _ (type_of c.in_ok-schema.schema c.in-Some.id) _
    _ _ _
    (named types c.in_ok-schema.schema c.args.args.now.type_name c.as_str-2.result.now c.in-Some.id
    has c.as_str-2.ensures c.in-Some.ensures.exact)
    (follows_stopped g.F.Files HasItems IsTask _ _ c.in_err-bytes.field-0.0 _ _
    (rw c.as_str-3.ensures at c.in_err-bytes.ensures))))

pub check-requires-clause-short : goal.check-requires-clause-short
check-requires-clause-short g c =
    rw c.deref.ensures.value (omega (
      arith,
      read_within _ _ _ _ _ c.in_ok-bytes.bytes
          c.in_ok-bytes.ensures.comes,
    ))

pub returns-in-Some-check : goal.returns-in-Some-check
returns-in-Some-check g c =
    follows_then g.F.Files NamesHaveTypes IsTask _ _ c.in_ok-schema.schema _ _ _ _
    (rw c.as_str.ensures at c.in_ok-schema.ensures)
    (λ types has. follows_some g.F.Files IsTask _ _ (type_of c.in_ok-schema.schema c.in-Some.id) _
    _ _ _
    (named types c.in_ok-schema.schema c.args.args.now.type_name c.as_str-2.result.now c.in-Some.id
    has c.as_str-2.ensures c.in-Some.ensures.exact)
    (follows_then g.F.Files HasItems IsTask _ _ c.in_ok-bytes.bytes _ _ _ _
    (rw c.as_str-3.ensures at c.in_ok-bytes.ensures)
    (λ bytes is. follows_fault g.F.Files IsTask _ c.in-Some-check.fault _ _
    (sym (rw (c.deref.ensures.value, is) at c.in-Some-check.ensures)))))

pub returns-in-None : goal.returns-in-None
returns-in-None g c =
    follows_then g.F.Files NamesHaveTypes IsTask _ _ c.in_ok-schema.schema _ _ _ _
    (rw c.as_str.ensures at c.in_ok-schema.ensures)
    (λ types has. follows_some g.F.Files IsTask _ _ (type_of c.in_ok-schema.schema c.in-Some.id) _
    _ _ _
    (named types c.in_ok-schema.schema c.args.args.now.type_name c.as_str-2.result.now c.in-Some.id
    has c.as_str-2.ensures c.in-Some.ensures.exact)
    (follows_then g.F.Files HasItems IsTask _ _ c.in_ok-bytes.bytes _ _ _ _
    (rw c.as_str-3.ensures at c.in_ok-bytes.ensures)
    (λ bytes is. follows_faultless g.F.Files IsTask _ _ _ _ _
    (sym (rw (c.deref.ensures.value, is) at c.in-None.ensures))
    (follows_here g.F.Files IsTask _ _ _ refl (record {
      same = DoesSame-equal _ _ (ap (roots (type_of c.in_ok-schema.schema c.in-Some.id)) (sym is));
      ready = record {
        known = c.in-Some.ensures.known c.in-Some.id refl;
        short = omega (
          arith,
          read_within _ _ _ _ _ c.in_ok-bytes.bytes
              c.in_ok-bytes.ensures.comes,
        );
        faultless = sym (rw c.deref.ensures.value at c.in-None.ensures);
      };
    })))))
