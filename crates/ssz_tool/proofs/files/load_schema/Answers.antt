use Rattle.std.proofs.Common.{refl}
use Rattle.std.proofs.lemmas.Result.{err_from_is_err_and}
use Rattle.ssz_schema_json.specs.Schema.{schema_of_bytes}
use Rattle.ssz_tool.specs.Commands.{schema_file}
use Rattle.ssz_tool.specs.Tasks.{HasItems, NamesHaveTypes}
use Rattle.ssz_tool.proofs.Reading.{schema_given, schema_refused}
use Rattle.ssz_tool.proofs.Steps.{follows_exit, follows_here, follows_stopped, follows_then, follows_wanting}
use Rattle.ssz_tool.proofs.files.load_schema.Goals as goal

pub returns-in_err-bytes : goal.returns-in_err-bytes
unfolding schema_file
returns-in_err-bytes g c =
    let exit = err_from_is_err_and c.from_residual.result c.from_residual.ensures.1 in
    follows_exit g.F.Files NamesHaveTypes _ _ exit.0 c.in_err-bytes.field-0.0 _ _ exit.1 exit.2
    (follows_stopped g.F.Files HasItems NamesHaveTypes _ _ c.in_err-bytes.field-0.0 _ _
    c.in_err-bytes.ensures)

pub returns-in-Ok : goal.returns-in-Ok
unfolding schema_file
returns-in-Ok g c =
    follows_then g.F.Files HasItems NamesHaveTypes _ _ c.in_ok-bytes.bytes _ _ _ _
    c.in_ok-bytes.ensures
    (λ bytes is. follows_here g.F.Files NamesHaveTypes _ _ _ refl
    (schema_given (schema_of_bytes bytes) c.in-Ok.schema
    (rw (c.deref.ensures.value, is) at c.in-Ok.ensures)))

pub returns-in-Err-NotJson : goal.returns-in-Err-NotJson
unfolding schema_file
returns-in-Err-NotJson g c =
    follows_then g.F.Files HasItems NamesHaveTypes _ _ c.in_ok-bytes.bytes _ _ _ _
    c.in_ok-bytes.ensures
    (λ bytes is. follows_here g.F.Files NamesHaveTypes _ _ _ refl
    (schema_refused (schema_of_bytes bytes) _ _
    (rw (c.in-Err-NotJson.field-0-is, c.deref.ensures.value, is) at c.in-Err-NotJson.ensures) refl))

pub returns-in-Err-Shape : goal.returns-in-Err-Shape
unfolding schema_file
returns-in-Err-Shape g c =
    follows_then g.F.Files HasItems NamesHaveTypes _ _ c.in_ok-bytes.bytes _ _ _ _
    c.in_ok-bytes.ensures
    (λ bytes is. follows_here g.F.Files NamesHaveTypes _ _ _ refl
    (schema_refused (schema_of_bytes bytes) _ _
    (rw (c.in-Err-Shape.field-0-is, c.deref.ensures.value, is) at c.in-Err-Shape.ensures) refl))

pub returns-in-Err-Def : goal.returns-in-Err-Def
unfolding schema_file
returns-in-Err-Def g c =
    follows_then g.F.Files HasItems NamesHaveTypes _ _ c.in_ok-bytes.bytes _ _ _ _
    c.in_ok-bytes.ensures
    (λ bytes is. follows_here g.F.Files NamesHaveTypes _ _ _ refl
    (schema_refused (schema_of_bytes bytes) _ _
    (rw (c.in-Err-Def.field-0-is, c.deref.ensures.value, is) at c.in-Err-Def.ensures) refl))

pub returns : goal.returns
unfolding schema_file
returns g c =
    follows_wanting g.F.Files HasItems NamesHaveTypes _ _ c.in_ok-bytes.bytes _ _
    c.in_ok-bytes.ensures
