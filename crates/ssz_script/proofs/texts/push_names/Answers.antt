use Rattle.std.proofs.Common.{codes, refl}
use Rattle.std.proofs.lemmas.Result.{IfOk-equal}
use Rattle.ssz_script.proofs.TextsLemmas.{line-after_spaces}
use Rattle.ssz_script.proofs.texts.push_names.Goals as goal

pub returns-clause-ok : goal.returns-clause-ok
returns-clause-ok c =
    IfOk-equal c.push_line.result _ _ _ c.push_line.ensures.ok
    (let whole = line-after_spaces (codes "list") c.args.names.now in
    rw (c.as_slice.ensures.value, c.in_ok-text.ensures, whole) refl)
