use Rattle.std.proofs.lemmas.Result.{err_from_is_err_and}
use Rattle.ssz_words.specs.Values.{rows_in}
use Rattle.ssz_words.specs.Words.{part_args}
use Rattle.ssz_words.proofs.ArgsLemmas.{missing_reads}
use Rattle.ssz_words.proofs.reading.part_command.Goals as goal

pub returns-in_err-schema : goal.returns-in_err-schema
returns-in_err-schema c =
    let p = err_from_is_err_and c.from_residual.result c.from_residual.ensures.1 in
    rw (p.1, p.2) (missing_reads c.in_err-schema.field-0.0 (part_args (rows_in c.args.found.now))
    (λ none. c.in_err-schema.ensures.missing _ none))
