use Rattle.std.proofs.Common.{ap, map, refl, string_bytes, ◌∙◌, Err}
use Rattle.std.proofs.lemmas.Result.{err_from_is_err_and}
use Rattle.clap.specs.Words.{subcommand_rows_of}
use Rattle.ssz_words.proofs.FoundLemmas.{command_found, command_missing, refused_reads}
use Rattle.ssz_words.proofs.FoundLemmas.{subcommand_name-rows}
use Rattle.ssz_words.specs.Reading.{ReadsWords}
use Rattle.ssz_words.specs.Words.{command_of}
use Rattle.ssz_words.proofs.TakenLemmas.{reads_within}
use Rattle.ssz_words.proofs.reading.read_words.Goals as goal

pub returns-in_err-matches-clause-exact : goal.returns-in_err-matches-clause-exact
returns-in_err-matches-clause-exact c =
    let p = err_from_is_err_and c.from_residual.result c.from_residual.ensures.1 in
    rw (p.1, p.2) (refused_reads c.in_err-matches.field-0.0 _
    (λ not_taken. command_missing (map string_bytes c.args.words.now) _
    (c.in_err-matches.ensures.refused (ap Err not_taken)) refl))

pub returns-in-Some : goal.returns-in-Some
returns-in-Some c =
    let words = map string_bytes c.args.words.now in
    let matches = c.in_ok-matches.matches in
    let is = command_found words (subcommand_rows_of matches) _ _ c.in_ok-matches.ensures.taken
    (c.in-Some.ensures.name ∙ subcommand_name-rows matches) c.in-Some.ensures.rows in
    let exact : ReadsWords c.named_command.result (command_of words) =
    rw is c.named_command.ensures in
    record { exact = exact; limits = reads_within words c.named_command.result exact }

pub returns-clause-exact : goal.returns-clause-exact
returns-clause-exact c =
    let words = map string_bytes c.args.words.now in
    let matches = c.in_ok-matches.matches in
    command_missing words (subcommand_rows_of matches) c.in_ok-matches.ensures.taken
    (c.in-None.ensures.name ∙ subcommand_name-rows matches)
