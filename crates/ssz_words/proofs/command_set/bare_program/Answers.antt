use Rattle.std.proofs.Common.{rules, ◌≡◌, codes, true}
use Rattle.clap.specs.Words.{App, app_of, new_app}
use Rattle.clap.specs.Simple.{on_top}
use Rattle.ssz_words.proofs.command_set.bare_program.Goals as goal

-- the settings of the program, as they are made
abbrev settings : App
settings = on_top
    (λ s. record s
    { subcommand_required = true; disable_help_flag = true; disable_help_subcommand = true })
    (new_app (codes "ssz"))

pub returns : goal.returns
returns c =
    let are : app_of c.disable_help_subcommand.result ≡ settings = search rules in
    are
