-- The commands of the program and their arguments, in the terms of `clap`.
use Rattle.std.specs.Prelude.{◌≡◌, ◌-◌, ◌^◌, true, false, List, [], ◌∷◌, Some, codes, pos}
use Rattle.clap.specs.Lexer.{usize_max}
use Rattle.clap.specs.Words.{App, Rule, Shape, Text, new_rule, shape_of}
use Rattle.clap.specs.Simple.{new_shape}
use Rattle.clap.specs.declared.builder.command.Command.{Command}
use Rattle.clap.specs.declared.builder.command.Command.TheViews.{out-Command as fields_of}
use Rattle.clap.specs.declared.builder.value_parser.ValueParser.{ValueParser}
use Rattle.clap.specs.declared.builder.value_parser.ValueParser.TheVariants.{Signed, Unsigned}

-- an argument that has to be given, found by its place
abbrev pub positional : Text → Rule
positional id = record (new_rule id) { required = true }

-- the same, one or more times
abbrev pub positionals : Text → Rule
positionals id = record (positional id) {
  range = Some (record { start_inclusive = 1; end_inclusive = usize_max });
}

-- the same, with a number that the parser takes
abbrev pub number : Text → ValueParser → Rule
number id parser = record (positional id) { parser = Some parser }

-- `--max-bytes N`: a number of 32 bits, which is 2 ^ 28 where it is not given
abbrev pub max_bytes_option : Rule
max_bytes_option = record (new_rule (codes "max-bytes")) {
  long = Some (codes "max-bytes");
  parser = Some (Signed (pos 0) (pos (2 ^ 32 - 1)));
  defaults = codes "268435456" ∷ [];
}

-- a command with these arguments
abbrev pub command_with : Text → List Rule → Shape
command_with name rules = record (new_shape name) { rules = rules }

-- the command is as this shape says, and none of its arguments is global
abbrev pub IsLocal : Shape → Command → Type 0
IsLocal shape command = (shape_of command ≡ shape) × ((fields_of command).has_globals ≡ false)

-- `root SCHEMA TYPE FILE`
abbrev pub root_command : Shape
root_command = command_with (codes "root")
    (positional (codes "schema") ∷ positional (codes "type") ∷ positional (codes "file")
    ∷ max_bytes_option ∷ [])

-- `run SCHEMA SCRIPT`
abbrev pub run_command : Shape
run_command = command_with (codes "run")
    (positional (codes "schema") ∷ positional (codes "script") ∷ max_bytes_option ∷ [])

-- `weave SCHEMA BASE ORDER SCRIPT..`
abbrev pub weave_command : Shape
weave_command = command_with (codes "weave")
    (positional (codes "schema") ∷ positional (codes "base") ∷ positional (codes "order")
    ∷ positionals (codes "scripts") ∷ max_bytes_option ∷ [])

-- `verify ROOT FILE`
abbrev pub verify_command : Shape
verify_command = command_with (codes "verify")
    (positional (codes "root") ∷ positional (codes "file") ∷ [])

-- `work SCHEMA TYPE SEED EDITS`: a seed of 64 bits, and at most 1000000 edits
abbrev pub work_command : Shape
work_command = command_with (codes "work")
    (positional (codes "schema") ∷ positional (codes "type")
    ∷ number (codes "seed") (Unsigned 0 (2 ^ 64 - 1))
    ∷ number (codes "edits") (Signed (pos 0) (pos 1000000)) ∷ [])

-- `part SCHEMA TYPE FILE PATH`
abbrev pub part_command : Shape
part_command = command_with (codes "part")
    (positional (codes "schema") ∷ positional (codes "type") ∷ positional (codes "file")
    ∷ positional (codes "path") ∷ max_bytes_option ∷ [])

-- `partial SCHEMA TYPE PROOF SCRIPT`
abbrev pub partial_command : Shape
partial_command = command_with (codes "partial")
    (positional (codes "schema") ∷ positional (codes "type") ∷ positional (codes "proof")
    ∷ positional (codes "script") ∷ [])

-- `clash FILE FILE`
abbrev pub clash_command : Shape
clash_command = command_with (codes "clash")
    (positional (codes "first") ∷ positional (codes "second") ∷ [])

-- the program itself, which has to be given a command, and gives no help
abbrev pub program_shape : Shape
program_shape = record (new_shape (codes "ssz")) {
  is_leaf = false;
  subcommand_required = true;
  disable_help_flag = true;
  disable_help_subcommand = true;
}

-- it before it has commands
abbrev pub bare_program : App
bare_program = record { top = record program_shape { is_leaf = true }; subs = [] }

-- the commands that it has
abbrev pub commands : List Shape
commands = root_command ∷ run_command ∷ weave_command ∷ verify_command ∷ work_command
    ∷ part_command ∷ partial_command ∷ clash_command ∷ []

unfoldable pub program : App
program = record { top = program_shape; subs = commands }
