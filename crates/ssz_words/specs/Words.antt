-- Which words the program takes, and what they ask for.
use Rattle.std.specs.Prelude.{List, Option, Some, None, codes, if◌then◌else◌, length, nat_le}
use Rattle.std.specs.Str.{bytes_eq}
use Rattle.clap.specs.Words.{Row, Text, all_of, fault_of, first_of, subcommand_of}
use Rattle.clap.specs.Walk.{is_empty}
use Rattle.ssz_words.specs.CommandSet.{program}
use Rattle.ssz_words.specs.Reading.{◌>>=◌, some_if}
use Rattle.ssz_words.specs.Values.{number_at, order_value, root_value}
use Rattle.ssz_words.specs.declared.commands.Command.{Command}
use Rattle.ssz_words.specs.declared.commands.Command.TheVariants.{Root, Run, Weave, Verify, Work}
use Rattle.ssz_words.specs.declared.commands.Command.TheVariants.{Part, Partial, Clash}

-- what a schema and a type are followed by
abbrev pub after_schema_and_type : (Text → Text → Option Command) → List Row → Option Command
after_schema_and_type rest rows = do
  schema ← first_of (codes "schema") rows
  type_name ← first_of (codes "type") rows
  rest schema type_name

-- `root SCHEMA TYPE FILE`, by what was found for its arguments
abbrev pub root_args : List Row → Option Command
root_args rows = do
  schema ← first_of (codes "schema") rows
  type_name ← first_of (codes "type") rows
  file ← first_of (codes "file") rows
  max_bytes ← number_at 32 (codes "max-bytes") rows
  Some (Root (record {
    schema = schema;
    type_name = type_name;
    file = file;
    max_bytes = max_bytes;
  }))

-- `run SCHEMA SCRIPT`
abbrev pub run_args : List Row → Option Command
run_args rows = do
  schema ← first_of (codes "schema") rows
  script ← first_of (codes "script") rows
  max_bytes ← number_at 32 (codes "max-bytes") rows
  Some (Run (record { schema = schema; script = script; max_bytes = max_bytes }))

-- `weave SCHEMA BASE ORDER SCRIPT..`: at most ten scripts, and an order of them
abbrev pub weave_args : List Row → Option Command
weave_args rows = do
  schema ← first_of (codes "schema") rows
  base ← first_of (codes "base") rows
  digits ← first_of (codes "order") rows
  scripts ← all_of (codes "scripts") rows
  max_bytes ← number_at 32 (codes "max-bytes") rows
  order ← order_value (length scripts) digits
  some_if (nat_le (length scripts) 10) (Weave (record {
    schema = schema;
    base = base;
    order = order;
    scripts = scripts;
    max_bytes = max_bytes;
  }))

-- `verify ROOT FILE`
abbrev pub verify_args : List Row → Option Command
verify_args rows = do
  text ← first_of (codes "root") rows
  file ← first_of (codes "file") rows
  root ← root_value text
  Some (Verify (record { root = root; file = file }))

-- `work SCHEMA TYPE SEED EDITS`
abbrev pub work_args : List Row → Option Command
work_args rows = do
  schema ← first_of (codes "schema") rows
  type_name ← first_of (codes "type") rows
  seed ← number_at 64 (codes "seed") rows
  edits ← number_at 32 (codes "edits") rows
  Some (Work (record { schema = schema; type_name = type_name; seed = seed; edits = edits }))

-- `part SCHEMA TYPE FILE PATH`
abbrev pub part_args : List Row → Option Command
part_args rows = do
  schema ← first_of (codes "schema") rows
  type_name ← first_of (codes "type") rows
  file ← first_of (codes "file") rows
  path ← first_of (codes "path") rows
  max_bytes ← number_at 32 (codes "max-bytes") rows
  Some (Part (record {
    schema = schema;
    type_name = type_name;
    file = file;
    path = path;
    max_bytes = max_bytes;
  }))

-- `partial SCHEMA TYPE PROOF SCRIPT`
abbrev pub partial_args : List Row → Option Command
partial_args rows = do
  schema ← first_of (codes "schema") rows
  type_name ← first_of (codes "type") rows
  proof ← first_of (codes "proof") rows
  script ← first_of (codes "script") rows
  Some (Partial (record {
    schema = schema;
    type_name = type_name;
    proof = proof;
    script = script;
  }))

-- `clash FILE FILE`
abbrev pub clash_args : List Row → Option Command
clash_args rows = do
  first ← first_of (codes "first") rows
  second ← first_of (codes "second") rows
  Some (Clash (record { first = first; second = second }))

-- the command of this name
abbrev pub named_args : Text → List Row → Option Command
named_args name rows =
    if bytes_eq name (codes "root") then root_args rows
    else if bytes_eq name (codes "run") then run_args rows
    else if bytes_eq name (codes "weave") then weave_args rows
    else if bytes_eq name (codes "verify") then verify_args rows
    else if bytes_eq name (codes "work") then work_args rows
    else if bytes_eq name (codes "part") then part_args rows
    else if bytes_eq name (codes "partial") then partial_args rows
    else if bytes_eq name (codes "clash") then clash_args rows
    else None

-- the command that `clap` enters and what it finds there, where it finds no fault in the words
unfoldable pub found_in : List Text → Option (Text × List Row)
found_in words = if is_empty (fault_of program words) then subcommand_of program words else None

-- what the words ask for, of which the first is the program's name
unfoldable pub command_of : List Text → Option Command
command_of words = do
  entered ← found_in words
  named_args entered.0 entered.1
