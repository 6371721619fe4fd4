-- The table of commands: a row a command, by its arguments.
use Rattle.std.specs.Prelude.{ℕ, ◌^◌, nat_lt, List, [], ◌∷◌, map, length, Option, Some, option_map, Result, Ok, Err, String, string_bytes}
use Rattle.std.specs.Option.{option_and_then}
use Rattle.std.specs.declared.alloc.Global.{Global}
use Rattle.ssz_line.specs.Paths.{path as path_of}
use Rattle.ssz_line.specs.Single.{name as name_of}
use Rattle.ssz_proof.specs.Judgement.{multiproof_of}
use Rattle.ssz_proof.specs.Multiproof.{Multiproof}
use Rattle.ssz_schema.specs.Lookup.{lookup_name}
use Rattle.ssz_schema.specs.Paths.{Path, path_type}
use Rattle.ssz_schema.specs.Types.{SszType}
use Rattle.ssz_schema_json.specs.Schema.{NamedTypes, FileFault, not_json, no_document, at_definition, schema_of_bytes}
use Rattle.ssz_value.specs.Encoding.{serialize}
use Rattle.ssz_value.specs.Faults.{first_fault}
use Rattle.ssz_value.specs.Parts.{part as part_of}
use Rattle.ssz_value.specs.Reading.{value_in}
use Rattle.ssz_words.specs.Words.{command_of}
use Rattle.ssz_words.specs.declared.commands.Command.{Command}
use Rattle.ssz_words.specs.declared.commands.Command.TheVariants.{Root, Run, Weave, Verify, Work}
use Rattle.ssz_words.specs.declared.commands.Command.TheVariants.{Part, Partial, Clash}
use Rattle.ssz_words.specs.declared.commands.RootArgs.{RootArgs}
use Rattle.ssz_words.specs.declared.commands.RunArgs.{RunArgs}
use Rattle.ssz_words.specs.declared.commands.WeaveArgs.{WeaveArgs}
use Rattle.ssz_words.specs.declared.commands.VerifyArgs.{VerifyArgs}
use Rattle.ssz_words.specs.declared.commands.WorkArgs.{WorkArgs}
use Rattle.ssz_words.specs.declared.commands.PartArgs.{PartArgs}
use Rattle.ssz_words.specs.declared.commands.PartialArgs.{PartialArgs}
use Rattle.ssz_words.specs.declared.commands.ClashArgs.{ClashArgs}
use Rattle.ssz_tool.specs.Plans.{Plan, gives, refuses, ◌>>=◌, ◌>>◌, file, need, refuse, faultless}
use Rattle.ssz_tool.specs.ToDo.{Task, compares, plays, plays_tree, roots, shows, verifies, weaves, works}
use Rattle.ssz_tool.specs.declared.line.Line.{Line}
use Rattle.ssz_tool.specs.declared.line.Line.TheVariants as line

-- ---- what the files of the words say; each but that of a value has at most 2 ^ 26 bytes

-- types by their names, or the line that refuses the bytes of a schema file
abbrev pub types_read : Result NamedTypes FileFault → Plan (List ℕ → Option SszType)
types_read (Ok names) = gives (lookup_name names.types)
types_read (Err not_json) = refuses line.NotJson
types_read (Err no_document) = refuses line.Shape
types_read (Err (at_definition number fault)) = refuses (line.Definition number fault)

unfoldable pub schema_file : List ℕ → Plan (List ℕ → Option SszType)
schema_file name = do
  bytes ← file name (2 ^ 26) line.SchemaTooLong
  types_read (schema_of_bytes bytes)

-- the multiproof that a file says; refused with the line where it says none
unfoldable pub proof_file : Line → List ℕ → Plan Multiproof
proof_file said name = do
  text ← file name (2 ^ 26) said
  need said (multiproof_of text)

unfoldable pub script_file : List ℕ → Plan (List ℕ)
script_file name = file name (2 ^ 26) line.TooLong

-- one behind another
unfoldable pub script_files : List (List ℕ) → Plan (List (List ℕ))
script_files [] = gives []
script_files (name ∷ names) = do
  script ← script_file name
  scripts ← script_files names
  gives (script ∷ scripts)

-- ---- the commands

-- `root SCHEMA TYPE FILE`
abbrev pub root : RootArgs → Plan Task
root args = do
  types ← schema_file args.schema
  t ← need line.NoType (types args.type_name)
  bytes ← file args.file args.max_bytes line.TooLong
  faultless (first_fault t 0 bytes)
  gives (roots t bytes)

-- `verify ROOT FILE`
abbrev pub verify : VerifyArgs → Plan Task
verify args = do
  lists ← proof_file line.BadProof args.file
  gives (verifies args.root lists)

-- `run SCHEMA SCRIPT`
abbrev pub run : RunArgs → Plan Task
run args = do
  types ← schema_file args.schema
  script ← script_file args.script
  gives (plays types args.max_bytes script)

-- `weave SCHEMA BASE ORDER SCRIPT..`
abbrev pub weave : WeaveArgs → Plan Task
weave args = do
  types ← schema_file args.schema
  base ← script_file args.base
  scripts ← script_files args.scripts
  gives (weaves types args.max_bytes base args.order scripts)

-- the type of a word, which has to be a name
abbrev pub type_of_word : (List ℕ → Option SszType) → List ℕ → Option SszType
type_of_word types word = option_and_then types (name_of word)

-- `work SCHEMA TYPE SEED EDITS`
abbrev pub work : WorkArgs → Plan Task
work args = do
  types ← schema_file args.schema
  t ← need line.NoType (type_of_word types args.type_name)
  gives (works types args.type_name args.seed args.edits)

-- the encoding of the part at a path in the value that bytes encode, within so many bytes
unfoldable pub encoding_in : ℕ → SszType → SszType → Path → List ℕ → Plan (List ℕ)
encoding_in most whole form path bytes = do
  faultless (first_fault whole 0 bytes)
  value ← need line.Absent (part_of whole (value_in whole bytes) path)
  refuse line.TooLong (nat_lt most (length (serialize form value)))
  gives (serialize form value)

-- `part SCHEMA TYPE FILE PATH`, with the path that PATH spells
abbrev pub part : PartArgs → Path → Plan Task
part args path = do
  types ← schema_file args.schema
  whole ← need line.NoType (types args.type_name)
  form ← need line.BadPath (path_type whole path)
  bytes ← file args.file args.max_bytes line.TooLong
  encoding ← encoding_in args.max_bytes whole form path bytes
  gives (shows encoding)

-- `partial SCHEMA TYPE PROOF SCRIPT`
abbrev pub partial : PartialArgs → Plan Task
partial args = do
  types ← schema_file args.schema
  t ← need line.NoType (types args.type_name)
  lists ← proof_file line.BadProof args.proof
  script ← script_file args.script
  gives (plays_tree t lists script)

-- `clash FILE FILE`
abbrev pub clash : ClashArgs → Plan Task
clash args = do
  one ← proof_file line.FirstBadProof args.first
  other ← proof_file line.SecondBadProof args.second
  gives (compares one other)

-- the plan of a command: of `part`, where its last word is a path
abbrev pub plan_of_command : Command → Option (Plan Task)
plan_of_command (Root args) = Some (root args)
plan_of_command (Verify args) = Some (verify args)
plan_of_command (Run args) = Some (run args)
plan_of_command (Weave args) = Some (weave args)
plan_of_command (Work args) = Some (work args)
plan_of_command (Part args) = option_map (part args) (path_of args.path)
plan_of_command (Partial args) = Some (partial args)
plan_of_command (Clash args) = Some (clash args)

abbrev pub texts : List (String Global) → List (List ℕ)
texts words = map string_bytes words

-- the plan of the words, of which the first is the program's name; none where they are not taken
unfoldable pub plan_of : List (List ℕ) → Option (Plan Task)
plan_of words = option_and_then plan_of_command (command_of words)
