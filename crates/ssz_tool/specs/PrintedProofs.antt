-- What `verify` says of a proof that a script printed.
use Rattle.std.specs.Prelude.{ℕ, ◌≡◌, ◌≢◌, ◌≤◌, ◌^◌, Bool, List, [], Some, IfOk, length}
use Rattle.std.specs.List.{AllByRecursion}
use Rattle.ssz_line.specs.declared.index.Index.{Index}
use Rattle.ssz_outside.specs.Content.{Content, contents}
use Rattle.ssz_proof.specs.Calculation.{PairOf}
use Rattle.ssz_schema.specs.format.Format.{Format}
use Rattle.ssz_script.specs.declared.reply.Reply.{Reply}
use Rattle.ssz_script.specs.declared.reply.Reply.TheVariants.{Proof}
use Rattle.ssz_script.specs.declared.statement.Statement.TheVariants.{Prove}
use Rattle.ssz_value.specs.Trees.{hash_tree_root}
use Rattle.ssz_machine.specs.declared.place.Place.{Place}
use Rattle.ssz_machine.specs.State.{Name, State, Version, Versions, version_of}
use Rattle.ssz_machine.specs.Rules.{Rules}
use Rattle.ssz_machine.specs.Machine.{Turn}
use Rattle.ssz_machine.specs.Plays.{Event, play}
use Rattle.ssz_machine.specs.Asking.{prove}
use Rattle.ssz_machine.specs.Proofs.{MakesChunks, IsIndex, IsSoundVersion}
use Rattle.ssz_machine.specs.Sound.{HasLegalTypes, IsSoundState, TurnBringsBytes}
use Rattle.ssz_words.specs.declared.commands.VerifyArgs.{VerifyArgs}
use Rattle.ssz_tool.specs.Commands.{verify}
use Rattle.ssz_tool.specs.Plans.{task_in}
use Rattle.ssz_tool.specs.Runs.{job_of_line, job_of_task}
use Rattle.ssz_tool.specs.declared.line.Line.TheVariants as line

-- where a file of at most 2 ^ 26 bytes holds the reply, `verify` of it prints `valid` for the root
abbrev pub IsValidFor : PairOf → List ℕ → Reply → Type 0
IsValidFor pair_of root (Proof text) =
    length text ≤ 2 ^ 26 → (args : VerifyArgs) (held : Content) → args.root ≡ root
    → contents held args.file ≡ text → (numbers : List ℕ) (reads : Bool)
    → job_of_task pair_of numbers held reads (task_in held (verify args))
    ≡ job_of_line held reads line.Valid
IsValidFor pair_of root other = ⊥

-- The reply to an accepted `prove` makes it so for the hash_tree_root of the version, for a legal
-- type and a value that fits, whatever function makes chunks of chunks.
abbrev pub PrintedProofsAreValid : Type 0
PrintedProofsAreValid =
    (rules : Rules) (format : Format) (versions : Versions) (v : Name) (indices : List Index)
    (version : Version)
    → MakesChunks rules.pair_of → indices ≢ [] → AllByRecursion IsIndex indices
    → version_of v versions ≡ Some version → IsSoundVersion format version
    → IfOk (prove rules versions v indices) (λ effect.
    IsValidFor rules.pair_of (hash_tree_root rules.pair_of version.type version.value) effect.reply)

-- The reply of a step that is a `prove` makes it so, where it was accepted.
abbrev pub ProvesValidly : PairOf → Turn → Type 0
ProvesValidly pair_of turn =
    (v : Name) (indices : List Index) (version : Version)
    → turn.line.1 ≡ Some (Prove v indices) → indices ≢ [] → AllByRecursion IsIndex indices
    → version_of v (turn.before.versions turn.writer) ≡ Some version
    → IfOk turn.row (λ effect.
    IsValidFor pair_of (hash_tree_root pair_of version.type version.value) effect.reply)

-- So it is of each step of scripts, where each type is legal, and what the steps bring in are
-- bytes: no version of theirs is any other.
abbrev pub ScriptsPrintValidProofs : Type 0
ScriptsPrintValidProofs =
    (rules : Rules) (format : Format) (place : Place) (numbers : List ℕ) (state : State)
    (events : List Event) → MakesChunks rules.pair_of → HasLegalTypes rules format
    → IsSoundState format state
    → AllByRecursion TurnBringsBytes (play rules place numbers state events)
    → AllByRecursion (ProvesValidly rules.pair_of) (play rules place numbers state events)
