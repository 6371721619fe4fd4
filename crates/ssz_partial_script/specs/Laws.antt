-- What a script tells of a value whose tree it knows a part of.
use Rattle.std.specs.Prelude.{ℕ, ◌≡◌, List, [], ◌∷◌, Option, Some, None, Ok, Err, IsTrue}
use Rattle.std.specs.List.{AllByRecursion}
use Rattle.ssz_schema.specs.format.Format.{Format}
use Rattle.ssz_schema.specs.Types.{SszType}
use Rattle.ssz_schema.specs.Paths.{Path, path_type}
use Rattle.ssz_value.specs.Values.{SszValue}
use Rattle.ssz_value.specs.Encoding.{serialize}
use Rattle.ssz_value.specs.Trees.{hash_tree_root}
use Rattle.ssz_value.specs.Parts.{part}
use Rattle.ssz_value.specs.Edits.{set_at}
use Rattle.ssz_value.specs.Laws.{Encodes}
use Rattle.ssz_proof.specs.Calculation.{PairOf}
use Rattle.ssz_proof.specs.Multiproof.{Multiproof}
use Rattle.ssz_partial.specs.Laws.{HasKnown}
use Rattle.ssz_script.specs.declared.partial.PartialStatement.{PartialStatement}
use Rattle.ssz_script.specs.declared.partial.PartialStatement.TheVariants.{Get, Set, Root}
use Rattle.ssz_script.specs.declared.reply.Reply.{Reply}
use Rattle.ssz_script.specs.declared.reply.Reply.TheVariants.{Bytes, Root as RootIs}
use Rattle.ssz_script.specs.declared.reply.TheConstants.Reply.{ABSENT}
use Rattle.ssz_script.specs.Lines.{partial_statements_in}
use Rattle.ssz_script.specs.OneLine.{is_line}
use Rattle.ssz_partial_script.specs.Statements.{PartialRefusal, coded, PartialRow}
use Rattle.ssz_partial_script.specs.Plays.{PartialScriptLine, partial_step, known_after, partial_play, partial_shown}

-- the reply is the encoding of the value's part
pub record ShowsPart (t : SszType) (v : SszValue) (path : Path) (reply : Reply) : Type 0 where
  pub type : SszType
  pub value : SszValue
  pub leads : path_type t path ≡ Some type
  pub part_is : part t v path ≡ Some value
  pub shows : reply ≡ Bytes (serialize type value)

-- the literal is the encoding of a value of the part's type, and with that value in the place of
-- the part the whole is the other value
pub record SetsPart (t : SszType) (v : SszValue) (path : Path) (literal : List ℕ)
    (after : SszValue) : Type 0 where
  pub type : SszType
  pub value : SszValue
  pub leads : path_type t path ≡ Some type
  pub encodes : Encodes type value literal
  pub sets : set_at t v path value ≡ Ok after

-- what is refused as absent is absent in the value
abbrev pub IsAbsentWhere : SszType → SszValue → Path → PartialRefusal → Type 0
IsAbsentWhere t v path refusal = refusal ≡ coded ABSENT → part t v path ≡ None

-- What the row of a statement tells of a value, and the value after it.
abbrev pub RowTells : PairOf → SszType → SszValue → Option PartialStatement → PartialRow → SszValue
    → Type 0
RowTells pair_of t v (Some (Get path)) (Ok effect) after =
    ShowsPart t v path effect.reply × (after ≡ v)
RowTells pair_of t v (Some (Get path)) (Err refusal) after =
    IsAbsentWhere t v path refusal × (after ≡ v)
RowTells pair_of t v (Some (Set path literal)) (Ok effect) after = SetsPart t v path literal after
RowTells pair_of t v (Some (Set path literal)) (Err refusal) after =
    IsAbsentWhere t v path refusal × (after ≡ v)
RowTells pair_of t v (Some Root) (Ok effect) after =
    (effect.reply ≡ RootIs (record { 0 = hash_tree_root pair_of t v })) × (after ≡ v)
RowTells pair_of t v other row after = after ≡ v

-- So do lines one after another; and after all of them the tree of the value has what is known.
abbrev pub TellsAlong : PairOf → Format → SszType → SszValue → Multiproof → List PartialScriptLine
    → Type 0
TellsAlong pair_of format t v proof [] = HasKnown pair_of format t v proof
TellsAlong pair_of format t v proof (line ∷ lines) =
    let turn = partial_step pair_of t proof line in
    (after : SszValue) × RowTells pair_of t v turn.line.1 turn.row after
    × TellsAlong pair_of format t after (known_after turn) lines

-- So does any script of each value whose tree has what is known first.
abbrev pub ScriptsTellValues : Type 0
ScriptsTellValues =
    (pair_of : PairOf) (format : Format) (t : SszType) (v : SszValue) (proof : Multiproof)
    (script : List ℕ) → HasKnown pair_of format t v proof
    → TellsAlong pair_of format t v proof (partial_statements_in script)

-- a line feed stands at the end of each line that is printed, and nowhere else in it
abbrev pub PartialLinesAreLines : Type 0
PartialLinesAreLines =
    (pair_of : PairOf) (t : SszType) (proof : Multiproof) (lines : List PartialScriptLine)
    → AllByRecursion (λ turn. IsTrue (is_line (partial_shown turn)))
    (partial_play pair_of t proof lines)
