-- What is left to do once the files of the words are read.
use Rattle.std.specs.Prelude.{ℕ, ◌+◌, ◌*◌, Bool, true, false, bytes_eq, if◌then◌else◌, List, Option, sum_by}
use Rattle.ssz_chunk.specs.Index.{levels}
use Rattle.ssz_clash.specs.Compared.{compared}
use Rattle.ssz_outside.specs.declared.status.Status.{Status}
use Rattle.ssz_outside.specs.declared.status.Status.TheVariants as status
use Rattle.ssz_proof.specs.Calculation.{PairOf, calculate_root, indices_of}
use Rattle.ssz_proof.specs.Multiproof.{Multiproof, known_of}
use Rattle.ssz_schema.specs.Types.{SszType}
use Rattle.ssz_value.specs.Pairs.{pairs}
use Rattle.ssz_value.specs.Reading.{value_in}
use Rattle.ssz_value.specs.Trees.{hash_tree_root}
use Rattle.ssz_tool.specs.Lines.{bytes_text, line_text, line_status, usage_text}
use Rattle.ssz_tool.specs.declared.line.Line.{Line}
use Rattle.ssz_tool.specs.declared.line.Line.TheVariants as line

-- a text that is printed, and the status after it
pub record Printed : Type 0 where
  pub text : List ℕ
  pub status : Status

abbrev pub printed : Line → Printed
printed line = record { text = line_text line; status = line_status line }

-- A text to print that is made with the hasher's pairs, and how many of them at most; a script to
-- run over types by their names, with the most bytes of a value; a base, an order and scripts to
-- weave; a type's name, a number from which so many edits are drawn, and the edits; or a script to
-- run over the tree of a value of a type, of which a multiproof knows some nodes.
pub data Task : Type 0 where
  prints : (PairOf → Printed) → ℕ → Task
  plays : (List ℕ → Option SszType) → ℕ → List ℕ → Task
  weaves : (List ℕ → Option SszType) → ℕ → List ℕ → List ℕ → List (List ℕ) → Task
  works : (List ℕ → Option SszType) → List ℕ → ℕ → ℕ → Task
  plays_tree : SszType → Multiproof → List ℕ → Task

-- ---- tasks that print one line

-- a line to print, for which nothing is hashed
abbrev pub prints_line : Line → Task
prints_line line = prints (λ pair_of. printed line) 0

-- the line that says how the program is used
abbrev pub shows_usage : Task
shows_usage = prints (λ pair_of. record { text = usage_text; status = status.Usage }) 0

-- an encoding to print, for which nothing is hashed
abbrev pub shows : List ℕ → Task
shows bytes = prints (λ pair_of. record { text = bytes_text bytes; status = status.Accepted }) 0

-- the line of the root of the value that bytes encode
abbrev pub line_of_value : PairOf → SszType → List ℕ → Line
line_of_value pair_of t bytes =
    line.Root (record { 0 = hash_tree_root pair_of t (value_in t bytes) })

-- the root to take of the value of a type that bytes encode; 126 pairs are those of the zero table
abbrev pub roots : SszType → List ℕ → Task
roots t bytes =
    prints (λ pair_of. printed (line_of_value pair_of t bytes)) (126 + pairs t (value_in t bytes))

-- the line of a root that was calculated, where another was wanted or the same
abbrev pub line_of_root : List ℕ → List ℕ → Line
line_of_root wanted made =
    if bytes_eq made wanted then line.Valid else line.Unlike (record { 0 = made })

-- the line of a root by the one that a multiproof leads to
abbrev pub line_of_proof : PairOf → List ℕ → Multiproof → Line
line_of_proof pair_of root lists = line_of_root root (calculate_root pair_of (known_of lists) 1)

-- a root to compare with the one that a multiproof leads to
abbrev pub verifies : List ℕ → Multiproof → Task
verifies root lists =
    prints (λ pair_of. printed (line_of_proof pair_of root lists))
    (sum_by levels (indices_of lists.leaves))

-- two multiproofs to compare
abbrev pub compares : Multiproof → Multiproof → Task
compares one other =
    prints (λ pair_of. printed (line.Compared (compared pair_of one other)))
    (2 * sum_by levels (indices_of one.leaves))

-- whether scripts are run that may read files
abbrev pub is_script : Task → Bool
is_script (plays type_named most script) = true
is_script (weaves type_named most base order scripts) = true
is_script other = false
