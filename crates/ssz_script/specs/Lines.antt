-- The statements among the lines of a script (this project's).
use Rattle.std.specs.Prelude.{ℕ, List, [], ◌∷◌, Option, Some, None}
use Rattle.ssz_line.specs.Lines.{numbered_lines}
use Rattle.ssz_script.specs.declared.statement.Statement.{Statement}
use Rattle.ssz_script.specs.declared.partial.PartialStatement.{PartialStatement}
use Rattle.ssz_script.specs.Grammar.{Word, Form, statements, partial_statements, line_of}

-- a line's number and its statement, if it is one, before others; nothing where the line says
-- nothing
abbrev pub before : {S : Type 0} → ℕ → Option (Option S) → List (ℕ × Option S) → List (ℕ × Option S)
before n None rest = (n, None) ∷ rest
before n (Some None) rest = rest
before n (Some (Some statement)) rest = (n, Some statement) ∷ rest

-- what lines say, by the table of statements
abbrev pub lines_said : {S : Type 0} → List (Word × Form S) → List (ℕ × List ℕ)
    → List (ℕ × Option S)
lines_said rows [] = []
lines_said rows (line ∷ more) = before line.0 (line_of rows line.1) (lines_said rows more)

-- the statements of a script: each has its line's number, and is None where the line is not of the
-- grammar
abbrev pub statements_in : List ℕ → List (ℕ × Option Statement)
statements_in script = lines_said statements (numbered_lines script)

-- the same of a script for a partial tree
abbrev pub partial_statements_in : List ℕ → List (ℕ × Option PartialStatement)
partial_statements_in script = lines_said partial_statements (numbered_lines script)
