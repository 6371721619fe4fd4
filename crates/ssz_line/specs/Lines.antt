-- The lines of a script with their numbers (this project's).
use Rattle.std.specs.Prelude.{ℕ, suc, nat_eq, if◌then◌else◌, Bool, List, [], ◌∷◌, codes}
use Rattle.std.specs.List.{starts_with}
use Rattle.std.specs.Str.Lines.{lines}

-- lines that are numbered on from n
abbrev pub numbered_from : ℕ → List (List ℕ) → List (ℕ × List ℕ)
numbered_from n [] = []
numbered_from n (line ∷ more) = (n, line) ∷ numbered_from (suc n) more

-- The lines of a text, numbered from 1. A line feed ends a line; the last line may lack it. One
-- carriage return before a line feed is dropped.
abbrev pub numbered_lines : List ℕ → List (ℕ × List ℕ)
numbered_lines text = numbered_from 1 (lines text)

-- whether a line has `#` at its very front
abbrev pub begins_comment : List ℕ → Bool
begins_comment line = starts_with nat_eq line (codes "#")

-- the lines from the first one on that has not
abbrev pub past_comments : List (ℕ × List ℕ) → List (ℕ × List ℕ)
past_comments [] = []
past_comments (line ∷ more) = if begins_comment line.1 then past_comments more else line ∷ more
