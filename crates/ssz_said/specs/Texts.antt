-- What the texts that a call is given spell: a name, a path or an index.
use Rattle.std.specs.Prelude.{ℕ, List}
use Rattle.ssz_line.specs.declared.index.Index.{Index}
use Rattle.ssz_line.specs.Paths.{index, path}
use Rattle.ssz_line.specs.Single.{name}
use Rattle.ssz_schema.specs.Paths.{Path}
use Rattle.ssz_said.specs.declared.status.TheConstants.{MOST_TEXT, SYNTAX, TOO_LONG}
use Rattle.ssz_said.specs.Outcome.{CallOutcome, ◌>>=◌, at_most, need}

-- the name that a text is
abbrev pub name_in : List ℕ → CallOutcome (List ℕ)
name_in text = need SYNTAX (name text)

-- the path that a text spells
abbrev pub path_in : List ℕ → CallOutcome Path
path_in text = do
  few ← at_most TOO_LONG MOST_TEXT text
  need SYNTAX (path few)

-- the index that a text says, a number or a path
abbrev pub index_in : List ℕ → CallOutcome Index
index_in text = do
  few ← at_most TOO_LONG MOST_TEXT text
  need SYNTAX (index few)
