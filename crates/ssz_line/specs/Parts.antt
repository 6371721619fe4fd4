-- What is left of a text that is read part by part.
use Rattle.std.specs.Prelude.{ℕ, List, [], Option, Some, None}
use Rattle.std.specs.Borrow.{Bor}
use Rattle.ssz_line.specs.Paths.{path_parts}

-- the parts of the text that is left, if one is
abbrev pub parts_left : Option (Bor (List ℕ)) → List (List ℕ)
parts_left None = []
parts_left (Some text) = path_parts text.now
