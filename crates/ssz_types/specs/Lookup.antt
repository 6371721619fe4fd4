-- Names with what they stand for.
use Rattle.std.specs.Prelude.{ℕ, ◌==◌, if◌then◌else◌, List, [], ◌∷◌, Option, Some, None, bytes_eq}

-- what is listed under a name
abbrev pub lookup_name : {X : Type 0} → List (List ℕ × X) → List ℕ → Option X
lookup_name [] name = None
lookup_name (entry ∷ entries) name =
    if bytes_eq name entry.0 then Some entry.1 else lookup_name entries name

-- the first name that is listed for a number
abbrev pub name_for : List (List ℕ × ℕ) → ℕ → Option (List ℕ)
name_for [] id = None
name_for (entry ∷ entries) id = if entry.1 == id then Some entry.0 else name_for entries id
