-- The first name that stands twice.
use Rattle.std.specs.Prelude.{ℕ, ◌+◌, ◌==◌, Bool, false, if◌then◌else◌, List, [], ◌∷◌, Option, Some, None, bytes_eq}
use Rattle.std.specs.List.{list_any}

-- the number of the first of the names that equals an earlier one,
-- where these were seen and the next is number i
abbrev pub first_repeat : List (List ℕ) → ℕ → List (List ℕ) → Option ℕ
first_repeat seen i [] = None
first_repeat seen i (name ∷ names) =
    if list_any (λ other. bytes_eq other name) seen then Some i
    else first_repeat (name ∷ seen) (i + 1) names

abbrev pub is_at : Option ℕ → ℕ → Bool
is_at None i = false
is_at (Some place) i = place == i
