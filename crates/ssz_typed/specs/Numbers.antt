-- The numbers that types have in C: the places of a list.
use Rattle.std.specs.Prelude.{◌≡◌, ◌≢◌, ◌⊎◌, ℕ, ◌<◌, List, [], ◌∷◌, ◌++◌, length, slice_index_or, Option, Some, None}

-- the type stands nowhere in a list
abbrev pub IsNew : List ℕ → ℕ → Type 0
IsNew found id = (k : ℕ) → k < length found → slice_index_or found k 0 ≢ id

-- the place of a type in a list, or that it stands nowhere in it
abbrev pub IsNumberFound : List ℕ → ℕ → Option ℕ → Type 0
IsNumberFound found id None = IsNew found id
IsNumberFound found id (Some k) = (k < length found) × (slice_index_or found k 0 ≡ id)

-- each type stands once in a list
abbrev pub EachOnce : List ℕ → Type 0
EachOnce found = (j k : ℕ) → j < length found → k < length found
    → slice_index_or found j 0 ≡ slice_index_or found k 0 → j ≡ k

-- The numbers that a type has after a name of it was asked for: those that were given out, one of
-- which is its number; or it has none of them and gets the next.
abbrev pub GivesNumber : List ℕ → List ℕ → ℕ → ℕ → Type 0
GivesNumber old new id number =
    ((new ≡ old) × IsNumberFound old id (Some number))
    ⊎ (IsNew old id × (number ≡ length old) × (new ≡ old ++ id ∷ []))
