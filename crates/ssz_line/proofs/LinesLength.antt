-- A text has no more lines than bytes.
use Rattle.std.proofs.Common.{ℕ, ◌+◌, ◌≤◌, ◌==◌, Bool, true, false, cond, List, [], ◌∷◌, length, arith}
use Rattle.std.specs.List.{slice_split, onto_first}
use Rattle.std.specs.Str.Lines.{lines, lines_of_parts}

ends : (b : Bool) (x : List ℕ) → length (cond b [] (x ∷ [])) ≤ 1
ends true x = omega arith
ends false x = omega arith

-- one byte more in the first part makes at most one line more
longer_first : (b : ℕ) (parts : List (List ℕ)) (n : ℕ) → length (lines_of_parts parts) ≤ n
    → length (lines_of_parts (onto_first b parts)) ≤ n + 1
longer_first b [] n h = let one = ends (length (b ∷ []) == 0) (b ∷ []) in omega (arith, one)
longer_first b (x ∷ []) n h = let one = ends (length (b ∷ x) == 0) (b ∷ x) in omega (arith, one)
longer_first b (x ∷ y ∷ parts) n h = omega arith

-- an empty part before others makes one line more
empty_first : (parts : List (List ℕ)) (n : ℕ) → length (lines_of_parts parts) ≤ n
    → length (lines_of_parts ([] ∷ parts)) ≤ n + 1
empty_first [] n h = omega arith
empty_first (y ∷ parts) n h = omega arith

pub length-lines : (text : List ℕ) → length (lines text) ≤ length text
length-lines [] = omega arith
length-lines (b ∷ text) =
    let rest = length-lines text in
    let parts = slice_split (λ x. x == 10) text in
    let longer = onto_first b parts in
    elim (b == 10) as
    (λ t. length (lines_of_parts (cond t ([] ∷ parts) longer)) ≤ length (b ∷ text)) [
      | true ↦ let e = empty_first parts (length text) rest in omega (arith, e)
      | false ↦ let e = longer_first b parts (length text) rest in omega (arith, e)
    ]
