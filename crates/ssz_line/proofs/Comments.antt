-- Lines that begin with `#` are passed over.
use Rattle.std.proofs.Common.{◌≡◌, ℕ, suc, ◌==◌, Bool, true, false, List, [], ◌∷◌, length, refl, ap, arith, cond}
use Rattle.std.specs.Prelude.{slice_index, take, ◌-◌}
use Rattle.std.specs.List.{slice_split, onto_first}
use Rattle.std.specs.Str.Lines.{lines, lines_of_parts, strip_carriage_return}
use Rattle.ssz_line.specs.Lines.{begins_comment, numbered_from, past_comments}

-- there are as many lines with numbers as without
pub length_numbered : (n : ℕ) (ls : List (List ℕ)) → length (numbered_from n ls) ≡ length ls
length_numbered n [] = refl
length_numbered n (line ∷ more) = ap suc (length_numbered (suc n) more)

-- the first of some lines, if there is one, is a comment or none
abbrev pub FirstIs : Bool → List (ℕ × List ℕ) → Type 0
FirstIs is [] = Unit {0}
FirstIs is (line ∷ more) = begins_comment line.1 ≡ is

-- a carriage return at its end is not how a line begins
strip_front : (b : ℕ) (x y : List ℕ)
    → begins_comment (strip_carriage_return (b ∷ x)) ≡ begins_comment (b ∷ y)
strip_front b [] y =
    elim (b == 13) as (λ t. (b == 13) ≡ t → begins_comment (cond t [] (b ∷ [])) ≡ begins_comment (b ∷ y)) [
      | true ↦ λ is. grind (arith)
      | false ↦ λ _. refl
    ] refl
strip_front b (c ∷ x) y =
    let last : length (b ∷ c ∷ x) - 1 ≡ suc (length x) = omega arith in
    elim (slice_index (b ∷ c ∷ x) (length (b ∷ c ∷ x) - 1) == 13) as
    (λ t. begins_comment (cond t (take (length (b ∷ c ∷ x) - 1) (b ∷ c ∷ x)) (b ∷ c ∷ x))
    ≡ begins_comment (b ∷ y)) [
      | true ↦ ap (λ m. begins_comment (take m (b ∷ c ∷ x))) last
      | false ↦ refl
    ]

-- a first byte that ends no line is the first one's
longer_begins : (n b : ℕ) (text : List ℕ) (parts : List (List ℕ))
    → FirstIs (begins_comment (b ∷ text)) (numbered_from n (lines_of_parts (onto_first b parts)))
longer_begins n b text [] = refl
longer_begins n b text (x ∷ []) =
    let some : (length (b ∷ x) == 0) ≡ false = grind (arith) in
    rw some refl
longer_begins n b text (x ∷ y ∷ parts) = strip_front b x text

empty_begins : (n : ℕ) (parts : List (List ℕ))
    → FirstIs false (numbered_from n (lines_of_parts ([] ∷ parts)))
empty_begins n [] = tt
empty_begins n (x ∷ parts) = refl

-- the first line begins as the text does
pub lines_begin : (n : ℕ) (text : List ℕ)
    → FirstIs (begins_comment text) (numbered_from n (lines text))
lines_begin n [] = tt
lines_begin n (b ∷ text) =
    let parts = slice_split (λ x. x == 10) text in
    elim (b == 10) as (λ t. (b == 10) ≡ t → FirstIs (begins_comment (b ∷ text))
    (numbered_from n (lines_of_parts (cond t ([] ∷ parts) (onto_first b parts))))) [
      | true ↦ λ is. grind (arith)
      | false ↦ λ _. longer_begins n b text parts
    ] refl

-- where the first is none, all lines are left
pub none_passed : (ls : List (ℕ × List ℕ)) → FirstIs false ls → past_comments ls ≡ ls
none_passed [] is = refl
none_passed (line ∷ more) is = rw is refl

-- where it is one, it is passed over
pub one_passed : (line : ℕ × List ℕ) (more : List (ℕ × List ℕ)) → FirstIs true (line ∷ more)
    → past_comments (line ∷ more) ≡ past_comments more
one_passed line more is = rw is refl
