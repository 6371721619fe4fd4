-- The first line of a text.
use Rattle.std.proofs.Common.{ℕ, ◌<◌, ◌≡◌, ◌==◌, true, false, List, [], ◌∷◌, length, get_or, take, drop, refl, ap, ◌∙◌, arith}
use Rattle.std.specs.List.{slice_split}
use Rattle.std.specs.Str.Lines.{lines, lines_of_parts, strip_carriage_return}
use Rattle.std.proofs.lemmas.List.Splits.{length-slice_split}
use Rattle.ssz_line.proofs.SplitLemmas.{slice_split-place, slice_split-none}

lines_of_parts-more : (x : List ℕ) (parts : List (List ℕ)) → 0 < length parts
    → lines_of_parts (x ∷ parts) ≡ strip_carriage_return x ∷ lines_of_parts parts
lines_of_parts-more x [] h = absurd (omega arith)
lines_of_parts-more x (y ∷ parts) h = refl

-- the line before the line feed at n, and those after it
pub lines-feed : (n : ℕ) (text : List ℕ) → n < length text
    → ((k : ℕ) → k < n → (get_or text k 0 == 10) ≡ false)
    → (get_or text n 0 == 10) ≡ true
    → lines text ≡ strip_carriage_return (take n text) ∷ lines (drop 1 (drop n text))
lines-feed n text within before at =
    let rest = drop 1 (drop n text) in
    let parts = slice_split (λ b. b == 10) rest in
    let some : 0 < length parts = omega (arith, length-slice_split (λ b. b == 10) rest) in
    ap lines_of_parts (slice_split-place (λ b. b == 10) n text within before at)
    ∙ lines_of_parts-more (take n text) parts some

-- the last line, where no line feed ends it
pub lines-last : (text : List ℕ) → (length text == 0) ≡ false
    → ((k : ℕ) → k < length text → (get_or text k 0 == 10) ≡ false)
    → lines text ≡ text ∷ lines []
lines-last text some before =
    let last : lines_of_parts (text ∷ []) ≡ text ∷ [] = rw some refl in
    ap lines_of_parts (slice_split-none (λ b. b == 10) text before) ∙ last
