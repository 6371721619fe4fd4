-- The first word of a line, and the words after it.
use Rattle.std.proofs.Common.{ℕ, zero, suc, ◌<◌, ◌≤◌, ◌≡◌, true, false, List, [], ◌∷◌, length, get_or, take, drop, refl, sym, ap, ◌∙◌, arith}
use Rattle.std.specs.Prelude.{filter}
use Rattle.std.specs.List.{slice_split, onto_first}
use Rattle.std.proofs.lemmas.List.Splits.{slice_split-cons_yes, slice_split-cons_no}
use Rattle.ssz_line.specs.Words.{is_blank, is_nonempty, words_of}

-- a blank at the front is of no word
pub words_of-blank : (b : ℕ) (bytes : List ℕ) → is_blank b ≡ true
    → words_of (b ∷ bytes) ≡ words_of bytes
words_of-blank b bytes h = ap (filter is_nonempty) (slice_split-cons_yes is_blank b bytes h)

-- nor are blanks
pub words_of-drop : (n : ℕ) (line : List ℕ) → n ≤ length line
    → ((k : ℕ) → k < n → is_blank (get_or line k 0) ≡ true)
    → words_of (drop n line) ≡ words_of line
words_of-drop zero line within blank = refl
words_of-drop (suc n) [] within blank = absurd (omega arith)
words_of-drop (suc n) (b ∷ line) within blank =
    let first = words_of-blank b line (blank zero (omega arith)) in
    words_of-drop n line (omega arith) (λ k h. blank (suc k) (omega arith)) ∙ sym first

-- Where the first n bytes are no blanks, and a blank follows them if anything does, they are the
-- first part.
first_part : (n : ℕ) (line : List ℕ) → n ≤ length line
    → ((k : ℕ) → k < n → is_blank (get_or line k 0) ≡ false)
    → (n < length line → is_blank (get_or line n 0) ≡ true)
    → (rest : List (List ℕ)) × (slice_split is_blank line ≡ take n line ∷ rest)
    × (filter is_nonempty rest ≡ words_of (drop n line))
first_part zero [] within word blank = ([], refl, refl)
first_part zero (b ∷ line) within word blank =
    let here : is_blank b ≡ true = blank (omega arith) in
    let split = slice_split-cons_yes is_blank b line here in
    (slice_split is_blank line, split, sym (words_of-blank b line here))
first_part (suc n) [] within word blank = absurd (omega arith)
first_part (suc n) (b ∷ line) within word blank =
    let below = first_part n line (omega arith) (λ k h. word (suc k) (omega arith))
    (λ h. blank (omega arith)) in
    let split = slice_split-cons_no is_blank b line (word zero (omega arith)) in
    (below.0, split ∙ ap (onto_first b) below.1, below.2)

-- the word at the front, and the words after it
pub words_of-word : (n : ℕ) (line : List ℕ) → 0 < length line → is_blank (get_or line 0 0) ≡ false
    → n ≤ length line
    → ((k : ℕ) → k < n → is_blank (get_or line k 0) ≡ false)
    → (n < length line → is_blank (get_or line n 0) ≡ true)
    → words_of line ≡ take n line ∷ words_of (drop n line)
words_of-word n [] some front within word blank = absurd (omega arith)
words_of-word zero (b ∷ line) some front within word blank =
    let here : is_blank b ≡ true = blank (omega arith) in cc
words_of-word (suc n) (b ∷ line) some front within word blank =
    let part = first_part (suc n) (b ∷ line) within word blank in
    ap (filter is_nonempty) part.1 ∙ ap (λ (ws : List (List ℕ)). (b ∷ take n line) ∷ ws) part.2

pub words_of-none : (line : List ℕ) → length line ≡ 0 → words_of line ≡ []
words_of-none [] h = refl
words_of-none (b ∷ line) h = absurd (omega arith)
