-- Texts split at bytes.
use Rattle.std.proofs.Common.{ℕ, zero, suc, ◌<◌, ◌≡◌, Bool, true, false, List, [], ◌∷◌, length, get_or, take, drop, refl, ap, ◌∙◌, arith}
use Rattle.std.specs.List.{slice_split, onto_first}
use Rattle.std.proofs.lemmas.List.Splits.{slice_split-cons_yes, slice_split-cons_no}

-- where the first byte that passes lies at n
pub slice_split-place : (p : ℕ → Bool) (n : ℕ) (text : List ℕ) → n < length text
    → ((k : ℕ) → k < n → p (get_or text k 0) ≡ false)
    → p (get_or text n 0) ≡ true
    → slice_split p text ≡ take n text ∷ slice_split p (drop 1 (drop n text))
slice_split-place p n [] within before at = absurd (omega arith)
slice_split-place p zero (b ∷ text) within before at = slice_split-cons_yes p b text at
slice_split-place p (suc n) (b ∷ text) within before at =
    slice_split-cons_no p b text (before zero (omega arith))
    ∙ ap (onto_first b)
    (slice_split-place p n text (omega arith) (λ k h. before (suc k) (omega arith)) at)

-- where none passes
pub slice_split-none : (p : ℕ → Bool) (text : List ℕ)
    → ((k : ℕ) → k < length text → p (get_or text k 0) ≡ false) → slice_split p text ≡ text ∷ []
slice_split-none p [] before = refl
slice_split-none p (b ∷ text) before =
    slice_split-cons_no p b text (before zero (omega arith))
    ∙ ap (onto_first b) (slice_split-none p text (λ k h. before (suc k) (omega arith)))
