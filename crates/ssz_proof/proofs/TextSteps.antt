-- The line of a text, and its words.
use Rattle.std.proofs.Common.{◌≡◌, ℕ, ◌+◌, ◌<◌, ◌≤◌, Bool, cond, eqb, ltb, not, List, [], ◌∷◌, ◌++◌, length, refl, sym, ap, ◌∙◌, Some, None, arith, inl, inr}
use Rattle.std.proofs.lemmas.Bool.{cond-true, cond-false, cases_Bool, cases_lt, ne_eqb, ltb-true, lt-ltb}
use Rattle.std.proofs.lemmas.Option.{none-some, same_Some}
use Rattle.std.proofs.lemmas.List.Splits.{slice_split-cons_no, slice_split_first}
use Rattle.std.specs.Prelude.{position}
use Rattle.std.specs.List.{slice_split, onto_first, position_or_len, before_first, after_first}
use Rattle.ssz_proof.specs.Text.{line_without_feed}

-- a line feed at the end is taken off
pub line_of-end : (line : List ℕ) → line_without_feed (line ++ 10 ∷ []) ≡ line
line_of-end [] = refl
line_of-end (b ∷ []) = refl
line_of-end (b ∷ next ∷ line) = ap (λ rest. b ∷ rest) (line_of-end (next ∷ line))

-- any other byte is not
pub line_of-other : (line : List ℕ) (last : ℕ) → (last ≡ 10 → ⊥)
    → line_without_feed (line ++ last ∷ []) ≡ line ++ last ∷ []
line_of-other [] last other = cond-false (eqb last 10) [] (last ∷ []) (ne_eqb last 10 other)
line_of-other (b ∷ []) last other =
    ap (λ rest. b ∷ rest) (cond-false (eqb last 10) [] (last ∷ []) (ne_eqb last 10 other))
line_of-other (b ∷ next ∷ line) last other =
    ap (λ rest. b ∷ rest) (line_of-other (next ∷ line) last other)

-- where a byte first stands
pub position-place : (p : ℕ → Bool) (text : List ℕ) (i : ℕ) → position p text ≡ Some i
    → (position_or_len p text ≡ i) × (i < length text)
position-place p text i e = go (position_or_len p text) (length text) e
  where
    go : (n m : ℕ) → cond (ltb n m) (Some n) None ≡ Some i → (n ≡ i) × (i < m)
    go n m is = elim (cases_Bool (ltb n m)) [
      | inl less ↦
          (let same : n ≡ i = same_Some n i (sym (cond-true (ltb n m) (Some n) None less) ∙ is) in
          let below : n < m = ltb-true n m less in
          (same, omega arith))
      | inr more ↦ absurd (none-some i (sym (cond-false (ltb n m) (Some n) None more) ∙ is))
    ]

none_pass : (p : ℕ → Bool) (text : List ℕ) → length text ≤ position_or_len p text
    → slice_split p text ≡ text ∷ []
none_pass p [] past = refl
none_pass p (b ∷ text) past = elim (cases_Bool (p b)) [
  | inl passes ↦
      (let here : position_or_len p (b ∷ text) ≡ 0 =
      ap (λ t. cond (not t) (1 + position_or_len p text) 0) passes in
      absurd (omega arith))
  | inr fails ↦
      (let later : position_or_len p (b ∷ text) ≡ 1 + position_or_len p text =
      ap (λ t. cond (not t) (1 + position_or_len p text) 0) fails in
      slice_split-cons_no p b text fails
      ∙ ap (onto_first b) (none_pass p text (omega arith)))
]

-- no byte passes
pub words-none : (p : ℕ → Bool) (text : List ℕ) → position p text ≡ None
    → slice_split p text ≡ text ∷ []
words-none p text e = none_pass p text (past (position_or_len p text) (length text) e)
  where
    past : (n m : ℕ) → cond (ltb n m) (Some n) None ≡ None → m ≤ n
    past n m is = elim (cases_lt n m) [
      | inl less ↦
          absurd (none-some n (sym is ∙ cond-true (ltb n m) (Some n) None (lt-ltb n m less)))
      | inr more ↦ more
    ]

-- the first word, and the text behind it
pub words-first : (p : ℕ → Bool) (text : List ℕ) → position_or_len p text < length text
    → slice_split p text ≡ before_first p text ∷ slice_split p (after_first p text)
words-first p text some = slice_split_first p text 0 some
