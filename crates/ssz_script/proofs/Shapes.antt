-- Statements with too few words or too many, and of one shape.
use Rattle.std.proofs.Common.{◌≡◌, ◌≢◌, List, [], ◌∷◌, length, Option, Some, None, refl}
use Rattle.std.proofs.Common.{option_map}
use Rattle.ssz_line.specs.Paths.{◌>>=◌}
use Rattle.ssz_line.specs.Single.{Reader}
use Rattle.ssz_script.specs.Grammar.{Word, one, two, three, three_or_four}

pub not_one : {A S : Type 0} (make : A → S) (a : Reader A) (words : List Word)
    → length words ≢ 1 → one make a words ≡ None
unfolding one
not_one make a [] h = refl
not_one make a (w ∷ []) h = absurd (h refl)
not_one make a (w ∷ v ∷ rest) h = refl

pub not_two : {A B S : Type 0} (make : A → B → S) (a : Reader A) (b : Reader B)
    (words : List Word) → length words ≢ 2 → two make a b words ≡ None
unfolding two
not_two make a b [] h = refl
not_two make a b (w ∷ []) h = refl
not_two make a b (w ∷ v ∷ []) h = absurd (h refl)
not_two make a b (w ∷ v ∷ u ∷ rest) h = refl

pub not_three : {A B C S : Type 0} (make : A → B → C → S) (a : Reader A) (b : Reader B)
    (c : Reader C) (words : List Word) → length words ≢ 3 → three make a b c words ≡ None
unfolding three
not_three make a b c [] h = refl
not_three make a b c (w ∷ []) h = refl
not_three make a b c (w ∷ v ∷ []) h = refl
not_three make a b c (w ∷ v ∷ u ∷ []) h = absurd (h refl)
not_three make a b c (w ∷ v ∷ u ∷ t ∷ rest) h = refl

pub not_three_or_four : {A B C D S : Type 0} (make : A → B → C → Option D → S) (a : Reader A)
    (b : Reader B) (c : Reader C) (d : Reader D) (words : List Word)
    → length words ≢ 3 → length words ≢ 4 → three_or_four make a b c d words ≡ None
unfolding three_or_four
not_three_or_four make a b c d [] h k = refl
not_three_or_four make a b c d (w ∷ []) h k = refl
not_three_or_four make a b c d (w ∷ v ∷ []) h k = refl
not_three_or_four make a b c d (w ∷ v ∷ u ∷ []) h k = absurd (h refl)
not_three_or_four make a b c d (w ∷ v ∷ u ∷ t ∷ []) h k = absurd (k refl)
not_three_or_four make a b c d (w ∷ v ∷ u ∷ t ∷ s ∷ rest) h k = refl

-- ---- what is made of words, by what they are read as

both_is : {A B S : Type 0} (make : A → B → S) (x : Option A) (y : Option B)
    → (x >>= λ k. y >>= λ l. Some (make k l))
    ≡ option_map (λ (p : A × B). make p.0 p.1) (x >>= λ k. y >>= λ l. Some (k, l))
both_is make None y = refl
both_is make (Some k) None = refl
both_is make (Some k) (Some l) = refl

pub two_is : {A B S : Type 0} (make : A → B → S) (a : Reader A) (b : Reader B)
    (words : List Word)
    → two make a b words ≡ option_map (λ (p : A × B). make p.0 p.1) (two (λ x y. (x, y)) a b words)
unfolding two
two_is make a b [] = refl
two_is make a b (w ∷ []) = refl
two_is make a b (w ∷ v ∷ []) = both_is make (a w) (b v)
two_is make a b (w ∷ v ∷ u ∷ rest) = refl

all_is : {A B C S : Type 0} (make : A → B → C → S) (x : Option A) (y : Option B) (z : Option C)
    → (x >>= λ k. y >>= λ l. z >>= λ m. Some (make k l m))
    ≡ option_map (λ (p : A × B × C). make p.0 p.1 p.2)
    (x >>= λ k. y >>= λ l. z >>= λ m. Some (k, l, m))
all_is make None y z = refl
all_is make (Some k) None z = refl
all_is make (Some k) (Some l) None = refl
all_is make (Some k) (Some l) (Some m) = refl

pub three_is : {A B C S : Type 0} (make : A → B → C → S) (a : Reader A) (b : Reader B)
    (c : Reader C) (words : List Word)
    → three make a b c words
    ≡ option_map (λ (p : A × B × C). make p.0 p.1 p.2) (three (λ x y z. (x, y, z)) a b c words)
unfolding three
three_is make a b c [] = refl
three_is make a b c (w ∷ []) = refl
three_is make a b c (w ∷ v ∷ []) = refl
three_is make a b c (w ∷ v ∷ u ∷ []) = all_is make (a w) (b v) (c u)
three_is make a b c (w ∷ v ∷ u ∷ t ∷ rest) = refl
