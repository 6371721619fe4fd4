-- What was there stays in front.
use Rattle.std.proofs.Common.{ℕ, ◌≡◌, List, [], ◌∷◌, ◌++◌, length, take, refl, ap, ◌∙◌, append_assoc}
use Rattle.std.proofs.Math.Seq.{take-append_seam}
use Rattle.ssz_json_text.specs.Keeping.{Keeps}

pub keeps_append : (old more : List ℕ) → Keeps old (old ++ more)
keeps_append old more = record { front = take-append_seam old more }

take_self : (xs : List ℕ) → take (length xs) xs ≡ xs
take_self [] = refl
take_self (x ∷ xs) = ap (λ ys. x ∷ ys) (take_self xs)

pub keeps_self : (old : List ℕ) → Keeps old old
keeps_self old = record { front = take_self old }

trans : (old mid new : List ℕ) → take (length old) mid ≡ old → take (length mid) new ≡ mid
    → take (length old) new ≡ old
trans [] mid new h k = refl
trans (x ∷ old) [] new h k = absurd (cc)
trans (x ∷ old) (y ∷ mid) [] h k = absurd (cc)
trans (x ∷ old) (y ∷ mid) (z ∷ new) h k =
    let first : z ≡ x = cc in
    let h2 : take (length old) mid ≡ old = cc in
    let k2 : take (length mid) new ≡ mid = cc in
    λ i. first i ∷ trans old mid new h2 k2 i

pub keeps_trans : {old mid new : List ℕ} → Keeps old mid → Keeps mid new → Keeps old new
keeps_trans {old} {mid} {new} h k = record { front = trans old mid new h.front k.front }

-- three pieces one after another
pub joined : (old one two new a b c : List ℕ) → one ≡ old ++ a → two ≡ one ++ b → new ≡ two ++ c
    → new ≡ old ++ (a ++ (b ++ c))
joined old one two new a b c e f g =
    g ∙ ap (λ s. s ++ c) (f ∙ ap (λ s. s ++ b) e)
    ∙ append_assoc (old ++ a) b c ∙ append_assoc old a (b ++ c)

-- a piece is moved from what is left to what is there
pub moved : (out new piece left whole : List ℕ) → new ≡ out ++ piece
    → out ++ (piece ++ left) ≡ whole → new ++ left ≡ whole
moved out new piece left whole is h = ap (λ s. s ++ left) is ∙ append_assoc out piece left ∙ h
