-- A text that is cut into pieces, all of it, and one more piece behind it.
use Rattle.std.proofs.Common.{◌≡◌, ◌≤◌, ℕ, List, [], ◌∷◌, ◌++◌, length, take, drop}
use Rattle.std.proofs.Common.{sym, ap, ◌∙◌, arith, length-drop, take-append-drop}
use Rattle.std.specs.List.{sum, concat}
use Rattle.std.proofs.Math.Seq.{take-length}
use Rattle.std.proofs.lemmas.List.{take-append-le, drop-append-le, nil_from_length}
use Rattle.std.proofs.lemmas.List.Sums.{sum_by-cons}
use Rattle.ssz_outside.specs.Memory.{cut}

-- the lengths after the first one sum up to what is left of the text
sum_after : (n : ℕ) (lengths text : List ℕ)
    → sum (n ∷ lengths) ≡ length text → sum lengths ≡ length (drop n text)
sum_after n lengths text whole =
    omega (arith, sum_by-cons (λ x. x) n lengths, length-drop n text)

-- the first length is within the text
first_within : (n : ℕ) (lengths text : List ℕ) → sum (n ∷ lengths) ≡ length text → n ≤ length text
first_within n lengths text whole = omega (arith, sum_by-cons (λ x. x) n lengths)

-- a text that is cut whole, with a piece behind it, is cut into the same pieces and that piece
pub cut-append : (lengths text piece : List ℕ) → sum lengths ≡ length text
    → cut (lengths ++ length piece ∷ []) (text ++ piece) ≡ cut lengths text ++ piece ∷ []
cut-append [] text piece whole =
    let empty : text ≡ [] = nil_from_length text (sym whole) in
    rw empty (ap (λ p. p ∷ []) (take-length piece))
cut-append (n ∷ lengths) text piece whole =
    let within = first_within n lengths text whole in
    let after = sum_after n lengths text whole in
    let more = lengths ++ length piece ∷ [] in
    ap (λ first. first ∷ cut more (drop n (text ++ piece))) (take-append-le n text piece within)
    ∙ ap (λ rest. take n text ∷ cut more rest) (drop-append-le n text piece within)
    ∙ ap (λ rest. take n text ∷ rest) (cut-append lengths (drop n text) piece after)

-- the pieces of a text that is cut whole are the text
pub concat-cut : (lengths text : List ℕ) → sum lengths ≡ length text
    → concat (cut lengths text) ≡ text
concat-cut [] text whole = sym (nil_from_length text (sym whole))
concat-cut (n ∷ lengths) text whole =
    let after = sum_after n lengths text whole in
    ap (λ rest. take n text ++ rest) (concat-cut lengths (drop n text) after)
    ∙ take-append-drop n text
