-- Parts one after another: what stands at a place, and behind it.
use Rattle.std.proofs.Common.{◌≡◌, ℕ, zero, suc, ◌+◌, ◌<◌, List, [], ◌∷◌, ◌++◌, length, map, take, drop, sym, ap, ◌∙◌, arith, append_assoc}
use Rattle.std.proofs.lemmas.List.{append-nil, map-append, take-map, take-append-drop, length-map}
use Rattle.ssz_making.specs.Parts.{MadePart}

-- the part stands at place i
pub record IsAt (all : List MadePart) (i : ℕ) (part : MadePart) : Type 0 where
  pub below : i < length all
  pub more : take (i + 1) all ≡ take i all ++ part ∷ []

pub IsAt-map : {X : Type 0} (f : X → MadePart) (xs : List X) (i : ℕ) (x : X) → i < length xs
    → take (i + 1) xs ≡ take i xs ++ x ∷ [] → IsAt (map f xs) i (f x)
IsAt-map f xs i x below more = record {
  below = omega (arith, length-map xs f);
  more = take-map f (i + 1) xs ∙ ap (map f) more ∙ map-append f (take i xs) (x ∷ [])
      ∙ ap (λ ps. ps ++ f x ∷ []) (sym (take-map f i xs));
}

-- behind one more
pub IsAt-cons : (first : MadePart) (all : List MadePart) (i : ℕ) (part : MadePart) → IsAt all i part
    → IsAt (first ∷ all) (suc i) part
IsAt-cons first all i part at =
    let up : suc (i + 1) ≡ suc i + 1 = omega arith in
    record {
      below = omega (arith, at.below);
      more = ap (λ n. take n (first ∷ all)) (sym up) ∙ ap (λ ps. first ∷ ps) at.more;
    }

-- and from there on stand the others
pub IsAt-drop : (all : List MadePart) (i : ℕ) (part : MadePart) (rest : List MadePart)
    → drop i all ≡ part ∷ rest → IsAt all i part × (drop (i + 1) all ≡ rest)
IsAt-drop [] zero part rest e = cc
IsAt-drop [] (suc i) part rest e = cc
IsAt-drop (p ∷ all) zero part rest e =
    let first : p ≡ part = cc in
    let others : all ≡ rest = cc in
    (record { below = omega arith; more = ap (λ q. q ∷ []) first }, others)
IsAt-drop (p ∷ all) (suc i) part rest e =
    let next = IsAt-drop all i part rest e in
    let up : suc (i + 1) ≡ suc i + 1 = omega arith in (
      record {
        below = omega (arith, next.0.below);
        more = ap (λ n. take n (p ∷ all)) (sym up) ∙ ap (λ ps. p ∷ ps) next.0.more;
      },
      ap (λ n. drop n (p ∷ all)) (sym up) ∙ next.1,
    )

-- the parts before it, it, and the parts behind it are all
pub split-at : (all : List MadePart) (i : ℕ) (part : MadePart) → IsAt all i part
    → take i all ++ part ∷ drop (i + 1) all ≡ all
split-at all i part at = sym (append_assoc (take i all) (part ∷ []) (drop (i + 1) all))
    ∙ ap (λ ps. ps ++ drop (i + 1) all) (sym at.more) ∙ take-append-drop (i + 1) all

-- nothing is no part more
pub none_more : (before more : List MadePart) → length more ≡ 0 → before ++ more ≡ before
none_more before [] none = append-nil before
none_more before (part ∷ more) none = absurd (omega (arith, none))
