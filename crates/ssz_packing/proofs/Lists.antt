-- One more of a list that is gone over.
use Rattle.std.proofs.Common.{◌≡◌, ℕ, zero, suc, ◌+◌, ◌<◌, List, [], ◌∷◌, ◌++◌, length, map, take, get_or, sym, ap, ◌∙◌, arith}

-- one more, where x is the next
pub take-map-next : {X Y : Type 0} (f : X → Y) (xs : List X) (i : ℕ) (x : X) → i < length xs → x
    ≡ get_or xs i x → take (i + 1) (map f xs) ≡ take i (map f xs) ++ f x ∷ []
take-map-next f xs i x h e = let n : i + 1 ≡ suc i = omega arith in
    ap (λ k. take k (map f xs)) n ∙ more f xs i x h e
  where
    more : {X Y : Type 0} (f : X → Y) (xs : List X) (i : ℕ) (x : X) → i < length xs → x
        ≡ get_or xs i x → take (suc i) (map f xs) ≡ take i (map f xs) ++ f x ∷ []
    more f [] i x h e = absurd (omega arith)
    more f (y ∷ xs) zero x h e = ap (λ z. f z ∷ []) (sym e)
    more f (y ∷ xs) (suc i) x h e = ap (λ ys. f y ∷ ys) (more f xs i x (omega arith) e)
