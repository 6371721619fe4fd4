-- An element of a list by its index, where more stands behind.
use Rattle.std.proofs.Common.{◌≡◌, ℕ, zero, suc, ◌<◌, List, [], ◌∷◌, ◌++◌, length, refl, slice_get, Some, arith}

-- what stands behind a list leaves its elements where they are
pub slice_get-append_left : {X : Type 0} (xs ys : List X) (i : ℕ) → i < length xs
    → slice_get (xs ++ ys) i ≡ slice_get xs i
slice_get-append_left [] ys i h = absurd (omega arith)
slice_get-append_left (x ∷ xs) ys zero h = refl
slice_get-append_left (x ∷ xs) ys (suc i) h = slice_get-append_left xs ys i (omega arith)

-- the element that was pushed is the last
pub slice_get-push : {X : Type 0} (xs : List X) (x : X)
    → slice_get (xs ++ x ∷ []) (length xs) ≡ Some x
slice_get-push [] x = refl
slice_get-push (y ∷ xs) x = slice_get-push xs x
