-- Lines of words.
use Rattle.std.proofs.Common.{◌≡◌, ℕ, List, [], ◌∷◌, ◌++◌, ap, ◌∙◌, append_assoc, append-nil}
use Rattle.std.specs.List.{flat_map, join_with_byte}
use Rattle.ssz_script.specs.Texts.{line}

-- words, a space before each
abbrev after_spaces : List (List ℕ) → List ℕ
after_spaces words = flat_map (λ word. 32 ∷ word) words

joined-after_spaces : (w : List ℕ) (words : List (List ℕ))
    → join_with_byte 32 (w ∷ words) ≡ w ++ after_spaces words
joined-after_spaces w [] = simp append-nil
joined-after_spaces w (v ∷ words) = ap (λ rest. w ++ (32 ∷ rest)) (joined-after_spaces v words)

-- a line's first word, and the others with a space before each
pub line-after_spaces : (w : List ℕ) (words : List (List ℕ))
    → line (w ∷ words) ≡ w ++ (flat_map (λ word. 32 ∷ word) words ++ 10 ∷ [])
line-after_spaces w words =
    ap (λ t. t ++ 10 ∷ []) (joined-after_spaces w words)
    ∙ append_assoc w (after_spaces words) (10 ∷ [])
