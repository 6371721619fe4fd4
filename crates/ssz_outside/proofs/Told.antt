-- What a sink tells after more pieces, and the text that it tells then.
use Rattle.std.proofs.Common.{◌≡◌, ℕ, List, ◌++◌, Some, None, option_map, refl, ap, append_assoc}
use Rattle.std.proofs.lemmas.List.Folds.{concat-append}
use Rattle.ssz_outside.specs.Pieces.{Told, text_of_pieces, told_append, told_text}

-- pieces that are taken one after another are taken together
pub told_append-twice : (told : Told) (first second : List (List ℕ))
    → told_append (told_append told first) second ≡ told_append told (first ++ second)
told_append-twice None first second = refl
told_append-twice (Some taken) first second = ap Some (append_assoc taken first second)

-- the text after more pieces is the text before, with theirs behind it
pub told_text-append : (told : Told) (pieces : List (List ℕ))
    → told_text (told_append told pieces)
    ≡ option_map (λ text. text ++ text_of_pieces pieces) (told_text told)
told_text-append None pieces = refl
told_text-append (Some taken) pieces = ap Some (concat-append taken pieces)
