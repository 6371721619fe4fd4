-- What a sink tells of what it has taken: the pieces in order, where it tells them.
use Rattle.std.specs.Prelude.{ℕ, List, ◌++◌, option_map}
use Rattle.std.specs.List.{concat}
use Rattle.std.specs.declared.option.Option.{Option}

-- the pieces taken so far, each a list of bytes, where they are told
abbrev pub Told : Type 0
Told = Option (List (List ℕ))

-- the text of pieces, one behind another
abbrev pub text_of_pieces : List (List ℕ) → List ℕ
text_of_pieces pieces = concat pieces

-- the pieces taken, where they are told, and more pieces behind them
abbrev pub told_append : Told → List (List ℕ) → Told
told_append told pieces = option_map (λ taken. taken ++ pieces) told

-- the text taken, where it is told
abbrev pub told_text : Told → Option (List ℕ)
told_text told = option_map text_of_pieces told
