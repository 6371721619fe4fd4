use Rattle.std.proofs.Common.{◌≡◌, ◌++◌, ◌∷◌, drop}
use Rattle.std.specs.List.{flat_map}
use Rattle.ssz_script.proofs.texts.names_text.Given as goal

-- what was written, and what is to come, are all
abbrev pub invariant-loop-name : goal.invariant-loop-name
invariant-loop-name l =
    l.text.items ++ flat_map (λ name. 32 ∷ name) (drop l.name-index l.names)
    ≡ flat_map (λ name. 32 ∷ name) l.names
