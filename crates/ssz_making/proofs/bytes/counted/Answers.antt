use Rattle.std.proofs.Common.{List, ℕ, ◌∙◌, ap, subst}
use Rattle.ssz_value.specs.Trees.{number_chunk}
use Rattle.ssz_making.specs.Parts.{joined_leaf}
use Rattle.ssz_making.proofs.bytes.counted.Goals as goal

pub returns : goal.returns
returns g c = λ start one is.
    subst (λ (chunk : List ℕ). g.M.Maker.made start c.join.new.self (joined_leaf one chunk)
    c.join.result) (c.number_chunk-len.ensures ∙ ap number_chunk c.from.ensures)
    (c.join.ensures start one is)
