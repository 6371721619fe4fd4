use Rattle.std.proofs.Common.{◌∙◌, sym, ap, subst}
use Rattle.ssz_value.specs.Values.{Fits, SszValue}
use Rattle.ssz_value.specs.Encoding.{serialize}
use Rattle.ssz_value.specs.Standing.{value_of}
use Rattle.ssz_value.specs.Trees.{padded}
use Rattle.ssz_value.proofs.ValueLemmas.{wide_is}
use Rattle.ssz_packing.proofs.BasicValues.{wide_basic}
use Rattle.ssz_packing.proofs.basic.basic_chunk.Goals as goal

pub returns-in-Wide : goal.returns-in-Wide
returns-in-Wide c = λ t size e fits.
    let is = ap value_of c.in-Wide.is ∙ wide_is c.in-Wide.chunk in
    (wide_basic t size c.in-Wide.chunk.0 e (subst (Fits t) is fits)).0
    ∙ ap (λ (v : SszValue). padded (serialize t v)) (sym is)
