use Rattle.std.proofs.Common.{◌≡◌, ◌+◌, ◌≤◌, length, slice_range, subst}
use Rattle.ssz_schema.specs.width.Width.{Width}
use Rattle.ssz_schema.specs.Types.{uint}
use Rattle.ssz_schema.specs.Sizes.{byte_count}
use Rattle.ssz_value.specs.Values.{Fits}
use Rattle.ssz_value.specs.Encoding.{serialize}
use Rattle.ssz_nodes.proofs.LeafParts.{number_value, wide_value}
use Rattle.ssz_nodes.proofs.basics.number_at.Goals as goal

pub returns-in-W256 : goal.returns-in-W256
returns-in-W256 c = λ v fit there.
    wide_value v c.args.chunk.now c.args.from
    (subst (λ (w : Width). c.args.from + byte_count w ≤ 32) c.in-W256.is c.requires)
    c.wide_bytes-bytes.ensures.count
    (subst (λ (w : Width). Fits (uint w) v) c.in-W256.is fit)
    (subst (λ (w : Width). slice_range c.args.chunk.now.0 c.args.from
    (c.args.from + length (serialize (uint w) v)) ≡ serialize (uint w) v) c.in-W256.is there)

pub returns-in_default : goal.returns-in_default
returns-in_default c = λ v fit there.
    number_value c.args.width v c.args.chunk.now.0 c.args.from c.number_of.result
    c.in_default.not-W256 fit there c.number_of.ensures
