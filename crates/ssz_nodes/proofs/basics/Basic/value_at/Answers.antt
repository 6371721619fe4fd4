use Rattle.std.proofs.Common.{◌≡◌, ◌+◌, length, slice_range, subst}
use Rattle.ssz_value.specs.Values.{Fits}
use Rattle.ssz_value.specs.Encoding.{serialize}
use Rattle.ssz_nodes.specs.declared.basics.Basic.{Basic}
use Rattle.ssz_nodes.specs.Shown.{basic_type}
use Rattle.ssz_nodes.proofs.LeafParts.{flag_value}
use Rattle.ssz_nodes.proofs.basics.Basic.value_at.Goals as goal

pub returns-in-Number : goal.returns-in-Number
returns-in-Number c = λ v fit there.
    c.number_at.ensures v (subst (λ (b : Basic). Fits (basic_type b) v) c.in-Number.is fit)
    (subst (λ (b : Basic). slice_range c.args.chunk.now.0 c.args.from
    (c.args.from + length (serialize (basic_type b) v))
    ≡ serialize (basic_type b) v) c.in-Number.is there)

pub returns-in-Flag : goal.returns-in-Flag
returns-in-Flag c = λ v fit there.
    flag_value v c.args.chunk.now.0 c.args.from
    (subst (λ (b : Basic). Fits (basic_type b) v) c.in-Flag.is fit)
    (subst (λ (b : Basic). slice_range c.args.chunk.now.0 c.args.from
    (c.args.from + length (serialize (basic_type b) v))
    ≡ serialize (basic_type b) v) c.in-Flag.is there)
