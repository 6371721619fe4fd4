use Rattle.std.proofs.Common.{subst, sym}
use Rattle.ssz_schema.specs.Unfolding.{type_of}
use Rattle.ssz_value.specs.Values.{Fits}
use Rattle.ssz_value.specs.Standing.{IsValue}
use Rattle.ssz_value.proofs.SizeLaw.{default_fits}
use Rattle.ssz_edit.proofs.option_given.option_default.Goals as goal

pub returns : goal.returns
returns c =
    let types = c.args.schema.now in
    let t = type_of types c.in-Some.id in
    let stands = c.in_ok-value.ensures in
    let is : IsValue t c.in_ok-value.value = record {
      fits = subst (Fits t) (sym stands.value)
          (default_fits types.format t c.ty-legal.ensures.legal);
      formed = stands.formed;
    } in
    rw c.in-Some.is (is, stands.value)
