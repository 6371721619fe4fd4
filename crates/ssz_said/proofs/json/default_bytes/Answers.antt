use Rattle.std.proofs.Common.{sym, subst}
use Rattle.ssz_schema.specs.Types.{SszType}
use Rattle.ssz_schema.specs.Unfolding.{type_of}
use Rattle.ssz_value.specs.Values.{SszValue, Fits}
use Rattle.ssz_value.proofs.SizeLaw.{default_fits}
use Rattle.ssz_said.proofs.json.default_bytes.Goals as goal

pub bytes_of_value-requires-clause-value : goal.bytes_of_value-requires-clause-value
bytes_of_value-requires-clause-value c =
    let t : SszType = type_of c.args.schema.now c.args.id in
    record {
      fits = subst (λ (v : SszValue). Fits t v) (sym c.in_ok-value.ensures.value)
          (default_fits c.args.schema.now.format t c.ty-legal.ensures.legal);
      formed = c.in_ok-value.ensures.formed;
    }
