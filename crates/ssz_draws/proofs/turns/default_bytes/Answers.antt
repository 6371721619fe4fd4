use Rattle.std.proofs.Common.{length, sym, ap, subst, arith}
use Rattle.ssz_schema.specs.Types.{SszType}
use Rattle.ssz_schema.specs.Unfolding.{type_of}
use Rattle.ssz_schema.proofs.SmallLemmas.{legal_within}
use Rattle.ssz_value.specs.Values.{SszValue, Fits}
use Rattle.ssz_value.specs.Encoding.{serialize}
use Rattle.ssz_value.proofs.SizeLaw.{default_fits, defaults_have_length}
use Rattle.ssz_draws.proofs.turns.default_bytes.Goals as goal

pub encode-requires-clause-value : goal.encode-requires-clause-value
encode-requires-clause-value c =
    let t : SszType = type_of c.args.schema.now c.args.id in
    record {
      fits = subst (λ (v : SszValue). Fits t v) (sym c.in_ok-value.ensures.value)
          (default_fits c.args.schema.now.format t c.ty-legal.ensures.legal);
      formed = c.in_ok-value.ensures.formed;
    }

pub unreachable-requires : goal.unreachable-requires
unreachable-requires c =
    let format = c.args.schema.now.format in
    let t : SszType = type_of c.args.schema.now c.args.id in
    let long = (rw c.in-Err-TooLong.field-0-is at c.in-Err-TooLong.ensures).0 in
    omega (
      arith,
      long,
      ap (λ (v : SszValue). length (serialize t v)) c.in_ok-value.ensures.value,
      defaults_have_length format t c.ty-legal.ensures.legal,
      (legal_within format t c.ty-legal.ensures.legal).default_length,
    )
