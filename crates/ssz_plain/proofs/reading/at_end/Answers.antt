use Rattle.std.proofs.Common.{sym, ap, subst, arith, ◌<◌, length}
use Rattle.std.specs.Prelude.{IfSome}
use Rattle.ssz_schema.specs.Paths.{path_type}
use Rattle.ssz_value.specs.Parts.{part}
use Rattle.ssz_plain.specs.Lent.{part_value, IsPartOf}
use Rattle.ssz_plain.proofs.Parting.{nothing_below, no_type_below, nil_rest}
use Rattle.ssz_plain.proofs.reading.at_end.Goals as goal

pub returns-then-rest-eq0 : goal.returns-then-rest-eq0
returns-then-rest-eq0 c =
    let end = nil_rest c.args.rest.now c.if-rest-eq0.true in record {
      exact = λ u. ap (part u (part_value c.args.found)) (sym end);
      fits = λ u fits. subst (λ path. IfSome (path_type u path)
          (λ x. IsPartOf x c.args.found)) (sym end) fits;
    }

pub returns-else-rest-eq0 : goal.returns-else-rest-eq0
returns-else-rest-eq0 c =
    let more : 0 < length c.args.rest.now = omega arith in record {
      exact = λ u. nothing_below u c.args.found c.args.rest.now c.requires more;
      fits = λ u fits. subst (λ o. IfSome o (λ x. Unit {0}))
          (sym (no_type_below u c.args.found c.args.rest.now c.requires fits more)) tt;
    }
