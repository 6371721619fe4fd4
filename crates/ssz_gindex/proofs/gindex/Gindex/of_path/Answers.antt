use Rattle.std.proofs.Common.{ap, is_some}
use Rattle.ssz_schema.specs.Unfolding.{type_of}
use Rattle.ssz_gindex.proofs.PathWalk.{legal_levels, along-start, next-along, ends-along}
use Rattle.ssz_gindex.proofs.gindex.Gindex.of_path.Goals as goal

pub loop-step-init : goal.loop-step-init
loop-step-init c = record {
  known = c.requires;
  along = rw c.root-index.ensures (along-start (type_of c.args.schema.now c.args.id)
      c.args.path.now (legal_levels c.args.schema.now.format
      (type_of c.args.schema.now c.args.id) c.ty-legal.ensures.legal));
}

pub placed-index-requires-clause-fits : goal.placed-index-requires-clause-fits
placed-index-requires-clause-fits c = ap is_some c.in-Some.ensures.led.typed

pub returns-in_default : goal.returns-in_default
returns-in_default c =
    ends-along (type_of c.args.schema.now c.args.id) c.args.path.now c.loop-step.index
    (type_of c.args.schema.now c.loop-step.part) c.loop-step.step-index c.step-item.result
    c.loop-step.invariant.along c.loop-step-test.true c.step-item.is c.in_default.ensures.unfit

pub loop-step-preserved : goal.loop-step-preserved
loop-step-preserved c =
    let led = c.in-Some.ensures.led in
    record {
      known = led.known;
      along = rw c.placed-index.ensures (next-along (type_of c.args.schema.now c.args.id)
          c.args.path.now c.loop-step.index (type_of c.args.schema.now c.loop-step.part)
          c.loop-step.step-index c.step-item.result
          (type_of c.args.schema.now c.in-Some.lead.part) c.loop-step.invariant.along
          c.loop-step-test.true c.step-item.is led.typed);
    }
