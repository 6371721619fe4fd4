use Rattle.std.proofs.Common.{Some, None, is_some, refl, sym, ap, subst}
use Rattle.ssz_schema.specs.Unfolding.{type_of}
use Rattle.ssz_schema.specs.Indices.{whole}
use Rattle.ssz_gindex.proofs.PathWalk.{legal_levels}
use Rattle.ssz_proof.specs.Multiproof.{known_of}
use Rattle.ssz_walk.specs.Found.{spot_of}
use Rattle.ssz_partial.proofs.Leading.{LeadsTo, leads-start, leads-bad, leads-on}
use Rattle.ssz_partial.proofs.reaching.reach.Goals as goal

pub loop-step-init : goal.loop-step-init
loop-step-init c =
    let t = type_of c.args.schema.now c.args.id in
    record {
      known = c.requires.known;
      leads = subst (λ k. LeadsTo (known_of c.args.proof.now) t c.args.path.now k whole t
          c.args.path.now) (sym c.root-index.ensures)
          (leads-start (known_of c.args.proof.now) t c.args.path.now
          (legal_levels c.args.schema.now.format t c.ty-legal.ensures.legal));
    }

pub returns-in_default-clause-found : goal.returns-in_default-clause-found
returns-in_default-clause-found c =
    absurd (leads-bad c.args.schema.now (known_of c.args.proof.now)
    (type_of c.args.schema.now c.args.id) c.args.path.now c.loop-step.index
    (spot_of c.loop-step.spot) c.loop-step.part c.loop-step.step-index c.step-item.result None
    c.requires.fits c.loop-step.invariant.leads c.loop-step-test.true c.step-item.is
    (sym c.in_default.ensures.unfit) refl)

pub step_fault-requires-clause-fits : goal.step_fault-requires-clause-fits
step_fault-requires-clause-fits c = ap is_some c.in-Some.ensures.led.typed

pub placed-index-requires-clause-fits : goal.placed-index-requires-clause-fits
placed-index-requires-clause-fits c = ap is_some c.in-Some.ensures.led.typed

pub loop-step-preserved : goal.loop-step-preserved
loop-step-preserved c =
    let types = c.args.schema.now in
    let known = known_of c.args.proof.now in
    let t = type_of types c.args.id in
    let part = c.in-Some.lead.part in
    record {
      known = c.in-Some.ensures.led.known;
      leads = leads-on types known t c.args.path.now c.loop-step.index
          (spot_of c.loop-step.spot) c.loop-step.part part c.loop-step.step-index
          c.step-item.result (Some part) c.placed-index.result
          (spot_of c.step_spot-spot.result) c.loop-step.invariant.leads c.loop-step-test.true
          c.step-item.is (sym c.in-Some.ensures.led.typed) refl
          (sym c.in_default-step_fault.ensures) c.placed-index.ensures c.step_spot-spot.ensures;
    }
