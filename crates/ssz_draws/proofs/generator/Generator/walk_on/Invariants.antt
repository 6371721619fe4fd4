use Rattle.ssz_draws.proofs.Ways.{IsOn}
use Rattle.ssz_draws.proofs.generator.Generator.walk_on.Given as goal

abbrev pub invariant-loop-path : goal.invariant-loop-path
invariant-loop-path g l = record {
  on : IsOn l.schema l.arena l.fn.id l.fn.node l.fn.self l.part l.here l.path.items l.self;
}

abbrev pub decreases-loop-path : goal.decreases-loop-path
decreases-loop-path g l = l.part
