use Rattle.std.proofs.Common.{◌≡◌}
use Rattle.ssz_machine.specs.Drawing.{drawn_bytes, seed_after}
use Rattle.ssz_draws.proofs.generator.Generator.draw_bytes.Given as goal

abbrev pub invariant-loop-i : goal.invariant-loop-i
invariant-loop-i l = record {
  drawn : l.bytes.items ≡ drawn_bytes l._i l.fn.self;
  next : l.self ≡ seed_after l._i l.fn.self;
}
