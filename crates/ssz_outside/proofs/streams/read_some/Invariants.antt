use Rattle.std.proofs.Common.{◌≡◌, length}
use Rattle.std.specs.Io.KnownBytes.{Keeps}
use Rattle.ssz_outside.proofs.streams.read_some.Given as goal

abbrev pub invariant-loop : goal.invariant-loop
invariant-loop g l = record {
  room : length l.chunk ≡ length l.fn.chunk;
  kept : Keeps (g.S.Read.remaining l.fn.source) (g.S.Read.remaining l.source);
}
