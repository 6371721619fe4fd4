use Rattle.std.proofs.Common.{◌≤◌, ◌-◌, vec_len}
use Rattle.std.specs.Io.KnownBytes.{Consumes}
use Rattle.ssz_outside.proofs.streams.read_to_end.Given as goal

abbrev pub invariant-loop-count : goal.invariant-loop-count
invariant-loop-count g l = record {
  taken : Consumes (g.S.Read.remaining l.fn.source) (g.S.Read.remaining l.source) l.into.items;
  room : vec_len l.into ≤ l.max;
}

abbrev pub decreases-loop-count : goal.decreases-loop-count
decreases-loop-count g l = l.max - vec_len l.into
