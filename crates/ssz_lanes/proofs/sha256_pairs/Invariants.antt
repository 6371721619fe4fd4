use Rattle.std.proofs.Common.{◌≡◌, ℕ, ◌<◌, length}
use Rattle.sha2.specs.Sha256.{digest_bytes}
use Rattle.ssz_lanes.specs.Lanes.{lane_bytes, lane}
use Rattle.ssz_lanes.proofs.sha256_pairs.Given as goal

abbrev pub invariant-lanes : goal.invariant-lanes
invariant-lanes l = record {
  long : length l.made ≡ 8;
  each : (j : ℕ) → j < l.j → lane_bytes l.made j ≡ digest_bytes (lane j l.h) 8;
}
