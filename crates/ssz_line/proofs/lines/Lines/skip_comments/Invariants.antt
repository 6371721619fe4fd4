use Rattle.std.proofs.Common.{◌≡◌, ◌≤◌, length}
use Rattle.ssz_line.specs.Lines.{past_comments}
use Rattle.ssz_line.proofs.lines.Lines.skip_comments.Given as goal

abbrev pub invariant-comments : goal.invariant-comments
invariant-comments l = record {
  same : past_comments l.self ≡ past_comments l.fn.self;
  fewer : length l.self ≤ length l.fn.self;
}

abbrev pub decreases-comments : goal.decreases-comments
decreases-comments l = length l.self
