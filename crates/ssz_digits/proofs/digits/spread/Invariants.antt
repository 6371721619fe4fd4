use Rattle.std.proofs.Common.{◌≡◌, ◌+◌, ◌*◌, ◌≤◌, length, take, drop}
use Rattle.hex.specs.Hex.{encode_lower}
use Rattle.ssz_digits.proofs.digits.spread.Given as goal

abbrev pub invariant-spreading : goal.invariant-spreading
invariant-spreading l = record {
  within : l.left ≤ l.count;
  long : length l.room ≡ length l.fn.room;
  unread : take l.left l.room ≡ take l.left l.fn.room;
  written : drop (l.from + 2 * l.left) l.room
      ≡ encode_lower (drop l.left (take l.count l.fn.room));
}

abbrev pub decreases-spreading : goal.decreases-spreading
decreases-spreading l = l.left
