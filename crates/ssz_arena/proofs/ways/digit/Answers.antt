use Rattle.std.proofs.Common.{◌==◌, ◌%◌, ap, arith}
use Rattle.ssz_arena.proofs.Following.{high_digit, low_digit}
use Rattle.ssz_arena.proofs.ways.digit.Goals as goal

pub returns-then-place-lt64 : goal.returns-then-place-lt64
returns-then-place-lt64 c =
    ap (λ d. d == 1) (low_digit c.args.number c.args.place c.if-place-lt64.true)

pub returns : goal.returns
returns c = ap (λ n. n % 2 == 1) (high_digit c.args.number c.args.place (omega arith))
