use Rattle.std.proofs.Common.{◌+◌, ◌*◌}
use Rattle.ssz_arena.proofs.levels.+fill.Given as goal

abbrev pub decreases-fill_way : goal.decreases-fill_way
decreases-fill_way g l = 3 * l.id.0 + 2

abbrev pub decreases-fill_fork : goal.decreases-fill_fork
decreases-fill_fork g l = 3 * l.id.0 + 1

abbrev pub decreases-fill_all : goal.decreases-fill_all
decreases-fill_all g l = 3 * l.limit
