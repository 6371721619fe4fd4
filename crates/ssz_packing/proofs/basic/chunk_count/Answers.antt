use Rattle.std.proofs.Common.{◌/◌}
use Rattle.ssz_packing.proofs.Filling.{chunks_of_parts}
use Rattle.ssz_packing.proofs.basic.chunk_count.Goals as goal

pub returns : goal.returns
returns c = chunks_of_parts c.args.size (32 / c.args.size) c.args.len c.requires.size
