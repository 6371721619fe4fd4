use Rattle.std.proofs.Common.{List, ◌+◌}
use Rattle.ssz_chunk.specs.declared.Chunk.{Chunk}
use Rattle.ssz_chunk.specs.Chunk.{sha_pair}
use Rattle.ssz_chunk.specs.Rows.{HalvesUpTo}
use Rattle.ssz_chunk.proofs.rows.make_some.Given as goal

abbrev pub invariant-loop-j : goal.invariant-loop-j
invariant-loop-j l = (first : List Chunk) → HalvesUpTo sha_pair l.made first l.fn.chunks
    → HalvesUpTo sha_pair (l.made + l.j) first l.chunks
