-- Room for chunks.
use Rattle.std.proofs.Common.{ℕ, ◌+◌, ◌^◌, ◌≤◌, List, map, ap, arith}
use Rattle.ssz_chunk.specs.Tree.{merkle_pairs}
use Rattle.ssz_arena.specs.Content.{ArenaContent}
use Rattle.ssz_value.specs.Trees.{chunks}
use Rattle.ssz_packing.proofs.Chunks.{length-chunks}
use Rattle.ssz_making.specs.Parts.{chunk_part}
use Rattle.ssz_making.proofs.Chunks.{length-parts}
use Rattle.ssz_making.proofs.Forms.{nodes-chunks}
use Rattle.ssz_tree.proofs.Gathering.{HasRoom}

pub chunks-room : (arena : ArenaContent) (depth count : ℕ) (b : List ℕ) → count ≤ 2 ^ depth
    → merkle_pairs depth count + count ≤ arena.spare
    → HasRoom arena depth (map chunk_part (chunks count b))
chunks-room arena depth count b few room = record {
  few = omega (arith, length-parts count b);
  room = omega (
    arith,
    room,
    ap (merkle_pairs depth) (length-parts count b),
    nodes-chunks (chunks count b),
    length-chunks count b,
  );
}
