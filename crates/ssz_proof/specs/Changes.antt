-- Another chunk at an index that is known.
use Rattle.std.specs.Prelude.{ℕ, ◌==◌, if◌then◌else◌, [], ◌∷◌}
use Rattle.ssz_chunk.specs.declared.Chunk.{Chunk}
use Rattle.ssz_proof.specs.Calculation.{Known}
use Rattle.ssz_proof.specs.Multiproof.{Multiproof}

-- the chunks with this one at an index, if one is known there
abbrev pub with_chunk : Known → ℕ → Chunk → Known
with_chunk [] index chunk = []
with_chunk (entry ∷ known) index chunk =
    (if entry.index == index then record entry { chunk = chunk } else entry)
    ∷ with_chunk known index chunk

-- the same of both lists
abbrev pub proof_with : Multiproof → ℕ → Chunk → Multiproof
proof_with proof index chunk = record {
  leaves = with_chunk proof.leaves index chunk;
  nodes = with_chunk proof.nodes index chunk;
}
