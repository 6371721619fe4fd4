-- The root that is calculated from the chunks at some indices (merkle-proofs.md, Merkle
-- multiproofs: calculate_multi_merkle_root). The standard goes up from the chunks; this goes down.
use Rattle.std.specs.Prelude.{ℕ, zero, suc, ◌+◌, ◌*◌, ◌==◌, max, if◌then◌else◌, List, [], ◌∷◌, map, Option, Some, None, unwrap_or}
use Rattle.ssz_chunk.specs.Chunk.{zero_chunk}
use Rattle.ssz_chunk.specs.Index.{levels}
use Rattle.ssz_proof.specs.declared.entry.Entry.{Entry}

-- chunks at indices
abbrev pub Known : Type 0
Known = List Entry

abbrev pub indices_of : Known → List ℕ
indices_of known = map (λ entry. entry.index) known

-- the chunk at an index, if it is known
abbrev pub chunk_at : Known → ℕ → Option (List ℕ)
chunk_at [] index = None
chunk_at (entry ∷ known) index =
    if entry.index == index then Some entry.chunk.0 else chunk_at known index

-- what is made of two chunks
abbrev pub PairOf : Type 0
PairOf = List ℕ → List ℕ → List ℕ

-- a chunk that is known, and else what pair_of gives for the chunks of both children; no chunk that
-- is known lies more than so many levels down
abbrev pub calculate_root_within : PairOf → ℕ → Known → ℕ → List ℕ
calculate_root_within pair_of zero known index = unwrap_or (chunk_at known index) zero_chunk
calculate_root_within pair_of (suc down) known index =
    unwrap_or (chunk_at known index)
    (pair_of (calculate_root_within pair_of down known (2 * index))
    (calculate_root_within pair_of down known (2 * index + 1)))

-- the levels of the deepest index
abbrev pub deepest : List ℕ → ℕ
deepest [] = 0
deepest (index ∷ indices) = max (levels index) (deepest indices)

-- the chunk at an index, calculated from those that are known
abbrev pub calculate_root : PairOf → Known → ℕ → List ℕ
calculate_root pair_of known index =
    calculate_root_within pair_of (deepest (indices_of known)) known index
