-- Chunks as parts.
use Rattle.std.proofs.Common.{◌≡◌, ℕ, zero, suc, ◌+◌, ◌<◌, ◌≤◌, List, [], ◌∷◌, ◌++◌, length, map, take, drop, refl, sym, ap, ◌∙◌, arith}
use Rattle.std.proofs.lemmas.List.{length-map}
use Rattle.ssz_chunk.specs.Tree.{merkle_tree, merkle_pairs}
use Rattle.ssz_merkle.specs.Packing.{packed_chunk}
use Rattle.ssz_value.specs.Trees.{chunks, padded}
use Rattle.ssz_packing.proofs.Chunks.{length-chunks, chunks-suc}
use Rattle.ssz_making.specs.Parts.{whole_of, chunk_part}
use Rattle.ssz_making.proofs.Forms.{costs-chunks, nodes-chunks}
use Rattle.ssz_making.proofs.Placing.{IsAt, IsAt-map}

-- the first of the chunks
take-chunks : (i count : ℕ) (b : List ℕ) → i ≤ count → take i (chunks count b) ≡ chunks i b
take-chunks zero count b within = refl
take-chunks (suc i) zero b within = absurd (omega arith)
take-chunks (suc i) (suc count) b within =
    ap (λ cs. padded b ∷ cs) (take-chunks i count (drop 32 b) (omega arith))

-- chunk i
pub chunk-at : (count i : ℕ) (b chunk : List ℕ) → i < count → chunk ≡ packed_chunk b i
    → IsAt (map chunk_part (chunks count b)) i (chunk_part chunk)
chunk-at count i b chunk below is =
    let next : suc i ≡ i + 1 = omega arith in
    IsAt-map chunk_part (chunks count b) i chunk (omega (arith, length-chunks count b))
    (take-chunks (i + 1) count b (omega arith) ∙ ap (λ n. chunks n b) (sym next)
    ∙ chunks-suc i b ∙ ap (λ c. chunks i b ++ c ∷ []) (sym is)
    ∙ ap (λ cs. cs ++ chunk ∷ []) (sym (take-chunks i count b (omega arith))))

-- so many leaves
pub length-parts : (count : ℕ) (b : List ℕ) → length (map chunk_part (chunks count b)) ≡ count
length-parts count b = length-map (chunks count b) chunk_part ∙ length-chunks count b

-- and so many pairs above them, and nodes in all
pub cost-chunks : (d count : ℕ) (b : List ℕ)
    → (whole_of d (map chunk_part (chunks count b))).cost ≡ merkle_pairs d count
cost-chunks d count b = omega (
  arith,
  costs-chunks (chunks count b),
  ap (merkle_pairs d) (length-parts count b),
)

pub nodes-of_chunks : (d count : ℕ) (b : List ℕ)
    → (whole_of d (map chunk_part (chunks count b))).nodes ≡ merkle_pairs d count + count
nodes-of_chunks d count b = omega (
  arith,
  nodes-chunks (chunks count b),
  length-chunks count b,
  ap (merkle_pairs d) (length-parts count b),
)

-- one chunk is its own full tree
pub one-chunk : (chunk : List ℕ) → whole_of 0 (chunk_part chunk ∷ []) ≡ chunk_part chunk
unfolding merkle_tree merkle_pairs
one-chunk chunk = refl
