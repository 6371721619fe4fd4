-- The chunks of bytes, pushed a row at a time.
use Rattle.std.proofs.Common.{◌≡◌, ℕ, zero, suc, ◌+◌, ◌-◌, ◌*◌, ◌/◌, ◌^◌, ◌<◌, ◌≤◌, List, [], ◌∷◌, ◌++◌, length, drop, get_or, refl, sym, ap, ap₂, subst, ◌∙◌, ⊎_elim, zero-add, add-zero, arith}
use Rattle.std.proofs.Math.Pow.{pow-lt}
use Rattle.std.proofs.lemmas.Bool.{cases_lt}
use Rattle.std.proofs.lemmas.List.{drop-drop, ext_get_or, get_or-map, length-map}
use Rattle.ssz_chunk.specs.declared.Chunk.{Chunk}
use Rattle.ssz_chunk.specs.Chunk.{CountsUp}
use Rattle.ssz_chunk.specs.Rows.{chunk_in_row}
use Rattle.ssz_chunk.proofs.Counting.{CountsUp-add}
use Rattle.ssz_value.specs.Trees.{chunks}
use Rattle.ssz_merkle.specs.Packing.{packed_chunk}
use Rattle.ssz_merkle.specs.Frontier.{Frontier, FrontierHolds, chunk_bytes, whole_pairs}
use Rattle.ssz_merkle.proofs.WholePairs.{whole_pairs-rises}
use Rattle.ssz_packing.specs.Bits.{undelimited}
use Rattle.ssz_packing.proofs.BitChunks.{other_chunk}
use Rattle.ssz_packing.proofs.Chunks.{length-chunks, chunks-suc}
use Rattle.ssz_roots.proofs.Packing.{Packed}

-- chunks, and then those of the bytes behind them
pub chunks-split : (m n : ℕ) (b : List ℕ) → chunks (m + n) b
    ≡ chunks m b ++ chunks n (drop (32 * m) b)
chunks-split zero n b = ap (λ k. chunks k b) (zero-add n)
chunks-split (suc m) n b =
    let place : 32 + 32 * m ≡ 32 * suc m = omega arith in
    let next : suc m + n ≡ suc (m + n) = omega arith in
    ap (λ k. chunks k b) next
    ∙ ap (λ cs. packed_chunk b 0 ∷ cs) (chunks-split m n (drop 32 b)
    ∙ ap (λ (rest : List ℕ). chunks m (drop 32 b) ++ chunks n rest)
    (drop-drop (32 * m) 32 b ∙ ap (λ k. drop k b) place))

-- chunk i of so many
pub chunks-at : (n i : ℕ) (b : List ℕ) → i < n → get_or (chunks n b) i [] ≡ packed_chunk b i
chunks-at zero i b below = absurd (omega arith)
chunks-at (suc n) zero b below = refl
chunks-at (suc n) (suc i) b below =
    let place : 32 + 32 * i ≡ 32 * suc i = omega arith in
    chunks-at n i (drop 32 b) (omega arith)
    ∙ ap (λ (rest : List ℕ). packed_chunk rest 0) (drop-drop (32 * i) 32 b
    ∙ ap (λ k. drop k b) place)

-- a row of chunks, one by one those of the bytes
pub row_chunks : (row : List Chunk) (from n : ℕ) (b : List ℕ) → length row ≡ n
    → ((i : ℕ) → i < n → chunk_in_row row i ≡ packed_chunk b (from + i))
    → chunks from b ++ chunk_bytes row ≡ chunks (from + n) b
row_chunks row from n b long each =
    let rest : List ℕ = drop (32 * from) b in
    let count : length (chunk_bytes row) ≡ length (chunks n rest) =
    length-map row (λ (chunk : Chunk). chunk.0) ∙ long ∙ sym (length-chunks n rest) in
    let one : (i : ℕ) → i < length (chunk_bytes row)
    → get_or (chunk_bytes row) i [] ≡ get_or (chunks n rest) i [] =
    λ i below.
    let within : i < n = omega (arith, count, length-chunks n rest) in
    let place : 32 * from + 32 * i ≡ 32 * (from + i) = omega arith in
    get_or-map (λ (chunk : Chunk). chunk.0) row i (record { 0 = [] }) [] (omega (arith, long))
    ∙ each i within
    ∙ sym (chunks-at n i rest within
    ∙ ap (λ (bytes : List ℕ). packed_chunk bytes 0) (drop-drop (32 * i) (32 * from) b
    ∙ ap (λ k. drop k b) place)) in
    ap (λ cs. chunks from b ++ cs) (ext_get_or [] (chunk_bytes row) (chunks n rest) count one)
    ∙ sym (chunks-split from n b)

-- more chunks make no fewer whole pairs
pub whole_pairs-rise : (d n more : ℕ) → whole_pairs d n ≤ whole_pairs d (n + more)
whole_pairs-rise d n zero =
    subst (λ m. whole_pairs d n ≤ whole_pairs d m) (sym (add-zero n)) (omega arith)
whole_pairs-rise d n (suc more) =
    let next : n + more + 1 ≡ n + suc more = omega arith in
    let step : whole_pairs d (n + more) ≤ whole_pairs d (n + suc more) =
    subst (λ m. whole_pairs d (n + more) ≤ whole_pairs d m) next
    (whole_pairs-rises d (n + more)) in
    omega (arith, whole_pairs-rise d n more, step)

-- so many more chunks were pushed at once
pub Packed-row : (pair_of : List ℕ → List ℕ → List ℕ) (depth : ℕ) (bytes : List ℕ) (i n : ℕ)
    (frontier after : Frontier) (start now end : ℕ)
    → Packed pair_of depth bytes i frontier start now → after.depth ≡ frontier.depth
    → after.pushed ≡ frontier.pushed + n
    → (FrontierHolds pair_of (chunks i bytes) frontier
    → FrontierHolds pair_of (chunks (i + n) bytes) after)
    → CountsUp (whole_pairs frontier.depth (i + n) - whole_pairs frontier.depth i) now end
    → Packed pair_of depth bytes (i + n) after start end
Packed-row pair_of depth bytes i n frontier after start now end h stays more held counts =
    let pushes : CountsUp (whole_pairs depth (i + n) - whole_pairs depth i) now end =
    subst (λ d. CountsUp (whole_pairs d (i + n) - whole_pairs d i) now end) h.pushed.deep counts in
    let sum : whole_pairs depth i + (whole_pairs depth (i + n) - whole_pairs depth i)
    ≡ whole_pairs depth (i + n) = omega (arith, whole_pairs-rise depth i n) in
    record {
      pushed = record {
        deep = stays ∙ h.pushed.deep;
        count = more ∙ ap (λ m. m + n) h.pushed.count;
        counted = subst (λ m. CountsUp m start end) sum
            (CountsUp-add _ _ start now end h.pushed.counted pushes);
      };
      holds = held h.holds;
    }

-- what comes behind whole rows
pub Packed-rows : (pair_of : List ℕ → List ℕ → List ℕ) (depth : ℕ) (bytes : List ℕ) (i : ℕ)
    (frontier : Frontier) (start now new_depth : ℕ) → new_depth ≡ depth
    → frontier.depth ≡ new_depth → FrontierHolds pair_of (chunks i bytes) frontier
    → CountsUp (whole_pairs new_depth i) start now
    → Packed pair_of depth bytes i frontier start now
Packed-rows pair_of depth bytes i frontier start now new_depth deep stays held counted = record {
  pushed = record {
    deep = stays ∙ deep;
    count = held.number ∙ length-chunks i bytes;
    counted = subst (λ d. CountsUp (whole_pairs d i) start now) deep counted;
  };
  holds = held;
}

-- a tree with room for a row has its levels
pub row_high : (depth height : ℕ) → 2 ^ height ≤ 2 ^ depth → height ≤ depth
row_high depth height room = ⊎_elim
    (λ (less : depth < height). let more : 2 ^ depth < 2 ^ height = pow-lt less in omega arith)
    (λ (enough : height ≤ depth). enough)
    (cases_lt depth height)

-- bytes with the same chunks
chunks-same : (n : ℕ) (b c : List ℕ) → ((i : ℕ) → i < n → packed_chunk b i ≡ packed_chunk c i)
    → chunks n b ≡ chunks n c
chunks-same zero b c each = refl
chunks-same (suc n) b c each =
    chunks-suc n b
    ∙ ap₂ (λ cs (chunk : List ℕ). cs ++ chunk ∷ [])
    (chunks-same n b c (λ i below. each i (omega arith))) (each n (omega arith))
    ∙ sym (chunks-suc n c)

-- the delimiter of a bit list stands in its last chunk
pub chunks-undelimited : (b : List ℕ) (n : ℕ) → 0 < length b → n ≤ (length b - 1) / 32
    → chunks n b ≡ chunks n (undelimited b)
chunks-undelimited b n some before = chunks-same n b (undelimited b) (λ i below.
    other_chunk b (length b - 1) i _ (omega arith)
    (λ (same : (length b - 1) / 32 ≡ i). omega arith))
