-- The two blocks of a message of 64 bytes, and its words.
use Rattle.std.proofs.Common.{◌≡◌, ℕ, ◌+◌, ◌*◌, ◌/◌, ◌<◌, List, [], ◌∷◌, ◌++◌, length, take, drop, length-append, slice_index, refl, sym, ap, ◌∙◌, arith}
use Rattle.std.proofs.lemmas.List.{get_or_append_left, get_or-append_right, take_at, drop_at}
use Rattle.std.specs.Int.{w32, from_be_bytes}
use Rattle.sha2.specs.Sha256.{IsWindow, compress, digest_bytes, final_hash, hash_after, initial_hash_256, padded_message, padding, schedule, sha256, word_at}
use Rattle.sha2.proofs.Schedule256.{IsWindow_first}
use Rattle.ssz_lanes.specs.Lanes.{padding_block}
use Rattle.ssz_lanes.proofs.Few.{values_of, values-at}

-- a word of the left half
pub word-left : (left right : List ℕ) (k : ℕ) → k < 8 → length left ≡ 32
    → word_at left (4 * k) ≡ word_at (left ++ right) (4 * k)
word-left left right k lt long =
    let at : (i : ℕ) → i < 32 → slice_index left i ≡ slice_index (left ++ right) i =
    λ i within. sym (get_or_append_left left right 0 i (omega arith)) in
    λ i. from_be_bytes w32 (at (4 * k) (omega arith) i ∷ at (4 * k + 1) (omega arith) i
    ∷ at (4 * k + 2) (omega arith) i ∷ at (4 * k + 3) (omega arith) i ∷ [])

-- a word of the right half
pub word-right : (left right : List ℕ) (k : ℕ) → length left ≡ 32
    → word_at right (4 * k) ≡ word_at (left ++ right) (4 * (k + 8))
word-right left right k long =
    let at : (i n : ℕ) → 32 + i ≡ n → slice_index right i ≡ slice_index (left ++ right) n =
    λ i n is. ap (slice_index right) (omega arith)
    ∙ sym (get_or-append_right left right 32 n 0 long (omega arith)) in
    λ i. from_be_bytes w32 (at (4 * k) (4 * (k + 8)) (omega arith) i
    ∷ at (4 * k + 1) (4 * (k + 8) + 1) (omega arith) i
    ∷ at (4 * k + 2) (4 * (k + 8) + 2) (omega arith) i
    ∷ at (4 * k + 3) (4 * (k + 8) + 3) (omega arith) i ∷ [])

-- the sixteen words of a block are the first window of its schedule
pub window_of : (m words : List ℕ) → words ≡ values_of 16 (λ k. word_at m (4 * k))
    → IsWindow words (schedule m 48) 16
window_of m words are =
    IsWindow_first m words (ap length are) (λ k below.
    ap (λ l. slice_index l k) are ∙ values-at 16 (λ k. word_at m (4 * k)) k below)

-- the block behind 64 bytes
padding-block : padding 64 ≡ padding_block
padding-block = refl

-- the digest of 64 bytes: their block, and the block of padding
pub two_blocks : (m : List ℕ) → length m ≡ 64
    → sha256 m ≡ digest_bytes (compress (compress initial_hash_256 m) padding_block) 8
unfolding sha256 hash_after
two_blocks m long =
    let all : padded_message m ≡ m ++ padding_block =
    ap (λ n. m ++ padding n) long ∙ ap (λ p. m ++ p) padding-block in
    let count : length (m ++ padding_block) / 64 ≡ 2 =
    omega (arith, length-append m padding_block) in
    let first : take 64 (m ++ padding_block) ≡ m = take_at m padding_block 64 long in
    let second : drop 64 (m ++ padding_block) ≡ padding_block = drop_at m padding_block 64 long in
    let hash : final_hash initial_hash_256 m
    ≡ compress (compress initial_hash_256 m) padding_block =
    ap (λ p. hash_after initial_hash_256 p (length p / 64)) all
    ∙ ap (hash_after initial_hash_256 (m ++ padding_block)) count
    ∙ (λ i. compress (compress initial_hash_256 (first i)) (take 64 (second i))) in
    ap (λ h. digest_bytes h 8) hash
