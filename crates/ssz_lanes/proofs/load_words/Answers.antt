use Rattle.std.proofs.Common.{◌≡◌, ℕ, ◌+◌, ◌*◌, ◌++◌, [], ◌∷◌, length, length-append, List, ◌<◌, slice_index, slice_index_or, sym, ap, ◌∙◌, arith}
use Rattle.sha2.specs.Sha256.{word_at}
use Rattle.ssz_lanes.specs.Lanes.{lane_bytes}
use Rattle.ssz_lanes.proofs.Blocks.{window_of, word-left, word-right}
use Rattle.ssz_lanes.proofs.load_words.Goals as goal

pub returns : goal.returns
returns c =
    let row = c.args.row.now in
    let left : (j : ℕ) → List ℕ = λ j. lane_bytes row (2 * j) in
    let right : (j : ℕ) → List ℕ = λ j. lane_bytes row (2 * j + 1) in
    let first : (j : ℕ) → 2 * j + 0 ≡ 2 * j = λ j. omega arith in
    let long_left : (j : ℕ) → j < 8 → length (left j) ≡ 32 =
    λ j lt. ap (λ n. length (lane_bytes row n)) (sym (first j)) ∙ c.load-left.ensures.long j lt in
    let long_right : (j : ℕ) → j < 8 → length (right j) ≡ 32 = c.load-right.ensures.long in
    record {
      words = λ j lt.
          let l = left j in
          let r = right j in
          let word : (k : ℕ) → ℕ = λ k. word_at (l ++ r) (4 * k) in
          let w0 : slice_index (slice_index_or c.load-left.result 0 []) j ≡ word 0 =
          c.load-left.ensures.value j 0 lt (omega arith)
          ∙ ap (λ n. word_at (lane_bytes row n) 0) (first j)
          ∙ word-left l r 0 (omega arith) (long_left j lt) in
          let w1 : slice_index (slice_index_or c.load-left.result 1 []) j ≡ word 1 =
          c.load-left.ensures.value j 1 lt (omega arith)
          ∙ ap (λ n. word_at (lane_bytes row n) 4) (first j)
          ∙ word-left l r 1 (omega arith) (long_left j lt) in
          let w2 : slice_index (slice_index_or c.load-left.result 2 []) j ≡ word 2 =
          c.load-left.ensures.value j 2 lt (omega arith)
          ∙ ap (λ n. word_at (lane_bytes row n) 8) (first j)
          ∙ word-left l r 2 (omega arith) (long_left j lt) in
          let w3 : slice_index (slice_index_or c.load-left.result 3 []) j ≡ word 3 =
          c.load-left.ensures.value j 3 lt (omega arith)
          ∙ ap (λ n. word_at (lane_bytes row n) 12) (first j)
          ∙ word-left l r 3 (omega arith) (long_left j lt) in
          let w4 : slice_index (slice_index_or c.load-left.result 4 []) j ≡ word 4 =
          c.load-left.ensures.value j 4 lt (omega arith)
          ∙ ap (λ n. word_at (lane_bytes row n) 16) (first j)
          ∙ word-left l r 4 (omega arith) (long_left j lt) in
          let w5 : slice_index (slice_index_or c.load-left.result 5 []) j ≡ word 5 =
          c.load-left.ensures.value j 5 lt (omega arith)
          ∙ ap (λ n. word_at (lane_bytes row n) 20) (first j)
          ∙ word-left l r 5 (omega arith) (long_left j lt) in
          let w6 : slice_index (slice_index_or c.load-left.result 6 []) j ≡ word 6 =
          c.load-left.ensures.value j 6 lt (omega arith)
          ∙ ap (λ n. word_at (lane_bytes row n) 24) (first j)
          ∙ word-left l r 6 (omega arith) (long_left j lt) in
          let w7 : slice_index (slice_index_or c.load-left.result 7 []) j ≡ word 7 =
          c.load-left.ensures.value j 7 lt (omega arith)
          ∙ ap (λ n. word_at (lane_bytes row n) 28) (first j)
          ∙ word-left l r 7 (omega arith) (long_left j lt) in
          let w8 : slice_index (slice_index_or c.load-right.result 0 []) j ≡ word 8 =
          c.load-right.ensures.value j 0 lt (omega arith) ∙ word-right l r 0 (long_left j lt) in
          let w9 : slice_index (slice_index_or c.load-right.result 1 []) j ≡ word 9 =
          c.load-right.ensures.value j 1 lt (omega arith) ∙ word-right l r 1 (long_left j lt) in
          let w10 : slice_index (slice_index_or c.load-right.result 2 []) j ≡ word 10 =
          c.load-right.ensures.value j 2 lt (omega arith) ∙ word-right l r 2 (long_left j lt) in
          let w11 : slice_index (slice_index_or c.load-right.result 3 []) j ≡ word 11 =
          c.load-right.ensures.value j 3 lt (omega arith) ∙ word-right l r 3 (long_left j lt) in
          let w12 : slice_index (slice_index_or c.load-right.result 4 []) j ≡ word 12 =
          c.load-right.ensures.value j 4 lt (omega arith) ∙ word-right l r 4 (long_left j lt) in
          let w13 : slice_index (slice_index_or c.load-right.result 5 []) j ≡ word 13 =
          c.load-right.ensures.value j 5 lt (omega arith) ∙ word-right l r 5 (long_left j lt) in
          let w14 : slice_index (slice_index_or c.load-right.result 6 []) j ≡ word 14 =
          c.load-right.ensures.value j 6 lt (omega arith) ∙ word-right l r 6 (long_left j lt) in
          let w15 : slice_index (slice_index_or c.load-right.result 7 []) j ≡ word 15 =
          c.load-right.ensures.value j 7 lt (omega arith) ∙ word-right l r 7 (long_left j lt) in
          window_of (l ++ r) _ (λ i.
          w0 i ∷ w1 i ∷ w2 i ∷ w3 i ∷ w4 i ∷ w5 i ∷ w6 i ∷ w7 i ∷ w8 i ∷ w9 i ∷ w10 i ∷ w11 i
          ∷ w12 i ∷ w13 i ∷ w14 i ∷ w15 i ∷ []);
      long = λ j lt.
          omega (arith, length-append (left j) (right j), long_left j lt, long_right j lt);
    }
