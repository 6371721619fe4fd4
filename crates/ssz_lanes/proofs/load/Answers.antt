use Rattle.std.proofs.Common.{◌≡◌, ℕ, ◌+◌, ◌*◌, List, [], ◌∷◌, length, slice_index, slice_index_or, sym, ap, ◌∙◌, arith}
use Rattle.sha2.specs.Sha256.{word_at}
use Rattle.ssz_lanes.specs.Lanes.{columns, lane_bytes, words_of}
use Rattle.ssz_lanes.proofs.Few.{by_eight, values_of, values-at}
use Rattle.ssz_lanes.proofs.load.Goals as goal

pub returns : goal.returns
returns c =
    let row = c.args.row.now in
    let at : (j : ℕ) → List ℕ = λ j. lane_bytes row (2 * j + c.args.side) in
    let word : (i j : ℕ) → ℕ = λ i j. word_at (at j) (4 * i) in
    let first : c.args.side ≡ 2 * 0 + c.args.side = omega arith in
    let w0 : c.words_of.result ≡ words_of (at 0) =
    c.words_of.ensures.words ∙ ap (λ n. words_of (lane_bytes row n)) first in
    let w1 : c.words_of-2.result ≡ words_of (at 1) =
    c.words_of-2.ensures.words in
    let w2 : c.words_of-3.result ≡ words_of (at 2) =
    c.words_of-3.ensures.words in
    let w3 : c.words_of-4.result ≡ words_of (at 3) =
    c.words_of-4.ensures.words in
    let w4 : c.words_of-5.result ≡ words_of (at 4) =
    c.words_of-5.ensures.words in
    let w5 : c.words_of-6.result ≡ words_of (at 5) =
    c.words_of-6.ensures.words in
    let w6 : c.words_of-7.result ≡ words_of (at 6) =
    c.words_of-7.ensures.words in
    let w7 : c.words_of-8.result ≡ words_of (at 7) =
    c.words_of-8.ensures.words in
    let all : List (List ℕ) = values_of 8 (word 0) ∷ values_of 8 (word 1) ∷ values_of 8 (word 2)
    ∷ values_of 8 (word 3) ∷ values_of 8 (word 4) ∷ values_of 8 (word 5) ∷ values_of 8 (word 6)
    ∷ values_of 8 (word 7) ∷ [] in
    record {
      value = λ j i in_lanes in_words.
          ap (λ made. slice_index (slice_index_or made i []) j)
          (c.turned.ensures ∙ (λ k. columns
          (w0 k ∷ w1 k ∷ w2 k ∷ w3 k ∷ w4 k ∷ w5 k ∷ w6 k ∷ w7 k ∷ [])))
          ∙ by_eight (λ n. slice_index (slice_index_or all n []) j ≡ word n j)
          (values-at 8 (word 0) j in_lanes) (values-at 8 (word 1) j in_lanes)
          (values-at 8 (word 2) j in_lanes) (values-at 8 (word 3) j in_lanes)
          (values-at 8 (word 4) j in_lanes) (values-at 8 (word 5) j in_lanes)
          (values-at 8 (word 6) j in_lanes) (values-at 8 (word 7) j in_lanes) i in_words;
      long = by_eight (λ j. length (at j) ≡ 32)
          (ap (λ n. length (lane_bytes row n)) (sym first) ∙ c.words_of.ensures.long)
          c.words_of-2.ensures.long c.words_of-3.ensures.long c.words_of-4.ensures.long
          c.words_of-5.ensures.long c.words_of-6.ensures.long c.words_of-7.ensures.long
          c.words_of-8.ensures.long;
    }
