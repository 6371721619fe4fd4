use Rattle.std.proofs.Common.{◌≡◌, [], ◌∷◌, ◌∙◌, slice_index_or}
use Rattle.ssz_lanes.specs.Lanes.{by_fours, column}
use Rattle.ssz_lanes.proofs.turning.turned.Goals as goal

pub returns : goal.returns
returns c =
    let rows = c.args.rows in
    let upper = c.quarters-upper.ensures.words in
    let lower = c.quarters-lower.ensures.words in
    let r0 : c.first_by_fours.result ≡ column 0 rows =
    c.first_by_fours.ensures.words
    ∙ (λ i. by_fours 0 (slice_index_or (upper i) 0 []) (slice_index_or (lower i) 0 [])) in
    let r1 : c.first_by_fours-2.result ≡ column 1 rows =
    c.first_by_fours-2.ensures.words
    ∙ (λ i. by_fours 0 (slice_index_or (upper i) 1 []) (slice_index_or (lower i) 1 [])) in
    let r2 : c.first_by_fours-3.result ≡ column 2 rows =
    c.first_by_fours-3.ensures.words
    ∙ (λ i. by_fours 0 (slice_index_or (upper i) 2 []) (slice_index_or (lower i) 2 [])) in
    let r3 : c.first_by_fours-4.result ≡ column 3 rows =
    c.first_by_fours-4.ensures.words
    ∙ (λ i. by_fours 0 (slice_index_or (upper i) 3 []) (slice_index_or (lower i) 3 [])) in
    let r4 : c.last_by_fours.result ≡ column 4 rows =
    c.last_by_fours.ensures.words
    ∙ (λ i. by_fours 4 (slice_index_or (upper i) 0 []) (slice_index_or (lower i) 0 [])) in
    let r5 : c.last_by_fours-2.result ≡ column 5 rows =
    c.last_by_fours-2.ensures.words
    ∙ (λ i. by_fours 4 (slice_index_or (upper i) 1 []) (slice_index_or (lower i) 1 [])) in
    let r6 : c.last_by_fours-3.result ≡ column 6 rows =
    c.last_by_fours-3.ensures.words
    ∙ (λ i. by_fours 4 (slice_index_or (upper i) 2 []) (slice_index_or (lower i) 2 [])) in
    let r7 : c.last_by_fours-4.result ≡ column 7 rows =
    c.last_by_fours-4.ensures.words
    ∙ (λ i. by_fours 4 (slice_index_or (upper i) 3 []) (slice_index_or (lower i) 3 [])) in
    λ i. r0 i ∷ r1 i ∷ r2 i ∷ r3 i ∷ r4 i ∷ r5 i ∷ r6 i ∷ r7 i ∷ []
