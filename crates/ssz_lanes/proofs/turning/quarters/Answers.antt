use Rattle.std.proofs.Common.{◌≡◌, ℕ, List, [], ◌∷◌, ◌∙◌, length, slice_index_or}
use Rattle.ssz_lanes.specs.Lanes.{by_twos, quarter}
use Rattle.ssz_lanes.proofs.Few.{by_four}
use Rattle.ssz_lanes.proofs.turning.quarters.Goals as goal

pub returns : goal.returns
returns c =
    let q : (k : ℕ) → List ℕ = λ k. quarter k c.args.a c.args.b c.args.c c.args.d in
    let ab = c.first_in_turn-first_ab.ensures.words in
    let cd = c.first_in_turn-first_cd.ensures.words in
    let ab2 = c.last_in_turn-last_ab.ensures.words in
    let cd2 = c.last_in_turn-last_cd.ensures.words in
    let w0 : c.first_by_twos.result ≡ q 0 =
    c.first_by_twos.ensures.words ∙ (λ i. by_twos 0 (ab i) (cd i)) in
    let w1 : c.last_by_twos.result ≡ q 1 =
    c.last_by_twos.ensures.words ∙ (λ i. by_twos 2 (ab i) (cd i)) in
    let w2 : c.first_by_twos-2.result ≡ q 2 =
    c.first_by_twos-2.ensures.words ∙ (λ i. by_twos 0 (ab2 i) (cd2 i)) in
    let w3 : c.last_by_twos-2.result ≡ q 3 =
    c.last_by_twos-2.ensures.words ∙ (λ i. by_twos 2 (ab2 i) (cd2 i)) in
    record {
      words = λ i. w0 i ∷ w1 i ∷ w2 i ∷ w3 i ∷ [];
      lanes = by_four
          (λ k. length (slice_index_or (c.first_by_twos.result ∷ c.last_by_twos.result
          ∷ c.first_by_twos-2.result ∷ c.last_by_twos-2.result ∷ []) k []) ≡ 8)
          c.first_by_twos.ensures.lanes c.last_by_twos.ensures.lanes
          c.first_by_twos-2.ensures.lanes c.last_by_twos-2.ensures.lanes;
    }
