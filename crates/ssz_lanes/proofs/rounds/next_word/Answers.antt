use Rattle.std.proofs.Common.{◌≡◌, [], ◌+◌, ◌%◌, ◌∙◌, slice_index, slice_index_or, refl, sym, ap, arith}
use Rattle.sha2.specs.Sha256.{add32, small_sigma0, small_sigma1}
use Rattle.ssz_lanes.specs.Lanes.{lane}
use Rattle.ssz_lanes.proofs.LaneLaws.{lane-at}
use Rattle.ssz_lanes.proofs.rounds.next_word.Goals as goal

pub returns : goal.returns
returns c = record {
  value = λ j lt.
      let w = c.args.w.now in
      let place = c.args.place in
      let same : place % 16 ≡ place = omega arith in
      let one : slice_index c.small_sigma1-high.result j
      ≡ small_sigma1 (slice_index (lane j w) ((place + 14) % 16)) =
      c.small_sigma1-high.ensures j lt ∙ ap small_sigma1 (sym (lane-at j ((place + 14) % 16) w)) in
      let zero : slice_index c.small_sigma0-low.result j
      ≡ small_sigma0 (slice_index (lane j w) ((place + 1) % 16)) =
      c.small_sigma0-low.ensures j lt ∙ ap small_sigma0 (sym (lane-at j ((place + 1) % 16) w)) in
      let last : slice_index (slice_index_or w place []) j ≡ slice_index (lane j w) (place % 16) =
      sym (lane-at j place w) ∙ ap (slice_index (lane j w)) (sym same) in
      let ninth : slice_index (slice_index_or w ((place + 9) % 16) []) j
      ≡ slice_index (lane j w) ((place + 9) % 16) =
      sym (lane-at j ((place + 9) % 16) w) in
      c.sum-word.ensures j lt
      ∙ (λ i. add32 ((c.sum-2.ensures j lt
      ∙ (λ i. add32 ((c.sum.ensures j lt ∙ (λ i. add32 (one i) (ninth i))) i) (zero i))) i)
      (last i));
  window = refl;
}
