use Rattle.std.proofs.Common.{◌≡◌, List, ℕ, ◌++◌, length, length-append, ◌∙◌, sym, ap, arith}
use Rattle.sha2.specs.Sha256.{add_state, compress, digest_bytes, initial_hash_256, rounds, schedule}
use Rattle.ssz_lanes.specs.Lanes.{padding_block}
use Rattle.ssz_lanes.proofs.Blocks.{two_blocks}
use Rattle.ssz_lanes.proofs.single.sha256_pair.Goals as goal

pub returns : goal.returns
unfolding compress
returns c =
    let m = c.args.left.now ++ c.args.right.now in
    let long : length m ≡ 64 =
    omega (arith, length-append c.args.left.now c.args.right.now, c.told-left, c.told-right) in
    let after : (h b : List ℕ) → List ℕ = λ h b. add_state h (rounds h (schedule b 48) 64) in
    let one : c.add-h.result ≡ compress initial_hash_256 m =
    c.add-h.ensures
    ∙ ap (add_state initial_hash_256) (c.block_rounds.ensures m c.load_words-w.ensures) in
    let two : c.add.result ≡ compress (compress initial_hash_256 m) padding_block =
    c.add.ensures ∙ ap (add_state c.add-h.result) c.padding_rounds.ensures
    ∙ ap (λ h. after h padding_block) one in
    c.digest.ensures ∙ ap (λ h. digest_bytes h 8) two ∙ sym (two_blocks m long)
