use Rattle.std.proofs.Common.{◌≡◌, ℕ, ◌*◌, ◌++◌, [], ◌∷◌, length, ◌∙◌, arith}
use Rattle.sha2.specs.Sha256.{word_at}
use Rattle.ssz_lanes.proofs.Blocks.{window_of, word-left, word-right}
use Rattle.ssz_lanes.proofs.single.load_words.Goals as goal

pub returns : goal.returns
returns c =
    let l = c.args.left.now in
    let r = c.args.right.now in
    let long : length l ≡ 32 = c.load_be.ensures.long in
    let word : (k : ℕ) → ℕ = λ k. word_at (l ++ r) (4 * k) in
    let w0 : c.load_be.result ≡ word 0 =
    c.load_be.ensures.value ∙ word-left l r 0 (omega arith) long in
    let w1 : c.load_be-2.result ≡ word 1 =
    c.load_be-2.ensures.value ∙ word-left l r 1 (omega arith) long in
    let w2 : c.load_be-3.result ≡ word 2 =
    c.load_be-3.ensures.value ∙ word-left l r 2 (omega arith) long in
    let w3 : c.load_be-4.result ≡ word 3 =
    c.load_be-4.ensures.value ∙ word-left l r 3 (omega arith) long in
    let w4 : c.load_be-5.result ≡ word 4 =
    c.load_be-5.ensures.value ∙ word-left l r 4 (omega arith) long in
    let w5 : c.load_be-6.result ≡ word 5 =
    c.load_be-6.ensures.value ∙ word-left l r 5 (omega arith) long in
    let w6 : c.load_be-7.result ≡ word 6 =
    c.load_be-7.ensures.value ∙ word-left l r 6 (omega arith) long in
    let w7 : c.load_be-8.result ≡ word 7 =
    c.load_be-8.ensures.value ∙ word-left l r 7 (omega arith) long in
    let w8 : c.load_be-9.result ≡ word 8 =
    c.load_be-9.ensures.value ∙ word-right l r 0 long in
    let w9 : c.load_be-10.result ≡ word 9 =
    c.load_be-10.ensures.value ∙ word-right l r 1 long in
    let w10 : c.load_be-11.result ≡ word 10 =
    c.load_be-11.ensures.value ∙ word-right l r 2 long in
    let w11 : c.load_be-12.result ≡ word 11 =
    c.load_be-12.ensures.value ∙ word-right l r 3 long in
    let w12 : c.load_be-13.result ≡ word 12 =
    c.load_be-13.ensures.value ∙ word-right l r 4 long in
    let w13 : c.load_be-14.result ≡ word 13 =
    c.load_be-14.ensures.value ∙ word-right l r 5 long in
    let w14 : c.load_be-15.result ≡ word 14 =
    c.load_be-15.ensures.value ∙ word-right l r 6 long in
    let w15 : c.load_be-16.result ≡ word 15 =
    c.load_be-16.ensures.value ∙ word-right l r 7 long in
    window_of (l ++ r) _ (λ i.
    w0 i ∷ w1 i ∷ w2 i ∷ w3 i ∷ w4 i ∷ w5 i ∷ w6 i ∷ w7 i ∷ w8 i ∷ w9 i ∷ w10 i ∷ w11 i ∷ w12 i
    ∷ w13 i ∷ w14 i ∷ w15 i ∷ [])
