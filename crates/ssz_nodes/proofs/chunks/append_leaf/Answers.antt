use Rattle.std.proofs.Common.{rules, ℕ, ◌≡◌, ◌+◌, ◌++◌, List, length, take, ap, ◌∙◌, arith, length-append}
use Rattle.std.proofs.lemmas.List.{length-take-le}
use Rattle.std.proofs.Math.Seq.{take-append-add}
use Rattle.ssz_nodes.proofs.chunks.append_leaf.Goals as goal

cut : (old chunk mid new : List ℕ) (len end : ℕ) → mid ≡ old ++ chunk → new ≡ take end mid
    → end ≡ length old + len → new ≡ old ++ take len chunk
cut old chunk mid new len end longer cut_is at =
    cut_is ∙ ap (λ xs. take end xs) longer ∙ ap (λ n. take n (old ++ chunk)) at
    ∙ take-append-add old chunk len

pub returns-clause-kept : goal.returns-clause-kept
returns-clause-kept g c =
    let longer : c.extend_from_slice.new.self.items
    ≡ c.args.out.now.items ++ c.chunk_of-chunk.result.now.0 = search rules in
    record {
      more = take c.args.len c.chunk_of-chunk.result.now.0;
      is = cut c.args.out.now.items c.chunk_of-chunk.result.now.0
          c.extend_from_slice.new.self.items c.truncate.new.self.items c.args.len _ longer
          c.truncate.ensures.items (omega (arith, c.len.ensures, c.args.out.now.ok.0));
    }

pub returns-clause-bytes : goal.returns-clause-bytes
returns-clause-bytes g c = λ chunk is.
    let longer : c.extend_from_slice.new.self.items
    ≡ c.args.out.now.items ++ c.chunk_of-chunk.result.now.0 = search rules in
    cut c.args.out.now.items c.chunk_of-chunk.result.now.0
    c.extend_from_slice.new.self.items c.truncate.new.self.items c.args.len _ longer
    c.truncate.ensures.items (omega (arith, c.len.ensures, c.args.out.now.ok.0))
    ∙ ap (λ xs. c.args.out.now.items ++ take c.args.len xs) (c.chunk_of-chunk.ensures chunk is)

pub returns-clause-long : goal.returns-clause-long
returns-clause-long g c =
    let longer : c.extend_from_slice.new.self.items
    ≡ c.args.out.now.items ++ c.chunk_of-chunk.result.now.0 = search rules in
    let all : length c.chunk_of-chunk.result.now.0 ≡ 32 = omega arith in
    ap (λ (xs : List ℕ). length xs) (cut c.args.out.now.items c.chunk_of-chunk.result.now.0
    c.extend_from_slice.new.self.items c.truncate.new.self.items c.args.len _ longer
    c.truncate.ensures.items (omega (arith, c.len.ensures, c.args.out.now.ok.0)))
    ∙ length-append c.args.out.now.items (take c.args.len c.chunk_of-chunk.result.now.0)
    ∙ ap (λ n. length c.args.out.now.items + n)
    (length-take-le c.args.len c.chunk_of-chunk.result.now.0 (omega (arith, all, c.requires)))
