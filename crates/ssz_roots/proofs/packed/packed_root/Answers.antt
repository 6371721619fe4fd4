use Rattle.std.proofs.Common.{◌≡◌, ◌∙◌, ℕ, ◌≤◌, ◌+◌, ◌/◌, ◌^◌, length, refl, sym, ap, subst, arith}
use Rattle.ssz_chunk.specs.Chunk.{CountsUp}
use Rattle.ssz_chunk.specs.Tree.{root, merkle_tree, merkle_pairs}
use Rattle.ssz_merkle.specs.Frontier.{leaves}
use Rattle.ssz_value.specs.Trees.{chunks}
use Rattle.ssz_roots.proofs.Packing.{Packed-room, Packed-more, Packed-root, Packed-counts, one_chunk, no_pairs}
use Rattle.ssz_roots.proofs.RowChunks.{Packed-rows}
use Rattle.ssz_roots.proofs.packed.packed_root.Goals as goal

pub loop-i-init : goal.loop-i-init
loop-i-init g c = Packed-rows _ c.args.depth _ _ _ _ _ _ c.new-chunks.ensures.depth
    c.push_chunk_rows-done.ensures.depth c.push_chunk_rows-done.ensures.holds
    c.push_chunk_rows-done.ensures.counts

pub push-requires : goal.push-requires
push-requires g c = Packed-room _ _ _ _ _ _ _ c.loop-i.invariant (omega arith)

pub loop-i-preserved : goal.loop-i-preserved
loop-i-preserved g c = Packed-more _ _ _ c.loop-i.i _ _ _ _ _ c.chunk_at-in-loop-i.result.0
    c.loop-i.invariant c.chunk_at-in-loop-i.ensures c.push.ensures.depth c.push.ensures.pushed
    c.push.ensures.holds c.push.ensures.counts

pub returns-clause-root : goal.returns-clause-root
returns-clause-root g c =
    let last : c.loop-i.i ≡ (length c.args.bytes.now + 31) / 32 = omega arith in
    Packed-root _ _ _ _ _ _ _ c.finish.result.0 c.loop-i.invariant c.finish.ensures.root
    ∙ ap (λ n. root g.H.PairHash.pair_of
    (merkle_tree c.args.depth (leaves (chunks n c.args.bytes.now))))
    last

pub returns-clause-counts : goal.returns-clause-counts
returns-clause-counts g c =
    let last : c.loop-i.i ≡ (length c.args.bytes.now + 31) / 32 = omega arith in
    subst (λ n. CountsUp (merkle_pairs c.args.depth n) (g.H.PairHash.pairs c.args.hasher.now)
    (g.H.PairHash.pairs c.finish.new.hasher)) last
    (Packed-counts _ _ _ _ _ _ _ _ c.loop-i.invariant c.finish.ensures.counts)

pub returns-then-depth-eq0-clause-root : goal.returns-then-depth-eq0-clause-root
returns-then-depth-eq0-clause-root g c =
    let flat : c.args.depth ≡ 0 = c.if-depth-eq0.true in
    let count : ℕ = (length c.args.bytes.now + 31) / 32 in
    let few : (length c.args.bytes.now + 31) / 32
    ≤ 1 = subst (λ d. (length c.args.bytes.now + 31) / 32 ≤ 2 ^ d) flat c.requires.few in
    c.chunk_at.ensures ∙ one_chunk g.H.PairHash.pair_of c.args.bytes.now
    ((length c.args.bytes.now + 31) / 32) refl few
    ∙ ap (λ d. root g.H.PairHash.pair_of (merkle_tree d
    (leaves (chunks ((length c.args.bytes.now + 31) / 32) c.args.bytes.now)))) (sym flat)

pub returns-then-depth-eq0-clause-counts : goal.returns-then-depth-eq0-clause-counts
returns-then-depth-eq0-clause-counts g c =
    subst (λ d. CountsUp (merkle_pairs d ((length c.args.bytes.now + 31) / 32))
    (g.H.PairHash.pairs c.args.hasher.now) (g.H.PairHash.pairs c.args.hasher.now))
    (sym c.if-depth-eq0.true) (no_pairs ((length c.args.bytes.now + 31) / 32) _)
