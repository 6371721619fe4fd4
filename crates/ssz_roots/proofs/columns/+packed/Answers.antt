use Rattle.std.proofs.Common.{rules, ◌≡◌, ◌∙◌, ℕ, suc, ◌+◌, ◌-◌, ◌*◌, ◌<◌, ◌≤◌, ◌^◌, drop, sym, ap, subst, arith}
use Rattle.ssz_chunk.specs.Chunk.{CountsUp}
use Rattle.ssz_chunk.specs.Tree.{root, merkle_tree, merkle_pairs}
use Rattle.ssz_chunk.proofs.Counting.{CountsUp-none}
use Rattle.ssz_chunk.proofs.Growing.{grow-zero}
use Rattle.ssz_value.specs.Trees.{chunks}
use Rattle.ssz_merkle.specs.Frontier.{leaves}
use Rattle.ssz_roots.specs.Eights.{lane_range}
use Rattle.ssz_roots.proofs.Halves.{chunks-halves, eight-halves, one_leaf, eight-one}
use Rattle.ssz_roots.proofs.columns.+packed.Goals as goal

pub returns-then-count-eq0-clause-counts : goal.returns-then-count-eq0-clause-counts
returns-then-count-eq0-clause-counts g t c =
    let none : 0 ≡ 8 * merkle_pairs c.args.depth c.args.count =
    omega (arith, grow-zero c.args.depth, ap (merkle_pairs c.args.depth) c.if-count-eq0.true) in
    subst (λ n. CountsUp n (g.H.PairHash.pairs c.args.hasher.now)
    (g.H.PairHash.pairs c.args.hasher.now)) none (CountsUp-none _)

pub returns-then-depth-eq0-clause-roots : goal.returns-then-depth-eq0-clause-roots
returns-then-depth-eq0-clause-roots g t c j below =
    let flat : c.args.depth ≡ 0 = c.if-depth-eq0.true in
    let few : c.args.count ≤ 1 = subst (λ d. c.args.count ≤ 2 ^ d) flat c.requires.few in
    c.chunk_column.ensures j below
    ∙ one_leaf g.H.PairHash.pair_of c.args.depth c.args.first c.args.count
    (lane_range c.args.span.from c.args.lanes.now.stride c.args.span.size c.args.lanes.now.bytes.now
    j) flat
    (omega (arith, few, c.if-count-eq0.false))

pub returns-then-depth-eq0-clause-counts : goal.returns-then-depth-eq0-clause-counts
returns-then-depth-eq0-clause-counts g t c =
    eight-one c.args.depth c.args.count _ c.if-depth-eq0.true

pub chunks_of_eight-right-requires : goal.chunks_of_eight-right-requires
chunks_of_eight-right-requires g t c κs within =
    let d : ℕ = c.args.depth - 1 in
    let deep : c.args.depth ≡ suc d = omega (arith, c.if-depth-eq0.false) in
    let few : c.args.count ≤ 2 ^ suc d = subst (λ k. c.args.count ≤ 2 ^ k) deep c.requires.few in
    let fits : c.args.count - c.left_of-half.result ≤ 2 ^ (c.args.depth - 1) =
    omega (arith, few, c.left_of-half.ensures) in
    let all : c.args.first + c.left_of-half.result + (c.args.count - c.left_of-half.result)
    < 2 ^ 60 = omega (arith, c.left_of-half.ensures, c.requires.small) in
    search rules

pub returns-clause-roots : goal.returns-clause-roots
returns-clause-roots g t c j below =
    let d : ℕ = c.args.depth - 1 in
    let deep : suc d ≡ c.args.depth = omega (arith, c.if-depth-eq0.false) in
    let bytes = lane_range c.args.span.from c.args.lanes.now.stride c.args.span.size
    c.args.lanes.now.bytes.now j in
    chunks-halves g.H.PairHash.pair_of d c.args.first c.args.count c.left_of-half.result bytes
    _ _ _ c.left_of-half.ensures (c.chunks_of_eight-left.ensures.roots j below)
    (c.chunks_of_eight-right.ensures.roots j below) (c.pair_columns.ensures.value j below)
    ∙ ap (λ k. root g.H.PairHash.pair_of (merkle_tree k
    (leaves (chunks c.args.count (drop (32 * c.args.first) bytes))))) deep

pub returns-clause-counts : goal.returns-clause-counts
returns-clause-counts g t c =
    let d : ℕ = c.args.depth - 1 in
    let deep : suc d ≡ c.args.depth = omega (arith, c.if-depth-eq0.false) in
    let few : c.args.count ≤ 2 ^ suc d =
    subst (λ k. c.args.count ≤ 2 ^ k) (sym deep) c.requires.few in
    subst (λ k. CountsUp (8 * merkle_pairs k c.args.count) (g.H.PairHash.pairs c.args.hasher.now)
    (g.H.PairHash.pairs c.pair_columns.new.hasher)) deep
    (eight-halves d c.args.count c.left_of-half.result _ _ _ _ (omega (arith, c.if-count-eq0.false))
    few c.left_of-half.ensures c.chunks_of_eight-left.ensures.counts
    c.chunks_of_eight-right.ensures.counts c.pair_columns.ensures.counts)
