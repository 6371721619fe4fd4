use Rattle.std.proofs.Common.{◌≡◌, ◌∙◌, ℕ, ◌+◌, ◌-◌, ◌*◌, List, length, take, ◌++◌, refl, sym, ap, ap₂, subst, arith}
use Rattle.std.proofs.lemmas.List.{map-append, take_all}
use Rattle.std.proofs.lemmas.Slice.{take-put_mid}
use borrow.Rule.Slice.PartMut.{same_len_mid}
use Rattle.ssz_chunk.specs.declared.Chunk.{Chunk}
use Rattle.ssz_chunk.specs.Chunk.{CountsUp}
use Rattle.ssz_chunk.proofs.Counting.{CountsUp-none, CountsUp-add}
use Rattle.ssz_schema.specs.Unfolding.{type_of}
use Rattle.ssz_merkle.specs.Frontier.{chunk_bytes}
use Rattle.ssz_roots.proofs.ElementRows.{roots_from, costs_from, roots_joined, costs_joined}
use Rattle.ssz_roots.proofs.pushing.fill_row.Goals as goal

pub loop-k-init : goal.loop-k-init
loop-k-init g c = record {
  long = refl;
  made = refl;
  counted = CountsUp-none _;
}

pub loop-k-preserved : goal.loop-k-preserved
loop-k-preserved g c =
    let ty = type_of c.args.lanes.now.schema.now c.args.elem in
    let pair_of = g.H.PairHash.pair_of in
    let at : ℕ = 8 * c.loop-k.k in
    let next : at + 8 ≡ 8 * (c.loop-k.k + 1) = omega arith in
    let column : List Chunk = c.copy_from_slice.new.self in
    let same : column ≡ c.column_of-column.result = c.copy_from_slice.ensures.after in
    let wide : length column ≡ 8 = omega (arith, ap length same) in
    let row : List Chunk = c.loop-k.row in
    let laid = ap chunk_bytes (take-put_mid at (at + 8 - at) row column (8 * (c.loop-k.k + 1))
    (omega (arith, wide)) (omega (arith, c.loop-k.invariant.long)))
    ∙ map-append (λ (chunk : Chunk). chunk.0) (take at row) column in
    record {
      long = same_len_mid at (at + 8 - at) row column c.copy_from_slice.ensures.len
          ∙ c.loop-k.invariant.long;
      made = laid
          ∙ ap₂ (λ (xs ys : List (List ℕ)). xs ++ ys) c.loop-k.invariant.made
          (ap chunk_bytes same ∙ c.column_of-column.ensures.roots)
          ∙ roots_joined pair_of ty c.args.count c.args.lanes.now.bytes.now c.args.first at 8
          ∙ ap (roots_from pair_of ty c.args.count c.args.lanes.now.bytes.now c.args.first) next;
      counted = subst (λ n. CountsUp n (g.H.PairHash.pairs c.args.hasher.now)
          (g.H.PairHash.pairs c.column_of-column.new.hasher))
          (costs_joined ty c.args.count c.args.lanes.now.bytes.now c.args.first at 8
          ∙ ap (costs_from ty c.args.count c.args.lanes.now.bytes.now c.args.first) next)
          (CountsUp-add _ _ _ _ _ c.loop-k.invariant.counted c.column_of-column.ensures.counts);
    }

pub returns-clause-roots : goal.returns-clause-roots
returns-clause-roots g c =
    let ty = type_of c.args.lanes.now.schema.now c.args.elem in
    let last : 8 * c.loop-k.k ≡ length c.args.row.now = omega (arith, c.requires.eights) in
    let whole : take (8 * c.loop-k.k) c.loop-k.row ≡ c.loop-k.row =
    take_all (8 * c.loop-k.k) c.loop-k.row (omega (arith, last, c.loop-k.invariant.long)) in
    sym (ap chunk_bytes whole) ∙ c.loop-k.invariant.made
    ∙ ap (roots_from g.H.PairHash.pair_of ty c.args.count c.args.lanes.now.bytes.now
    c.args.first) last

pub returns-clause-counts : goal.returns-clause-counts
returns-clause-counts g c =
    let ty = type_of c.args.lanes.now.schema.now c.args.elem in
    let last : 8 * c.loop-k.k ≡ length c.args.row.now = omega (arith, c.requires.eights) in
    subst (λ k. CountsUp (costs_from ty c.args.count c.args.lanes.now.bytes.now c.args.first k)
    (g.H.PairHash.pairs c.args.hasher.now) (g.H.PairHash.pairs c.loop-k.hasher)) last
    c.loop-k.invariant.counted
