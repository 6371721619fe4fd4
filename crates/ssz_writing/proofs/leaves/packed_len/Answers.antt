use Rattle.std.proofs.Common.{◌≡◌, Some, subst, arith}
use Rattle.ssz_schema.specs.Sizes.{basic_size}
use Rattle.ssz_schema.specs.Unfolding.{type_of}
use Rattle.ssz_writing.proofs.Leafed.{vector_leaf}
use Rattle.ssz_writing.proofs.leaves.packed_len.Goals as goal

pub returns-in-Some : goal.returns-in-Some
returns-in-Some c =
    vector_leaf (type_of c.args.schema.now c.args.elem) c.size.result c.args.n c.args.depth
    c.at_most_chunk.result
    (subst (λ t. basic_size t ≡ Some c.size.result) c.in-Some.ensures.form c.size.ensures.exact)
    c.requires.depth (omega (arith, c.if-depth-gt0.false)) c.at_most_chunk.ensures.few
    (λ some. omega (
      arith,
      c.at_most_chunk.ensures.same some,
      c.at_most_chunk.ensures.few,
      c.saturating_mul.ensures,
    ))
