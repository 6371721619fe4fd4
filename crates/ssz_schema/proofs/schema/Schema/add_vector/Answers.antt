use Rattle.std.proofs.Common.{ℕ, Option, ◌∙◌, ◌*◌, ap, cond, Some, None, arith}
use Rattle.ssz_types.specs.Sizes.{element_chunks}
use Rattle.ssz_schema.specs.Inside.{capped}
use Rattle.ssz_types.specs.Unfolding.{type_of}
use Rattle.ssz_schema.proofs.FactLemmas.{vector_facts}
use Rattle.ssz_schema.proofs.schema.Schema.add_vector.Goals as goal

pub add_within_limits-requires-clause-sound : goal.add_within_limits-requires-clause-sound
add_within_limits-requires-clause-sound c =
    let t = type_of c.args.self.now c.args.elem in
    let known = c.entry.ensures.entry.facts in
    let len = c.saturating_mul-default_len.result in
    let chunks = c.element_chunks-chunk_count.ensures
    ∙ ap (λ (size : Option ℕ). element_chunks size c.args.n) c.basic_size.ensures.exact in
    let long = c.saturating_mul-default_len.ensures
    ∙ ap (λ n. capped (c.args.n * n)) c.part_length.ensures in
    let are = vector_facts (type_of c.args.self.now c.args.elem) c.args.n
    c.saturating_mul-default_len.result c.element_chunks-chunk_count.result
    c.depth_of_count-depth.result c.entry.result.now.facts known long chunks
    c.depth_of_count-depth.ensures.exact in
    record {
      below = c.requires;
      legal = λ within. (c.entry.ensures.entry.legal, omega arith, within);
      facts = record {
        fixed_size = c.size_if_fixed.ensures
            ∙ ap (λ b. cond b (Some c.saturating_mul-default_len.result) None) c.is_some.ensures
            ∙ are.fixed_size;
        default_len = are.default_len;
        chunk_count = are.chunk_count;
        depth = are.depth;
        levels = are.levels;
        nesting = are.nesting;
      };
    }
