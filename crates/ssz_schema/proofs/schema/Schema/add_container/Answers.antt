use Rattle.std.proofs.Common.{List, ◌∙◌, ◌≡◌, subst, arith}
use Rattle.ssz_types.specs.Sizes.{field_count}
use Rattle.ssz_schema.specs.Sums.{AreSums}
use Rattle.ssz_types.specs.Unfolding.{fields_over}
use Rattle.ssz_schema.proofs.FactLemmas.{container_facts}
use Rattle.ssz_schema.proofs.SumLemmas.{field_count-over, Part}
use Rattle.ssz_schema.proofs.schema.Schema.add_container.Goals as goal

pub add_within_limits-requires-clause-sound : goal.add_within_limits-requires-clause-sound
add_within_limits-requires-clause-sound c =
    let sums = c.sums-sums.result in
    let told : AreSums (fields_over c.args.self.now.trees c.args.fields.items) c.sums-sums.result =
    subst (λ (parts : List Part). AreSums (fields_over c.args.self.now.trees parts)
    c.sums-sums.result) c.as_slice.ensures.value c.sums-sums.ensures.sums in
    let count = field_count-over c.args.self.now.trees c.args.fields.items in
    let chunks : c.len-chunk_count.result ≡ field_count
    (fields_over c.args.self.now.trees c.args.fields.items) =
    omega (arith, c.len-chunk_count.ensures, count) in
    let are = container_facts (fields_over c.args.self.now.trees c.args.fields.items)
    c.sums-sums.result c.len-chunk_count.result c.depth_of_count-depth.result told chunks
    c.depth_of_count-depth.ensures.exact in
    record {
      below = c.requires.known;
      legal = λ within. (
        omega (arith, count, c.requires.some),
        c.requires.legal,
        c.requires.distinct,
        within,
      );
      facts = record {
        fixed_size = c.size_if_fixed.ensures ∙ are.fixed_size;
        default_len = are.default_len;
        chunk_count = are.chunk_count;
        depth = are.depth;
        levels = are.levels;
        nesting = are.nesting;
      };
    }
