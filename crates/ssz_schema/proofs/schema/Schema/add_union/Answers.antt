use Rattle.std.proofs.Common.{ℕ, List, Option, ◌∙◌, ap, subst, arith}
use Rattle.ssz_types.specs.Sizes.{default_option_length}
use Rattle.ssz_schema.specs.Sums.{AreOptionSums}
use Rattle.ssz_types.specs.Unfolding.{options_over}
use Rattle.ssz_schema.proofs.FactLemmas.{union_facts}
use Rattle.ssz_schema.proofs.OptionLemmas.{option_count-over}
use Rattle.ssz_schema.proofs.schema.Schema.add_union.Goals as goal

pub add_within_limits-requires-clause-sound : goal.add_within_limits-requires-clause-sound
add_within_limits-requires-clause-sound c =
    let sums = c.options_sums-option_levels.result in
    let told : AreOptionSums (options_over c.args.self.now.trees c.args.options.items)
    c.options_sums-option_levels.result.0 c.options_sums-option_levels.result.1 =
    subst (λ (ids : List (Option ℕ)). AreOptionSums (options_over c.args.self.now.trees ids)
    c.options_sums-option_levels.result.0 c.options_sums-option_levels.result.1)
    c.as_slice.ensures.value c.options_sums-option_levels.ensures.sums in
    let first = c.default_of_first-first.ensures.exact
    ∙ ap (λ ids. default_option_length (options_over c.args.self.now.trees ids))
    c.as_slice-2.ensures.value in
    let count = option_count-over c.args.self.now.trees c.args.options.items in
    record {
      below = c.requires.known;
      legal = λ within. (
        omega (arith, count, c.requires.some),
        omega (arith, count, c.requires.few),
        c.requires.none,
        c.requires.legal,
        within,
      );
      facts = union_facts (options_over c.args.self.now.trees c.args.options.items)
          c.options_sums-option_levels.result.0 c.options_sums-option_levels.result.1
          c.default_of_first-first.result told first c.default_of_first-first.ensures.small;
    }
