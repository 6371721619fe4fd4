use Rattle.std.proofs.Common.{◌≡◌, ◌∙◌, ap, arith}
use Rattle.ssz_types.specs.Legal.{IsWithinLimits, most_levels}
use Rattle.ssz_types.specs.Unfolding.{tree_over}
use Rattle.ssz_schema.proofs.WalkLemmas.{sound_within}
use Rattle.ssz_schema.proofs.schema.Schema.add_within_limits.Goals as goal

pub push-requires : goal.push-requires
push-requires c =
    let facts = c.requires.sound.facts in
    let most : c.most_levels.result ≡ most_levels c.args.self.now.format =
    c.most_levels.ensures ∙ ap most_levels c.format.ensures in
    let within : IsWithinLimits c.args.self.now.format
    (tree_over c.args.self.now.trees c.args.ty) = record {
      nesting = omega (arith, facts.nesting, c.if-facts-gt-MOST_NESTING.false);
      levels = omega (arith, facts.levels, c.if-facts-most_levels.false, most);
      default_length = omega (arith, facts.default_len, c.if-facts-gt-MOST_DEFAULT.false);
    } in
    sound_within c.args.self.now.format c.args.self.now.trees
    (record { ty = c.args.ty; facts = c.args.facts; order = c.args.order }) c.requires.sound
    within c.requires.order
