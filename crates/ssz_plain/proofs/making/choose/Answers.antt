use Rattle.std.proofs.Common.{sym, ◌∙◌, ap, arith, ◌≡◌, option_map}
use Rattle.ssz_schema.specs.Types.{union}
use Rattle.ssz_schema.specs.Unfolding.{type_of, tree_over, options_over}
use Rattle.ssz_schema.proofs.OptionLemmas.{option_count-over}
use Rattle.ssz_value.specs.Standing.{value_of}
use Rattle.ssz_plain.specs.Making.{unboxed}
use Rattle.ssz_plain.proofs.Made.{chosen_made, not_chosen}
use Rattle.ssz_plain.proofs.making.choose.Goals as goal

pub returns-then-from-len : goal.returns-then-from-len
returns-then-from-len c =
    let trees = c.args.schema.now.trees in
    let form : union (options_over trees c.in-Union.options.items)
    ≡ type_of c.args.schema.now c.args.id =
    sym (ap (tree_over trees) c.in-Union.is) ∙ c.ty.ensures.form in
    not_chosen _ (options_over trees c.in-Union.options.items) form c.args.selector
    (option_map value_of (unboxed c.args.inner)) c.args.value.now
    (omega (arith, option_count-over trees c.in-Union.options.items)) c.requires.value

pub returns : goal.returns
returns c =
    let trees = c.args.schema.now.trees in
    let form : union (options_over trees c.in-Union.options.items)
    ≡ type_of c.args.schema.now c.args.id =
    sym (ap (tree_over trees) c.in-Union.is) ∙ c.ty.ensures.form in
    chosen_made _ (options_over trees c.in-Union.options.items) form c.args.selector
    c.args.inner c.args.value.now
    (omega (arith, option_count-over trees c.in-Union.options.items)) c.requires.inner
