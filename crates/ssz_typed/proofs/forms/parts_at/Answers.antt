use Rattle.std.proofs.Common.{◌≡◌, sym, ap, ◌∙◌, arith}
use Rattle.ssz_schema.specs.Types.{union}
use Rattle.ssz_schema.specs.Unfolding.{options_over, tree_over, type_of}
use Rattle.ssz_schema.proofs.OptionLemmas.{option_count-over}
use Rattle.ssz_typed.specs.Forms.{parts_count}
use Rattle.ssz_typed.proofs.forms.parts_at.Goals as goal

pub returns-in-Union : goal.returns-in-Union
returns-in-Union c =
    let trees = c.args.schema.now.trees in
    let ids = c.in-Union.options.items in
    let tree : union (options_over trees ids) ≡ type_of c.args.schema.now c.args.id
    = sym (ap (tree_over trees) c.in-Union.is) ∙ c.ty.ensures.form in
    omega (arith, c.len.ensures, option_count-over trees ids, ap parts_count tree)
