use Rattle.std.proofs.Common.{◌≡◌, Some, subst}
use Rattle.ssz_schema.specs.Sizes.{basic_size}
use Rattle.ssz_schema.specs.Unfolding.{type_of}
use Rattle.ssz_writing.proofs.Leafed.{basic_leaf}
use Rattle.ssz_writing.proofs.leaves.leaf_len.Goals as goal

pub returns-in-Some : goal.returns-in-Some
returns-in-Some c =
    basic_leaf (type_of c.args.schema.now c.args.id) c.size.result
    (subst (λ t. basic_size t ≡ Some c.size.result) c.in-Some.ensures.form c.size.ensures.exact)
