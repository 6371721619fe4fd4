use Rattle.std.proofs.Common.{length, ap, ◌∙◌}
use Rattle.std.specs.ControlFlow.{continue_value}
use Rattle.ssz_value.proofs.PartLemmas.{known_weaker}
use Rattle.ssz_writing.proofs.leaves.Few.of.Goals as goal

pub leaf_lens-lens-requires-clause-known : goal.leaf_lens-lens-requires-clause-known
leaf_lens-lens-requires-clause-known c =
    let few = c.few_fields.ensures c.in_ok-fields.fields
    (c.branch-fields.ensures ∙ ap continue_value c.in_ok-fields.is) in
    known_weaker c.args.id (length c.args.schema.now.trees) c.in_ok-fields.fields.now c.requires
    few.before

pub leaf_lens-lens-requires-clause-few : goal.leaf_lens-lens-requires-clause-few
leaf_lens-lens-requires-clause-few c =
    (c.few_fields.ensures c.in_ok-fields.fields
    (c.branch-fields.ensures ∙ ap continue_value c.in_ok-fields.is)).few
