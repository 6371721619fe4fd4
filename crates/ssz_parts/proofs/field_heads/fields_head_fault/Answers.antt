use Rattle.std.proofs.Common.{◌∙◌, ◌≡◌, Some, ap, sym}
use Rattle.ssz_schema.specs.Sizes.{fixed_size, part_sizes, total_size}
use Rattle.ssz_schema.specs.Unfolding.{fields_over}
use Rattle.ssz_parts.proofs.HeadLemmas.{head_fault-fixed}
use Rattle.ssz_parts.proofs.field_heads.fields_head_fault.Goals as goal

pub returns-in-Some : goal.returns-in-Some
returns-in-Some c =
    let fs = fields_over c.args.schema.now.trees c.args.fields.now in
    let total : total_size (part_sizes (fields_over c.args.schema.now.trees c.args.fields.now))
    ≡ Some c.in-Some.size =
    sym (ap fixed_size c.requires.form) ∙ sym c.fixed_size.ensures.exact ∙ c.in-Some.is in
    c.length_fault.ensures
    ∙ sym (head_fault-fixed (part_sizes fs) c.in-Some.size c.args.start c.args.bytes.now total)
