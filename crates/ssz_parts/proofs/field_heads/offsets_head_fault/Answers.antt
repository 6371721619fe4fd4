use Rattle.std.proofs.Common.{subst}
use Rattle.ssz_schema.specs.Legal.{IsLegal}
use Rattle.ssz_schema.specs.Unfolding.{fields_over}
use Rattle.ssz_parts.proofs.HeadLemmas.{heads_few}
use Rattle.ssz_parts.proofs.field_heads.offsets_head_fault.Goals as goal

pub heads_len-requires-clause-short : goal.heads_len-requires-clause-short
heads_len-requires-clause-short c =
    heads_few c.args.schema.now.format
    (fields_over c.args.schema.now.trees c.args.fields.now)
    (subst (IsLegal c.args.schema.now.format) c.requires.form c.ty-legal.ensures.legal)
