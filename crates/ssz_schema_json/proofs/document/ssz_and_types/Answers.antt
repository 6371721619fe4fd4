use Rattle.std.proofs.Common.{sym, ◌∙◌}
use Rattle.ssz_schema_json.proofs.Objects.{not_two-members}
use Rattle.ssz_schema_json.proofs.document.ssz_and_types.Goals as goal

pub returns-then-len-ne2 : goal.returns-then-len-ne2
returns-then-len-ne2 c =
    sym (not_two-members c.args.members.entries
    (λ two. c.if-len-ne2.true (c.len.ensures.len ∙ two)))
