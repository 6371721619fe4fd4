use Rattle.std.proofs.Common.{sym, ◌∙◌, ap, Some, length, ◌≡◌, rules}
use Rattle.ssz_schema.specs.declared.path.PathStep.TheVariants.{Len}
use Rattle.ssz_value.specs.Values.{number}
use Rattle.ssz_value.specs.Parts.{part_at}
use Rattle.ssz_value.specs.Standing.{value_of}
use Rattle.ssz_plain.proofs.Parting.{seq_counted, bytes_counted}
use Rattle.ssz_plain.proofs.reading.count.Goals as goal

pub returns-in-Seq-clause-exact : goal.returns-in-Seq-clause-exact
returns-in-Seq-clause-exact c =
    let many : c.len.result ≡ length c.in-Seq.parts.items = search rules in
    ap (λ n. Some (number n)) many ∙ sym (ap (λ v. part_at Len (value_of v)) c.in-Seq.is
    ∙ seq_counted c.in-Seq.parts)

pub returns-in-Bytes-clause-exact : goal.returns-in-Bytes-clause-exact
returns-in-Bytes-clause-exact c =
    ap (λ n. Some (number n)) c.len-in-Bytes.ensures
    ∙ sym (ap (λ v. part_at Len (value_of v)) c.in-Bytes.is ∙ bytes_counted c.in-Bytes.run')
