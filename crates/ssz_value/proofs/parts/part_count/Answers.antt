use Rattle.std.proofs.Common.{◌≡◌, ◌∙◌, ap, map, length, arith}
use Rattle.std.proofs.lemmas.List.{length-map}
use Rattle.ssz_value.specs.Values.{number}
use Rattle.ssz_value.specs.Standing.{value_of}
use Rattle.ssz_value.specs.Shapes.{part_count_of}
use Rattle.ssz_value.proofs.Sequences.{items-values}
use Rattle.ssz_value.proofs.ValueLemmas.{seq_is, bytes_are}
use Rattle.ssz_value.proofs.parts.part_count.Goals as goal

pub returns-in-Seq : goal.returns-in-Seq
returns-in-Seq c =
    let count : part_count_of (value_of c.args.value.now) ≡ length c.in-Seq.parts.items =
    ap (λ v. part_count_of (value_of v)) c.in-Seq.is ∙ ap part_count_of (seq_is c.in-Seq.parts)
    ∙ ap length (items-values (map value_of c.in-Seq.parts.items))
    ∙ length-map c.in-Seq.parts.items value_of in
    omega (arith, count, c.len.ensures)

pub returns-in-Bytes : goal.returns-in-Bytes
returns-in-Bytes c =
    let count : part_count_of (value_of c.args.value.now) ≡ length c.in-Bytes.bytes =
    ap (λ v. part_count_of (value_of v)) c.in-Bytes.is
    ∙ ap part_count_of (bytes_are c.in-Bytes.bytes)
    ∙ ap length (items-values (map number c.in-Bytes.bytes)) ∙ length-map c.in-Bytes.bytes number in
    omega (arith, count, c.len-in-Bytes.ensures)
