use Rattle.std.proofs.Common.{sym, ◌∙◌, ap, subst, rules, arith, ◌≡◌, ◌<◌}
use Rattle.ssz_schema.specs.Types.{list, bitlist}
use Rattle.ssz_schema.specs.Unfolding.{type_of, tree_over}
use Rattle.ssz_value.specs.Suiting.{IsElement}
use Rattle.ssz_plain.proofs.Made.{more_parts, more_bytes, more_bit}
use Rattle.ssz_plain.proofs.making.append.Goals as goal

pub returns-in-Seq : goal.returns-in-Seq
returns-in-Seq c =
    let form : list (type_of c.args.schema.now c.in-List.field-0) c.in-List.limit
    ≡ type_of c.args.schema.now c.args.id =
    sym (ap (tree_over c.args.schema.now.trees) c.in-List.is) ∙ c.ty.ensures.form in
    more_parts _ (type_of c.args.schema.now c.in-List.field-0) c.in-List.limit form _ _ _
    c.requires.value c.in-Seq.parts c.push_part.new.parts c.in-Seq.is (search rules) c.args.new
    (subst (λ s. IsElement s c.args.new) (sym form) c.requires.new)
    (rw c.in-Seq.parts-is at c.push_part.ensures)

pub returns-in-Bytes : goal.returns-in-Bytes
returns-in-Bytes c =
    let form : list (type_of c.args.schema.now c.in-List.field-0) c.in-List.limit
    ≡ type_of c.args.schema.now c.args.id =
    sym (ap (tree_over c.args.schema.now.trees) c.in-List.is) ∙ c.ty.ensures.form in
    more_bytes _ (type_of c.args.schema.now c.in-List.field-0) c.in-List.limit form _ _ _
    c.requires.value c.in-Bytes.run' c.push_byte.new.run c.in-Bytes.is (search rules) c.args.new
    c.byte_of.result c.byte_of.ensures
    (let small : c.byte_of.result < 256 = omega arith in small)
    (rw c.in-Bytes.run-is at c.push_byte.ensures)

pub returns-in-Bits : goal.returns-in-Bits
returns-in-Bits c =
    let form : bitlist c.in-Bitlist.limit ≡ type_of c.args.schema.now c.args.id =
    sym (ap (tree_over c.args.schema.now.trees) c.in-Bitlist.is) ∙ c.ty.ensures.form in
    more_bit _ c.in-Bitlist.limit form _ _ _
    c.requires.value c.in-Bits.run' c.push_bit.new.run c.in-Bits.is (search rules) c.args.new
    c.bit_of.result c.bit_of.ensures
    (rw c.in-Bits.run-is at c.push_bit.ensures)
