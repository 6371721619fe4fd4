use Rattle.std.proofs.Common.{sym, ◌∙◌, ap, rules}
use Rattle.ssz_schema.specs.Unfolding.{type_of, tree_over}
use Rattle.ssz_plain.proofs.Made.{less_parts, less_bytes}
use Rattle.ssz_plain.proofs.making.pop.Goals as goal

pub returns-in-Seq : goal.returns-in-Seq
returns-in-Seq c =
    less_parts _ (type_of c.args.schema.now c.in-List.field-0) c.in-List.field-1
    (sym (ap (tree_over c.args.schema.now.trees) c.in-List.is) ∙ c.ty.ensures.form) _ _ _
    c.requires.value c.in-Seq.parts c.pop_part.new.parts c.in-Seq.is
    (search rules)
    (rw c.in-Seq.parts-is at c.pop_part.ensures)

pub returns-in-Bytes : goal.returns-in-Bytes
returns-in-Bytes c =
    less_bytes _ (type_of c.args.schema.now c.in-List.field-0) c.in-List.field-1
    (sym (ap (tree_over c.args.schema.now.trees) c.in-List.is) ∙ c.ty.ensures.form) _ _ _
    c.requires.value c.in-Bytes.run' c.pop_byte.new.run c.in-Bytes.is
    (search rules)
    (rw c.in-Bytes.run-is at c.pop_byte.ensures)
