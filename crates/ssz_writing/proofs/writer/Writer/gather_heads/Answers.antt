use Rattle.std.proofs.Common.{rules, ◌+◌, ◌<◌, ◌≤◌, ◌++◌, length, take, ◌∙◌, refl, arith}
use Rattle.ssz_schema.specs.Sizes.{depth, part_sizes}
use Rattle.ssz_schema.specs.Unfolding.{type_of, fields_over}
use Rattle.ssz_value.specs.Encoding.{field_encodings}
use Rattle.ssz_nodes.proofs.Walked.{at_place}
use Rattle.ssz_writing.specs.Offsets.{rooms}
use Rattle.ssz_writing.proofs.FieldsWritten.{FieldHeads-start, FieldHeads-more}
use Rattle.ssz_nodes.proofs.Formed.{field_inside}
use Rattle.ssz_writing.proofs.RowsWritten.{FieldHeads-end, field_at, field_at-is}
use Rattle.ssz_writing.proofs.writer.Writer.gather_heads.Goals as goal

pub loop-i-init : goal.loop-i-init
loop-i-init g c = record {
  long = refl;
  within = omega arith;
  value = λ node row vs are. FieldHeads-start c.args.self.now.schema.now.trees
      c.args.few.now.fields.now (depth (type_of c.args.self.now.schema.now c.args.few.now.id)) vs
      (take c.args.at c.args.heads.now) node are;
}

pub bounds-row-i : goal.bounds-row-i
bounds-row-i g c = field_inside c.args.self.now.schema.now.trees c.args.few.now.fields.now
    (type_of c.args.self.now.schema.now c.args.few.now.id) c.loop-i.i (length c.args.row.now)
    c.requires.fields.form (omega (arith, c.loop-i-test.true)) c.requires.long

pub put_head-end-requires : goal.put_head-end-requires
put_head-end-requires g c =
    let few : length c.args.few.now.fields.now ≤ 8 = c.requires.fields.few in
    let inside : c.loop-i.i < length c.args.few.now.fields.now = omega (arith, c.loop-i-test.true)
    in
    let node = c.requires.row c.loop-i.i (record { 0 = 0 })
    (field_inside c.args.self.now.schema.now.trees c.args.few.now.fields.now
    (type_of c.args.self.now.schema.now c.args.few.now.id) c.loop-i.i (length c.args.row.now)
    c.requires.fields.form inside c.requires.long) in
    let leaf = c.requires.lens c.loop-i.i (field_at c.args.few.now.fields.now c.loop-i.i) inside
    (field_at-is c.args.few.now.fields.now c.loop-i.i inside) in
    let len = leaf.few in
    let room : c.loop-i.end + 32 ≤ length c.loop-i.heads =
    omega (arith, inside, few, c.loop-i.invariant.within, c.loop-i.invariant.long, c.requires.room)
    in
    search rules

pub loop-i-preserved : goal.loop-i-preserved
loop-i-preserved g c =
    let inside : c.loop-i.i < length c.args.few.now.fields.now = omega (arith, c.loop-i-test.true)
    in
    let field = field_at c.args.few.now.fields.now c.loop-i.i in
    let here = field_at-is c.args.few.now.fields.now c.loop-i.i inside in
    record {
      long = c.put_head-end.ensures.long ∙ c.loop-i.invariant.long;
      within = omega (arith, c.loop-i.invariant.within, c.put_head-end.ensures.end);
      value = λ node row vs are. FieldHeads-more c.args.self.now.schema.now.trees
          c.args.few.now.fields.now c.loop-i.i
          (depth (type_of c.args.self.now.schema.now c.args.few.now.id)) field
          (take c.args.at c.args.heads.now
          ++ rooms (part_sizes (fields_over c.args.self.now.schema.now.trees
          c.args.few.now.fields.now))
          (field_encodings (fields_over c.args.self.now.schema.now.trees c.args.few.now.fields.now)
          vs))
          (take c.loop-i.end c.loop-i.heads) _ node (c.loop-i.invariant.value node row vs are)
          inside here
          (λ v at. c.put_head-end.ensures.value _ (c.requires.lens c.loop-i.i field inside here)
          (c.requires.short c.loop-i.i field inside here) v
          (at_place _ (depth (type_of c.args.self.now.schema.now c.args.few.now.id)) c.loop-i.i v
          node _ at (λ trees inside whole. row trees whole c.loop-i.i inside)));
    }

pub returns-clause-value : goal.returns-clause-value
returns-clause-value g c = λ node row vs are.
    FieldHeads-end c.args.self.now.schema.now.trees c.args.few.now.fields.now c.loop-i.i
    (depth (type_of c.args.self.now.schema.now c.args.few.now.id)) _
    (take c.loop-i.end c.loop-i.heads) node (c.loop-i.invariant.value node row vs are)
    (omega (arith, c.loop-i-test.false))

pub returns-clause-within : goal.returns-clause-within
returns-clause-within g c =
    let few : length c.args.few.now.fields.now ≤ 8 = c.requires.fields.few in
    omega (arith, few, c.loop-i.auto.i-end, c.loop-i.invariant.within)
