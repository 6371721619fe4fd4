use Rattle.std.proofs.Common.{◌++◌, ◌∷◌, map, take, sym, ap, ◌∙◌, refl, subst, arith}
use Rattle.std.proofs.lemmas.List.{append-nil}
use Rattle.ssz_schema.specs.Sizes.{basic_size}
use Rattle.ssz_schema.specs.Unfolding.{type_of, fields_over}
use Rattle.ssz_value.specs.Encoding.{serialize}
use Rattle.ssz_nodes.specs.Ahead.{IsRowOf}
use Rattle.ssz_nodes.proofs.Chunked.{Extends-same, Extends-trans}
use Rattle.ssz_writing.specs.Offsets.{rooms}
use Rattle.ssz_writing.proofs.Written.{alike}
use Rattle.ssz_writing.proofs.RowsWritten.{RowsSoFar, RowsSoFar-start, RowsSoFar-end, RowsSoFar-gathered}
use Rattle.ssz_writing.proofs.writer.Writer.append_gathered.Goals as goal

pub loop-i-init : goal.loop-i-init
loop-i-init g c = record {
  nodes = c.new-rows.ensures.nodes c.args.self.now.arena.now c.requires.node;
  depth = c.new-rows.ensures.depth ∙ c.depth.ensures.exact;
  kept = Extends-same c.args.out.now.items;
  long = refl;
  within = omega arith;
  value = λ vs are. subst (λ out. RowsSoFar c.args.self.now.arena.now
      (type_of c.args.self.now.schema.now c.args.few.now.id) vs 0
      (c.args.out.now.items ++ rooms (alike (type_of c.args.self.now.schema.now c.args.few.now.id)
      vs) (map (serialize (type_of c.args.self.now.schema.now c.args.few.now.id)) vs)) out
      c.new-rows.result)
      (sym (append-nil c.args.out.now.items))
      (RowsSoFar-start c.args.self.now.arena.now
      (type_of c.args.self.now.schema.now c.args.few.now.id) c.args.top.depth c.args.count vs
      c.args.out.now.items c.args.top.node c.new-rows.result
      (ap basic_size c.requires.fields.form) are
      (c.new-rows.ensures.holds c.args.self.now.arena.now));
}

pub loop-i-preserved : goal.loop-i-preserved
loop-i-preserved g c =
    let types = c.args.self.now.schema.now in
    let fs = fields_over types.trees c.args.few.now.fields.now in
    record {
      nodes = c.pass.ensures.nodes c.args.self.now.arena.now c.refill.ensures.nodes;
      depth = c.pass.ensures.depth ∙ c.refill.ensures.depth ∙ c.loop-i.invariant.depth;
      kept = Extends-trans c.args.out.now.items c.loop-i.out.items c.append_full.new.out.items
          c.loop-i.invariant.kept c.append_full.ensures.kept;
      long = c.gather_heads-len.ensures.long ∙ c.loop-i.invariant.long;
      within = omega (arith, c.gather_heads-len.ensures.within, c.in_ok-len.ensures.room);
      value = λ vs are. RowsSoFar-gathered c.args.self.now.arena.now
          (type_of types c.args.few.now.id) fs vs c.loop-i._i _ c.append_full.new.out.items
          (c.loop-i.out.items ++ take c.loop-i.len c.loop-i.heads)
          (take c.in_ok-len.len c.loop-i.heads)
          (take c.gather_heads-len.result c.gather_heads-len.new.heads) c.loop-i.rows
          c.pass.new.self c.row.result.now c.requires.fields.form c.requires.fixed
          (c.loop-i.invariant.value vs are) (omega (arith, are.many, c.loop-i-test.true))
          c.in_ok-len.ensures.bytes
          (λ first trees held. subst (λ n. IsRowOf c.args.self.now.arena.now n first
          c.row.result.now) (c.refill.ensures.depth ∙ c.loop-i.invariant.depth)
          (c.row.ensures.fields c.args.self.now.arena.now first trees
          (c.refill.ensures.holds (first ∷ trees) held)))
          (λ first trees held. c.pass.ensures.rest c.args.self.now.arena.now first trees
          (c.refill.ensures.holds (first ∷ trees) held))
          c.gather_heads-len.ensures.value;
    }

pub returns-clause-value : goal.returns-clause-value
returns-clause-value g c = λ vs are.
    c.in_ok-extend_from_slice.ensures.items
    ∙ RowsSoFar-end c.args.self.now.arena.now
    (type_of c.args.self.now.schema.now c.args.few.now.id) vs c.loop-i._i _
    (c.loop-i.out.items ++ take c.loop-i.len c.loop-i.heads) c.loop-i.rows
    (c.loop-i.invariant.value vs are) (omega (arith, are.many, c.loop-i-test.false))
