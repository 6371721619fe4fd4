use Rattle.std.proofs.Common.{◌*◌, ◌++◌, Result, Ok, ap, ◌∙◌}
use Rattle.ssz_arena.specs.Content.{tree_of}
use Rattle.ssz_schema.specs.Unfolding.{type_of}
use Rattle.ssz_writing.proofs.Listed.{items_add}
use Rattle.ssz_writing.proofs.writer.Writer.append_items.Goals as goal

-- where it went well
abbrev done : Result Unit Unit
done = Ok tt

pub returns-then-len-gt32-clause-value : goal.returns-then-len-gt32-clause-value
returns-then-len-gt32-clause-value g c =
    items_add c.args.self.now.schema.now.format (type_of c.args.self.now.schema.now c.args.id)
    c.args.size c.depth-depth.result c.mixed_parts-count.result.1 (c.from.result * c.args.size)
    (tree_of c.args.self.now.arena.now c.args.node)
    (tree_of c.args.self.now.arena.now c.mixed_parts-count.result.0) c.args.out.now.items
    c.append_packed.new.out.items c.append_packed.result c.ty-legal.ensures.legal c.requires.size
    c.depth-depth.ensures.exact
    (record {
      tree = c.mixed_parts-count.ensures.tree;
      number = c.mixed_parts-count.ensures.number;
    })
    (ap (λ n. n * c.args.size) c.from.ensures) c.append_packed.ensures.bytes

pub returns-clause-value : goal.returns-clause-value
returns-clause-value g c = λ v h.
    items_add c.args.self.now.schema.now.format (type_of c.args.self.now.schema.now c.args.id)
    c.args.size c.depth-depth.result c.mixed_parts-count.result.1 (c.from.result * c.args.size)
    (tree_of c.args.self.now.arena.now c.args.node)
    (tree_of c.args.self.now.arena.now c.mixed_parts-count.result.0) c.args.out.now.items
    c.extend_from_slice.new.self.items done c.ty-legal.ensures.legal c.requires.size
    c.depth-depth.ensures.exact
    (record {
      tree = c.mixed_parts-count.ensures.tree;
      number = c.mixed_parts-count.ensures.number;
    })
    (ap (λ n. n * c.args.size) c.from.ensures)
    (λ bytes packed. c.in_ok-extend_from_slice.ensures.items
    ∙ ap (λ xs. c.args.out.now.items ++ xs) (c.few_bytes.ensures bytes packed)) v h
