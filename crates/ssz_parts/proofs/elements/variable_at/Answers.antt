use Rattle.std.proofs.Common.{arith}
use Rattle.ssz_parts.proofs.ElementLemmas.{variable_room, variable_lies}
use Rattle.ssz_parts.proofs.elements.variable_at.Goals as goal

pub overflow_mul-i : goal.overflow_mul-i
overflow_mul-i c = let room = variable_room c.args.count c.args.bytes.now c.requires.head in
    omega arith

pub offset_at-from-requires : goal.offset_at-from-requires
offset_at-from-requires c = let room = variable_room c.args.count c.args.bytes.now
    c.requires.head in omega arith

pub end_of_part-requires-clause-room : goal.end_of_part-requires-clause-room
end_of_part-requires-clause-room c = variable_room c.args.count c.args.bytes.now c.requires.head

pub slice_bounds-part-count : goal.slice_bounds-part-count
slice_bounds-part-count c = let lies = variable_lies c.args.count c.args.bytes.now c.args.i
    c.requires.head c.requires.below in omega (
      arith,
      c.offset_at-from.ensures,
      c.end_of_part.ensures,
      lies.up,
    )

pub slice_bounds-part-start : goal.slice_bounds-part-start
slice_bounds-part-start c = let lies = variable_lies c.args.count c.args.bytes.now c.args.i
    c.requires.head c.requires.below in omega (
      arith,
      c.offset_at-from.ensures,
      c.end_of_part.ensures,
      lies.up,
    )

pub slice_bounds-part-end : goal.slice_bounds-part-end
slice_bounds-part-end c = let lies = variable_lies c.args.count c.args.bytes.now c.args.i
    c.requires.head c.requires.below in omega (arith, c.end_of_part.ensures, lies.inside)
