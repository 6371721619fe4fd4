use Rattle.std.proofs.Common.{rules, ◌≡◌, ◌++◌, take}
use Rattle.ssz_arena.specs.Content.{tree_of}
use Rattle.ssz_writing.proofs.Written.{basic_adds}
use Rattle.ssz_writing.proofs.writer.Writer.append_basic.Goals as goal

pub returns-clause-value : goal.returns-clause-value
returns-clause-value g c =
    let next : c.extend_from_slice.new.self.items
    ≡ c.args.out.now.items ++ take c.size.result c.chunk_of-chunk.result.now.0 = search rules in
    basic_adds c.args.basic c.size.result (tree_of c.args.self.now.arena.now c.args.node)
    c.chunk_of-chunk.result.now.0 c.args.out.now.items c.extend_from_slice.new.self.items
    c.size.ensures.exact c.chunk_of-chunk.ensures next
