use Rattle.std.proofs.Common.{[], refl}
use Rattle.ssz_making.specs.Parts.{whole_of}
use Rattle.ssz_tree.proofs.Adding.{makes_pair}
use Rattle.ssz_tree.proofs.DefaultForms.{MakesWith-zero, MakesWith-joined, zero-leaf}
use Rattle.ssz_tree.proofs.defaults.empty_node.Goals as goal

pub returns : goal.returns
returns g c =
    let content = c.zero-content.ensures in
    let len = c.zero-len.ensures in
    let p = c.pair.ensures in
    MakesWith-joined 0 c.args.arena.now c.args.arena.now c.pair.new.self (whole_of c.args.depth [])
    c.zero-content.result c.zero-len.result c.pair.result
    (MakesWith-zero c.args.arena.now c.args.depth (whole_of c.args.depth []) c.zero-content.result
    content.node content.tree content.todo refl)
    len.node len.tree len.todo zero-leaf
    (makes_pair _ _ _ _ _ p.node p.tree p.todo p.keeps p.same p.unhashed p.count p.spare)
