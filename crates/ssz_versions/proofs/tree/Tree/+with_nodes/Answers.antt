use Rattle.ssz_versions.proofs.Moving.{moved_all}
use Rattle.ssz_versions.proofs.tree.Tree.+with_nodes.Goals as goal

pub returns-clause-tree : goal.returns-clause-tree
returns-clause-tree t c =
    let branch = c.in-Some.branch in
    moved_all branch.left branch.entry branch.right c.args.nodes.now c.args.at
    c.with_nodes-left.result.1 _ c.with_nodes-left.result.0 c.with_nodes-right.result.0
    c.fork.result c.args.self c.with_nodes-left.ensures.place c.requires c.in-Some.ensures
    c.with_nodes-left.ensures.tree c.with_nodes-right.ensures.tree c.fork.ensures
