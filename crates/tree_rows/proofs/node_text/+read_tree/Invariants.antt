use Rattle.tree_rows.proofs.node_text.+read_tree.Given as goal

abbrev pub decreases-read_tree : goal.decreases-read_tree
decreases-read_tree g l = l.depth
