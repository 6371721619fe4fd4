use Rattle.ssz_nodes.proofs.FewPlaces.{IsRowOf-two}
use Rattle.ssz_nodes.proofs.rows.two_places.Goals as goal

pub returns-clause-places : goal.returns-clause-places
returns-clause-places g c = IsRowOf-two c.args.arena.now c.args.node c.halves.result.0
    c.halves.result.1 c.args.row.now c.requires.room
    (record { left = c.halves.ensures.left_tree; right = c.halves.ensures.right_tree })
