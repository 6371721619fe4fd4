use Rattle.ssz_nodes.proofs.FewPlaces.{IsRowOf-four}
use Rattle.ssz_nodes.proofs.rows.four_places.Goals as goal

pub returns-clause-places : goal.returns-clause-places
returns-clause-places g c = IsRowOf-four c.args.arena.now c.args.node c.halves.result.0
    c.halves.result.1 c.halves-2.result.0 c.halves-2.result.1 c.halves-3.result.0
    c.halves-3.result.1 c.args.row.now c.requires.room
    (record { left = c.halves.ensures.left_tree; right = c.halves.ensures.right_tree })
    (record { left = c.halves-2.ensures.left_tree; right = c.halves-2.ensures.right_tree })
    (record { left = c.halves-3.ensures.left_tree; right = c.halves-3.ensures.right_tree })
