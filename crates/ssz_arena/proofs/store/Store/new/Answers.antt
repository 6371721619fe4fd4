use Rattle.ssz_arena.proofs.Storing.{nodes_in-none}
use Rattle.ssz_arena.proofs.store.Store.new.Goals as goal

pub returns-clause-nodes : goal.returns-clause-nodes
returns-clause-nodes c = nodes_in-none _ _ _ _ c.new.ensures.items
