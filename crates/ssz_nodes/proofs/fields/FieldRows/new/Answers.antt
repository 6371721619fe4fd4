use Rattle.std.proofs.Common.{sym, subst}
use Rattle.std.proofs.lemmas.List.{get_or-replicate}
use Rattle.ssz_arena.specs.Content.{IsNodeOf}
use Rattle.ssz_nodes.proofs.fields.FieldRows.new.Goals as goal

pub returns-clause-nodes : goal.returns-clause-nodes
returns-clause-nodes c = λ arena inside. (
  λ k d below. subst (IsNodeOf arena) (sym (get_or-replicate 256 k c.args.top.node d below)) inside,
  c.new.ensures.nodes arena inside,
)
