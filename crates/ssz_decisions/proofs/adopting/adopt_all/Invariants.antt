use Rattle.ssz_decisions.specs.Content.{SameNodes}
use Rattle.ssz_decisions.specs.Adopted.{AdoptsAll}
use Rattle.ssz_decisions.proofs.adopting.adopt_all.Given as goal

-- the writers so far have taken over what the base's holds
abbrev pub invariant-loop-number : goal.invariant-loop-number
invariant-loop-number g l = record {
  nodes : SameNodes l.fn.store l.store;
  adopted : AdoptsAll l.number l.fn.store.entries l.store.entries;
}
