use Rattle.ssz_decisions.proofs.Beginning.{none-held, stand-none}
use Rattle.ssz_decisions.proofs.Brought.{are-none}
use Rattle.ssz_decisions.proofs.store.Store.start.Goals as goal

pub invariant_of-result : goal.invariant_of-result
invariant_of-result g c = are-none _ _ _ c.in_ok-versions.ensures

pub returns-clause-stands : goal.returns-clause-stands
returns-clause-stands g c = record {
  each = λ writer. stand-none _ _ _ writer c.in_ok-versions.ensures;
}

pub returns-clause-none : goal.returns-clause-none
returns-clause-none g c = none-held _ c.in_ok-versions.ensures
