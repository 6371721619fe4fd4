use Rattle.ssz_schema.proofs.AcceptedLaw.{accepted_are_legal, legal_are_accepted}
use Rattle.ssz_schema.proofs.law.legal_types_are_accepted.Goals as goal

pub returns-clause-legal : goal.returns-clause-legal
returns-clause-legal c = accepted_are_legal

pub returns-clause-accepted : goal.returns-clause-accepted
returns-clause-accepted c = legal_are_accepted
