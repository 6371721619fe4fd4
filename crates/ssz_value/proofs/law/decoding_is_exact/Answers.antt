use Rattle.ssz_value.proofs.ExactLaw.{faultless_where_encoded, one_value, faultless_is_read}
use Rattle.ssz_value.proofs.law.decoding_is_exact.Goals as goal

pub returns-clause-faultless : goal.returns-clause-faultless
returns-clause-faultless c = faultless_where_encoded

pub returns-clause-one : goal.returns-clause-one
returns-clause-one c = one_value

pub returns-clause-read : goal.returns-clause-read
returns-clause-read c = faultless_is_read
