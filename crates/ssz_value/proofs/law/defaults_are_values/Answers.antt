use Rattle.ssz_value.proofs.SizeLaw.{default_fits, defaults_have_length}
use Rattle.ssz_value.proofs.law.defaults_are_values.Goals as goal

pub returns-clause-fits : goal.returns-clause-fits
returns-clause-fits c = default_fits

pub returns-clause-length : goal.returns-clause-length
returns-clause-length c = defaults_have_length
