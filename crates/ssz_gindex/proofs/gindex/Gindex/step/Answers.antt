use Rattle.std.proofs.Common.{ap, sym, ◌∙◌}
use Rattle.std.specs.Option.{is_some}
use Rattle.std.proofs.lemmas.Bool.{false≢true}
use Rattle.ssz_gindex.proofs.gindex.Gindex.step.Goals as goal

pub returns-in-None : goal.returns-in-None
returns-in-None c =
    absurd (false≢true (sym (ap is_some c.in-None.ensures.unfit) ∙ c.requires.fits))
