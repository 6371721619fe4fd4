use Rattle.ssz_draws.proofs.turns.beside.Goals as goal

pub returns-in-Some : goal.returns-in-Some
returns-in-Some g c n content is small = (c.in-Some.ensures.exact n content is small).1

pub returns-in-None : goal.returns-in-None
returns-in-None g c n content is small = absurd (c.in-None.ensures.exact n content is small)
