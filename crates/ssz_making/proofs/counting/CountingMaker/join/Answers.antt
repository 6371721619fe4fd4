use Rattle.ssz_making.proofs.counting.CountingMaker.join.Goals as goal

pub returns : goal.returns
returns c = λ start one is. c.joined.ensures _ _ is
