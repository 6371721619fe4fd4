use Rattle.std.proofs.Common.{[], ◌∷◌, refl}
use Rattle.ssz_lanes.proofs.words_of.Goals as goal

pub returns : goal.returns
returns c = record {
  words = λ i. c.load_be.ensures.value i
      ∷ c.load_be-2.ensures.value i
      ∷ c.load_be-3.ensures.value i
      ∷ c.load_be-4.ensures.value i
      ∷ c.load_be-5.ensures.value i
      ∷ c.load_be-6.ensures.value i
      ∷ c.load_be-7.ensures.value i
      ∷ c.load_be-8.ensures.value i ∷ [];
  lanes = refl;
  long = c.load_be.ensures.long;
}
