-- Pairs and nodes as a u64 counts them.
use Rattle.std.specs.Prelude.{◌≡◌, ℕ, ◌-◌, ◌^◌, min}
use Rattle.ssz_making.specs.declared.tally.Tally.{Tally}
use Rattle.ssz_making.specs.Parts.{MadePart}

-- so many pairs and nodes; the greatest u64 stands for all numbers from there on
pub record Tallies (p n : ℕ) (tally : Tally) : Type 0 where
  pub pairs : tally.pairs ≡ min p (2 ^ 64 - 1)
  pub nodes : tally.nodes ≡ min n (2 ^ 64 - 1)

-- the pairs that a part costs, and the nodes that are made for it
abbrev pub IsTallyOf : MadePart → Tally → Type 0
IsTallyOf part tally = Tallies part.cost part.nodes tally
