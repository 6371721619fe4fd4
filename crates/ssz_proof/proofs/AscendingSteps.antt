-- Whether indices ascend, one by one.
use Rattle.std.proofs.Common.{ℕ, ◌^◌, ◌<◌, take, drop}
use Rattle.std.specs.Prelude.{◌↔◌}
use Rattle.std.specs.List.{AllByRecursion}
use Rattle.ssz_proof.specs.Calculation.{Known, indices_of}
use Rattle.ssz_proof.specs.Multiproof.{AscendFrom}

-- the first i ascend and fit, and the rest has to ascend from the last of them
pub record AscendsSoFar (known : Known) (i last : ℕ) : Type 0 where
  pub rest : AscendFrom 0 (indices_of known) ↔ AscendFrom last (indices_of (drop i known))
  pub fits : AllByRecursion (λ index. index < 2 ^ 128) (indices_of (take i known))
