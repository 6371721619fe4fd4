-- Indices of no entry, and the two orders of entries.
use Rattle.std.proofs.Common.{◌≡◌, ℕ, ◌<◌, ◌≤◌, eqb, List, [], ◌∷◌, refl, ◌∙◌, Some, None, arith}
use Rattle.std.specs.List.{AllByRecursion}
use Rattle.std.proofs.lemmas.Bool.{ne_eqb, cond-false}
use Rattle.ssz_proof.specs.Calculation.{Known, indices_of, chunk_at}
use Rattle.ssz_proof.specs.Multiproof.{AscendFrom}
use Rattle.ssz_proof.specs.Descent.{IsAscending}

-- at an index of no entry there is no chunk
pub chunk_at-none : (known : Known) (g : ℕ) → AllByRecursion (λ k. k ≡ g → ⊥) (indices_of known)
    → chunk_at known g ≡ None
chunk_at-none [] g all = refl
chunk_at-none (entry ∷ known) g all =
    cond-false (eqb entry.index g) (Some entry.chunk.0) (chunk_at known g)
    (ne_eqb entry.index g all.0) ∙ chunk_at-none known g all.1

-- each above the one before it is each above all before it
pub IsAscending-from : (low : ℕ) (indices : List ℕ) → AscendFrom low indices → IsAscending indices
IsAscending-from low [] ascends = tt
IsAscending-from low (k ∷ indices) ascends =
    (above k k indices (omega arith) ascends.1, IsAscending-from k indices ascends.1)
  where
    above : (k low : ℕ) (indices : List ℕ) → k ≤ low → AscendFrom low indices
        → AllByRecursion (λ later. k < later) indices
    above k low [] le ascends = tt
    above k low (j ∷ indices) le ascends =
        let rise = ascends.0 in
        (omega arith, above k j indices (omega arith) ascends.1)

-- the two orders
pub less-apart : (a b : ℕ) → a < b → a ≡ b → ⊥
less-apart a b less same = omega arith

pub more-apart : (a b : ℕ) → b < a → a ≡ b → ⊥
more-apart a b more same = omega arith
