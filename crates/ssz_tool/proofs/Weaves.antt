-- The limits of a weave.
use Rattle.std.proofs.Common.{◌≡◌, ℕ, ◌<◌, List, length, sym, subst, arith}
use Rattle.std.specs.Prelude.{All}
use Rattle.ssz_words.specs.Limits.{IsWeaveOf}

-- the limits of a weave speak of the number of its scripts
pub weave_of_many : (names scripts : List (List ℕ)) (order : List ℕ)
    → length scripts ≡ length names → IsWeaveOf names order → IsWeaveOf scripts order
weave_of_many names scripts order count is = (
  omega (arith, is.0),
  omega (arith, is.1),
  is.2,
  subst (λ n. All (λ writer. writer < n) order) (sym {A = ℕ} count) is.3,
)
