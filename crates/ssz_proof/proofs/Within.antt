-- The children on the way from an index to one that is within it.
use Rattle.std.proofs.Common.{◌≡◌, ℕ, suc, ◌+◌, ◌*◌, ◌/◌, ◌%◌, ◌^◌, ◌<◌, true, ◌++◌, refl, ap, ◌∙◌, arith}
use Rattle.std.proofs.Math.Nat.{pow-suc, div-eq_of_lt-le}
use Rattle.std.proofs.lemmas.Nat.{shr-shr}
use Rattle.ssz_chunk.specs.Index.{levels, levels_within, way, digits}
use Rattle.ssz_gindex.specs.Helpers.{is_within}
use Rattle.ssz_chunk.proofs.Digits.{way-join, levels-join, has_levels}
use Rattle.ssz_gindex.proofs.Within.{within_from}

-- the two children
pub child_levels : (a b : ℕ) → 0 < a → b < 2 → levels (a * 2 + b) ≡ levels a + 1
child_levels a b positive small = levels-join a 1 b positive small

pub child_way : (a b : ℕ) → 0 < a → b < 2 → way (a * 2 + b) ≡ way a ++ digits 1 b
child_way a b positive small = way-join a 1 b positive small

-- an index below a is within one of its children
pub child_within : (a g n : ℕ) → 0 < a → levels g ≡ levels a + suc n → g / 2 ^ suc n ≡ a
    → is_within (a * 2 + g / 2 ^ n % 2) g ≡ true
child_within a g n positive e high =
    let more : n + 1 ≡ suc n = omega arith in
    let halved : g / 2 ^ n / 2 ^ 1 ≡ a =
    shr-shr g n 1 ∙ ap (λ k. g / 2 ^ k) more ∙ high in
    within_from (a * 2 + g / 2 ^ n % 2) g n
    (omega (arith, child_levels a (g / 2 ^ n % 2) positive (omega arith))) (omega arith)

pub levels_one : levels 1 ≡ 0
unfolding levels_within
levels_one = refl

-- the root is on the way to each index
pub root_within : (g : ℕ) → 0 < g → is_within 1 g ≡ true
root_within g positive =
    let is = has_levels g positive in
    within_from 1 g (levels g) (omega (arith, levels_one))
    (div-eq_of_lt-le {k = 1} (2 ^ levels g) {m = g}
    (omega (arith, is.low)) (omega (arith, is.high, pow-suc 2 (levels g))))
