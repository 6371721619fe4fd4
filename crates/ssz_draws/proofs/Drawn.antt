-- Numbers that are drawn one after another.
use Rattle.std.proofs.Common.{◌≡◌, ℕ, zero, suc, ◌+◌, [], ◌∷◌, ◌++◌, refl, ap, ◌∙◌, arith}
use Rattle.ssz_machine.specs.Drawing.{next_seed, drawn, seed_after, drawn_bytes}

next : (n : ℕ) → n + 1 ≡ suc n
next n = omega arith

seed_last : (n x : ℕ) → seed_after (suc n) x ≡ next_seed (seed_after n x)
seed_last zero x = refl
seed_last (suc n) x = seed_last n (next_seed x)

-- one draw more at the end
pub seed_more : (n x : ℕ) → seed_after (n + 1) x ≡ next_seed (seed_after n x)
seed_more n x = ap (λ k. seed_after k x) (next n) ∙ seed_last n x

bytes_last : (n x : ℕ)
    → drawn_bytes (suc n) x ≡ drawn_bytes n x ++ drawn 256 (seed_after n x) ∷ []
bytes_last zero x = refl
bytes_last (suc n) x = ap (λ bytes. drawn 256 x ∷ bytes) (bytes_last n (next_seed x))

-- one byte more at the end
pub bytes_more : (n x : ℕ)
    → drawn_bytes (n + 1) x ≡ drawn_bytes n x ++ drawn 256 (seed_after n x) ∷ []
bytes_more n x = ap (λ k. drawn_bytes k x) (next n) ∙ bytes_last n x
