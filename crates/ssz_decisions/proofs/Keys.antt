-- Keys of writers and names.
use Rattle.std.proofs.Common.{◌≡◌, ◌≢◌, ℕ, Bool, true, false, List, refl, ap, ◌∙◌}
use Rattle.std.proofs.lemmas.Map.Text.{is_eq-slice_cmp}
use Rattle.std.proofs.lemmas.Cmp.{nat_cmp_total}
use Rattle.std.specs.Cmp.{Equal-is, tied_itself}
use Rattle.std.specs.Ordering.{nat_cmp, eq_by_cmp, ordering_then, is_eq}
use Rattle.std.specs.Cmp.Lexicographic.{slice_cmp}
use Rattle.std.specs.Prelude.{bytes_eq}
use Rattle.ssz_versions.specs.Keys.{key_cmp, key_cmp-exact}

-- of one writer, keys are compared by their names
pub same_writer : (writer : ℕ) (n m : List ℕ)
    → eq_by_cmp key_cmp (writer, n) (writer, m) ≡ bytes_eq n m
same_writer writer n m =
    ap (λ o. is_eq (ordering_then o (slice_cmp nat_cmp n m))) (tied_itself nat_cmp_total writer)
    ∙ is_eq-slice_cmp n m

-- of two writers, no keys are equal
pub other_writer : (w writer : ℕ) (n m : List ℕ) → w ≢ writer
    → eq_by_cmp key_cmp (w, n) (writer, m) ≡ false
other_writer w writer n m apart = by (eq_by_cmp key_cmp (w, n) (writer, m)) refl
  where
    by : (test : Bool) → eq_by_cmp key_cmp (w, n) (writer, m) ≡ test → test ≡ false
    by false e = refl
    by true e = absurd (apart (ap (λ k. k.0)
        (key_cmp-exact (w, n) (writer, m) ((Equal-is _).0 e))))
