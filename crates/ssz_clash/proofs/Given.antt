-- The comparison of lists is that of the proofs that are made of them: the order of leaves does not
-- matter.
use Rattle.std.proofs.Common.{◌≡◌, ℕ, zero, suc, ◌+◌, ◌*◌, Bool, not, eqb, ◌&&◌, ◌||◌, List, refl, sym, ap, ap₂, ◌∙◌, Option, Some, None}
use Rattle.std.specs.Prelude.{bytes_eq, sum_by}
use Rattle.std.specs.List.{list_any}
use Rattle.std.specs.List.Sorted.{IsPermutation}
use Rattle.std.proofs.Math.Path.{fun_ext}
use Rattle.std.proofs.lemmas.List.Sorted.{IsPermutation-map, list_any-IsPermutation}
use Rattle.ssz_chunk.specs.Index.{levels}
use Rattle.ssz_gindex.specs.Helpers.{is_within}
use Rattle.ssz_proof.specs.declared.entry.Entry.{Entry}
use Rattle.ssz_proof.specs.Calculation.{PairOf, indices_of}
use Rattle.ssz_proof.specs.Multiproof.{Multiproof, IsProofOf}
use Rattle.ssz_proof.proofs.Judged.{calculated-given, levels-given}
use Rattle.ssz_clash.specs.Clashes.{pair_at}
use Rattle.ssz_clash.specs.Compared.{chunks_from, clash_below_root, clashes_at, compared, differ_at, first_clash, lacks_one, leaves_differ, places_differ, clash_shown}
use Rattle.ssz_clash.specs.declared.finding.Clash.TheVariants.{Unlike}

any-same : (p q : ℕ → Bool) (xs ys : List ℕ) → ((g : ℕ) → p g ≡ q g) → IsPermutation xs ys
    → list_any p xs ≡ list_any q ys
any-same p q xs ys same permuted =
    ap (λ (r : ℕ → Bool). list_any r xs) (fun_ext same) ∙ list_any-IsPermutation q xs ys permuted

indices-given : (lists proof : Multiproof) → IsProofOf lists proof
    → IsPermutation (indices_of lists.leaves) (indices_of proof.leaves)
indices-given lists proof is =
    IsPermutation-map (λ (entry : Entry). entry.index) lists.leaves proof.leaves is.leaves

lacks-given : (lists proof others other : Multiproof) → IsProofOf lists proof
    → IsProofOf others other
    → lacks_one (indices_of others.leaves) (indices_of lists.leaves)
    ≡ lacks_one (indices_of other.leaves) (indices_of proof.leaves)
lacks-given lists proof others other is also =
    any-same _ _ (indices_of lists.leaves) (indices_of proof.leaves)
    (λ g. ap not (list_any-IsPermutation (λ k. eqb k g) (indices_of others.leaves)
    (indices_of other.leaves) (indices-given others other also)))
    (indices-given lists proof is)

module _ (pair_of : PairOf) (lists proof others other : Multiproof) (is : IsProofOf lists proof)
    (also : IsProofOf others other) where
  places-given : places_differ lists others ≡ places_differ proof other
  places-given =
      ap₂ (λ a b. a || b) (lacks-given lists proof others other is also)
      (lacks-given others other lists proof also is)

  differ-given : (g : ℕ) → differ_at pair_of lists others g ≡ differ_at pair_of proof other g
  differ-given g = ap₂ (λ (a b : List ℕ). not (bytes_eq a b))
      (calculated-given pair_of lists proof is g) (calculated-given pair_of others other also g)

  leaves-given : leaves_differ pair_of lists others ≡ leaves_differ pair_of proof other
  leaves-given =
      any-same _ _ (indices_of lists.leaves) (indices_of proof.leaves) differ-given
      (indices-given lists proof is)

  clashes-given : (g : ℕ) → clashes_at pair_of lists others g ≡ clashes_at pair_of proof other g
  clashes-given g = rw (
    differ-given g,
    differ-given (2 * g),
    differ-given (2 * g + 1),
    list_any-IsPermutation (λ leaf. is_within g leaf && not (eqb g leaf))
        (indices_of lists.leaves) (indices_of proof.leaves) (indices-given lists proof is),
  ) refl

  search-given : (down g : ℕ)
      → first_clash pair_of lists others down g ≡ first_clash pair_of proof other down g
  unfolding first_clash
  search-given zero g = refl
  search-given (suc down) g = rw (
    clashes-given g,
    search-given down (2 * g),
    search-given down (2 * g + 1),
  ) refl

  clash-given : clash_below_root pair_of lists others ≡ clash_below_root pair_of proof other
  clash-given =
      search-given (sum_by levels (indices_of lists.leaves)) 1
      ∙ ap (λ (down : ℕ). first_clash pair_of proof other down 1)
      (sym (levels-given lists proof is))

  pair-given : (one made : Multiproof) → IsProofOf one made → (g : ℕ)
      → pair_at pair_of one g ≡ pair_at pair_of made g
  pair-given one made given g = ap₂ (λ (a b : List ℕ). (a, b))
      (calculated-given pair_of one made given (2 * g))
      (calculated-given pair_of one made given (2 * g + 1))

  shown-given : (found : Option ℕ)
      → clash_shown pair_of lists others found ≡ clash_shown pair_of proof other found
  shown-given None = refl
  shown-given (Some g) = ap₂ (λ (a b : List ℕ × List ℕ). Unlike g (chunks_from a) (chunks_from b))
      (pair-given lists proof is g) (pair-given others other also g)

  pub compared-given : compared pair_of lists others ≡ compared pair_of proof other
  compared-given = rw (
    places-given,
    differ-given 1,
    leaves-given,
    clash-given,
    shown-given (clash_below_root pair_of proof other),
    calculated-given pair_of lists proof is 1,
    calculated-given pair_of others other also 1,
  ) refl
