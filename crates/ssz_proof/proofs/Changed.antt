-- Entries with another chunk keep their indices.
use Rattle.std.proofs.Common.{◌≡◌, ◌≢◌, ◌<◌, ◌^◌, ℕ, Bool, true, false, cond, eqb, List, [], ◌∷◌, ◌++◌, refl, sym, ap, ap₂, ◌∙◌, subst}
use Rattle.std.specs.Prelude.{nat_eq}
use Rattle.ssz_gindex.specs.Helpers.{helpers, AreFlat}
use Rattle.std.specs.List.{IsDistinct, AllByRecursion}
use Rattle.ssz_chunk.specs.declared.Chunk.{Chunk}
use Rattle.ssz_proof.specs.declared.entry.Entry.{Entry}
use Rattle.ssz_proof.specs.Calculation.{Known, indices_of}
use Rattle.ssz_proof.specs.Multiproof.{Multiproof, IsMultiproof, IsOrdered, AscendFrom}
use Rattle.ssz_proof.specs.Changes.{with_chunk, proof_with}

one_index : (entry : Entry) (chunk : Chunk) (here : Bool)
    → (cond here (record entry { chunk = chunk }) entry).index ≡ entry.index
one_index entry chunk true = refl
one_index entry chunk false = refl

pub indices-with : (known : Known) (index : ℕ) (chunk : Chunk)
    → indices_of (with_chunk known index chunk) ≡ indices_of known
indices-with [] index chunk = refl
indices-with (entry ∷ known) index chunk =
    ap₂ (λ n ns. n ∷ ns) (one_index entry chunk (eqb entry.index index))
    (indices-with known index chunk)

some-with : (known : Known) (index : ℕ) (chunk : Chunk) → known ≢ []
    → with_chunk known index chunk ≢ []
some-with [] index chunk some e = some refl
some-with (entry ∷ known) index chunk some e = cc

pub multiproof-with : (proof : Multiproof) (index : ℕ) (chunk : Chunk) → IsMultiproof proof
    → IsMultiproof (proof_with proof index chunk)
multiproof-with proof index chunk is =
    let leaves = indices-with proof.leaves index chunk in
    record {
      some = some-with proof.leaves index chunk is.some;
      positive = subst (AllByRecursion (λ i. 0 < i)) (sym leaves) is.positive;
      distinct = subst (IsDistinct nat_eq) (sym leaves) is.distinct;
      flat = subst AreFlat (sym leaves) is.flat;
      complete = indices-with proof.nodes index chunk ∙ is.complete ∙ ap helpers (sym leaves);
    }

pub ordered-with : (proof : Multiproof) (index : ℕ) (chunk : Chunk) → IsOrdered proof
    → IsOrdered (proof_with proof index chunk)
ordered-with proof index chunk ordered =
    let leaves = indices-with proof.leaves index chunk in
    record {
      is = multiproof-with proof index chunk ordered.is;
      ascends = subst (AscendFrom 0) (sym leaves) ordered.ascends;
      fits = subst (AllByRecursion (λ i. i < 2 ^ 128)) (sym leaves) ordered.fits;
    }

pub with_chunk-append : (xs ys : List Entry) (index : ℕ) (chunk : Chunk)
    → with_chunk (xs ++ ys) index chunk ≡ with_chunk xs index chunk ++ with_chunk ys index chunk
with_chunk-append [] ys index chunk = refl
with_chunk-append (x ∷ xs) ys index chunk =
    ap (λ rest. cond (eqb x.index index) (record x { chunk = chunk }) x ∷ rest)
    (with_chunk-append xs ys index chunk)
