-- What two proofs come to is told by the comparison.
use Rattle.std.proofs.Common.{◌≡◌, ℕ, ◌||◌, Bool, true, false, not, List, refl, sym, ap, ap₂, ◌∙◌, Some, is_some, Result, Ok, Err, inl, inr}
use Rattle.std.proofs.lemmas.Bool.{cases_Bool, false≢true, not-true}
use Rattle.ssz_chunk.specs.declared.Chunk.{Chunk}
use Rattle.ssz_gindex.specs.Laws.{contains}
use Rattle.ssz_proof.specs.Calculation.{Known, PairOf, calculate_root, chunk_at, indices_of}
use Rattle.ssz_proof.specs.Multiproof.{Multiproof, known_of, IsOrdered}
use Rattle.ssz_proof.proofs.KnownChunks.{any_from, any_known, some_or_none}
use Rattle.ssz_clash.specs.Clashes.{AreOtherRoots, ProofsAgree, AreUnlike, ProofsComeTo, SameLeaves, SamePlaces}
use Rattle.ssz_clash.specs.Compared.{compared, differ_at, lacks_one, leaves_differ, places_differ, chunks_from}
use Rattle.ssz_clash.specs.declared.finding.Clash.{Clash}
use Rattle.ssz_clash.specs.declared.finding.Clash.TheVariants.{Same, Unlike}
use Rattle.ssz_clash.specs.declared.fault.ClashFault.{ClashFault}
use Rattle.ssz_clash.specs.declared.fault.ClashFault.TheVariants.{OtherIndices, OtherRoot}
use Rattle.ssz_clash.proofs.Alike.{leaf-is}
use Rattle.ssz_clash.proofs.FirstClash.{same-chunk}
use Rattle.ssz_clash.proofs.Leaves.{some-known}
use Rattle.ssz_clash.proofs.Searching.{differ-is, finds-first, is-same, same-is}
use Rattle.ssz_clash.proofs.Walking.{none-from}

-- ---- places

lacks-none : (xs ys : Known) → SamePlaces xs ys → lacks_one (indices_of ys) (indices_of xs) ≡ false
lacks-none xs ys same =
    elim (cases_Bool (lacks_one (indices_of ys) (indices_of xs))) [
      | inl some ↦
          (let one = any_known (λ g. not (contains (indices_of ys) g)) xs some in
          absurd (false≢true (sym (not-true _ one.1) ∙ sym (some-known ys one.0)
          ∙ sym (same one.0) ∙ one.2)))
      | inr none ↦ none
    ]

none-lacks : (xs ys : Known) → lacks_one (indices_of ys) (indices_of xs) ≡ false → (g : ℕ)
    → is_some (chunk_at xs g) ≡ true → is_some (chunk_at ys g) ≡ true
none-lacks xs ys none g there = elim (cases_Bool (is_some (chunk_at ys g))) [
  | inl known ↦ known
  | inr gone ↦ absurd (false≢true (sym none
      ∙ any_from (λ k. not (contains (indices_of ys) k)) xs g there
      (ap not (sym (some-known ys g) ∙ gone))))
]

flipped : (xs ys : Known) → SamePlaces xs ys → SamePlaces ys xs
flipped xs ys same g = sym (same g)

places-agree : (one other : Multiproof) → SamePlaces one.leaves other.leaves
    → places_differ one other ≡ false
places-agree one other same = rw (
  lacks-none one.leaves other.leaves same,
  lacks-none other.leaves one.leaves (flipped one.leaves other.leaves same),
) refl

agree-places : (one other : Multiproof) → places_differ one other ≡ false
    → SamePlaces one.leaves other.leaves
agree-places one other none g =
    elim (cases_Bool (is_some (chunk_at one.leaves g))) [
      | inl mine ↦ mine ∙ sym (none-lacks one.leaves other.leaves (left _ _ none) g mine)
      | inr gone ↦ elim (cases_Bool (is_some (chunk_at other.leaves g))) [
        | inl theirs ↦ absurd (false≢true (sym gone
            ∙ none-lacks other.leaves one.leaves (right _ _ none) g theirs))
        | inr also ↦ gone ∙ sym also
      ]
    ]
  where
    left : (a b : Bool) → (a || b) ≡ false → a ≡ false
    left true b e = absurd (false≢true (sym e))
    left false b e = refl

    right : (a b : Bool) → (a || b) ≡ false → b ≡ false
    right true b e = absurd (false≢true (sym e))
    right false b e = e

places-apart : (one other : Multiproof) → (SamePlaces one.leaves other.leaves → ⊥)
    → places_differ one other ≡ true
places-apart one other apart = elim (cases_Bool (places_differ one other)) [
  | inl differ ↦ differ
  | inr agree ↦ absurd (apart (agree-places one other agree))
]

-- ---- leaves

module _ (pair_of : PairOf) (one other : Multiproof) (ordered : IsOrdered one)
    (also : IsOrdered other) where
  leaves-agree : SameLeaves one.leaves other.leaves → leaves_differ pair_of one other ≡ false
  leaves-agree same = elim (cases_Bool (leaves_differ pair_of one other)) [
    | inl some ↦
        (let at = any_known (differ_at pair_of one other) one.leaves some in
        elim (some_or_none (chunk_at one.leaves at.0)) [
          | inl chunk ↦ absurd (false≢true (sym (is-same pair_of one other at.0
              (sym (leaf-is pair_of one ordered at.0 chunk.0 chunk.1)
              ∙ leaf-is pair_of other also at.0 chunk.0 (sym (same at.0) ∙ chunk.1))) ∙ at.1))
          | inr gone ↦ absurd (false≢true (sym (ap is_some gone) ∙ at.2))
        ])
    | inr none ↦ none
  ]

  agree-leaves : SamePlaces one.leaves other.leaves → leaves_differ pair_of one other ≡ false
      → SameLeaves one.leaves other.leaves
  agree-leaves places none g = elim (some_or_none (chunk_at one.leaves g)) [
    | inl mine ↦ elim (some_or_none (chunk_at other.leaves g)) [
      | inl theirs ↦
          (let same : calculate_root pair_of (known_of one) g
          ≡ calculate_root pair_of (known_of other) g =
          same-is pair_of one other g (agrees g (ap is_some mine.1)) in
          mine.1
          ∙ ap (λ (c : List ℕ). Some c)
          (leaf-is pair_of one ordered g mine.0 mine.1 ∙ same
          ∙ sym (leaf-is pair_of other also g theirs.0 theirs.1))
          ∙ sym theirs.1)
      | inr gone ↦ absurd (false≢true
          (sym (ap is_some gone) ∙ sym (places g) ∙ ap is_some mine.1))
    ]
    | inr gone ↦
        gone ∙ sym (none-from (chunk_at other.leaves g) (sym (places g) ∙ ap is_some gone))
  ]
    where
      agrees : (g : ℕ) → is_some (chunk_at one.leaves g) ≡ true
          → differ_at pair_of one other g ≡ false
      agrees g there = elim (cases_Bool (differ_at pair_of one other g)) [
        | inl differ ↦ absurd (false≢true
            (sym none ∙ any_from (differ_at pair_of one other) one.leaves g there differ))
        | inr agree ↦ agree
      ]

  leaves-apart : SamePlaces one.leaves other.leaves
      → (SameLeaves one.leaves other.leaves → ⊥) → leaves_differ pair_of one other ≡ true
  leaves-apart places apart = elim (cases_Bool (leaves_differ pair_of one other)) [
    | inl differ ↦ differ
    | inr agree ↦ absurd (apart (agree-leaves places agree))
  ]

  -- ---- what they come to

  other-roots : (a b : Chunk) → AreOtherRoots pair_of one other a b
      → compared pair_of one other ≡ Err (OtherRoot a b)
  other-roots a b are = rw (
    places-agree one other are.places,
    differ-is pair_of one other 1 (λ same. are.unlike
        (same-chunk a b (are.root_of_one ∙ same ∙ sym are.root_of_other))),
    sym are.root_of_one,
    sym are.root_of_other,
  ) refl

  same-ones : ProofsAgree pair_of one other → compared pair_of one other ≡ Ok Same
  same-ones are = rw (
    places-agree one other (λ g. ap is_some (are.leaves g)),
    is-same pair_of one other 1 are.root,
    leaves-agree are.leaves,
  ) refl

  unlike-ones : (g : ℕ) (a b : Chunk × Chunk) → AreUnlike pair_of one other g a b
      → compared pair_of one other ≡ Ok (Unlike g a b)
  unlike-ones g a b are = rw (
    places-agree one other are.places,
    is-same pair_of one other 1 are.root,
    leaves-apart are.places are.leaves,
    finds-first pair_of one other g are.shown.place,
  ) (ap₂ (λ (x y : Chunk × Chunk). Ok (Unlike g x y))
      (ap chunks_from (sym are.shown.pair_of_one))
      (ap chunks_from (sym are.shown.pair_of_other)))

  pub comes-compared : (result : Result Clash ClashFault) → ProofsComeTo pair_of one other result
      → compared pair_of one other ≡ result
  comes-compared (Err OtherIndices) comes = rw (places-apart one other comes) refl
  comes-compared (Err (OtherRoot a b)) comes = other-roots a b comes
  comes-compared (Ok Same) comes = same-ones comes
  comes-compared (Ok (Unlike g a b)) comes = unlike-ones g a b comes
