-- A proof in a tree is the one that the machine says.
use Rattle.std.proofs.Common.{◌≡◌, ℕ, ◌<◌, List, [], ◌∷◌, ◌++◌, map, Option, option_map, unwrap_or, refl, sym, ap, ap₂, ◌∙◌}
use Rattle.std.specs.List.{AllByRecursion}
use Rattle.ssz_chunk.specs.Chunk.{zero_chunk}
use Rattle.ssz_chunk.specs.Tree.{Tree, root}
use Rattle.ssz_chunk.specs.Index.{at}
use Rattle.ssz_gindex.specs.Helpers.{helpers}
use Rattle.ssz_proof.specs.declared.entry.Entry.{Entry}
use Rattle.ssz_proof.specs.Calculation.{Known, PairOf, indices_of}
use Rattle.ssz_proof.specs.Laws.{HasChunk}
use Rattle.ssz_proof.specs.Multiproof.{Multiproof}
use Rattle.ssz_proof.proofs.Descending.{ascends}
use Rattle.ssz_prove.specs.Proved.{IsProofIn}
use Rattle.ssz_machine.specs.Asking.{entry_at, proof_of, ascending}
use Rattle.ssz_machine.proofs.Ascents.{all-at}
use Rattle.ssz_decisions.proofs.AscendingOnce.{all-there, ascending-once}

abbrev entry_of : ℕ → List ℕ → Entry
entry_of index bytes = record { index = index; chunk = record { 0 = bytes } }

abbrev lists_of : Known → Known → Multiproof
lists_of leaves nodes = record { leaves = leaves; nodes = nodes }

module _ (pair_of : PairOf) (t : Tree) where
  -- an entry with the tree's chunk
  entry-there : (entry : Entry) → HasChunk pair_of t entry → entry ≡ entry_at pair_of t entry.index
  entry-there entry has =
      let chunk : entry.chunk.0
      ≡ unwrap_or (option_map (root pair_of) (at t entry.index)) zero_chunk =
      sym (ap (λ (o : Option Tree). unwrap_or (option_map (root pair_of) o) zero_chunk) has.found
      ∙ has.root) in
      ap (entry_of entry.index) chunk

  entries-there : (known : Known) → AllByRecursion (HasChunk pair_of t) known
      → known ≡ map (entry_at pair_of t) (indices_of known)
  entries-there [] all = refl
  entries-there (entry ∷ known) all =
      ap₂ (λ e es. e ∷ es) (entry-there entry all.0) (entries-there known all.1)

pub all-parts : {A : Type 0} (P : A → Type 0) (xs ys : List A) → AllByRecursion P (xs ++ ys)
    → AllByRecursion P xs × AllByRecursion P ys
all-parts P [] ys all = (tt, all)
all-parts P (x ∷ xs) ys all =
    let rest = all-parts P xs ys all.1 in ((all.0, rest.0), rest.1)

-- leaves at exactly these indices, and nodes at their helper indices
pub proof-made : (pair_of : PairOf) (t : Tree) (asked : List ℕ) (proof : Multiproof)
    → IsProofIn pair_of t asked proof → proof ≡ proof_of pair_of t (ascending asked)
proof-made pair_of t asked proof is =
    let chunks = all-parts (HasChunk pair_of t) proof.leaves proof.nodes is.chunks in
    let positive : AllByRecursion (λ g. 0 < g) asked =
    all-there (λ g. 0 < g) asked (λ g has. all-at (λ k. 0 < k) (indices_of proof.leaves) g
    is.ordered.is.positive (is.leaves.back g has)) in
    let leaves : indices_of proof.leaves ≡ ascending asked =
    ascending-once (indices_of proof.leaves) asked
    (ascends proof.leaves proof.nodes is.ordered) positive is.leaves in
    let nodes : indices_of proof.nodes ≡ helpers (ascending asked) =
    is.ordered.is.complete ∙ ap helpers leaves in
    ap₂ lists_of
    (entries-there pair_of t proof.leaves chunks.0 ∙ ap (map (entry_at pair_of t)) leaves)
    (entries-there pair_of t proof.nodes chunks.1 ∙ ap (map (entry_at pair_of t)) nodes)
