-- Roots as what a value's tree is made into.
use Rattle.std.proofs.Common.{◌≡◌, ℕ, Bool, ◌+◌, ◌-◌, ◌/◌, ◌≤◌, List, [], ◌∷◌, ◌++◌, length, map, take, refl, sym, ap, subst, ◌∙◌, arith, zero-add}
use Rattle.std.specs.List.{sum_by}
use Rattle.std.proofs.lemmas.List.{map-append, length-map, length-take-le}
use Rattle.std.proofs.lemmas.List.Sums.{sum_by-append}
use Rattle.std.proofs.lemmas.Simd.{map-map}
use Rattle.ssz_chunk.specs.Chunk.{CountsUp}
use Rattle.ssz_chunk.specs.Tree.{Tree, root, merkle_tree, merkle_pairs}
use Rattle.ssz_schema.specs.Types.{SszType}
use Rattle.ssz_value.specs.Values.{SszValue}
use Rattle.ssz_value.specs.Trees.{tree, chunks, pack, pack_bits}
use Rattle.ssz_value.specs.Pairs.{pairs}
use Rattle.ssz_merkle.specs.Frontier.{Frontier, FrontierHolds, leaves, whole_pairs}
use Rattle.ssz_merkle.proofs.Gathering.{Gathered, Gathered-start, Gathered-more, Gathered-root, Gathered-counts}
use Rattle.ssz_packing.proofs.Chunks.{length-chunks}
use Rattle.ssz_parts.specs.PartValues.{element_values}
use Rattle.ssz_parts.proofs.ElementValues.{length-element_values}
use Rattle.ssz_making.specs.Parts.{MadePart, part_trees, costs, whole_of, part_of_value, chunk_part}
use Rattle.ssz_making.proofs.Forms.{whole-chunks, costs-values}
use Rattle.ssz_making.proofs.ValueForms.{bits-part}
use Rattle.ssz_roots.specs.Rooting.{Roots, PushesRoots}

-- an accumulator's own record of it
gathered : (p : List ℕ → List ℕ → List ℕ) (start now d : ℕ) (parts : List MadePart)
    (rows : Frontier) → PushesRoots p start now d parts rows
    → Gathered p d rows (part_trees parts) (costs parts) start now
gathered p start now d parts rows h = record {
  deep = h.deep;
  holds = h.holds;
  counted = subst (λ n. CountsUp (whole_pairs d n + costs parts) start now)
      (sym (length-map parts (λ (part : MadePart). part.tree))) h.counts;
}

pushes : (p : List ℕ → List ℕ → List ℕ) (start now d : ℕ) (parts : List MadePart) (rows : Frontier)
    (trees : List Tree) (cost : ℕ) → trees ≡ part_trees parts → cost ≡ costs parts
    → Gathered p d rows trees cost start now → PushesRoots p start now d parts rows
pushes p start now d parts rows trees cost same sum h = record {
  deep = h.deep;
  holds = subst (λ ts. FrontierHolds p (map (root p) ts) rows) same h.holds;
  counts = subst (λ n. CountsUp (whole_pairs d n + costs parts) start now)
      (ap length same ∙ length-map parts (λ (part : MadePart). part.tree))
      (subst (λ c. CountsUp (whole_pairs d (length trees) + c) start now) sum h.counted);
}

pub pushes_none : (p : List ℕ → List ℕ → List ℕ) (now d : ℕ) (rows : Frontier) → rows.depth ≡ d
    → FrontierHolds p [] rows → PushesRoots p now now d [] rows
pushes_none p now d rows deep held =
    pushes p now now d [] rows [] 0 refl refl (Gathered-start p d rows now deep held)

pub pushes_more : (p : List ℕ → List ℕ → List ℕ) (start now middle end d : ℕ)
    (parts : List MadePart) (one : MadePart) (old new : Frontier) (out : List ℕ)
    → PushesRoots p start now d parts old → Roots p now middle one out → new.depth ≡ old.depth
    → ((cs : List (List ℕ)) → FrontierHolds p cs old → FrontierHolds p (cs ++ out ∷ []) new)
    → CountsUp (whole_pairs old.depth (old.pushed + 1) - whole_pairs old.depth old.pushed)
    middle end
    → PushesRoots p start end d (parts ++ one ∷ []) new
pushes_more p start now middle end d parts one old new out h is stays held counts =
    pushes p start end d (parts ++ one ∷ []) new (part_trees parts ++ one.tree ∷ [])
    (costs parts + one.cost)
    (sym (map-append (λ (part : MadePart). part.tree) parts (one ∷ [])))
    (sym (sum_by-append (λ (part : MadePart). part.cost) parts (one ∷ [])
    ∙ ap (λ n. costs parts + n) (zero-add one.cost)))
    (Gathered-more p d old new (part_trees parts) (costs parts) start now one.tree one.cost
    middle end out (gathered p start now d parts old h) is.root is.counts stays held counts)

pub roots_done : (p : List ℕ → List ℕ → List ℕ) (start now end d : ℕ) (parts : List MadePart)
    (rows : Frontier) (out : List ℕ) → PushesRoots p start now d parts rows
    → ((cs : List (List ℕ)) → FrontierHolds p cs rows
    → out ≡ root p (merkle_tree rows.depth (leaves cs)))
    → CountsUp (merkle_pairs rows.depth rows.pushed - whole_pairs rows.depth rows.pushed) now end
    → Roots p start end (whole_of d parts) out
roots_done p start now end d parts rows out h is counts =
    let all = gathered p start now d parts rows h in
    record {
      root = Gathered-root p d rows (part_trees parts) (costs parts) start now out all is;
      counts = subst (λ n. CountsUp (merkle_pairs d n + costs parts) start end)
          (length-map parts (λ (part : MadePart). part.tree))
          (Gathered-counts p d rows (part_trees parts) (costs parts) start now end all counts);
    }

-- chunks side by side
pub roots_chunks : (p : List ℕ → List ℕ → List ℕ) (start now d count : ℕ) (b out : List ℕ)
    → out ≡ root p (merkle_tree d (leaves (chunks count b)))
    → CountsUp (merkle_pairs d count) start now
    → Roots p start now (whole_of d (map chunk_part (chunks count b))) out
roots_chunks p start now d count b out is counts =
    subst (λ part. Roots p start now part out) (sym (whole-chunks d (chunks count b)))
    (record {
      root = is;
      counts = subst (λ n. CountsUp (merkle_pairs d n) start now)
          (sym (length-chunks count b)) counts;
    })

pub roots_values : (p : List ℕ → List ℕ → List ℕ) (start now d size : ℕ) (b out : List ℕ)
    → length b ≡ size → out ≡ root p (merkle_tree d (leaves (pack b)))
    → CountsUp (merkle_pairs d ((size + 31) / 32)) start now
    → Roots p start now (whole_of d (map chunk_part (pack b))) out
roots_values p start now d size b out long is counts =
    roots_chunks p start now d ((length b + 31) / 32) b out is
    (subst (λ n. CountsUp (merkle_pairs d ((n + 31) / 32)) start now) (sym long) counts)

pub roots_bits : (p : List ℕ → List ℕ → List ℕ) (start now d : ℕ) (bs : List Bool)
    (out : List ℕ) → out ≡ root p (merkle_tree d (leaves (pack_bits bs)))
    → CountsUp (merkle_pairs d ((length bs + 255) / 256)) start now
    → Roots p start now (whole_of d (map chunk_part (pack_bits bs))) out
roots_bits p start now d bs out is counts =
    subst (λ part. Roots p start now part out) (sym (bits-part d bs))
    (record { root = is; counts = counts })

-- elements that were made ahead
pub pushes_elements : (p : List ℕ → List ℕ → List ℕ) (start now d e n count : ℕ) (t : SszType)
    (b : List ℕ) (rows : Frontier) → rows.depth ≡ e → e ≡ d → n ≤ count
    → FrontierHolds p (map (root p) (map (tree t) (take n (element_values t count b)))) rows
    → CountsUp (whole_pairs e n + sum_by (pairs t) (take n (element_values t count b))) start now
    → PushesRoots p start now d (map (part_of_value t) (take n (element_values t count b))) rows
pushes_elements p start now d e n count t b rows stays deep within held paid =
    let vs : List SszValue = take n (element_values t count b) in
    let long : length (take n (element_values t count b)) ≡ n =
    length-take-le n (element_values t count b)
    (omega (arith, length-element_values t count b)) in
    let counts : CountsUp (whole_pairs d n + sum_by (pairs t) vs) start now =
    subst (λ k. CountsUp (whole_pairs k n + sum_by (pairs t) vs) start now) deep paid in
    record {
      deep = stays ∙ deep;
      holds = subst (λ ts. FrontierHolds p (map (root p) ts) rows)
          (sym (map-map (λ (part : MadePart). part.tree) (part_of_value t) vs)) held;
      counts = subst (λ k. CountsUp (whole_pairs d k + costs (map (part_of_value t) vs)) start now)
          (sym (length-map vs (part_of_value t) ∙ long))
          (subst (λ c. CountsUp (whole_pairs d n + c) start now) (sym (costs-values t vs)) counts);
    }
