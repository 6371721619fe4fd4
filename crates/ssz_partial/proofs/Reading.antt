-- What the known chunks of the tree of a value tell at a path.
use Rattle.std.proofs.Common.{◌≡◌, ℕ, ◌+◌, ◌*◌, ◌^◌, ◌<◌, Bool, true, false, cond, eqb, List, [], ◌∷◌, ◌++◌, Option, Some, None, is_some, Result, Ok, Err, refl, sym, ap, ap₂, ◌∙◌, subst, arith}
use Rattle.std.specs.Prelude.{option_and_then, unwrap_or}
use Rattle.std.specs.List.{AllByRecursion}
use Rattle.std.proofs.lemmas.Bool.{eqb-true}
use Rattle.std.proofs.lemmas.Nat.{pow_pos}
use Rattle.std.proofs.lemmas.Option.{none-some, same_Some}
use Rattle.std.proofs.Math.Nat.{mul-pos}
use Rattle.ssz_chunk.specs.Tree.{Tree, leaf, root}
use Rattle.ssz_chunk.specs.Index.{at, way, digits, at_way}
use Rattle.ssz_chunk.proofs.Digits.{way-join}
use Rattle.ssz_chunk.proofs.Ways.{at-way, at_way-append_some}
use Rattle.ssz_schema.specs.format.Format.{Format}
use Rattle.ssz_schema.specs.declared.path.PathStep.{PathStep}
use Rattle.ssz_schema.specs.Types.{SszType}
use Rattle.ssz_schema.specs.Legal.{IsLegal}
use Rattle.ssz_schema.specs.Paths.{Path, path_type, step_type}
use Rattle.ssz_schema.specs.Indices.{Spot, step_index, step_levels, step_position, step_spot, generalized_index_from, spot_from}
use Rattle.ssz_schema.proofs.PathLemmas.{step-below, and_then_parts}
use Rattle.ssz_value.specs.Values.{SszValue, Fits}
use Rattle.ssz_value.specs.Trees.{tree, number_chunk}
use Rattle.ssz_value.specs.Parts.{part, step_part}
use Rattle.ssz_gindex.proofs.HelperNodes.{some_from}
use Rattle.ssz_places.specs.Spots.{HasPart}
use Rattle.ssz_places.proofs.PathLaws.{step_legal, whole_along, IsWholeIfParted}
use Rattle.ssz_places.proofs.Steps.{StepHolds, step_holds, step_way}
use Rattle.ssz_proof.specs.Calculation.{Known, PairOf, chunk_at}
use Rattle.ssz_proof.specs.Laws.{HasChunk}
use Rattle.ssz_partial.specs.declared.fault.PartialFault.{PartialFault}
use Rattle.ssz_partial.specs.declared.fault.PartialFault.TheVariants.{BadPath, NotThat, Blind, Absent}
use Rattle.ssz_partial.specs.Partial.{FoundPart, found_at, found_from, step_fault, unless_partial}
use Rattle.ssz_partial.proofs.Told.{IsTold, IsMixed, told}

-- the chunk that is known at an index is the root of the tree's node there
pub record IsNodeRoot (pair_of : PairOf) (all : Tree) (g : ℕ) (chunk : List ℕ) : Type 0 where
  pub node : Tree
  pub found : at all g ≡ Some node
  pub root : root pair_of node ≡ chunk

pub known_node : (pair_of : PairOf) (all : Tree) (known : Known) (g : ℕ) (chunk : List ℕ)
    → AllByRecursion (HasChunk pair_of all) known → chunk_at known g ≡ Some chunk
    → IsNodeRoot pair_of all g chunk
known_node pair_of all [] g chunk held e = absurd (none-some chunk e)
known_node pair_of all (entry ∷ known) g chunk held e =
    go (eqb entry.index g) refl (known_node pair_of all known g chunk held.1) e
  where
    go : (here : Bool) → eqb entry.index g ≡ here
        → (chunk_at known g ≡ Some chunk → IsNodeRoot pair_of all g chunk)
        → cond here (Some entry.chunk.0) (chunk_at known g) ≡ Some chunk
        → IsNodeRoot pair_of all g chunk
    go true is rest e =
        let same : entry.index ≡ g = eqb-true entry.index g is in
        record {
          node = held.0.node;
          found = ap (at all) (sym same) ∙ held.0.found;
          root = held.0.root ∙ same_Some entry.chunk.0 chunk e;
        }
    go false is rest e = rest e

-- the tree of the whole has a value of type u at k, or in the leaf there
pub record AtNode (format : Format) (all : Tree) (k : ℕ) (s : Spot) (u : SszType) (w : SszValue)
    : Type 0 where
  pub positive : 0 < k
  pub node : Tree
  pub found : at_way all (way k) ≡ Some node
  pub has : HasPart s u w node
  pub parted : IsWholeIfParted u s
  pub legal : IsLegal format u
  pub fits : Fits u w

-- where a value has parts, its tree is the node
node_is : (format : Format) (all : Tree) (k : ℕ) (s : Spot) (u : SszType) (w : SszValue)
    (here : AtNode format all k s u w) (step : PathStep) (x : SszType)
    → step_type u step ≡ Some x → here.node ≡ tree u w
node_is format all k s u w here step x fits =
    subst (λ f. HasPart f u w here.node) (here.parted step x fits) here.has

next_node : (format : Format) (all : Tree) (k : ℕ) (s : Spot) (u : SszType) (w : SszValue)
    (step : PathStep) (x : SszType) (y : SszValue) → AtNode format all k s u w
    → step_type u step ≡ Some x → step_part u w step ≡ Some y
    → AtNode format all (step_index k u step) (step_spot u step) x y
next_node format all k s u w step x y here fits is =
    let l = step_levels u step in
    let p = step_position u step in
    let on : StepHolds u w step x y = step_holds format u w step x y here.legal here.fits fits is in
    let small : p < 2 ^ l = step-below u step x fits in
    record {
      positive = omega (arith, mul-pos here.positive (pow_pos l));
      node = on.node;
      found = ap (at_way all) (way-join k l p here.positive small)
          ∙ at_way-append_some all here.node (way k) (digits l p) here.found
          ∙ ap (λ n. at_way n (step_way u step)) (node_is format all k s u w here step x fits)
          ∙ on.found;
      has = on.has;
      parted = whole_along u (step ∷ []) s (step_spot u step) x here.parted
          (ap (option_and_then (λ p. path_type p [])) fits)
          (ap (option_and_then (λ p. spot_from (step_spot u step) p [])) fits);
      legal = step_legal format u step x here.legal fits;
      fits = on.fits;
    }

right_way : digits 1 1 ≡ true ∷ []
unfolding digits
right_way = refl

-- what is known beside the content of a list or the value of a union
mixed_known : (pair_of : PairOf) (format : Format) (all : Tree) (known : Known) (k : ℕ) (s : Spot)
    (u : SszType) (w : SszValue) (step : PathStep) (x : SszType)
    → AllByRecursion (HasChunk pair_of all) known → AtNode format all k s u w
    → step_type u step ≡ Some x → (o : Option (List ℕ)) → chunk_at known (2 * k + 1) ≡ o
    → IsMixed o (tree u w)
mixed_known pair_of format all known k s u w step x held here fits None e = tt
mixed_known pair_of format all known k s u w step x held here fits (Some chunk) e =
    λ n content is. (
    let g : ℕ = 2 * k + 1 in
    let there = known_node pair_of all known g chunk held e in
    let index : g ≡ k * 2 ^ 1 + 1 = omega arith in
    let ways : way g ≡ way k ++ digits 1 1 =
    ap way index ∙ way-join k 1 1 here.positive (omega arith) in
    let beside : at_way all (way g) ≡ Some (leaf (number_chunk n)) =
    ap (at_way all) ways ∙ at_way-append_some all here.node (way k) (digits 1 1) here.found
    ∙ ap₂ (λ m ds. at_way m ds) (node_is format all k s u w here step x fits ∙ is) right_way in
    let same : there.node ≡ leaf (number_chunk n) =
    same_Some there.node (leaf (number_chunk n))
    (sym there.found ∙ at-way all g (omega arith) ∙ beside) in
    sym there.root ∙ ap (root pair_of) same)

-- what is found at a path: the part's node, whose chunk is known; where it is refused as absent,
-- there is no part
abbrev pub IsRead : Format → Tree → Known → ℕ → Spot → SszType → SszValue → Path → SszType
    → Result FoundPart PartialFault → Type 0
IsRead format all known k s u w path x (Ok f) =
    (y : SszValue) × (part u w path ≡ Some y) × (generalized_index_from k u path ≡ Some f.index)
    × (spot_from s u path ≡ Some f.spot) × (chunk_at known f.index ≡ Some f.chunk)
IsRead format all known k s u w path x (Err Absent) = part u w path ≡ None
IsRead format all known k s u w path x (Err _) = Unit {0}

at_end : (format : Format) (all : Tree) (known : Known) (k : ℕ) (s : Spot) (u : SszType)
    (w : SszValue) (x : SszType) (o : Option (List ℕ)) → chunk_at known k ≡ o
    → IsRead format all known k s u w [] x (found_at k s o)
at_end format all known k s u w x None e = tt
at_end format all known k s u w x (Some chunk) e = (w, refl, refl, refl, e)

-- a step before a path
before : (format : Format) (all : Tree) (known : Known) (k : ℕ) (s : Spot) (u : SszType)
    (w : SszValue) (step : PathStep) (path : Path) (v x : SszType) (y : SszValue)
    → step_type u step ≡ Some v → step_part u w step ≡ Some y
    → (result : Result FoundPart PartialFault)
    → IsRead format all known (step_index k u step) (step_spot u step) v y path x result
    → IsRead format all known k s u w (step ∷ path) x result
before format all known k s u w step path v x y fits is (Ok f) read = (
  read.0,
  ap (option_and_then (λ p. option_and_then (λ q. part p q path) (step_part u w step))) fits
      ∙ ap (option_and_then (λ q. part v q path)) is ∙ read.1,
  ap (option_and_then (λ p. generalized_index_from (step_index k u step) p path)) fits ∙ read.2,
  ap (option_and_then (λ p. spot_from (step_spot u step) p path)) fits ∙ read.3,
  read.4,
)
before format all known k s u w step path v x y fits is (Err Absent) read =
    ap (option_and_then (λ p. option_and_then (λ q. part p q path) (step_part u w step))) fits
    ∙ ap (option_and_then (λ q. part v q path)) is ∙ read
before format all known k s u w step path v x y fits is (Err BadPath) read = tt
before format all known k s u w step path v x y fits is (Err NotThat) read = tt
before format all known k s u w step path v x y fits is (Err (Blind g)) read = tt

pub reads : (pair_of : PairOf) (format : Format) (all : Tree) (known : Known) (path : Path) (k : ℕ)
    (s : Spot) (u : SszType) (w : SszValue) (x : SszType)
    → AllByRecursion (HasChunk pair_of all) known → AtNode format all k s u w
    → path_type u path ≡ Some x
    → IsRead format all known k s u w path x (found_from known k s u path)
reads pair_of format all known [] k s u w x held here type =
    at_end format all known k s u w x (chunk_at known k) refl
reads pair_of format all known (step ∷ path) k s u w x held here type =
    let first = and_then_parts (λ p. path_type p path) (step_type u step) x type in
    let v : SszType = first.0 in
    let next : unwrap_or (step_type u step) u ≡ v = ap (λ o. unwrap_or o u) first.1 in
    let is = told format u w step known k here.legal here.fits (ap is_some first.1)
    (mixed_known pair_of format all known k s u w step v held here first.1
    (chunk_at known (2 * k + 1)) refl) in
    go v first.1 next (step_fault known k u step) is
    (λ y found. reads pair_of format all known path (step_index k u step) (step_spot u step) v y x
    held (next_node format all k s u w step v y here first.1 found) first.2)
  where
    go : (v : SszType) → step_type u step ≡ Some v → unwrap_or (step_type u step) u ≡ v
        → (fault : Option PartialFault) → IsTold u w step fault
        → ((y : SszValue) → step_part u w step ≡ Some y
        → IsRead format all known (step_index k u step) (step_spot u step) v y path x
        (found_from known (step_index k u step) (step_spot u step) v path))
        → IsRead format all known k s u w (step ∷ path) x
        (unless_partial fault (found_from known (step_index k u step) (step_spot u step)
        (unwrap_or (step_type u step) u) path))
    go v fits next None is rest =
        let there = some_from (step_part u w step) is in
        subst (λ z. IsRead format all known k s u w (step ∷ path) x
        (found_from known (step_index k u step) (step_spot u step) z path)) (sym next)
        (before format all known k s u w step path v x there.0 fits there.1 _
        (rest there.0 there.1))
    go v fits next (Some Absent) is rest =
        ap (option_and_then (λ p. option_and_then (λ q. part p q path) (step_part u w step))) fits
        ∙ ap (option_and_then (λ q. part v q path)) is
    go v fits next (Some BadPath) is rest = tt
    go v fits next (Some NotThat) is rest = tt
    go v fits next (Some (Blind g)) is rest = tt
