-- The line of an accepted `prove` leads to the root of its version.
use Rattle.std.proofs.Common.{ℕ, zero, suc, ◌+◌, ◌-◌, ◌/◌, ◌%◌, ◌^◌, ◌<◌, ◌≤◌, ◌≡◌, ◌≢◌, ◌==◌, Bool, true, false, cond, not, List, [], ◌∷◌, ◌++◌, map, filter, Option, Some, None, is_some, unwrap_or, option_map, refl, sym, ap, ◌∙◌, subst, arith, inl, inr}
use Rattle.std.proofs.Math.Nat.{mul-le-mul_left}
use Rattle.std.specs.Prelude.{Ok, Err, IfOk, is_none, nat_eq, IsSome}
use Rattle.std.specs.List.{AllByRecursion, IsDistinct, list_any}
use Rattle.std.specs.Option.{option_and_then}
use Rattle.std.proofs.lemmas.Bool.{or_cases, or_parts, false≢true, cases_eq}
use Rattle.std.proofs.lemmas.Nat.{shr_le, pow_pos}
use Rattle.std.proofs.lemmas.Option.{same_Some}
use Rattle.ssz_chunk.specs.Chunk.{IsChunk, zero_chunk}
use Rattle.ssz_chunk.specs.Tree.{Tree, root}
use Rattle.ssz_chunk.specs.Index.{at}
use Rattle.ssz_gindex.specs.Helpers.{sibling, is_within, is_on_paths, is_helper, descending, greatest, helpers, AreFlat}
use Rattle.ssz_gindex.specs.Laws.{IsIn}
use Rattle.ssz_gindex.proofs.Within.{below_from}
use Rattle.ssz_gindex.proofs.Walking.{helper_is}
use Rattle.ssz_gindex.proofs.HelperNodes.{law_of_helper_nodes}
use Rattle.ssz_gindex.proofs.PathWalk.{IsAlong, along-start, along-step, legal_levels}
use Rattle.ssz_line.specs.declared.index.Index.{Index}
use Rattle.ssz_line.specs.declared.index.Index.TheVariants.{Number, Path as ByPath}
use Rattle.ssz_proof.specs.declared.entry.Entry.{Entry}
use Rattle.ssz_proof.specs.Calculation.{PairOf, indices_of}
use Rattle.ssz_proof.specs.Judgement.{are_flat}
use Rattle.ssz_proof.specs.Laws.{HasChunk, IsProofEntry}
use Rattle.ssz_proof.specs.Multiproof.{IsOrdered, known_of, AscendFrom}
use Rattle.ssz_proof.specs.Text.{multiproof_text}
use Rattle.ssz_proof.proofs.Calculating.{law_of_proofs}
use Rattle.ssz_proof.proofs.TextLaws.{law_of_texts}
use Rattle.ssz_proof.proofs.EntryTexts.{all-weaker}
use Rattle.ssz_proof.proofs.Judged.{multiproof_of-read, calculated-given}
use Rattle.ssz_proof.proofs.Judging.{flat-from}
use Rattle.ssz_gindex.proofs.HelperNodes.{some_from}
use Rattle.ssz_schema.specs.Types.{SszType}
use Rattle.ssz_schema.specs.Sizes.{type_levels}
use Rattle.ssz_schema.specs.Paths.{Path, step_type}
use Rattle.ssz_schema.specs.Indices.{generalized_index, generalized_index_from, step_index}
use Rattle.ssz_script.specs.declared.reply.Reply.TheVariants.{Proof}
use Rattle.ssz_script.specs.declared.reply.TheConstants.Reply.{BAD_PATH, NO_NODE, NESTED}
use Rattle.ssz_value.specs.Trees.{tree, hash_tree_root}
use Rattle.ssz_machine.specs.State.{Version, Versions}
use Rattle.ssz_machine.specs.Rules.{Rules, Outcome, ◌>>=◌, ◌>>◌, need, refuse, says_reply, Row, Effect}
use Rattle.ssz_machine.specs.Asking.{entry_at, proof_of, asked_index, asked_indices, ascending}
use Rattle.ssz_machine.specs.Proofs.{MakesChunks, IsIndex, ProofLeadsTo, PrintedProofsLead}
use Rattle.ssz_machine.proofs.Ascents.{all-ascending, ascends, some-ascending, ascending-has, ascends-distinct}
use Rattle.ssz_machine.proofs.TreeChunks.{HoldsChunks, root_chunk, at_holds, tree_holds}

-- all that is known of the indices of a proof
record AreAsked (t : Tree) (asked : List ℕ) : Type 0 where
  some : asked ≢ []
  inside : AllByRecursion (IsIn t) asked
  fits : AllByRecursion (λ g. g < 2 ^ 128) asked
  flat : are_flat asked ≡ true

-- an index that is in a tree
in_tree : (t : Tree) (g : ℕ) → is_none (at t g) ≡ false → IsIn t g
in_tree t zero inside = cc
in_tree t (suc n) inside = record { some = λ zero_is. cc; node = some (at t (suc n)) inside }
  where
    some : (o : Option Tree) → is_none o ≡ false → IsSome o
    some None there = cc
    some (Some x) there = refl

all_in_tree : (t : Tree) (asked : List ℕ) → list_any (λ g. is_none (at t g)) asked ≡ false
    → AllByRecursion (IsIn t) asked
all_in_tree t [] none = tt
all_in_tree t (g ∷ asked) none =
    let parts = or_parts (is_none (at t g)) (list_any (λ g. is_none (at t g)) asked) none in
    (in_tree t g parts.0, all_in_tree t asked parts.1)

-- an index on the paths is not above the greatest
not_above : (indices : List ℕ) (g most : ℕ) → AllByRecursion (λ i. i < most) indices
    → is_on_paths indices g ≡ true → g < most
not_above [] g most all on = absurd (false≢true on)
not_above (i ∷ indices) g most all on =
    elim (or_cases (is_within g i) (is_on_paths indices g) on) [
      | inl here ↦ (let is = below_from g i here in
          let small : i / 2 ^ is.n ≤ i = shr_le i is.n in
          omega (arith, is.high, all.0))
      | inr later ↦ not_above indices g most all.1 later
    ]

-- so no helper is either
sibling_fits : (g : ℕ) → 2 ≤ g → sibling g < 2 ^ 128 → g < 2 ^ 128
sibling_fits g large fits = elim (cases_eq (g % 2) 0) [
  | inl even ↦ (let is : sibling g ≡ g + 1 = rw even refl in omega arith)
  | inr odd ↦ above odd
]
  where
    test : (g % 2 ≡ 0 → ⊥) → (g % 2 == 0) ≡ false
    test odd = grind arith

    above : (g % 2 ≡ 0 → ⊥) → g < 2 ^ 128
    above odd = let is : sibling g ≡ g - 1 = rw (test odd) refl in omega arith

helper_fits : (indices : List ℕ) (g : ℕ) → AllByRecursion (λ i. i < 2 ^ 128) indices
    → is_helper indices g ≡ true → g < 2 ^ 128
helper_fits indices g all helper =
    let is = helper_is indices g helper in
    sibling_fits g is.large (not_above indices (sibling g) (2 ^ 128) all is.beside)

-- what passes a test
all_filtered : (p : ℕ → Bool) (xs : List ℕ) → AllByRecursion (λ x. p x ≡ true) (filter p xs)
all_filtered p [] = tt
all_filtered p (x ∷ xs) =
    elim (p x) as (λ b. p x ≡ b → AllByRecursion (λ x. p x ≡ true)
    (cond b (x ∷ filter p xs) (filter p xs))) [
      | true ↦ λ passes. (passes, all_filtered p xs)
      | false ↦ λ _. all_filtered p xs
    ] refl

-- an index of a proof: in the tree, and one of 128 bits
record IsPlace (t : Tree) (g : ℕ) : Type 0 where
  positive : 0 < g
  fits : g < 2 ^ 128
  node : is_some (at t g) ≡ true

place-in : (t : Tree) (g : ℕ) → IsIn t g → g < 2 ^ 128 → IsPlace t g
place-in t zero inside fits = absurd (inside.some refl)
place-in t (suc n) inside fits = record { positive = omega arith; fits = fits; node = inside.node }

places-in : (t : Tree) (gs : List ℕ) → AllByRecursion (IsIn t) gs
    → AllByRecursion (λ g. g < 2 ^ 128) gs → AllByRecursion (IsPlace t) gs
places-in t [] inside fits = tt
places-in t (g ∷ gs) inside fits =
    (place-in t g inside.0 fits.0, places-in t gs inside.1 fits.1)

-- the helper indices of such indices are such indices
helper_places : (t : Tree) (gs : List ℕ) → AllByRecursion (IsIn t) gs
    → AllByRecursion (λ g. g < 2 ^ 128) gs → AllByRecursion (IsPlace t) (helpers gs)
helper_places t gs inside fits =
    all-weaker (λ g. is_helper gs g ≡ true) (IsPlace t)
    (λ g helper. record {
      positive = (let large = (helper_is gs g helper).large in omega arith);
      fits = helper_fits gs g fits helper;
      node = law_of_helper_nodes t gs g inside helper;
    }) (helpers gs) (all_filtered (is_helper gs) (descending (greatest gs + 2)))

module _ (pair_of : PairOf) (makes : MakesChunks pair_of) (t : Tree) (holds : HoldsChunks t) where
  -- the entries of such indices are entries of the tree
  has_chunk : (g : ℕ) → IsPlace t g → HasChunk pair_of t (entry_at pair_of t g)
  has_chunk g place =
      let node = some_from (at t g) place.node in
      record {
        node = node.0;
        found = node.1;
        root = sym (ap (λ o. unwrap_or (option_map (root pair_of) o) zero_chunk) node.1);
      }

  is_entry : (g : ℕ) → IsPlace t g → IsProofEntry (entry_at pair_of t g)
  is_entry g place =
      let has = has_chunk g place in
      record {
        positive = place.positive;
        fits = place.fits;
        chunk = subst IsChunk has.root
            (root_chunk pair_of makes has.node (at_holds t has.node g has.found holds));
      }

  -- what is so of the entries of such indices is so of those of two lists of them
  entries : (P : Entry → Type 0) → ((g : ℕ) → IsPlace t g → P (entry_at pair_of t g))
      → (gs hs : List ℕ) → AllByRecursion (IsPlace t) gs → AllByRecursion (IsPlace t) hs
      → AllByRecursion P (map (entry_at pair_of t) gs ++ map (entry_at pair_of t) hs)
  entries P so [] [] all others = tt
  entries P so [] (h ∷ hs) all others = (so h others.0, entries P so [] hs all others.1)
  entries P so (g ∷ gs) hs all others = (so g all.0, entries P so gs hs all.1 others)

indices_of-entries : (pair_of : PairOf) (t : Tree) (gs : List ℕ)
    → indices_of (map (entry_at pair_of t) gs) ≡ gs
indices_of-entries pair_of t [] = refl
indices_of-entries pair_of t (g ∷ gs) = ap (λ rest. g ∷ rest) (indices_of-entries pair_of t gs)

some_entries : (pair_of : PairOf) (t : Tree) (gs : List ℕ) → gs ≢ []
    → map (entry_at pair_of t) gs ≢ []
some_entries pair_of t [] some = absurd (some refl)
some_entries pair_of t (g ∷ gs) some = λ none. cc

-- the proof of indices that are asked is one whose leaves ascend
ordered : (pair_of : PairOf) (t : Tree) (asked : List ℕ) → AreAsked t asked
    → IsOrdered (proof_of pair_of t (ascending asked))
ordered pair_of t asked are =
    let gs = ascending asked in
    let same = indices_of-entries pair_of t gs in
    let positive : AllByRecursion (λ g. 0 < g) asked =
    all-weaker (IsIn t) (λ g. 0 < g) (λ g inside. (let some = inside.some in omega arith)) asked
    are.inside in
    let flat : AreFlat gs = λ a b nested. flat-from asked are.flat a b (record {
      upper = ascending-has asked a nested.upper;
      lower = ascending-has asked b nested.lower;
      within = nested.within;
      apart = nested.apart;
    }) in
    record {
      is = record {
        some = some_entries pair_of t gs (some-ascending asked are.some);
        positive = subst (AllByRecursion (λ g. 0 < g)) (sym same)
            (all-ascending (λ g. 0 < g) asked positive);
        distinct = subst (λ ks. IsDistinct nat_eq ks) (sym same)
            (ascends-distinct 0 gs (ascends asked positive));
        flat = subst AreFlat (sym same) flat;
        complete = indices_of-entries pair_of t (helpers gs) ∙ ap helpers (sym same);
      };
      ascends = subst (AscendFrom 0) (sym same) (ascends asked positive);
      fits = subst (AllByRecursion (λ g. g < 2 ^ 128)) (sym same)
          (all-ascending (λ g. g < 2 ^ 128) asked are.fits);
    }

-- and its text leads to the root of the tree
leads : (pair_of : PairOf) → MakesChunks pair_of → (t : Tree) → HoldsChunks t
    → (asked : List ℕ) → AreAsked t asked
    → ProofLeadsTo pair_of (root pair_of t)
    (Proof (multiproof_text (proof_of pair_of t (ascending asked))))
leads pair_of makes t holds asked are =
    let gs = ascending asked in
    let proof = proof_of pair_of t gs in
    let inside = all-ascending (IsIn t) asked are.inside in
    let fits = all-ascending (λ g. g < 2 ^ 128) asked are.fits in
    let leaves = places-in t gs inside fits in
    let nodes = helper_places t gs inside fits in
    let order = ordered pair_of t asked are in
    let each : (P : Entry → Type 0) → ((g : ℕ) → IsPlace t g → P (entry_at pair_of t g))
    → AllByRecursion P (known_of proof) =
    λ P so. entries pair_of makes t holds P so gs (helpers gs) leaves nodes in
    let back = law_of_texts proof order (each IsProofEntry (is_entry pair_of makes t holds)) in (
      back.is.lists,
      multiproof_of-read (multiproof_text proof) proof back.is,
      calculated-given pair_of back.is.lists proof back.is.is 1
          ∙ law_of_proofs pair_of t proof.leaves proof.nodes order.is.some order.is.complete
          (each (HasChunk pair_of t) (has_chunk pair_of makes t holds)),
    )

-- the indices of a statement are of 128 bits

path_fits : (t : SszType) (path : Path) (index : ℕ) (u : SszType) (rest : Path) (g : ℕ)
    → IsAlong t path index u rest → generalized_index_from index u rest ≡ Some g → g < 2 ^ 128
path_fits t path index u [] g along found =
    let unit : 1 ≤ 2 ^ type_levels u = pow_pos (type_levels u) in
    omega (arith, along.room, mul-le-mul_left (index + 1) unit, same_Some index g found)
path_fits t path index u (step ∷ rest) g along found =
    by (step_type u step) refl found (λ part is. path_fits t path (step_index index u step) part
    rest g (along-step t path index u step rest part along is))
  where
    by : (o : Option SszType) → step_type u step ≡ o
        → option_and_then (λ part. generalized_index_from (step_index index u step) part rest) o
        ≡ Some g
        → ((part : SszType) → step_type u step ≡ Some part
        → generalized_index_from (step_index index u step) part rest ≡ Some g → g < 2 ^ 128)
        → g < 2 ^ 128
    by None is found more = cc
    by (Some part) is found more = more part is found

-- what indices are asked: one at least, each of 128 bits
record AreIndices (asked : List ℕ) : Type 0 where
  some : asked ≢ []
  fits : AllByRecursion (λ g. g < 2 ^ 128) asked

index_fits : (t : SszType) → type_levels t ≤ 126 → (index : Index) → IsIndex index
    → IfOk (asked_index t index) (λ g. g < 2 ^ 128)
index_fits t few (Number n) is = is
index_fits t few (ByPath path) is = by (generalized_index t path) refl
  where
    by : (o : Option ℕ) → generalized_index t path ≡ o → IfOk (need BAD_PATH o) (λ g. g < 2 ^ 128)
    by None found = tt
    by (Some g) found = path_fits t path 1 t path g (along-start t path few) found

indices_fit : (t : SszType) → type_levels t ≤ 126 → (indices : List Index)
    → AllByRecursion IsIndex indices
    → IfOk (asked_indices t indices) (AllByRecursion (λ g. g < 2 ^ 128))
indices_fit t few [] all = tt
indices_fit t few (index ∷ indices) all =
    both (asked_index t index) (asked_indices t indices) (index_fits t few index all.0)
    (indices_fit t few indices all.1)
  where
    both : (first : Outcome ℕ) (more : Outcome (List ℕ)) → IfOk first (λ g. g < 2 ^ 128)
        → IfOk more (AllByRecursion (λ g. g < 2 ^ 128))
        → IfOk (first >>= (λ g. more >>= (λ gs. Ok (g ∷ gs)))) (AllByRecursion (λ g. g < 2 ^ 128))
    both (Err refusal) more one rest = tt
    both (Ok g) (Err refusal) one rest = tt
    both (Ok g) (Ok gs) one rest = (one, rest)

indices_some : (t : SszType) (indices : List Index) → indices ≢ []
    → IfOk (asked_indices t indices) (λ asked. asked ≢ [])
indices_some t [] some = absurd (some refl)
indices_some t (index ∷ indices) some = by (asked_index t index) (asked_indices t indices)
  where
    by : (first : Outcome ℕ) (more : Outcome (List ℕ))
        → IfOk (first >>= (λ g. more >>= (λ gs. Ok (g ∷ gs)))) (λ asked. asked ≢ [])
    by (Err refusal) more = tt
    by (Ok g) (Err refusal) = tt
    by (Ok g) (Ok gs) = λ none. cc

module _ (rules : Rules) (versions : Versions) (version : Version)
    (makes : MakesChunks rules.pair_of) where
  abbrev whole : Tree
  whole = tree version.type version.value

  abbrev Leads : Effect → Type 0
  Leads effect =
      ProofLeadsTo rules.pair_of
      (hash_tree_root rules.pair_of version.type version.value) effect.reply

  abbrev printed : List ℕ → Row
  printed asked = says_reply versions
      (Proof (multiproof_text (proof_of rules.pair_of whole (ascending asked))))

  -- after both tests
  tested : (asked : List ℕ) → HoldsChunks whole → AreIndices asked → (absent flat : Bool)
      → list_any (λ g. is_none (at whole g)) asked ≡ absent → are_flat asked ≡ flat
      → IfOk (refuse NO_NODE absent >> (refuse NESTED (not flat) >> printed asked)) Leads
  tested asked holds are true flat outside is = tt
  tested asked holds are false false inside is = tt
  tested asked holds are false true inside is =
      leads rules.pair_of makes whole holds asked (record {
        some = are.some;
        inside = all_in_tree whole asked inside;
        fits = are.fits;
        flat = is;
      })

  -- after the indices
  asked_leads : (asked : Outcome (List ℕ)) → HoldsChunks whole
      → IfOk asked (AllByRecursion (λ g. g < 2 ^ 128)) → IfOk asked (λ gs. gs ≢ [])
      → IfOk (asked >>= (λ gs.
      refuse NO_NODE (list_any (λ g. is_none (at whole g)) gs)
      >> (refuse NESTED (not (are_flat gs)) >> printed gs))) Leads
  asked_leads (Err refusal) holds fits some = tt
  asked_leads (Ok gs) holds fits some =
      tested gs holds (record { some = some; fits = fits })
      (list_any (λ g. is_none (at whole g)) gs) (are_flat gs) refl refl

pub printed_proofs_lead_lem : PrintedProofsLead
printed_proofs_lead_lem rules format versions v indices version makes some are found sound =
    rw found (asked_leads rules versions version makes (asked_indices version.type indices)
    (tree_holds version.type version.value sound.fits)
    (indices_fit version.type (legal_levels format version.type sound.legal) indices are)
    (indices_some version.type indices some))
