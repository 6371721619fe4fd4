-- The nodes of fields, one after another.
use Rattle.std.proofs.Common.{◌≡◌, ℕ, zero, suc, ◌+◌, ◌^◌, ◌<◌, ◌≤◌, List, [], ◌∷◌, ◌++◌, length, map, drop, get_or, Option, Some, None, refl, sym, ap, ap₂, ◌∙◌, subst, slice_get, arith, append_assoc}
use Rattle.std.proofs.lemmas.List.{append-nil, drop_all, length-append}
use Rattle.std.proofs.lemmas.Option.{none-some}
use Rattle.ssz_chunk.specs.Index.{at}
use Rattle.ssz_chunk.specs.Tree.{Tree, place}
use Rattle.ssz_arena.specs.declared.node.NodeId.{NodeId}
use Rattle.ssz_arena.specs.Content.{ArenaContent, tree_of}
use Rattle.ssz_upgrade.specs.Fields.{AreFieldNodes, IsFieldAt, FieldStandsAt, pick}

-- the nodes of the first i fields were found
pub record FieldsSoFar (arena : ArenaContent) (node : NodeId) (d count i : ℕ) (nodes : List NodeId)
    : Type 0 where
  pub within : i ≤ count
  pub many : length nodes ≡ i
  pub each : (j : ℕ) (field : NodeId) → slice_get nodes j ≡ Some field
      → FieldStandsAt arena node (2 ^ d + j) field

pub FieldsSoFar-start : (arena : ArenaContent) (node : NodeId) (d count : ℕ)
    → FieldsSoFar arena node d count 0 []
FieldsSoFar-start arena node d count = record {
  within = omega arith;
  many = refl;
  each = λ j field here. absurd (none-some field here);
}

-- an element of a list with one more is one of the list, or the last
last_or_before : (xs : List NodeId) (x : NodeId) (j : ℕ) (y : NodeId) (P : ℕ → NodeId → Type 0)
    → ((k : ℕ) (z : NodeId) → slice_get xs k ≡ Some z → P k z) → P (length xs) x
    → slice_get (xs ++ x ∷ []) j ≡ Some y → P j y
last_or_before [] x zero y P all end here = let same : x ≡ y = cc in subst (P 0) same end
last_or_before [] x (suc j) y P all end here = cc
last_or_before (z ∷ xs) x zero y P all end here = all 0 y here
last_or_before (z ∷ xs) x (suc j) y P all end here =
    last_or_before xs x j y (λ k. P (suc k)) (λ k. all (suc k)) end here

pub FieldsSoFar-more : (arena : ArenaContent) (node : NodeId) (d count i : ℕ)
    (nodes more : List NodeId) (field : NodeId) → FieldsSoFar arena node d count i nodes
    → i < count → FieldStandsAt arena node (2 ^ d + i) field → more ≡ nodes ++ field ∷ []
    → FieldsSoFar arena node d count (i + 1) more
FieldsSoFar-more arena node d count i nodes more field h below stands is = record {
  within = omega (arith, below);
  many = omega (arith, ap (length {A = NodeId}) is, length-append nodes (field ∷ []), h.many);
  each = λ j next here. last_or_before nodes field j next
      (λ k x. FieldStandsAt arena node (2 ^ d + k) x) h.each
      (subst (λ k. FieldStandsAt arena node (2 ^ d + k) field) (sym h.many) stands)
      (sym (ap (λ (xs : List NodeId). slice_get xs j) is) ∙ here);
}

pub FieldsSoFar-end : (arena : ArenaContent) (node : NodeId) (d count i : ℕ) (nodes : List NodeId)
    → FieldsSoFar arena node d count i nodes → count ≤ 2 ^ d → count ≤ i
    → AreFieldNodes arena node d count nodes
FieldsSoFar-end arena node d count i nodes h few last = record {
  places = record {
    few = omega (arith, h.many, h.within, few);
    each = λ j field here. (h.each j field here).found;
  };
  each = h.each;
  all = λ there. omega (arith, h.many, h.within, last);
}

-- a field is not there
pub FieldsSoFar-short : (arena : ArenaContent) (node : NodeId) (d count i : ℕ) (nodes : List NodeId)
    (found : Option NodeId) → FieldsSoFar arena node d count i nodes → count ≤ 2 ^ d
    → i < count → IsFieldAt arena node d i found → found ≡ None
    → AreFieldNodes arena node d count nodes
FieldsSoFar-short arena node d count i nodes found h few below at missing = record {
  places = record {
    few = omega (arith, h.many, h.within, few);
    each = λ j field here. (h.each j field here).found;
  };
  each = h.each;
  all = λ there. absurd (there i below (subst (IsFieldAt arena node d i) missing at));
}

-- the numbers of the first i fields were looked up
pub record PickedSoFar (nodes : List NodeId) (taken : List (Option ℕ)) (i : ℕ)
    (given : List (Option NodeId)) : Type 0 where
  pub left : given ++ map (pick nodes) (drop i taken) ≡ map (pick nodes) taken

pub PickedSoFar-more : (nodes : List NodeId) (taken : List (Option ℕ)) (i : ℕ)
    (given more : List (Option NodeId)) (number : Option ℕ) → PickedSoFar nodes taken i given
    → drop i taken ≡ number ∷ drop (i + 1) taken → more ≡ given ++ pick nodes number ∷ []
    → PickedSoFar nodes taken (i + 1) more
PickedSoFar-more nodes taken i given more number h next is = record {
  left = ap (λ xs. xs ++ map (pick nodes) (drop (i + 1) taken)) is
      ∙ append_assoc given (pick nodes number ∷ []) (map (pick nodes) (drop (i + 1) taken))
      ∙ sym (ap (λ ks. given ++ map (pick nodes) ks) next) ∙ h.left;
}

pub PickedSoFar-end : (nodes : List NodeId) (taken : List (Option ℕ)) (i : ℕ)
    (given : List (Option NodeId)) → PickedSoFar nodes taken i given → length taken ≤ i
    → given ≡ map (pick nodes) taken
PickedSoFar-end nodes taken i given h last =
    sym (append-nil given) ∙ sym (ap (λ ks. given ++ map (pick nodes) ks) (drop_all i taken last))
    ∙ h.left

pub drop_number : (taken : List (Option ℕ)) (i : ℕ) (number : Option ℕ) → i < length taken
    → number ≡ get_or taken i number → drop i taken ≡ number ∷ drop (i + 1) taken
drop_number [] i number below e = absurd (omega arith)
drop_number (k ∷ taken) zero number below e = ap (λ n. n ∷ taken) (sym e)
drop_number (k ∷ taken) (suc i) number below e =
    let up : suc (i + 1) ≡ suc i + 1 = omega arith in
    drop_number taken i number (omega arith) e ∙ ap (λ n. number ∷ drop n (k ∷ taken)) up

-- nodes with these trees, place by place
pub trees_alike : (arena : ArenaContent) (nodes : List NodeId) (trees : List Tree)
    → length nodes ≡ length trees
    → ((i : ℕ) (id : NodeId) → slice_get nodes i ≡ Some id → tree_of arena id ≡ place trees i)
    → map (tree_of arena) nodes ≡ trees
trees_alike arena [] [] even all = refl
trees_alike arena [] (t ∷ trees) even all = absurd (omega (arith, even))
trees_alike arena (id ∷ nodes) [] even all = absurd (omega (arith, even))
trees_alike arena (id ∷ nodes) (t ∷ trees) even all =
    ap₂ (λ first rest. first ∷ rest) (all 0 id refl)
    (trees_alike arena nodes trees (omega (arith, even)) (λ i. all (suc i)))
