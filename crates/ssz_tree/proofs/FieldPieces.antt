-- Fields some of which are given, one after another.
use Rattle.std.proofs.Common.{◌≡◌, ℕ, zero, suc, ◌+◌, ◌<◌, ◌≤◌, min, List, [], ◌∷◌, ◌++◌, ◌-◌, ◌^◌, length, map, take, get_or, Option, Some, None, refl, sym, ap, subst, ◌∙◌, arith, zero-add}
use Rattle.std.specs.Prelude.{slice_index_or}
use Rattle.std.specs.List.{sum_by, AllByRecursion}
use Rattle.std.proofs.lemmas.List.{take_all}
use Rattle.std.proofs.lemmas.List.Sums.{sum_by-append, sum_by-cons}
use Rattle.ssz_chunk.specs.Tree.{merkle_pairs}
use Rattle.ssz_schema.specs.Types.{SszType, Fields, no_fields, field}
use Rattle.ssz_schema.specs.Sizes.{field_count}
use Rattle.ssz_schema.specs.Unfolding.{type_tree_at, fields_over}
use Rattle.ssz_arena.specs.declared.node.NodeId.{NodeId}
use Rattle.ssz_arena.specs.Content.{ArenaContent, KeepsNodes}
use Rattle.ssz_value.proofs.PartLemmas.{Part as FieldPart}
use Rattle.ssz_making.specs.Parts.{MadePart, costs}
use Rattle.ssz_tree.specs.Shared.{shared_fields, default_part, MakesWith}
use Rattle.ssz_tree.specs.Given.{IsGiven, given_part, made_at, parts_with, left_fields, default_parts}
use Rattle.ssz_tree.proofs.Adding.{Adds-none, Adds-within}

-- a part, with how many nodes are made for it
pub record Piece : Type 0 where
  pub part : MadePart
  pub made : ℕ

-- and how many pairs
abbrev pub due : Piece → ℕ
due piece = min piece.made piece.part.cost

abbrev pub part_in : Piece → MadePart
part_in piece = piece.part

abbrev pub made_in : Piece → ℕ
made_in piece = piece.made

abbrev pub piece_at : ArenaContent → SszType → Option NodeId → Piece
piece_at arena t node = record { part = given_part arena t node; made = made_at t node }

abbrev pub pieces : ArenaContent → List SszType → List FieldPart → List (Option NodeId) → List Piece
pieces arena trees [] given = []
pieces arena trees (p ∷ fields) [] =
    piece_at arena (type_tree_at trees p.1) None ∷ pieces arena trees fields []
pieces arena trees (p ∷ fields) (first ∷ given) =
    piece_at arena (type_tree_at trees p.1) first ∷ pieces arena trees fields given

-- the piece stands at place i
pub record StandsAt (all : List Piece) (i : ℕ) (piece : Piece) : Type 0 where
  pub below : i < length all
  pub more : take (i + 1) all ≡ take i all ++ piece ∷ []

StandsAt-cons : (first : Piece) (all : List Piece) (i : ℕ) (piece : Piece)
    → StandsAt all i piece → StandsAt (first ∷ all) (suc i) piece
StandsAt-cons first all i piece at =
    let up : suc (i + 1) ≡ suc i + 1 = omega arith in
    record {
      below = omega (arith, at.below);
      more = ap (λ n. take n (first ∷ all)) (sym up) ∙ ap (λ ps. first ∷ ps) at.more;
    }

pub piece-stands : (arena : ArenaContent) (trees : List SszType) (fields : List FieldPart)
    (given : List (Option NodeId)) (i : ℕ) (entry : FieldPart) → i < length fields
    → entry ≡ get_or fields i entry → StandsAt (pieces arena trees fields given) i
    (piece_at arena (type_tree_at trees entry.1) (slice_index_or given i None))
piece-stands arena trees [] given i entry below e = absurd (omega arith)
piece-stands arena trees (p ∷ fields) [] zero entry below e = record {
  below = omega arith;
  more = ap (λ (q : FieldPart). piece_at arena (type_tree_at trees q.1) None ∷ []) (sym e);
}
piece-stands arena trees (p ∷ fields) [] (suc i) entry below e =
    StandsAt-cons _ _ i _ (piece-stands arena trees fields [] i entry (omega arith) e)
piece-stands arena trees (p ∷ fields) (first ∷ given) zero entry below e = record {
  below = omega arith;
  more = ap (λ (q : FieldPart). piece_at arena (type_tree_at trees q.1) first ∷ []) (sym e);
}
piece-stands arena trees (p ∷ fields) (first ∷ given) (suc i) entry below e =
    StandsAt-cons _ _ i _ (piece-stands arena trees fields given i entry (omega arith) e)

-- a sum over the first pieces, with one more
pub sum-more : (f : Piece → ℕ) (all : List Piece) (i : ℕ) (piece : Piece)
    → StandsAt all i piece → sum_by f (take (i + 1) all) ≡ sum_by f (take i all) + f piece
sum-more f all i piece at = ap (sum_by f) at.more ∙ sum_by-append f (take i all) (piece ∷ [])
    ∙ ap (λ n. sum_by f (take i all) + n) (zero-add (f piece))

-- what they are all together
pub pieces-parts : (arena : ArenaContent) (trees : List SszType) (fields : List FieldPart)
    (given : List (Option NodeId)) → map part_in (pieces arena trees fields given)
    ≡ parts_with arena (fields_over trees fields) given
pieces-parts arena trees [] given = refl
pieces-parts arena trees (p ∷ fields) [] =
    ap (λ ps. default_part (type_tree_at trees p.1) ∷ ps) (pieces-parts arena trees fields [])
pieces-parts arena trees (p ∷ fields) (first ∷ given) =
    ap (λ ps. given_part arena (type_tree_at trees p.1) first ∷ ps)
    (pieces-parts arena trees fields given)

pub pieces-many : (arena : ArenaContent) (trees : List SszType) (fields : List FieldPart)
    (given : List (Option NodeId)) → length (pieces arena trees fields given) ≡ length fields
pieces-many arena trees [] given = refl
pieces-many arena trees (p ∷ fields) [] = omega (arith, pieces-many arena trees fields [])
pieces-many arena trees (p ∷ fields) (first ∷ given) =
    omega (arith, pieces-many arena trees fields given)

all_left : (fs : Fields) → left_fields fs [] ≡ fs
all_left no_fields = refl
all_left (field name t fs) = refl

pub pieces-made : (arena : ArenaContent) (trees : List SszType) (fields : List FieldPart)
    (given : List (Option NodeId)) → sum_by made_in (pieces arena trees fields given)
    ≡ shared_fields (left_fields (fields_over trees fields) given)
pieces-made arena trees [] given = refl
pieces-made arena trees (p ∷ fields) [] = omega (
  arith,
  pieces-made arena trees fields [],
  sum_by-cons made_in (piece_at arena (type_tree_at trees p.1) None) (pieces arena trees fields []),
  ap shared_fields (all_left (fields_over trees fields)),
)
pieces-made arena trees (p ∷ fields) (None ∷ given) = omega (
  arith,
  pieces-made arena trees fields given,
  sum_by-cons made_in (piece_at arena (type_tree_at trees p.1) None)
      (pieces arena trees fields given),
)
pieces-made arena trees (p ∷ fields) (Some id ∷ given) = omega (
  arith,
  pieces-made arena trees fields given,
  sum_by-cons made_in (piece_at arena (type_tree_at trees p.1) (Some id))
      (pieces arena trees fields given),
)

pub pieces-few : (arena : ArenaContent) (trees : List SszType) (fields : List FieldPart)
    (given : List (Option NodeId)) → sum_by due (pieces arena trees fields given)
    ≤ shared_fields (left_fields (fields_over trees fields) given)
pieces-few arena trees [] given = omega arith
pieces-few arena trees (p ∷ fields) [] = omega (
  arith,
  pieces-few arena trees fields [],
  sum_by-cons due (piece_at arena (type_tree_at trees p.1) None) (pieces arena trees fields []),
  ap shared_fields (all_left (fields_over trees fields)),
)
pieces-few arena trees (p ∷ fields) (None ∷ given) = omega (
  arith,
  pieces-few arena trees fields given,
  sum_by-cons due (piece_at arena (type_tree_at trees p.1) None) (pieces arena trees fields given),
)
pieces-few arena trees (p ∷ fields) (Some id ∷ given) = omega (
  arith,
  pieces-few arena trees fields given,
  sum_by-cons due (piece_at arena (type_tree_at trees p.1) (Some id))
      (pieces arena trees fields given),
)

costs-cons : (trees : List SszType) (p : FieldPart) (rest : Fields)
    → costs (default_parts (field p.0 (type_tree_at trees p.1) rest))
    ≡ (default_part (type_tree_at trees p.1)).cost + costs (default_parts rest)
costs-cons trees p rest = sum_by-cons (λ (part : MadePart). part.cost)
    (default_part (type_tree_at trees p.1)) (default_parts rest)

pub pieces-due : (arena : ArenaContent) (trees : List SszType) (fields : List FieldPart)
    (given : List (Option NodeId)) → sum_by due (pieces arena trees fields given)
    ≤ costs (default_parts (left_fields (fields_over trees fields) given))
pieces-due arena trees [] given = omega arith
pieces-due arena trees (p ∷ fields) [] = omega (
  arith,
  pieces-due arena trees fields [],
  sum_by-cons due (piece_at arena (type_tree_at trees p.1) None) (pieces arena trees fields []),
  ap (λ fs. costs (default_parts fs)) (all_left (fields_over trees fields)),
  costs-cons trees p (fields_over trees fields),
)
pieces-due arena trees (p ∷ fields) (None ∷ given) = omega (
  arith,
  pieces-due arena trees fields given,
  sum_by-cons due (piece_at arena (type_tree_at trees p.1) None) (pieces arena trees fields given),
  costs-cons trees p (left_fields (fields_over trees fields) given),
)
pieces-due arena trees (p ∷ fields) (Some id ∷ given) = omega (
  arith,
  pieces-due arena trees fields given,
  sum_by-cons due (piece_at arena (type_tree_at trees p.1) (Some id))
      (pieces arena trees fields given),
)

-- where nothing is given, all are defaults
pub all_defaults : (arena : ArenaContent) (fs : Fields) → parts_with arena fs [] ≡ default_parts fs
all_defaults arena no_fields = refl
all_defaults arena (field name t fs) = ap (λ ps. default_part t ∷ ps) (all_defaults arena fs)

pub nothing_given : (fs : Fields) → left_fields fs [] ≡ fs
nothing_given = all_left

pub count-parts : (fs : Fields) → field_count fs ≡ length (default_parts fs)
count-parts no_fields = refl
count-parts (field name t fs) = omega (arith, count-parts fs)

-- what is given for field i
pub given_there : (arena : ArenaContent) (given : List (Option NodeId)) (i : ℕ)
    → AllByRecursion (IsGiven arena) given → IsGiven arena (slice_index_or given i None)
given_there arena [] i all = tt
given_there arena (first ∷ given) zero all = all.0
given_there arena (first ∷ given) (suc i) all = given_there arena given i all.1

pub given-kept : (old new : ArenaContent) (node : Option NodeId) → KeepsNodes old new
    → IsGiven old node → IsGiven new node
given-kept old new None keeps is = tt
given-kept old new (Some id) keeps is = omega (arith, is, keeps.count)

-- what is made later for a field is made for the part that it was at the start
pub MakesWith-since : (start now middle : ArenaContent) (t : SszType) (node : Option NodeId)
    (id : NodeId) → KeepsNodes start now → IsGiven start node
    → MakesWith (made_at t node) now middle (given_part now t node) id
    → MakesWith (made_at t node) now middle (given_part start t node) id
MakesWith-since start now middle t None id keeps is made = made
MakesWith-since start now middle t (Some there) id keeps is made = record {
  is = record {
    node = made.is.node;
    tree = made.is.tree ∙ keeps.trees there is;
    todo = omega (arith, made.is.todo, keeps.todo there is);
  };
  adds = Adds-within _ _ _ _ now middle made.adds (omega arith) (omega arith);
}

-- an arena with no nodes: how many are made does not hang on it
abbrev pub no_arena : ArenaContent
no_arena = record { nodes = []; spare = 0 }

-- the nodes of the first i fields were counted, with the pairs above all
pub record CountsPieces (trees : List SszType) (fields : List FieldPart)
    (given : List (Option NodeId)) (depth i nodes : ℕ) : Type 0 where
  pub within : i ≤ length fields
  pub counted : nodes ≡ min (merkle_pairs depth (length fields)
      + sum_by made_in (take i (pieces no_arena trees fields given))) (2 ^ 64 - 1)

pub CountsPieces-start : (trees : List SszType) (fields : List FieldPart)
    (given : List (Option NodeId)) (depth nodes : ℕ)
    → nodes ≡ min (merkle_pairs depth (length fields)) (2 ^ 64 - 1)
    → CountsPieces trees fields given depth 0 nodes
CountsPieces-start trees fields given depth nodes e =
    record { within = omega arith; counted = omega (arith, e) }

pub CountsPieces-more : (trees : List SszType) (fields : List FieldPart)
    (given : List (Option NodeId)) (depth i nodes : ℕ) (entry : FieldPart) (made next : ℕ)
    → CountsPieces trees fields given depth i nodes → i < length fields
    → entry ≡ get_or fields i entry
    → made ≡ min (made_at (type_tree_at trees entry.1) (slice_index_or given i None)) (2 ^ 64 - 1)
    → next ≡ min (nodes + made) (2 ^ 64 - 1)
    → CountsPieces trees fields given depth (i + 1) next
CountsPieces-more trees fields given depth i nodes entry made next h below e one more = record {
  within = omega (arith, below);
  counted = omega (
    arith,
    h.counted,
    one,
    more,
    sum-more made_in (pieces no_arena trees fields given) i _
        (piece-stands no_arena trees fields given i entry below e),
  );
}

pub CountsPieces-end : (trees : List SszType) (fields : List FieldPart)
    (given : List (Option NodeId)) (depth i nodes : ℕ)
    → CountsPieces trees fields given depth i nodes → (i < length fields → ⊥)
    → nodes ≡ min (merkle_pairs depth (length fields)
    + shared_fields (left_fields (fields_over trees fields) given)) (2 ^ 64 - 1)
CountsPieces-end trees fields given depth i nodes h out = omega (
  arith,
  h.counted,
  pieces-made no_arena trees fields given,
  ap (sum_by made_in) (take_all i (pieces no_arena trees fields given)
      (let last : length fields ≤ i = omega arith in
      omega (arith, last, pieces-many no_arena trees fields given))),
)

-- what is made later for field i
pub field-made : (start now middle : ArenaContent) (t : SszType) (given : List (Option NodeId))
    (i : ℕ)
    (chosen : Option NodeId) (id : NodeId) → KeepsNodes start now
    → AllByRecursion (IsGiven start) given → chosen ≡ slice_index_or given i None
    → MakesWith (made_at t chosen) now middle (given_part now t chosen) id
    → (let piece = piece_at start t (slice_index_or given i None) in
    MakesWith piece.made now middle piece.part id)
field-made start now middle t given i chosen id keeps all is made =
    MakesWith-since start now middle t (slice_index_or given i None) id keeps
    (given_there start given i all)
    (subst (λ n. MakesWith (made_at t n) now middle (given_part now t n) id) is made)

-- a node that is given is taken as it is
pub taken_there : (arena : ArenaContent) (t : SszType) (node : Option NodeId) (id : NodeId)
    → node ≡ Some id → IsGiven arena node
    → MakesWith (made_at t node) arena arena (given_part arena t node) id
taken_there arena t None id e is = cc
taken_there arena t (Some there) id e is =
    let same : there ≡ id = cc in
    subst (λ n. MakesWith 0 arena arena (given_part arena t (Some there)) n) same (record {
      is = record { node = is; tree = refl; todo = omega arith };
      adds = Adds-within 0 0 _ _ arena arena (Adds-none arena) (omega arith) (omega arith);
    })
