-- What the loop over fields keeps that makes or takes their nodes and pushes them.
use Rattle.std.proofs.Common.{◌≡◌, ℕ, ◌+◌, ◌-◌, ◌^◌, ◌<◌, ◌≤◌, List, Option, [], ◌∷◌, ◌++◌, length, map, take, drop, sym, ap, subst, ◌∙◌, arith}
use Rattle.std.specs.List.{sum_by}
use Rattle.std.proofs.lemmas.List.{length-take-le, length-map, take_all, take-append-drop}
use Rattle.std.proofs.lemmas.List.Sums.{sum_by-append}
use Rattle.ssz_chunk.specs.Tree.{merkle_pairs}
use Rattle.ssz_schema.specs.Types.{SszType, Fields}
use Rattle.ssz_schema.specs.Sizes.{field_count}
use Rattle.ssz_schema.specs.Unfolding.{fields_over}
use Rattle.ssz_arena.specs.declared.node.NodeId.{NodeId}
use Rattle.ssz_arena.specs.Content.{ArenaContent}
use Rattle.ssz_merkle.specs.Frontier.{whole_pairs}
use Rattle.ssz_merkle.proofs.WholePairs.{whole_pairs-rises, whole_pairs-le-grow}
use Rattle.ssz_value.proofs.PartLemmas.{Part as FieldPart}
use Rattle.ssz_tree.specs.Added.{AddsNodes, IsPartNode}
use Rattle.ssz_making.specs.Parts.{MadePart, whole_of, costs}
use Rattle.ssz_tree.specs.Stack.{Stack, StackHolds}
use Rattle.ssz_tree.specs.Shared.{MakesWith, shared_fields}
use Rattle.ssz_tree.specs.Given.{MakesFields, left_fields, default_parts}
use Rattle.ssz_tree.proofs.Adding.{Adds-none, Adds-then, Adds-within, AreNodes-kept}
use Rattle.ssz_tree.proofs.DefaultForms.{count-fields}
use Rattle.ssz_tree.proofs.FieldPieces.{Piece, due, part_in, made_in, pieces, StandsAt, sum-more, pieces-parts, pieces-many, pieces-made, pieces-few, pieces-due, all_defaults, nothing_given, count-parts}
use Rattle.ssz_making.proofs.Placing.{IsAt, IsAt-map}
use Rattle.ssz_tree.specs.RoomLaws.{whole_pairs-mono}
use Rattle.ssz_tree.proofs.Gathering.{CanPush, CanFinish}
use Rattle.ssz_tree.proofs.Holding.{Holds-kept}

-- the nodes of the first i pieces were made or taken, and pushed
pub record FirstPieces (start now : ArenaContent) (depth : ℕ) (stack : Stack) (all : List Piece)
    (i : ℕ) : Type 0 where
  pub deep : stack.depth ≡ depth
  pub within : i ≤ length all
  pub holds : StackHolds now (take i (map part_in all)) stack
  pub adds : AddsNodes (whole_pairs depth i + sum_by made_in (take i all))
      (whole_pairs depth i + sum_by due (take i all)) start now

pub FirstPieces-start : (start : ArenaContent) (depth : ℕ) (stack : Stack) (all : List Piece)
    → stack.depth ≡ depth → StackHolds start [] stack → FirstPieces start start depth stack all 0
FirstPieces-start start depth stack all deep held = record {
  deep = deep;
  within = omega arith;
  holds = held;
  adds = Adds-within 0 0 _ _ start start (Adds-none start) (omega arith) (omega arith);
}

-- there is room for all
pub record HasPieceRoom (start : ArenaContent) (depth : ℕ) (all : List Piece) : Type 0 where
  pub few : length all ≤ 2 ^ depth
  pub room : merkle_pairs depth (length all) + sum_by made_in all ≤ start.spare

pub pushed : (start now : ArenaContent) (depth : ℕ) (stack : Stack) (all : List Piece) (i : ℕ)
    → FirstPieces start now depth stack all i → stack.pushed ≡ i
pushed start now depth stack all i h = h.holds.number
    ∙ length-take-le i (map part_in all) (omega (arith, h.within, length-map all part_in))

-- the whole pairs above the first places are among all
first_pairs : (depth i n : ℕ) → i ≤ n → whole_pairs depth i ≤ merkle_pairs depth n
first_pairs depth i n within = omega (
  arith,
  ap (whole_pairs depth) (let all : i + (n - i) ≡ n = omega arith in all),
  whole_pairs-mono depth i (n - i),
  whole_pairs-le-grow depth n,
)

made-first : (all : List Piece) (i : ℕ) → sum_by made_in (take i all) ≤ sum_by made_in all
made-first all i =
    let sum : sum_by made_in all ≡ sum_by made_in (take i all) + sum_by made_in (drop i all) =
    ap (sum_by made_in) (sym (take-append-drop i all))
    ∙ sum_by-append made_in (take i all) (drop i all) in
    omega (arith, sum)

pub FirstPieces-room : (start now : ArenaContent) (depth : ℕ) (stack : Stack) (all : List Piece)
    (i : ℕ) (piece : Piece) → FirstPieces start now depth stack all i → StandsAt all i piece
    → HasPieceRoom start depth all → piece.made ≤ now.spare
FirstPieces-room start now depth stack all i piece h at room = omega (
  arith,
  h.adds.spare,
  room.room,
  first_pairs depth i (length all) h.within,
  sum-more made_in all i piece at,
  made-first all (i + 1),
)

pub FirstPieces-push : (start now middle : ArenaContent) (depth : ℕ) (stack : Stack)
    (all : List Piece) (i : ℕ) (piece : Piece) (node : NodeId)
    → FirstPieces start now depth stack all i → StandsAt all i piece
    → HasPieceRoom start depth all → MakesWith piece.made now middle piece.part node
    → CanPush middle stack
FirstPieces-push start now middle depth stack all i piece node h at room made =
    let count : stack.pushed ≡ i = pushed start now depth stack all i h in
    let spare : whole_pairs depth (i + 1) - whole_pairs depth i ≤ middle.spare = omega (
      arith,
      h.adds.spare,
      made.adds.spare,
      room.room,
      first_pairs depth (i + 1) (length all) (omega (arith, at.below)),
      sum-more made_in all i piece at,
      made-first all (i + 1),
    ) in
    let here : stack.pushed < 2 ^ depth = omega (arith, count, at.below, room.few) in
    record {
      below = subst (λ d. stack.pushed < 2 ^ d) (sym h.deep) here;
      nodes = AreNodes-kept now middle stack.nodes made.adds.keeps h.holds.nodes;
      room = subst (λ d. whole_pairs d (stack.pushed + 1) - whole_pairs d stack.pushed
          ≤ middle.spare) (sym h.deep)
          (subst (λ n. whole_pairs depth (n + 1) - whole_pairs depth n ≤ middle.spare) (sym count)
          spare);
    }

pub FirstPieces-more : (start now middle end : ArenaContent) (depth : ℕ) (stack after : Stack)
    (all : List Piece) (i : ℕ) (piece : Piece) (node : NodeId)
    → FirstPieces start now depth stack all i → StandsAt all i piece
    → MakesWith piece.made now middle piece.part node → after.depth ≡ stack.depth
    → ((parts : List MadePart) (one : MadePart) → StackHolds middle parts stack
    → IsPartNode middle one node
    → StackHolds end (parts ++ one ∷ []) after)
    → (let made = whole_pairs stack.depth (stack.pushed + 1)
    - whole_pairs stack.depth stack.pushed in AddsNodes made made middle end)
    → FirstPieces start end depth after all (i + 1)
FirstPieces-more start now middle end depth stack after all i piece node h at made stays held adds =
    let there : IsAt (map part_in all) i piece.part =
    IsAt-map part_in all i piece at.below at.more in
    let count : stack.pushed ≡ i = pushed start now depth stack all i h in
    let pushes : AddsNodes (whole_pairs depth (i + 1) - whole_pairs depth i)
    (whole_pairs depth (i + 1) - whole_pairs depth i) middle end =
    subst (λ n. AddsNodes (whole_pairs depth (n + 1) - whole_pairs depth n)
    (whole_pairs depth (n + 1) - whole_pairs depth n) middle end) count
    (subst (λ d. AddsNodes (whole_pairs d (stack.pushed + 1) - whole_pairs d stack.pushed)
    (whole_pairs d (stack.pushed + 1) - whole_pairs d stack.pushed) middle end) h.deep adds) in
    record {
      deep = stays ∙ h.deep;
      within = omega (arith, at.below);
      holds = subst (λ ps. StackHolds end ps after) (sym there.more)
          (held (take i (map part_in all)) piece.part
          (Holds-kept now middle (take i (map part_in all)) stack made.adds.keeps h.holds) made.is);
      adds = Adds-within _ _ _ _ start end
          (Adds-then _ _ _ _ start middle end
          (Adds-then _ _ _ _ start now middle h.adds made.adds) pushes)
          (omega (arith, sum-more made_in all i piece at, whole_pairs-rises depth i))
          (omega (arith, sum-more due all i piece at, whole_pairs-rises depth i));
    }

-- at the end
pub FirstPieces-finish : (start now : ArenaContent) (depth : ℕ) (stack : Stack) (all : List Piece)
    (i : ℕ) → FirstPieces start now depth stack all i → i ≡ length all
    → HasPieceRoom start depth all → CanFinish now stack
FirstPieces-finish start now depth stack all i h last room =
    let count : stack.pushed ≡ length all = pushed start now depth stack all i h ∙ last in
    let spare : merkle_pairs depth (length all) - whole_pairs depth (length all) ≤ now.spare =
    omega (
      arith,
      h.adds.spare,
      room.room,
      ap (whole_pairs depth) last,
      made-first all i,
    ) in
    record {
      nodes = h.holds.nodes;
      room = subst (λ d. merkle_pairs d stack.pushed - whole_pairs d stack.pushed ≤ now.spare)
          (sym h.deep)
          (subst (λ n. merkle_pairs depth n - whole_pairs depth n ≤ now.spare) (sym count) spare);
    }

-- the full tree over all pieces
pub record MakesPieces (start end : ArenaContent) (depth : ℕ) (all : List Piece) (node : NodeId)
    : Type 0 where
  pub is : IsPartNode end (whole_of depth (map part_in all)) node
  pub adds : AddsNodes (merkle_pairs depth (length all) + sum_by made_in all)
      (merkle_pairs depth (length all) + sum_by due all) start end

pub FirstPieces-done : (start now end : ArenaContent) (depth : ℕ) (stack : Stack) (all : List Piece)
    (i : ℕ) (node : NodeId) → FirstPieces start now depth stack all i → i ≡ length all
    → ((parts : List MadePart) → StackHolds now parts stack
    → IsPartNode end (whole_of stack.depth parts) node)
    → (let made = merkle_pairs stack.depth stack.pushed - whole_pairs stack.depth stack.pushed in
    AddsNodes made made now end)
    → MakesPieces start end depth all node
FirstPieces-done start now end depth stack all i node h last held adds =
    let count : stack.pushed ≡ length all = pushed start now depth stack all i h ∙ last in
    let many : length (map part_in all) ≡ length all = length-map all part_in in
    let taken : take i (map part_in all) ≡ map part_in all =
    take_all i (map part_in all) (omega (arith, last, many)) in
    let whole_list : take i all ≡ all = take_all i all (omega (arith, last)) in
    let finishes : AddsNodes (merkle_pairs depth (length all) - whole_pairs depth (length all))
    (merkle_pairs depth (length all) - whole_pairs depth (length all)) now end =
    subst (λ n. AddsNodes (merkle_pairs depth n - whole_pairs depth n)
    (merkle_pairs depth n - whole_pairs depth n) now end) count
    (subst (λ d. AddsNodes (merkle_pairs d stack.pushed - whole_pairs d stack.pushed)
    (merkle_pairs d stack.pushed - whole_pairs d stack.pushed) now end) h.deep adds) in
    record {
      is = subst (λ d. IsPartNode end (whole_of d (map part_in all)) node) h.deep
          (subst (λ ps. IsPartNode end (whole_of stack.depth ps) node) taken
          (held (take i (map part_in all)) h.holds));
      adds = Adds-within _ _ _ _ start end
          (Adds-then _ _ _ _ start now end h.adds finishes)
          (omega (
            arith,
            ap (whole_pairs depth) last,
            ap (sum_by made_in) whole_list,
            whole_pairs-le-grow depth (length all),
          ))
          (omega (
            arith,
            ap (whole_pairs depth) last,
            ap (sum_by due) whole_list,
            whole_pairs-le-grow depth (length all),
          ));
    }

-- the pieces are the fields of a container
pub fields_room : (start : ArenaContent) (depth : ℕ) (trees : List SszType)
    (fields : List FieldPart)
    (given : List (Option NodeId)) → length fields ≤ 2 ^ depth
    → merkle_pairs depth (length fields)
    + shared_fields (left_fields (fields_over trees fields) given)
    ≤ start.spare → HasPieceRoom start depth (pieces start trees fields given)
fields_room start depth trees fields given few room = record {
  few = omega (arith, few, pieces-many start trees fields given);
  room = omega (
    arith,
    room,
    ap (merkle_pairs depth) (pieces-many start trees fields given),
    pieces-made start trees fields given,
  );
}

pub fields_made : (start end : ArenaContent) (depth : ℕ) (trees : List SszType)
    (fields : List FieldPart) (given : List (Option NodeId)) (node : NodeId)
    → MakesPieces start end depth (pieces start trees fields given) node
    → MakesFields start end depth (fields_over trees fields) given node
fields_made start end depth trees fields given node made = record {
  is = subst (λ ps. IsPartNode end (whole_of depth ps) node) (pieces-parts start trees fields given)
      made.is;
  adds =
      let many : length (pieces start trees fields given)
      ≡ field_count (fields_over trees fields) =
      pieces-many start trees fields given ∙ sym (count-fields trees fields) in
      Adds-within _ _ _ _ start end made.adds
      (omega (arith, ap (merkle_pairs depth) many, pieces-made start trees fields given))
      (omega (
        arith,
        ap (merkle_pairs depth) many,
        pieces-few start trees fields given,
        pieces-due start trees fields given,
      ));
}

-- with no node given they are those of the default
pub default_made : (start end : ArenaContent) (depth : ℕ) (fs : Fields) (node : NodeId)
    → MakesFields start end depth fs [] node
    → MakesWith (merkle_pairs depth (field_count fs) + shared_fields fs) start end
    (whole_of depth (default_parts fs)) node
default_made start end depth fs node made = record {
  is = subst (λ ps. IsPartNode end (whole_of depth ps) node) (all_defaults start fs) made.is;
  adds = Adds-within _ _ _ _ start end made.adds
      (omega (arith, ap shared_fields (nothing_given fs)))
      (omega (
        arith,
        ap shared_fields (nothing_given fs),
        ap (λ gs. costs (default_parts gs)) (nothing_given fs),
        ap (merkle_pairs depth) (count-parts fs),
      ));
}
