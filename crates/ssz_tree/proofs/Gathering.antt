-- What a caller's loop keeps that makes the nodes of parts one after another and pushes them, and
-- what it has at the end.
use Rattle.std.proofs.Common.{◌≡◌, ℕ, ◌+◌, ◌-◌, ◌^◌, ◌<◌, ◌≤◌, List, [], ◌∷◌, ◌++◌, length, take, drop, sym, ap, subst, ◌∙◌, arith, zero-add}
use Rattle.std.specs.List.{sum_by}
use Rattle.std.proofs.lemmas.List.{take_all, take-append-drop, length-take-le}
use Rattle.std.proofs.lemmas.List.Sums.{sum_by-append}
use Rattle.ssz_chunk.specs.Tree.{merkle_pairs}
use Rattle.ssz_arena.specs.declared.node.NodeId.{NodeId}
use Rattle.ssz_arena.specs.Content.{ArenaContent}
use Rattle.ssz_merkle.specs.Frontier.{whole_pairs}
use Rattle.ssz_merkle.proofs.WholePairs.{whole_pairs-rises, whole_pairs-le-grow}
use Rattle.ssz_tree.specs.Added.{AddsNodes, IsPartNode, MakesNode}
use Rattle.ssz_making.specs.Parts.{MadePart, costs, part_nodes, whole_of}
use Rattle.ssz_making.proofs.Placing.{IsAt}
use Rattle.ssz_tree.specs.RoomLaws.{whole_pairs-mono}
use Rattle.ssz_tree.specs.Stack.{Stack, LevelsAreNodes, StackHolds}
use Rattle.ssz_tree.proofs.Adding.{Adds-none, Adds-then, Adds-within, AreNodes-kept}
use Rattle.ssz_tree.proofs.Holding.{Holds-kept}

-- a sum over the first parts, with one more, and at most over all
sum-more : (f : MadePart → ℕ) (all : List MadePart) (i : ℕ) (part : MadePart) → IsAt all i part
    → sum_by f (take (i + 1) all) ≡ sum_by f (take i all) + f part
sum-more f all i part at = ap (sum_by f) at.more ∙ sum_by-append f (take i all) (part ∷ [])
    ∙ ap (λ n. sum_by f (take i all) + n) (zero-add (f part))

pub costs-more : (all : List MadePart) (i : ℕ) (part : MadePart) → IsAt all i part
    → costs (take (i + 1) all) ≡ costs (take i all) + part.cost
costs-more = sum-more (λ (p : MadePart). p.cost)

pub nodes-more : (all : List MadePart) (i : ℕ) (part : MadePart) → IsAt all i part
    → part_nodes (take (i + 1) all) ≡ part_nodes (take i all) + part.nodes
nodes-more = sum-more (λ (p : MadePart). p.nodes)

nodes-first : (all : List MadePart) (i : ℕ) → part_nodes (take i all) ≤ part_nodes all
nodes-first all i =
    let sum : part_nodes all ≡ part_nodes (take i all) + part_nodes (drop i all) =
    ap part_nodes (sym (take-append-drop i all))
    ∙ sum_by-append (λ (p : MadePart). p.nodes) (take i all) (drop i all) in
    omega (arith, sum)

-- the nodes of the first i of these parts were made and pushed
pub record First (start now : ArenaContent) (depth : ℕ) (stack : Stack) (all : List MadePart)
    (i : ℕ) : Type 0 where
  pub deep : stack.depth ≡ depth
  pub within : i ≤ length all
  pub holds : StackHolds now (take i all) stack
  pub adds : AddsNodes (whole_pairs depth i + part_nodes (take i all))
      (whole_pairs depth i + costs (take i all)) start now

-- there is room for all of them
pub record HasRoom (start : ArenaContent) (depth : ℕ) (all : List MadePart) : Type 0 where
  pub few : length all ≤ 2 ^ depth
  pub room : merkle_pairs depth (length all) + part_nodes all ≤ start.spare

pub has_room : (start : ArenaContent) (d count : ℕ) (all : List MadePart) → length all ≡ count
    → count ≤ 2 ^ d → (whole_of d all).nodes ≤ start.spare → HasRoom start d all
has_room start d count all many few room = record {
  few = omega (arith, many);
  room = room;
}

pub First-start : (start : ArenaContent) (depth : ℕ) (stack : Stack) (all : List MadePart)
    → stack.depth ≡ depth → StackHolds start [] stack → First start start depth stack all 0
First-start start depth stack all deep held = record {
  deep = deep;
  within = omega arith;
  holds = held;
  adds = Adds-within 0 0 _ _ start start (Adds-none start) (omega arith) (omega arith);
}

-- so many were pushed
pub First-pushed : (start now : ArenaContent) (depth : ℕ) (stack : Stack) (all : List MadePart)
    (i : ℕ)
    → First start now depth stack all i → stack.pushed ≡ i
First-pushed start now depth stack all i h = h.holds.number ∙ length-take-le i all h.within

-- for the next one's node, and then for its place
pub First-room : (start now : ArenaContent) (depth : ℕ) (stack : Stack) (all : List MadePart)
    (i : ℕ)
    (part : MadePart) → First start now depth stack all i → IsAt all i part
    → HasRoom start depth all
    → part.nodes ≤ now.spare
First-room start now depth stack all i part h at room =
    let above : whole_pairs depth i ≤ merkle_pairs depth (length all) = omega (
      arith,
      ap (whole_pairs depth) (let all_of : i + (length all - i) ≡ length all = omega
          (arith, h.within) in all_of),
      whole_pairs-mono depth i (length all - i),
      whole_pairs-le-grow depth (length all),
    ) in
    omega (
      arith,
      h.adds.spare,
      room.room,
      above,
      nodes-more all i part at,
      nodes-first all (i + 1),
    )

-- what a push asks for
pub record CanPush (now : ArenaContent) (stack : Stack) : Type 0 where
  pub below : stack.pushed < 2 ^ stack.depth
  pub nodes : LevelsAreNodes now stack.nodes
  pub room : whole_pairs stack.depth (stack.pushed + 1)
      - whole_pairs stack.depth stack.pushed ≤ now.spare

pub First-push : (start now middle : ArenaContent) (depth : ℕ) (stack : Stack) (all : List MadePart)
    (i : ℕ) (part : MadePart) (node : NodeId) → First start now depth stack all i → IsAt all i part
    → HasRoom start depth all → MakesNode now middle part node → CanPush middle stack
First-push start now middle depth stack all i part node h at room made =
    let count : stack.pushed ≡ i = First-pushed start now depth stack all i h in
    let above : whole_pairs depth (i + 1) ≤ merkle_pairs depth (length all) = omega (
      arith,
      ap (whole_pairs depth) (let all_of : i + 1 + (length all - (i + 1)) ≡ length all = omega
          (arith, at.below) in all_of),
      whole_pairs-mono depth (i + 1) (length all - (i + 1)),
      whole_pairs-le-grow depth (length all),
    ) in
    let spare : whole_pairs depth (i + 1) - whole_pairs depth i ≤ middle.spare = omega (
      arith,
      h.adds.spare,
      made.adds.spare,
      room.room,
      above,
      nodes-more all i part at,
      nodes-first all (i + 1),
    ) in
    let here : stack.pushed < 2 ^ depth = omega (arith, count, at.below, room.few) in
    record {
      below = subst (λ d. stack.pushed < 2 ^ d) (sym h.deep) here;
      nodes = AreNodes-kept now middle stack.nodes made.adds.keeps h.holds.nodes;
      room = subst (λ d. whole_pairs d (stack.pushed + 1) - whole_pairs d stack.pushed
          ≤ middle.spare) (sym h.deep)
          (subst (λ n. whole_pairs depth (n + 1) - whole_pairs depth n ≤ middle.spare) (sym count)
          spare);
    }

pub First-more : (start now middle end : ArenaContent) (depth : ℕ) (stack after : Stack)
    (all : List MadePart) (i : ℕ) (part : MadePart) (node : NodeId)
    → First start now depth stack all i → IsAt all i part → MakesNode now middle part node
    → after.depth ≡ stack.depth
    → ((parts : List MadePart) (one : MadePart) → StackHolds middle parts stack
    → IsPartNode middle one node
    → StackHolds end (parts ++ one ∷ []) after)
    → (let made = whole_pairs stack.depth (stack.pushed + 1)
    - whole_pairs stack.depth stack.pushed in AddsNodes made made middle end)
    → First start end depth after all (i + 1)
First-more start now middle end depth stack after all i part node h at made stays held adds =
    let count : stack.pushed ≡ i = First-pushed start now depth stack all i h in
    let pushes : AddsNodes (whole_pairs depth (i + 1) - whole_pairs depth i)
    (whole_pairs depth (i + 1) - whole_pairs depth i) middle end =
    subst (λ n. AddsNodes (whole_pairs depth (n + 1) - whole_pairs depth n)
    (whole_pairs depth (n + 1) - whole_pairs depth n) middle end) count
    (subst (λ d. AddsNodes (whole_pairs d (stack.pushed + 1) - whole_pairs d stack.pushed)
    (whole_pairs d (stack.pushed + 1) - whole_pairs d stack.pushed) middle end) h.deep adds) in
    record {
      deep = stays ∙ h.deep;
      within = omega (arith, at.below);
      holds = subst (λ ps. StackHolds end ps after) (sym at.more)
          (held (take i all) part (Holds-kept now middle (take i all) stack made.adds.keeps h.holds)
          made.is);
      adds = Adds-within _ _ _ _ start end
          (Adds-then _ _ _ _ start middle end
          (Adds-then _ _ _ _ start now middle h.adds made.adds) pushes)
          (omega (arith, nodes-more all i part at, whole_pairs-rises depth i))
          (omega (arith, costs-more all i part at, whole_pairs-rises depth i));
    }

-- at the end
pub record CanFinish (now : ArenaContent) (stack : Stack) : Type 0 where
  pub nodes : LevelsAreNodes now stack.nodes
  pub room : merkle_pairs stack.depth stack.pushed - whole_pairs stack.depth stack.pushed
      ≤ now.spare

pub First-finish : (start now : ArenaContent) (depth : ℕ) (stack : Stack) (all : List MadePart)
    (i : ℕ)
    → First start now depth stack all i → i ≡ length all → HasRoom start depth all
    → CanFinish now stack
First-finish start now depth stack all i h last room =
    let count : stack.pushed ≡ length all = First-pushed start now depth stack all i h ∙ last in
    let same : whole_pairs depth i ≡ whole_pairs depth (length all) =
    ap (whole_pairs depth) last in
    let spare : merkle_pairs depth (length all) - whole_pairs depth (length all) ≤ now.spare =
    omega (
      arith,
      h.adds.spare,
      room.room,
      same,
      nodes-first all i,
    ) in
    record {
      nodes = h.holds.nodes;
      room = subst (λ d. merkle_pairs d stack.pushed - whole_pairs d stack.pushed ≤ now.spare)
          (sym h.deep)
          (subst (λ n. merkle_pairs depth n - whole_pairs depth n ≤ now.spare) (sym count) spare);
    }

pub First-done : (start now end : ArenaContent) (depth : ℕ) (stack : Stack) (all : List MadePart)
    (i : ℕ)
    (node : NodeId) → First start now depth stack all i → i ≡ length all
    → ((parts : List MadePart) → StackHolds now parts stack
    → IsPartNode end (whole_of stack.depth parts) node)
    → (let made = merkle_pairs stack.depth stack.pushed - whole_pairs stack.depth stack.pushed in
    AddsNodes made made now end)
    → MakesNode start end (whole_of depth all) node
First-done start now end depth stack all i node h last held adds =
    let count : stack.pushed ≡ length all = First-pushed start now depth stack all i h ∙ last in
    let same : whole_pairs depth i ≡ whole_pairs depth (length all) =
    ap (whole_pairs depth) last in
    let taken : take i all ≡ all = take_all i all (omega (arith, last)) in
    let sum : costs (take i all) ≡ costs all = ap costs taken in
    let nodes : part_nodes (take i all) ≡ part_nodes all = ap part_nodes taken in
    let finishes : AddsNodes (merkle_pairs depth (length all) - whole_pairs depth (length all))
    (merkle_pairs depth (length all) - whole_pairs depth (length all)) now end =
    subst (λ n. AddsNodes (merkle_pairs depth n - whole_pairs depth n)
    (merkle_pairs depth n - whole_pairs depth n) now end) count
    (subst (λ d. AddsNodes (merkle_pairs d stack.pushed - whole_pairs d stack.pushed)
    (merkle_pairs d stack.pushed - whole_pairs d stack.pushed) now end) h.deep adds) in
    record {
      is = subst (λ d. IsPartNode end (whole_of d all) node) h.deep
          (subst (λ ps. IsPartNode end (whole_of stack.depth ps) node) taken
          (held (take i all) h.holds));
      adds = Adds-within _ _ _ _ start end
          (Adds-then _ _ _ _ start now end h.adds finishes)
          (omega (arith, nodes, same, whole_pairs-le-grow depth (length all)))
          (omega (arith, sum, same, whole_pairs-le-grow depth (length all)));
    }
