-- The room of a maker of nodes, and what it keeps.
use Rattle.std.proofs.Common.{◌≡◌, ℕ, ◌+◌, ◌-◌, ◌^◌, ◌<◌, ◌≤◌, List, [], ◌∷◌, ◌++◌, length, take, refl, sym, ap, subst, ◌∙◌, arith, length-append}
use Rattle.std.proofs.lemmas.List.{append-nil, take_all}
use Rattle.ssz_chunk.specs.Tree.{merkle_pairs}
use Rattle.ssz_merkle.specs.Frontier.{whole_pairs}
use Rattle.ssz_arena.specs.declared.node.NodeId.{NodeId}
use Rattle.ssz_arena.specs.Content.{ArenaContent}
use Rattle.ssz_making.specs.Parts.{MadePart, costs, part_nodes, whole_of}
use Rattle.ssz_making.proofs.Placing.{IsAt, IsAt-cons}
use Rattle.ssz_tree.specs.Added.{AddsNodes, IsPartNode, MakesNode}
use Rattle.ssz_tree.specs.Stack.{Stack, StackHolds}
use Rattle.ssz_tree.specs.Making.{PushesNodes}
use Rattle.ssz_tree.proofs.Gathering.{First, CanPush, CanFinish, First-start, First-push, First-more, First-finish, First-done}

-- a part stands behind those before it
at_seam : (before rest : List MadePart) (one : MadePart)
    → IsAt (before ++ one ∷ rest) (length before) one
at_seam [] rest one = record { below = omega arith; more = refl }
at_seam (part ∷ before) rest one =
    IsAt-cons part (before ++ one ∷ rest) (length before) one (at_seam before rest one)

take_seam : (before rest : List MadePart) → take (length before) (before ++ rest) ≡ before
take_seam [] rest = refl
take_seam (part ∷ before) rest = ap (λ ps. part ∷ ps) (take_seam before rest)

-- the first of all were pushed
pub first : (start now : ArenaContent) (d : ℕ) (before rest all : List MadePart) (rows : Stack)
    → before ++ rest ≡ all → PushesNodes start now d before rows
    → First start now d rows all (length before)
first start now d before rest all rows is h =
    let front : before ≡ take (length before) all =
    sym (take_seam before rest) ∙ ap (take (length before)) is in
    record {
      deep = h.deep;
      within = omega (arith, length-append before rest, ap (λ (ps : List MadePart). length ps) is);
      holds = subst (λ ps. StackHolds now ps rows) front h.holds;
      adds = subst (λ ps. AddsNodes (whole_pairs d (length before) + part_nodes ps)
          (whole_pairs d (length before) + costs ps) start now) front h.adds;
    }

-- all of them
pub all_pushed : (start now : ArenaContent) (d i : ℕ) (parts : List MadePart) (rows : Stack)
    → First start now d rows parts i → i ≡ length parts → PushesNodes start now d parts rows
all_pushed start now d i parts rows h last =
    let all : take i parts ≡ parts = take_all i parts (omega (arith, last)) in
    record {
      deep = h.deep;
      holds = subst (λ ps. StackHolds now ps rows) all h.holds;
      adds = subst (λ n. AddsNodes (whole_pairs d n + part_nodes parts)
          (whole_pairs d n + costs parts)
          start now) last
          (subst (λ ps. AddsNodes (whole_pairs d i + part_nodes ps) (whole_pairs d i + costs ps)
          start now) all h.adds);
    }

pub none_pushed : (now : ArenaContent) (d : ℕ) (rows : Stack) → rows.depth ≡ d
    → StackHolds now [] rows
    → PushesNodes now now d [] rows
none_pushed now d rows deep held =
    all_pushed now now d 0 [] rows (First-start now d rows [] deep held) refl

-- one more
pub can_push : (start middle now : ArenaContent) (d : ℕ) (before rest : List MadePart)
    (one : MadePart)
    (rows : Stack) (node : NodeId) → PushesNodes start middle d before rows
    → MakesNode middle now one node → length (before ++ one ∷ rest) ≤ 2 ^ d
    → (whole_of d (before ++ one ∷ rest)).nodes ≤ start.spare → CanPush now rows
can_push start middle now d before rest one rows node h made few room =
    First-push start middle now d rows (before ++ one ∷ rest) (length before) one node
    (first start middle d before (one ∷ rest) (before ++ one ∷ rest) rows refl h)
    (at_seam before rest one) (record { few = few; room = room }) made

-- a u64 counts them
pub few_pushed : (now : ArenaContent) (before rest : List MadePart) (one : MadePart) (rows : Stack)
    → StackHolds now before rows → length (before ++ one ∷ rest) < 2 ^ 64
    → rows.pushed + 1 < 2 ^ 64
few_pushed now before rest one rows held few =
    omega (arith, held.number, few, length-append before (one ∷ rest))

pub one_more : (start middle now end : ArenaContent) (d : ℕ) (parts : List MadePart)
    (one : MadePart)
    (rows after : Stack) (node : NodeId) → PushesNodes start middle d parts rows
    → MakesNode middle now one node → after.depth ≡ rows.depth
    → ((ps : List MadePart) (p : MadePart) → StackHolds now ps rows → IsPartNode now p node
    → StackHolds end (ps ++ p ∷ []) after)
    → (let made = whole_pairs rows.depth (rows.pushed + 1) - whole_pairs rows.depth rows.pushed in
    AddsNodes made made now end)
    → PushesNodes start end d (parts ++ one ∷ []) after
one_more start middle now end d parts one rows after node h made stays held adds =
    all_pushed start end d (length parts + 1) (parts ++ one ∷ []) after
    (First-more start middle now end d rows after (parts ++ one ∷ []) (length parts) one node
    (first start middle d parts (one ∷ []) (parts ++ one ∷ []) rows refl h)
    (at_seam parts [] one) made stays held adds)
    (sym (length-append parts (one ∷ [])))

-- the end
pub can_finish : (start now : ArenaContent) (d : ℕ) (parts : List MadePart) (rows : Stack)
    → PushesNodes start now d parts rows → length parts ≤ 2 ^ d
    → (whole_of d parts).nodes ≤ start.spare → CanFinish now rows
can_finish start now d parts rows h few room =
    First-finish start now d rows parts (length parts)
    (first start now d parts [] parts rows (append-nil parts) h) refl
    (record { few = few; room = room })

pub finished : (start now end : ArenaContent) (d : ℕ) (parts : List MadePart) (rows : Stack)
    (node : NodeId) → PushesNodes start now d parts rows
    → ((ps : List MadePart) → StackHolds now ps rows → IsPartNode end (whole_of rows.depth ps) node)
    → (let made = merkle_pairs rows.depth rows.pushed - whole_pairs rows.depth rows.pushed in
    AddsNodes made made now end)
    → MakesNode start end (whole_of d parts) node
finished start now end d parts rows node h held adds =
    First-done start now end d rows parts (length parts) node
    (first start now d parts [] parts rows (append-nil parts) h) refl held adds
