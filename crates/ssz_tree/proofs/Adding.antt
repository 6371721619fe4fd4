-- What calls add to an arena, one after another.
use Rattle.std.proofs.Common.{◌≡◌, ℕ, suc, slice_index, ◌+◌, ◌-◌, ◌^◌, ◌<◌, ◌≤◌, min, List, [], ◌∷◌, length, take, drop, refl, sym, ap, ap₂, subst, ◌∙◌, arith, zero-add, length-drop}
use Rattle.std.proofs.lemmas.List.{take-map, drop-map, take-append-drop, length-take}
use Rattle.std.specs.List.{count_by}
use Rattle.std.proofs.lemmas.List.Sums.{sum_by-append}
use Rattle.ssz_chunk.specs.Chunk.{zero_chunk}
use Rattle.ssz_chunk.specs.Tree.{leaf, pair, merkle_tree, merkle_pairs, zero_tree}
use Rattle.ssz_chunk.proofs.Growing.{grow-suc}
use Rattle.ssz_chunk.proofs.Trees.{full-zero, full-suc}
use Rattle.ssz_arena.specs.declared.node.NodeId.{NodeId}
use Rattle.ssz_arena.specs.Named.{ArenaNode as Node}
use Rattle.ssz_arena.specs.Content.{ArenaContent, tree_of, todo, todos, is_unhashed, unhashed, node_count, IsNodeOf, KeepsNodes, KeepsTodo}
use Rattle.ssz_arena.proofs.Keeping.{keeps_same, keeps_trans}
use Rattle.ssz_tree.specs.Added.{AddsNodes, IsPartNode, MakesNode, TakesRoom}
use Rattle.ssz_making.specs.Parts.{MadePart, part_trees, costs, whole_of, joined_leaf, chunk_part, none_part}
use Rattle.ssz_tree.specs.Stack.{LevelsAreNodes}

-- as much is to be hashed as before, over two calls
todo_then : (old middle new : ArenaContent) → KeepsNodes old middle → KeepsTodo old middle
    → KeepsTodo middle new → KeepsTodo old new
todo_then old middle new keeps first second = record {
  each = λ id inside. second.each id (omega (arith, inside, keeps.count)) ∙ first.each id inside;
}

-- nothing was made
pub Adds-none : (arena : ArenaContent) → AddsNodes 0 0 arena arena
Adds-none arena = record {
  keeps = keeps_same arena arena refl;
  same = record { each = λ id inside. refl };
  count = omega arith;
  unhashed = omega arith;
  spare = omega arith;
  room = λ _. refl;
}

-- one call, and then another
pub Adds-then : (n p m q : ℕ) (old middle new : ArenaContent) → AddsNodes n p old middle
    → AddsNodes m q middle new → AddsNodes (n + m) (p + q) old new
Adds-then n p m q old middle new first second = record {
  keeps = keeps_trans first.keeps second.keeps;
  same = todo_then old middle new first.keeps first.same second.same;
  count = omega (arith, first.count, second.count);
  unhashed = omega (arith, first.unhashed, second.unhashed);
  spare = omega (arith, first.spare, second.spare);
  room = λ enough.
      let one = first.room (omega (arith, enough)) in
      let other = second.room (omega (arith, enough, first.spare)) in
      omega (arith, one, other);
}

-- it is no more than this
pub Adds-within : (n p m q : ℕ) (old new : ArenaContent) → AddsNodes n p old new → n ≤ m → p ≤ q
    → AddsNodes m q old new
Adds-within n p m q old new adds nodes pairs = record {
  keeps = adds.keeps;
  same = adds.same;
  count = omega (arith, adds.count);
  unhashed = omega (arith, adds.unhashed);
  spare = omega (arith, adds.spare);
  room = λ enough. adds.room (omega (arith, enough, nodes));
}

-- memory was taken before, for as many nodes at least where there was no room for them
pub Adds-after : (n p : ℕ) (old mid new : ArenaContent) → mid.nodes ≡ old.nodes
    → old.spare ≤ mid.spare → (n ≤ old.spare → mid ≡ old) → AddsNodes n p mid new
    → AddsNodes n p old new
Adds-after n p old mid new same more stays adds =
    let count : node_count mid ≡ node_count old = ap (λ (ns : List Node). length ns) same in
    record {
      keeps = keeps_trans (keeps_same old mid same) adds.keeps;
      same = record {
        each = λ id inside.
            adds.same.each id (omega (arith, inside, count))
            ∙ ap (λ ns. slice_index (todos ns) id.0) same;
      };
      count = omega (arith, adds.count, count);
      unhashed = omega (arith, adds.unhashed, ap (count_by is_unhashed) same);
      spare = omega (arith, adds.spare, more);
      room = λ enough. subst (λ a. node_count new + new.spare ≡ node_count a + a.spare)
          (stays enough) (adds.room (omega (arith, enough, more)));
    }

-- and what it took is what the nodes have
pub Takes-after : (n m p : ℕ) (old mid new : ArenaContent) → TakesRoom m old mid → m ≤ n
    → n ≤ mid.spare → AddsNodes n p mid new → TakesRoom n old new
Takes-after n m p old mid new takes few room adds = omega (arith, takes, few, adds.room room)

-- a leaf, a pair
pub Adds-leaf : (old new : ArenaContent) → KeepsNodes old new → KeepsTodo old new
    → unhashed new ≡ unhashed old → node_count new ≡ node_count old + 1
    → new.spare + 1 ≡ old.spare → AddsNodes 1 0 old new
Adds-leaf old new keeps same hashed more less = record {
  keeps = keeps;
  same = same;
  count = omega (arith, more);
  unhashed = omega (arith, hashed);
  spare = omega (arith, less);
  room = λ enough. omega (arith, more, less);
}

pub Adds-pair : (old new : ArenaContent) → KeepsNodes old new → KeepsTodo old new
    → unhashed new ≡ unhashed old + 1 → node_count new ≡ node_count old + 1
    → new.spare + 1 ≡ old.spare → AddsNodes 1 1 old new
Adds-pair old new keeps same one more less = record {
  keeps = keeps;
  same = same;
  count = omega (arith, more);
  unhashed = omega (arith, one);
  spare = omega (arith, less);
  room = λ enough. omega (arith, more, less);
}

-- a pair a level from the lowest on
pub one_more : (low level : ℕ) (first now end : ArenaContent) → low ≤ level
    → AddsNodes (level - low) (level - low) first now → AddsNodes 1 1 now end
    → AddsNodes (level + 1 - low) (level + 1 - low) first end
one_more low level first now end above before last =
    let sum : level - low + 1 ≡ level + 1 - low = omega arith in
    subst (λ n. AddsNodes n n first end) sum (Adds-then _ _ 1 1 first now end before last)

-- what a caller holds stays
pub IsPart-kept : (old new : ArenaContent) (part : MadePart) (node : NodeId) → KeepsNodes old new
    → IsPartNode old part node → IsPartNode new part node
IsPart-kept old new part node keeps is = record {
  node = omega (arith, is.node, keeps.count);
  tree = keeps.trees node is.node ∙ is.tree;
  todo = omega (arith, keeps.todo node is.node, is.todo);
}

pub AreNodes-kept : (old new : ArenaContent) (nodes : List NodeId) → KeepsNodes old new
    → LevelsAreNodes old nodes → LevelsAreNodes new nodes
AreNodes-kept old new nodes keeps all = record {
  each = λ k within. omega (arith, all.each k within, keeps.count);
}

-- the full tree of depth 0 over one part is that part
pub IsPart-one : (arena : ArenaContent) (part : MadePart) (node : NodeId)
    → IsPartNode arena part node
    → IsPartNode arena (whole_of 0 (part ∷ [])) node
unfolding merkle_pairs
IsPart-one arena part node is = record {
  node = is.node;
  tree = is.tree ∙ sym (full-zero (part.tree ∷ []));
  todo = omega (arith, is.todo, zero-add part.cost);
}

-- with no part it is the zero tree
pub IsPart-none : (arena : ArenaContent) (d : ℕ) (node : NodeId) → IsNodeOf arena node
    → tree_of arena node ≡ zero_tree d → todo arena node ≡ 0 → IsPartNode arena (whole_of d []) node
IsPart-none arena d node inside tree due =
    record { node = inside; tree = tree; todo = omega (arith, due) }

-- a pair of the full trees over the two halves
pub IsPart-join : (old new : ArenaContent) (d : ℕ) (parts : List MadePart)
    (left right node : NodeId)
    → 0 < length parts → length parts ≤ 2 ^ suc d
    → IsPartNode old (whole_of d (take (2 ^ d) parts)) left
    → IsPartNode old (whole_of d (drop (2 ^ d) parts)) right
    → IsNodeOf new node → tree_of new node ≡ pair (tree_of old left) (tree_of old right)
    → todo new node ≡ 1 + todo old left + todo old right
    → IsPartNode new (whole_of (suc d) parts) node
IsPart-join old new d parts left right node some few is_left is_right inside tree due =
    let halves : merkle_tree (suc d) (part_trees parts)
    ≡ pair (merkle_tree d (part_trees (take (2 ^ d) parts)))
    (merkle_tree d (part_trees (drop (2 ^ d) parts))) =
    full-suc d (part_trees parts) ∙ ap₂ (λ ls rs. pair (merkle_tree d ls) (merkle_tree d rs))
    (take-map (λ (part : MadePart). part.tree) (2 ^ d) parts)
    (drop-map (λ (part : MadePart). part.tree) (2 ^ d) parts) in
    let first : length (take (2 ^ d) parts) ≡ min (2 ^ d) (length parts) =
    length-take (2 ^ d) parts in
    let rest : length (drop (2 ^ d) parts) ≡ length parts - 2 ^ d = length-drop (2 ^ d) parts in
    let sum : costs parts ≡ costs (take (2 ^ d) parts) + costs (drop (2 ^ d) parts) =
    ap costs (sym (take-append-drop (2 ^ d) parts))
    ∙ sum_by-append (λ (part : MadePart). part.cost) (take (2 ^ d) parts) (drop (2 ^ d) parts) in
    record {
      node = inside;
      tree = tree ∙ ap₂ pair is_left.tree is_right.tree ∙ sym halves;
      todo = omega (
        arith,
        due,
        is_left.todo,
        is_right.todo,
        grow-suc d (length parts) some few,
        ap (merkle_pairs d) first,
        ap (merkle_pairs d) rest,
        sum,
      );
    }

-- a leaf was made
pub makes_leaf : (old new : ArenaContent) (chunk : List ℕ) (id : NodeId) → IsNodeOf new id
    → tree_of new id ≡ leaf chunk → todo new id ≡ 0 → KeepsNodes old new → KeepsTodo old new
    → unhashed new ≡ unhashed old → node_count new ≡ node_count old + 1
    → new.spare + 1 ≡ old.spare → MakesNode old new (chunk_part chunk) id
makes_leaf old new chunk id inside tree due keeps same hashed more less = record {
  is = record { node = inside; tree = tree; todo = omega (arith, due) };
  adds = Adds-leaf old new keeps same hashed more less;
}

-- the zero leaf, which the arena has
pub makes_zero : (arena : ArenaContent) (id : NodeId) → IsNodeOf arena id
    → tree_of arena id ≡ zero_tree 0 → todo arena id ≡ 0
    → MakesNode arena arena (chunk_part zero_chunk) id
makes_zero arena id inside tree due = record {
  is = record { node = inside; tree = tree ∙ full-zero []; todo = omega (arith, due) };
  adds = Adds-within 0 0 1 0 arena arena (Adds-none arena) (omega arith) (omega arith);
}

-- a pair was made
pub record MakesPair (old new : ArenaContent) (left right id : NodeId) : Type 0 where
  pub node : IsNodeOf new id
  pub tree : tree_of new id ≡ pair (tree_of old left) (tree_of old right)
  pub todo : todo new id ≡ 1 + todo old left + todo old right
  pub adds : AddsNodes 1 1 old new

pub makes_pair : (old new : ArenaContent) (left right id : NodeId) → IsNodeOf new id
    → tree_of new id ≡ pair (tree_of old left) (tree_of old right)
    → todo new id ≡ 1 + todo old left + todo old right → KeepsNodes old new → KeepsTodo old new
    → unhashed new ≡ unhashed old + 1 → node_count new ≡ node_count old + 1
    → new.spare + 1 ≡ old.spare → MakesPair old new left right id
makes_pair old new left right id inside tree due keeps same one more less = record {
  node = inside;
  tree = tree;
  todo = due;
  adds = Adds-pair old new keeps same one more less;
}

-- a part, a leaf, and the pair of both
pub Makes-joined : (old first second new : ArenaContent) (part : MadePart) (chunk : List ℕ)
    (node number top : NodeId) → MakesNode old first part node
    → MakesNode first second (chunk_part chunk) number
    → MakesPair second new node number top → MakesNode old new (joined_leaf part chunk) top
Makes-joined old first second new part chunk node number top made a b =
    let kept = IsPart-kept first second part node a.adds.keeps made.is in
    record {
      is = record {
        node = b.node;
        tree = b.tree ∙ ap₂ pair kept.tree a.is.tree;
        todo = omega (arith, b.todo, kept.todo, a.is.todo);
      };
      adds = Adds-within _ _ _ _ old new
          (Adds-then _ _ 1 1 old second new (Adds-then _ _ 1 0 old first second made.adds a.adds)
          b.adds)
          (omega arith) (omega arith);
    }

-- the option None, whose chunk the arena has
pub Makes-none : (arena : ArenaContent) (id : NodeId) → IsNodeOf arena id
    → tree_of arena id ≡ zero_tree 0 → todo arena id ≡ 0 → MakesNode arena arena none_part id
Makes-none arena id inside tree due = record {
  is = record { node = inside; tree = tree ∙ full-zero []; todo = omega (arith, due) };
  adds = Adds-none arena;
}

-- an equal part
pub Makes-same : (old new : ArenaContent) (a b : MadePart) (id : NodeId) → a ≡ b
    → MakesNode old new a id
    → MakesNode old new b id
Makes-same old new a b id e made = subst (λ part. MakesNode old new part id) e made

-- a number's leaf and the pair find room
pub joined_room : (start first : ArenaContent) (nodes n : ℕ) → nodes + 2 ≡ n → n ≤ start.spare
    → start.spare ≤ first.spare + nodes → 2 ≤ first.spare
joined_room start first nodes n is room made = omega arith
