-- Nodes that all entries are moved to.
use Rattle.std.proofs.Common.{◌≡◌, ℕ, Bool, true, false, cond, T, List, [], ◌∷◌, length, map, Option, Some, arith, refl, sym, ap, subst, ◌∙◌}
use Rattle.std.specs.FinMap as finite
use Rattle.std.specs.FinMap.Entries.{find, below_all}
use Rattle.std.specs.List.{All, AllByRecursion, AllZip, Contains}
use Rattle.std.specs.Ordering.{eq_by_cmp, is_eq, ordering_reverse}
use Rattle.std.proofs.lemmas.Cmp.{tied_itself}
use Rattle.std.proofs.lemmas.List.Elements.{All-cons, All-contains}
use Rattle.ssz_arena.specs.declared.node.NodeId.{NodeId}
use Rattle.ssz_arena.specs.Content.{ArenaContent, IsNodeOf}
use Rattle.ssz_arena.specs.Compacted.{IsSameNode, IsCompaction, IsReachable, at_root, to_left, to_right, PassesReachable}
use Rattle.ssz_versions.specs.Content.{Held, Entries, held_at}
use Rattle.ssz_versions.specs.Compacted.{HasNodes, IsMoved, PassesBelow, IsCompacted}
use Rattle.ssz_versions.specs.Keys.{Key, key_cmp, key_cmp-total}
use Rattle.ssz_versions.specs.Lists.{entries_moved}
use Rattle.ssz_versions.proofs.Changes.{found_is}
use Rattle.ssz_versions.proofs.Ordered.{Row, IsOrdered, first_of, rest_of, both, less_of}

-- each entry is found under its key
found_behind : (x : Key × Held) (es rest : Row) → T (below_all key_cmp x.0 rest)
    → AllByRecursion (λ e. find key_cmp e.0 es ≡ Some e.1) rest
    → AllByRecursion (λ e. find key_cmp e.0 (x ∷ es) ≡ Some e.1) rest
found_behind x es [] below found = tt
found_behind x es (e ∷ rest) below found = (
  ap (λ o. cond (is_eq o) (Some x.1) (find key_cmp e.0 es))
      (key_cmp-total.antisymm e.0 x.0
      ∙ ap ordering_reverse (less_of _ (first_of _ _ below)))
      ∙ found.0,
  found_behind x es rest (rest_of _ _ below) found.1,
)

all_found : (es : Row) → IsOrdered es
    → AllByRecursion (λ e. find key_cmp e.0 es ≡ Some e.1) es
all_found [] ordered = tt
all_found (e ∷ es) ordered = (
  ap (λ o. cond (is_eq o) (Some e.1) (find key_cmp e.0 es)) (tied_itself key_cmp-total e.0),
  found_behind e es es (first_of _ _ ordered) (all_found es (rest_of _ _ ordered)),
)

abbrev pub roots_of : Row → List NodeId
roots_of es = map (λ entry. entry.1.1) es

each_of : (P : NodeId → Type 0) (es rest : Row)
    → AllByRecursion (λ e. find key_cmp e.0 es ≡ Some e.1) rest
    → ((key : Key) (held : Held) → find key_cmp key es ≡ Some held → P held.1)
    → All P (roots_of rest)
each_of P es [] found h = λ k d inside. absurd (omega arith)
each_of P es (e ∷ rest) found h =
    All-cons P e.1.1 (roots_of rest) (h e.0 e.1 found.0) (each_of P es rest found.1 h)

-- what holds of the node of each version holds of each root
each_root : (P : NodeId → Type 0) (es : Row) (m : Entries) → IsOrdered es
    → finite.from_sorted {R = key_cmp} es ≡ m
    → ((writer : ℕ) (name : List ℕ) (held : Held) → held_at m writer name ≡ Some held → P held.1)
    → All P (roots_of es)
each_root P es m ordered view h = each_of P es es (all_found es ordered)
    (λ key held there. h key.0 key.1 held (sym (found_is es m ordered view key) ∙ there))

pub roots_are_nodes : (es : Row) (m : Entries) (arena : ArenaContent) → IsOrdered es
    → finite.from_sorted {R = key_cmp} es ≡ m → HasNodes m arena
    → All (IsNodeOf arena) (roots_of es)
roots_are_nodes es m arena = each_root (IsNodeOf arena) es m

zipped_length : {A B : Type 0} (R : A → B → Type 0) (xs : List A) (ys : List B)
    → AllZip R xs ys → length ys ≡ length xs
zipped_length R [] [] h = refl
zipped_length R [] (y ∷ ys) h = absurd h
zipped_length R (x ∷ xs) [] h = absurd h
zipped_length R (x ∷ xs) (y ∷ ys) h =
    let e : length ys ≡ length xs = zipped_length R xs ys h.1 in omega arith

same_length : (es : Row) → length (roots_of es) ≡ length es
same_length [] = refl
same_length (e ∷ es) = let h : length (roots_of es) ≡ length es = same_length es in omega arith

-- there is a new node for each entry
pub as_many : (es : Row) (roots ids : List NodeId) (before after : ArenaContent)
    → roots ≡ roots_of es → IsCompaction before after roots ids → length ids ≡ length es
as_many es roots ids before after is made =
    zipped_length (IsSameNode before after) roots ids made.nodes ∙ ap length is ∙ same_length es

moved_choice : (before after : ArenaContent) (b : Bool) (held : Held) (id : NodeId)
    (old new : Option Held)
    → IsSameNode before after held.1 id → IsMoved before after old new
    → IsMoved before after (cond b (Some held) old) (cond b (Some (held.0, id)) new)
moved_choice before after true held id old new same rest = (refl, same)
moved_choice before after false held id old new same rest = rest

each_moved : (before after : ArenaContent) (es : Row) (ids : List NodeId) (q : Key)
    → AllZip (IsSameNode before after) (roots_of es) ids
    → IsMoved before after (find key_cmp q es) (find key_cmp q (entries_moved es ids))
each_moved before after [] [] q h = tt
each_moved before after [] (id ∷ ids) q h = absurd h
each_moved before after (e ∷ es) [] q h = absurd h
each_moved before after (e ∷ es) (id ∷ ids) q h =
    moved_choice before after (eq_by_cmp key_cmp q e.0) e.1 id _ _ h.0
    (each_moved before after es ids q h.1)

-- what roots reach, one of them reaches
from_one : (arena : ArenaContent) (roots : List NodeId) (i : ℕ) → IsReachable arena.nodes roots i
    → (root : NodeId) × Contains roots root × IsReachable arena.nodes (root ∷ []) i
from_one arena roots i (at_root root inside) =
    (root, inside, at_root root (0, omega arith, refl))
from_one arena roots i (to_left j left right cached reached e) =
    let above = from_one arena roots j reached in
    (above.0, above.1, to_left j left right cached above.2 e)
from_one arena roots i (to_right j left right cached reached e) =
    let above = from_one arena roots j reached in
    (above.0, above.1, to_right j left right cached above.2 e)

passes_all : (arena : ArenaContent) (roots : List NodeId) (test : ℕ → Bool)
    → All (λ root. PassesBelow arena root test) roots → PassesReachable arena.nodes roots test
passes_all arena roots test h i reached =
    let one = from_one arena roots i reached in
    All-contains (λ root. PassesBelow arena root test) roots one.0 h one.1 i one.2

moved_below : (k : Key) (es : Row) (ids : List NodeId) → T (below_all key_cmp k es)
    → T (below_all key_cmp k (entries_moved es ids))
moved_below k [] ids h = tt
moved_below k (e ∷ es) [] h = tt
moved_below k (e ∷ es) (id ∷ ids) h =
    both _ _ (first_of _ _ h) (moved_below k es ids (rest_of _ _ h))

-- the keys stay
pub moved_ordered : (es : Row) (ids : List NodeId) → IsOrdered es → IsOrdered (entries_moved es ids)
moved_ordered [] ids h = tt
moved_ordered (e ∷ es) [] h = tt
moved_ordered (e ∷ es) (id ∷ ids) h =
    both _ _ (moved_below e.0 es ids (first_of _ _ h)) (moved_ordered es ids (rest_of _ _ h))

pub compacted : (es made : Row) (m : Entries) (roots ids : List NodeId)
    (before after : ArenaContent) → IsOrdered es → finite.from_sorted {R = key_cmp} es ≡ m
    → roots ≡ roots_of es → IsCompaction before after roots ids → made ≡ entries_moved es ids
    → IsCompacted m (finite.from_sorted made) before after
compacted es made m roots ids before after ordered view is compaction moves = record {
  entries = λ writer name.
      let q : Key = (writer, name) in
      let old : find key_cmp q es ≡ held_at m writer name = found_is es m ordered view q in
      let left : Entries = finite.from_sorted made in
      let new : find key_cmp q (entries_moved es ids) ≡ held_at left writer name =
      ap (find key_cmp q) (sym moves)
      ∙ found_is made left (subst IsOrdered (sym moves) (moved_ordered es ids ordered)) refl q in
      let zipped = subst (λ xs. AllZip (IsSameNode before after) xs ids) is compaction.nodes in
      subst (λ o. IsMoved before after o (held_at left writer name)) old
      (subst (IsMoved before after (find key_cmp q es)) new
      (each_moved before after es ids q zipped));
  unhashed = compaction.unhashed;
  count = λ test h. compaction.count test (passes_all before roots test
      (subst (All (λ root. PassesBelow before root test)) (sym is)
      (each_root (λ root. PassesBelow before root test) es m ordered view h)));
  room = compaction.room;
}
