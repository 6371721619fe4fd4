-- Nodes for the entries around one of them.
use Rattle.std.proofs.Common.{◌≡◌, ℕ, ◌+◌, ◌<◌, ◌≤◌, List, [], ◌∷◌, ◌++◌, length, drop, get_or, arith, length-append, refl, sym, ap, ◌∙◌}
use Rattle.std.proofs.lemmas.List.{drop-drop, drop_more, length-drop}
use Rattle.ssz_arena.specs.declared.node.NodeId.{NodeId}
use Rattle.ssz_versions.specs.Content.{Held}
use Rattle.ssz_versions.specs.Keys.{Key}
use Rattle.ssz_versions.specs.Lists.{entries_moved}
use Rattle.ssz_versions.proofs.Ordered.{Row}

pub moved-append : (l m : Row) (ids : List NodeId) → length l ≤ length ids
    → entries_moved (l ++ m) ids ≡ entries_moved l ids ++ entries_moved m (drop (length l) ids)
moved-append [] m ids few = refl
moved-append (e ∷ l) m [] few = absurd (omega arith)
moved-append (e ∷ l) m (id ∷ ids) few =
    ap (λ row. (e.0, (e.1.0, id)) ∷ row) (moved-append l m ids (omega arith))

-- the entry has the node behind those of the entries to its left
pub moved_fork : (l : Row) (e : Key × Held) (r : Row) (nodes : List NodeId) (at own : ℕ)
    (id : NodeId)
    → own ≡ at + length l → own < length nodes → drop own nodes ≡ id ∷ drop (own + 1) nodes
    → entries_moved (l ++ e ∷ r) (drop at nodes)
    ≡ entries_moved l (drop at nodes) ++ (e.0, (e.1.0, id)) ∷ entries_moved r (drop (own + 1) nodes)
moved_fork l e r nodes at own id place inside found =
    moved-append l (e ∷ r) (drop at nodes) (omega (arith, length-drop at nodes))
    ∙ ap (λ ids. entries_moved l (drop at nodes) ++ entries_moved (e ∷ r) ids)
    (drop-drop (length l) at nodes ∙ ap (λ i. drop i nodes) (omega (arith, place)) ∙ found)

-- an entry between those of its sides, which have their nodes
pub moved_all : (l : Row) (e : Key × Held) (r : Row) (nodes : List NodeId) (at own : ℕ) (d : NodeId)
    (left right all row : Row) → own ≡ at + length l → at + length row ≤ length nodes
    → row ≡ l ++ e ∷ r → left ≡ entries_moved l (drop at nodes)
    → right ≡ entries_moved r (drop (own + 1) nodes)
    → all ≡ left ++ (e.0, (e.1.0, get_or nodes own d)) ∷ right
    → all ≡ entries_moved row (drop at nodes)
moved_all l e r nodes at own d left right all row place few is left_is right_is all_is =
    let inside : own < length nodes =
    omega (arith, place, few, ap length is, length-append l (e ∷ r)) in
    let id = get_or nodes own d in
    all_is
    ∙ ap (λ xs. xs ++ (e.0, (e.1.0, id)) ∷ right) left_is
    ∙ ap (λ xs. entries_moved l (drop at nodes) ++ (e.0, (e.1.0, id)) ∷ xs) right_is
    ∙ sym (moved_fork l e r nodes at own id place inside (drop_more nodes own d inside))
    ∙ ap (λ xs. entries_moved xs (drop at nodes)) (sym is)
