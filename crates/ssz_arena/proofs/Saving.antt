-- What is hashed for a node is hashed no more for what it is a part of.
use Rattle.std.proofs.Common.{inl, inr, ◌⊎◌, ⊎_elim, ◌≡◌, ℕ, ◌+◌, ◌≤◌, Bool, true, false, List, [], ◌∷◌, slice_get, refl, sym, ap, ◌∙◌, Option, Some, None, arith}
use Rattle.std.specs.Option.{option_and_then}
use Rattle.std.proofs.lemmas.Option.{none-some, same_Some}
use Rattle.ssz_chunk.specs.declared.Chunk.{Chunk}
use Rattle.ssz_arena.specs.declared.node.NodeId.{NodeId}
use Rattle.ssz_arena.specs.declared.node.Node.{Node}
use Rattle.ssz_arena.specs.declared.node.Node.TheVariants.{Leaf, Pair}
use Rattle.ssz_arena.specs.Content.{ArenaContent, child, node_at, todo}
use Rattle.ssz_arena.specs.Filled.{FillsUpTo}
use Rattle.ssz_arena.specs.Invariant.{IsArena}
use Rattle.ssz_arena.proofs.Nodes.{due, due-cached, due-pair}
use Rattle.ssz_arena.proofs.Seen.{children_due}

module _ (p : List ℕ → List ℕ → List ℕ) (old new : List Node) (was : IsArena p old)
    (is : IsArena p new) (last : ℕ) (fills : FillsUpTo last old new) where
  -- for a pair no more is to be hashed than for its children, and itself
  pair_due : (i : ℕ) (left right : NodeId) (cached : Option Chunk)
      → slice_get new i ≡ Some (Pair left right cached)
      → due new i ≤ 1 + due new left.0 + due new right.0
  pair_due i left right None found =
      let kept : _ = is.sound.each i _ found in
      omega (arith, due-pair new i left right found kept.0 kept.1)
  pair_due i left right (Some chunk) found =
      omega (arith, due-cached new i left right chunk found)

  -- a pair has the same children still
  still_due : (i : ℕ) (left right : NodeId) (now : Option Node) → slice_get new i ≡ now
      → option_and_then (child false) now ≡ Some left
      → option_and_then (child true) now ≡ Some right
      → due new i ≤ 1 + due new left.0 + due new right.0
  still_due i left right None found to_left to_right = absurd (none-some left to_left)
  still_due i left right (Some (Leaf chunk)) found to_left to_right =
      absurd (none-some left to_left)
  still_due i left right (Some (Pair l r cached)) found to_left to_right = omega (
    arith,
    pair_due i l r cached found,
    ap (λ (n : NodeId). due new n.0) (same_Some l left to_left),
    ap (λ (n : NodeId). due new n.0) (same_Some r right to_right),
  )

  -- what one child saves, the pair saves
  pair_saves : (i : ℕ) (left right : NodeId) (cached : Option Chunk) (n : ℕ)
      → slice_get old i ≡ Some (Pair left right cached)
      → (due new left.0 + n ≤ due old left.0) ⊎ (due new right.0 + n ≤ due old right.0)
      → due new i + n ≤ due old i
  pair_saves i left right None n found saved =
      let kept : _ = was.sound.each i _ found in
      let whole = due-pair old i left right found kept.0 kept.1 in
      let now = still_due i left right (slice_get new i) refl
      (fills.children i false ∙ ap (option_and_then (child false)) found)
      (fills.children i true ∙ ap (option_and_then (child true)) found) in
      let left_less = fills.todo left.0 in
      let right_less = fills.todo right.0 in
      ⊎_elim (λ (h : due new left.0 + n ≤ due old left.0). omega arith)
      (λ (h : due new right.0 + n ≤ due old right.0). omega arith) saved
  pair_saves i left right (Some chunk) n found saved =
      let whole = due-cached old i left right chunk found in
      let parts = children_due p old was i left right (Some chunk) found in
      let less = fills.todo i in
      ⊎_elim (λ (h : due new left.0 + n ≤ due old left.0). omega arith)
      (λ (h : due new right.0 + n ≤ due old right.0). omega arith) saved

  saves : (found : NodeId) → due new found.0 ≡ 0 → (way : List Bool) (id : NodeId)
      → node_at old id way ≡ Some found
      → due new id.0 + due old found.0 ≤ due old id.0
  saves found none [] id is_there =
      omega (
        arith,
        ap (λ (n : NodeId). due old n.0) (same_Some id found is_there),
        ap (λ (n : NodeId). due new n.0) (same_Some id found is_there),
        none,
      )
  saves found none (step ∷ steps) id is_there =
      at_node (slice_get old id.0) refl step
      (λ next e. saves found none steps next e) is_there
    where
      at_node : (node : Option Node) → slice_get old id.0 ≡ node → (step : Bool)
          → ((next : NodeId) → node_at old next steps ≡ Some found
          → due new next.0 + due old found.0 ≤ due old next.0)
          → option_and_then (λ next. node_at old next steps)
          (option_and_then (child step) node) ≡ Some found
          → due new id.0 + due old found.0 ≤ due old id.0
      at_node None here step below e = absurd (none-some found e)
      at_node (Some (Leaf chunk)) here false below e = absurd (none-some found e)
      at_node (Some (Leaf chunk)) here true below e = absurd (none-some found e)
      at_node (Some (Pair left right cached)) here false below e =
          pair_saves id.0 left right cached (due old found.0) here (inl (below left e))
      at_node (Some (Pair left right cached)) here true below e =
          pair_saves id.0 left right cached (due old found.0) here (inr (below right e))

  -- the same of an arena before, and of its nodes after
  pub saved : (before : ArenaContent) (after : List Node) → before.nodes ≡ old → after ≡ new
      → (found : NodeId) → due new found.0 ≡ 0 → (id : NodeId) (way : List Bool)
      → node_at before.nodes id way ≡ Some found
      → due after id.0 + todo before found ≤ todo before id
  saved before after seen made found none id way is_there = omega (
    arith,
    saves found none way id (ap (λ ns. node_at ns id way) (sym seen) ∙ is_there),
    ap (λ ns. due ns id.0) seen,
    ap (λ ns. due ns found.0) seen,
    ap (λ ns. due ns id.0) made,
  )
