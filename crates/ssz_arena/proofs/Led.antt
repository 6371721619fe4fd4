-- Where a way leads, in nodes and in their trees.
use Rattle.std.proofs.Common.{◌≡◌, ℕ, ◌<◌, ◌≤◌, Bool, List, [], ◌∷◌, length, ap, sym, ◌∙◌, subst, slice_get, Option, Some, None, IfSome, IsNone, ◌↔◌, refl, arith}
use Rattle.std.specs.Option.{option_and_then}
use Rattle.std.proofs.lemmas.Option.{none-some, slice_get-get_or}
use Rattle.ssz_chunk.specs.Index.{at, at_way, digits, levels, way}
use Rattle.ssz_chunk.specs.Tree.{Tree}
use Rattle.ssz_arena.specs.declared.node.NodeId.{NodeId}
use Rattle.ssz_arena.specs.declared.node.Node.TheVariants.{Leaf}
use Rattle.ssz_arena.specs.Batches.{node_of}
use Rattle.ssz_arena.specs.Content.{ArenaContent, child, node_at, tree_of, todo, IsNodeOf}
use Rattle.ssz_arena.specs.Invariant.{IsArena}
use Rattle.ssz_arena.specs.declared.node.Node.{Node}
use Rattle.ssz_arena.proofs.Following.{node_at-child}
use Rattle.ssz_arena.proofs.Indexed.{at-digits, digits-way}
use Rattle.ssz_arena.proofs.Seen.{no_step, steps_to}

-- a way leads to a node and its tree
pub record LedTo (arena : ArenaContent) (id : NodeId) (way : List Bool)
    (found : NodeId) : Type 0 where
  pub node : IsNodeOf arena found
  pub tree : at_way (tree_of arena id) way ≡ Some (tree_of arena found)
  pub todo : todo arena found ≤ todo arena id

-- a way leads below a leaf, or to a node and its tree
abbrev pub Led : ArenaContent → NodeId → List Bool → Option NodeId → Type 0
Led arena id way None = at_way (tree_of arena id) way ≡ None
Led arena id way (Some found) = LedTo arena id way found

module _ (p : List ℕ → List ℕ → List ℕ) (nodes : List Node) (sound : IsArena p nodes)
    (arena : ArenaContent) (seen : nodes ≡ arena.nodes) where
  pub led : (way : List Bool) (id : NodeId) → IsNodeOf arena id
      → (result : Option NodeId) → result ≡ node_at nodes id way → Led arena id way result
  led [] id within result is = subst (Led arena id []) (sym is) (record {
    node = within;
    tree = refl;
    todo = omega arith;
  })
  led (step ∷ steps) id within result is =
      go (child step (node_of nodes id)) refl
      (is ∙ node_at-child nodes id inside step _ refl steps)
      (λ next node at. led steps next node result at)
    where
      inside : id.0 < length nodes
      inside = omega (arith, within, ap (λ (ns : List Node). length ns) seen)

      here : slice_get nodes id.0 ≡ Some (node_of nodes id)
      here = slice_get-get_or nodes id.0 (Leaf (record { 0 = [] })) inside

      after : (next : NodeId) → IsNodeOf arena next → ((more : List Bool)
          → at_way (tree_of arena id) (step ∷ more) ≡ at_way (tree_of arena next) more)
          → todo arena next ≤ todo arena id → (result : Option NodeId)
          → Led arena next steps result → Led arena id (step ∷ steps) result
      after next node tree less None rest = tree steps ∙ rest
      after next node tree less (Some found) rest = record {
        node = rest.node;
        tree = tree steps ∙ rest.tree;
        todo = omega (arith, less, rest.todo);
      }

      go : (next : Option NodeId) → next ≡ child step (node_of nodes id)
          → result ≡ option_and_then (λ n. node_at nodes n steps) next
          → ((next : NodeId) → IsNodeOf arena next → result ≡ node_at nodes next steps
          → Led arena next steps result)
          → Led arena id (step ∷ steps) result
      go None none at below = subst (Led arena id (step ∷ steps)) (sym at)
          (no_step p nodes sound arena seen id within _ here step none steps)
      go (Some next) some at below =
          let one = steps_to p nodes sound arena seen id within _ here step next some in
          after next one.node one.tree one.todo result (below next one.node at)

-- what follows for the answer of a call
pub led-none : (arena : ArenaContent) (id : NodeId) (way : List Bool) (result : Option NodeId)
    → Led arena id way result
    → IsNone result ↔ (at_way (tree_of arena id) way ≡ None)
led-none arena id way None held = (λ h. held, λ h. refl)
led-none arena id way (Some found) held =
    (λ h. absurd (cc), λ h. absurd (none-some _ (sym h ∙ held.tree)))

pub led-node : (arena : ArenaContent) (id : NodeId) (way : List Bool) (result : Option NodeId)
    → Led arena id way result → IfSome result (IsNodeOf arena)
led-node arena id way None held = tt
led-node arena id way (Some found) held = held.node

pub led-tree : (arena : ArenaContent) (id : NodeId) (way : List Bool) (there : Option Tree)
    → at_way (tree_of arena id) way ≡ there → (result : Option NodeId)
    → Led arena id way result → IfSome result (λ found. there ≡ Some (tree_of arena found))
led-tree arena id way there same None held = tt
led-tree arena id way there same (Some found) held = sym same ∙ held.tree

pub led-todo : (arena : ArenaContent) (id : NodeId) (way : List Bool) (result : Option NodeId)
    → Led arena id way result → IfSome result (λ found. todo arena found ≤ todo arena id)
led-todo arena id way None held = tt
led-todo arena id way (Some found) held = held.todo

led-found : (there result : Option NodeId) → result ≡ there
    → IfSome result (λ found. there ≡ Some found)
led-found there None is = tt
led-found there (Some found) is = sym is

-- the same of an index, whose digits a call follows
module _ (p : List ℕ → List ℕ → List ℕ) (nodes : List Node) (sound : IsArena p nodes)
    (arena : ArenaContent) (seen : nodes ≡ arena.nodes) (id : NodeId) (within : IsNodeOf arena id)
    (index number steps : ℕ) (some : 0 < number) (same : number ≡ index)
    (count : steps ≡ levels index) (result : Option NodeId)
    (is : result ≡ node_at nodes id (digits steps number)) where
  led_to : Led arena id (digits steps number) result
  led_to = led p nodes sound arena seen (digits steps number) id within result is

  tree_there : at_way (tree_of arena id) (digits steps number) ≡ at (tree_of arena id) index
  tree_there = at-digits index number steps some same count (tree_of arena id)

  pub index-none : IsNone result ↔ (at (tree_of arena id) index ≡ None)
  index-none =
      let none = led-none arena id (digits steps number) result led_to in
      (λ h. sym tree_there ∙ none.0 h, λ h. none.1 (tree_there ∙ h))

  pub index-node : IfSome result (IsNodeOf arena)
  index-node = led-node arena id (digits steps number) result led_to

  pub index-tree : IfSome result (λ found. at (tree_of arena id) index
      ≡ Some (tree_of arena found))
  index-tree = led-tree arena id (digits steps number) (at (tree_of arena id) index) tree_there
      result led_to

  pub index-todo : IfSome result (λ found. todo arena found ≤ todo arena id)
  index-todo = led-todo arena id (digits steps number) result led_to

  pub index-found : IfSome result (λ found. node_at arena.nodes id (way index) ≡ Some found)
  index-found = led-found _ result (is ∙ ap (λ ns. node_at ns id (digits steps number)) seen
      ∙ ap (node_at arena.nodes id) (digits-way index number steps some same count))
