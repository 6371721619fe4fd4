-- How the fields of containers that stand beside one another are come down to and taken.
use Rattle.std.proofs.Common.{◌≡◌, ℕ, ◌+◌, ◌-◌, ◌*◌, ◌^◌, ◌<◌, ◌≤◌, List, ◌∷◌, length, drop, take, suc, ap, ◌∙◌, subst, arith}
use Rattle.std.proofs.lemmas.List.{get_or-drop, get_or-take}
use Rattle.ssz_chunk.specs.Tree.{Tree, merkle_tree, place}
use Rattle.ssz_arena.specs.declared.node.NodeId.{NodeId}
use Rattle.ssz_arena.specs.Content.{ArenaContent, row_node, tree_of}
use Rattle.ssz_nodes.specs.Ahead.{Ahead, AheadHolds, AreNext, IsRowOf}
use Rattle.ssz_nodes.specs.Beside.{FieldsHold, fields_at}

-- the row of the next container, and the others behind it
module _ (arena : ArenaContent) (tree : Tree) (trees : List Tree) (depth from to : ℕ)
    (nodes : List NodeId) (places : Ahead) (some : from < to)
    (held : FieldsHold arena (tree ∷ trees)
    (record { depth = depth; nodes = nodes; from = from; to = to; places = places })) where
  pub FieldsHold-next : IsRowOf arena depth tree (fields_at depth nodes from)
  FieldsHold-next =
      let first : from + 0 ≡ from = omega arith in
      subst (λ n. IsRowOf arena depth tree (fields_at depth nodes n)) first
      (held.rows 0 (omega arith) (omega arith))

  pub FieldsHold-rest : FieldsHold arena trees
      (record { depth = depth; nodes = nodes; from = from + 1; to = to; places = places })
  FieldsHold-rest = record {
    rows = λ i below inside.
        let next : from + suc i ≡ from + 1 + i = omega arith in
        subst (λ n. IsRowOf arena depth (place trees i) (fields_at depth nodes n)) next
        (held.rows (suc i) (omega (arith, below)) (omega (arith, inside)));
    behind = λ few.
        let less : to - from ≡ suc (to - (from + 1)) = omega arith in
        subst (λ ts. AheadHolds arena ts places) (ap (λ n. drop n (tree ∷ trees)) less)
        (held.behind (omega (arith, less, few)));
  }

-- the front of the row of a container, if it is long enough
pub IsRowOf-front : (arena : ArenaContent) (depth n : ℕ) (tree : Tree) (row part : List NodeId)
    → 2 ^ depth ≤ n → part ≡ take n row → IsRowOf arena depth tree row
    → IsRowOf arena depth tree part
IsRowOf-front arena depth n tree row part room is h trees whole i within =
    ap (λ r. tree_of arena (row_node r i)) is
    ∙ ap (tree_of arena) (get_or-take n row i (record { 0 = 0 }) (omega arith))
    ∙ h trees whole i within

-- what a row of places and those behind it are known to be
pub record NextRow (arena : ArenaContent) (trees : List Tree) (count : ℕ) (next : List NodeId)
    (after : Ahead) : Type 0 where
  pub are : AreNext arena trees next
  pub few : count ≤ length next
  pub behind : count ≤ length trees → AheadHolds arena (drop count trees) after

-- the fields of those of the row, come down to
pub FieldsHold-filled : (arena : ArenaContent) (trees : List Tree) (depth count : ℕ)
    (next old nodes : List NodeId) (after : Ahead) → NextRow arena trees count next after
    → ((k : ℕ) → k < count → row_node old k ≡ row_node next k)
    → ((k : ℕ) (ts : List Tree) → k < count → tree_of arena (row_node old k) ≡ merkle_tree depth ts
    → (i : ℕ) → i < 2 ^ depth → tree_of arena (row_node nodes (k * 2 ^ depth + i)) ≡ place ts i)
    → FieldsHold arena trees
    (record { depth = depth; nodes = nodes; from = 0; to = count; places = after })
FieldsHold-filled arena trees depth count next old nodes after h put spread =
    let all : count ≡ count - 0 = omega arith in
    record {
      rows = λ k below inside ts whole i within.
          let here : k < count = omega (arith, below) in
          let at : 0 + k ≡ k = omega arith in
          ap (λ n. tree_of arena (row_node (fields_at depth nodes n) i)) at
          ∙ ap (tree_of arena) (get_or-drop (k * 2 ^ depth) nodes i (record { 0 = 0 }))
          ∙ spread k ts here
          (ap (tree_of arena) (put k here) ∙ h.are k (omega (arith, here, h.few)) inside ∙ whole)
          i within;
      behind = λ few. subst (λ n. AheadHolds arena (drop n trees) after) all
          (h.behind (omega (arith, few)));
    }
