-- A list put in its place with another element and another length.
use Rattle.std.proofs.Common.{◌≡◌, ℕ, ◌+◌, ◌≤◌, List, sym, ap, ap₂, ◌∙◌, Some, None, arith}
use Rattle.std.proofs.lemmas.Option.{none-some, same_Some}
use Rattle.ssz_chunk.specs.Tree.{leaf, pair}
use Rattle.ssz_chunk.specs.Index.{at, put, levels, way}
use Rattle.ssz_value.specs.Trees.{mixed_in, number_chunk}
use Rattle.ssz_value.proofs.ChunkLaw.{same_left}
use Rattle.ssz_arena.specs.declared.node.NodeId.{NodeId}
use Rattle.ssz_arena.specs.Content.{ArenaContent, tree_of, todo, node_at, IsNodeOf, KeepsNodes, KeepsTodo}
use Rattle.ssz_arena.specs.Shown.{HasChildren}
use Rattle.ssz_arena.proofs.Keeping.{keeps_trans}
use Rattle.ssz_tree.specs.Added.{AddsNodes, IsPartNode}
use Rattle.ssz_making.specs.Parts.{MadePart}
use Rattle.ssz_tree.proofs.Adding.{Adds-then, Adds-within}
use Rattle.ssz_walk.specs.declared.place.Place.{Place}
use Rattle.ssz_edit.specs.Slots.{HasList, IsGrown}

module _ (old : ArenaContent) (node : NodeId) (place : Place) (below : ℕ)
    (has : HasList old node place below) where
  module _ (content right : NodeId) (children : HasChildren old place.node content right) where
    module _ (a1 a2 a3 : ArenaContent) (element grown len list : NodeId) (count : ℕ)
        (chunk : List ℕ) (first : KeepsNodes old a1) (first_same : KeepsTodo old a1)
        (second : KeepsNodes a1 a2) (second_same : KeepsTodo a1 a2) (third : KeepsNodes a2 a3)
        (third_same : KeepsTodo a2 a3) where
      pub all_kept : KeepsNodes old a3
      all_kept = keeps_trans (keeps_trans first second) third

      -- the node has the place still
      pub no_place : {X : Type 0} → at (tree_of a3 node) place.index ≡ None → X
      no_place none = absurd (none-some (tree_of old place.node)
          (sym none ∙ ap (λ t. at t place.index) (all_kept.trees node has.known) ∙ has.at_place))

      as_much : todo a3 place.node ≡ todo old place.node
      as_much =
          let one : IsNodeOf a1 place.node = omega (arith, has.inside, first.count) in
          let two : IsNodeOf a2 place.node = omega (arith, one, second.count) in
          third_same.each place.node two ∙ second_same.each place.node one
          ∙ first_same.each place.node has.inside

      pub grown_made : (new : ArenaContent) (made : NodeId) (other : MadePart)
          → IsPartNode old other element → IsNodeOf a1 grown
          → put (tree_of old content) below (tree_of old element) ≡ Some (tree_of a1 grown)
          → todo a1 grown ≤ todo old content + levels below + todo old element
          → tree_of a2 len ≡ leaf chunk → todo a2 len ≡ 0 → chunk ≡ number_chunk count
          → tree_of a3 list ≡ pair (tree_of a2 grown) (tree_of a2 len)
          → todo a3 list ≡ 1 + todo a2 grown + todo a2 len → IsNodeOf new made
          → put (tree_of a3 node) place.index (tree_of a3 list) ≡ Some (tree_of new made)
          → ((found : NodeId) → node_at a3.nodes node (way place.index) ≡ Some found
          → todo new made + todo a3 found
          ≤ todo a3 node + levels place.index + todo a3 list)
          → IsGrown old new node place below other count made
      grown_made new made other is_part grown_in grown_is grown_due len_is len_due chunk_is list_is
          list_due made_in made_is saves = record {
            known = made_in;
            is = λ n tree larger mixed putting.
                let same : tree ≡ tree_of old content =
                same_left tree (leaf (number_chunk n)) (tree_of old content) (tree_of old right)
                (sym mixed ∙ children.tree) in
                let larger_is : larger ≡ tree_of a1 grown =
                same_Some larger (tree_of a1 grown)
                (sym putting ∙ ap₂ (λ t o. put t below o) same (sym is_part.tree) ∙ grown_is) in
                let whole : tree_of a3 list ≡ mixed_in count larger =
                list_is ∙ ap₂ pair (second.trees grown grown_in ∙ sym larger_is)
                (len_is ∙ ap leaf chunk_is) in
                ap₂ (λ t o. put t place.index o) (sym (all_kept.trees node has.known)) (sym whole)
                ∙ made_is;
            due =
                let due = saves place.node
                (all_kept.ways node has.known (way place.index) ∙ has.node_there) in
                omega (
                  arith,
                  due,
                  as_much,
                  children.todo,
                  all_kept.todo node has.known,
                  list_due,
                  len_due,
                  second.todo grown grown_in,
                  grown_due,
                  is_part.todo,
                );
          }

-- the nodes and pairs of the four calls
pub adds_list : (old a1 a2 a3 new : ArenaContent) (below more : ℕ)
    → AddsNodes below below old a1 → AddsNodes 1 0 a1 a2 → AddsNodes 1 1 a2 a3
    → AddsNodes more more a3 new
    → AddsNodes (below + 2 + more) (below + 1 + more) old new
adds_list old a1 a2 a3 new below more first second third last =
    Adds-within (below + 1 + 1 + more) (below + 0 + 1 + more) _ _ old new
    (Adds-then (below + 1 + 1) (below + 0 + 1) more more old a3 new
    (Adds-then (below + 1) (below + 0) 1 1 old a2 a3
    (Adds-then below below 1 0 old a1 a2 first second) third) last)
    (omega arith) (omega arith)

-- the place of a list is kept
pub list_kept : (old new : ArenaContent) (node : NodeId) (place : Place) (below : ℕ)
    → KeepsNodes old new → HasList old node place below → HasList new node place below
list_kept old new node place below keeps has = record {
  known = omega (arith, has.known, keeps.count);
  inside = omega (arith, has.inside, keeps.count);
  at_place = ap (λ t. at t place.index) (keeps.trees node has.known) ∙ has.at_place
      ∙ ap Some (sym (keeps.trees place.node has.inside));
  node_there = keeps.ways node has.known (way place.index) ∙ has.node_there;
  content = has.content;
  beside = has.beside;
  is = keeps.trees place.node has.inside ∙ has.is;
  found = has.found;
  there = has.there;
}

-- a list that grew by an element made before
pub grown_kept : (old mid new : ArenaContent) (node : NodeId) (place : Place) (below : ℕ)
    (other : MadePart) (count : ℕ) (made : NodeId) → KeepsNodes old mid
    → HasList old node place below → IsGrown mid new node place below other count made
    → IsGrown old new node place below other count made
grown_kept old mid new node place below other count made keeps has grown = record {
  known = grown.known;
  is = λ n content larger mixed putting.
      ap (λ t. put t place.index (mixed_in count larger)) (sym (keeps.trees node has.known))
      ∙ grown.is n content larger (keeps.trees place.node has.inside ∙ mixed) putting;
  due = omega (arith, grown.due, keeps.todo node has.known);
}

-- an element and a list
pub adds_element : (mid after new : ArenaContent) (nodes cost below more : ℕ)
    → AddsNodes nodes cost mid after → AddsNodes (below + 2 + more) (below + 1 + more) after new
    → AddsNodes (nodes + 2 + (below + more)) (cost + 1 + (below + more)) mid new
adds_element mid after new nodes cost below more first second =
    Adds-within (nodes + (below + 2 + more)) (cost + (below + 1 + more)) _ _ mid new
    (Adds-then nodes cost (below + 2 + more) (below + 1 + more) mid after new first second)
    (omega arith) (omega arith)
