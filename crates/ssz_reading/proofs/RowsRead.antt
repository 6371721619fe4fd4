-- Containers that are read one after another, by the rows of their fields.
use Rattle.std.proofs.Common.{ℕ, ◌+◌, ◌^◌, ◌<◌, ◌≤◌, ◌≡◌, List, [], ◌∷◌, ◌++◌, length, map, None, refl, sym, ap, ◌∙◌, subst, arith, append_assoc}
use Rattle.std.specs.List.{AllByRecursion}
use Rattle.std.proofs.lemmas.List.{append-nil, map-append}
use Rattle.ssz_chunk.specs.Tree.{Tree, merkle_tree}
use Rattle.ssz_schema.specs.Types.{SszType}
use Rattle.ssz_schema.specs.Sizes.{basic_size}
use Rattle.ssz_value.specs.declared.value.Value.{Value}
use Rattle.ssz_value.specs.Values.{SszValue, Fits}
use Rattle.ssz_value.specs.Standing.{value_of, IsFormed}
use Rattle.ssz_value.specs.Shapes.{StandAlike, StandsBehind}
use Rattle.ssz_value.specs.Trees.{tree}
use Rattle.ssz_value.proofs.FormLemmas.{formed_push}
use Rattle.ssz_arena.specs.declared.node.NodeId.{NodeId}
use Rattle.ssz_arena.specs.Content.{ArenaContent, tree_of}
use Rattle.ssz_nodes.specs.Ahead.{IsRowOf}
use Rattle.ssz_nodes.specs.Beside.{FieldsAhead, FieldsHold}
use Rattle.ssz_nodes.specs.Shown.{ForValue, AreElements}
use Rattle.ssz_nodes.proofs.Walked.{AreElements-trees}

-- containers of one type, so far, by the rows of their fields
pub record RowsRead (arena : ArenaContent) (t : SszType) (vs : List SszValue) (i : ℕ)
    (parts : List Value) (rows : FieldsAhead) : Type 0 where
  pub rest : List SszValue
  pub fit : AllByRecursion (Fits t) rest
  pub holds : FieldsHold arena (map (tree t) rest) rows
  pub count : i + length rest ≡ length vs
  pub all : map value_of parts ++ rest ≡ vs
  pub formed : AllByRecursion (IsFormed t) parts

pub RowsRead-start : (arena : ArenaContent) (t : SszType) (depth count : ℕ) (vs : List SszValue)
    (node : NodeId) (rows : FieldsAhead) → basic_size t ≡ None
    → AreElements t depth count vs (tree_of arena node)
    → ((trees : List Tree) → length trees ≤ 2 ^ depth → tree_of arena node ≡ merkle_tree depth trees
    → FieldsHold arena trees rows)
    → RowsRead arena t vs 0 [] rows
RowsRead-start arena t depth count vs node rows none are holds =
    let trees = AreElements-trees t depth count vs (tree_of arena node) none are in
    record {
      rest = vs;
      fit = are.fit;
      holds = holds (map (tree t) vs) trees.0 trees.1;
      count = omega arith;
      all = refl;
      formed = tt;
    }

-- what is known of the row of the next container
pub record NextFields (arena : ArenaContent) (depth : ℕ) (row : List NodeId)
    (old new : FieldsAhead) : Type 0 where
  pub first : (tree : Tree) (trees : List Tree) → FieldsHold arena (tree ∷ trees) old
      → IsRowOf arena depth tree row
  pub rest : (tree : Tree) (trees : List Tree) → FieldsHold arena (tree ∷ trees) old
      → FieldsHold arena trees new

pub RowsRead-more : (arena : ArenaContent) (t : SszType) (vs : List SszValue) (i d : ℕ)
    (parts next : List Value) (old new : FieldsAhead) (row : List NodeId)
    → RowsRead arena t vs i parts old → i < length vs → NextFields arena d row old new
    → ((node : Tree) → IsRowOf arena d node row → ForValue t node
    (λ w. StandsBehind t w parts next))
    → RowsRead arena t vs (i + 1) next new
RowsRead-more arena t vs i d parts next old new row h below takes read =
    go h.rest h.fit h.holds h.count h.all
  where
    go : (rest : List SszValue) → AllByRecursion (Fits t) rest
        → FieldsHold arena (map (tree t) rest) old → i + length rest ≡ length vs
        → map value_of parts ++ rest ≡ vs → RowsRead arena t vs (i + 1) next new
    go [] fit holds count all = absurd (omega (arith, count))
    go (v ∷ others) fit holds count all =
        let put : StandsBehind t v parts next =
        read (tree t v) (takes.first (tree t v) (map (tree t) others) holds) v
        (record { fits = fit.0; is = refl }) in
        record {
          rest = others;
          fit = fit.1;
          holds = takes.rest (tree t v) (map (tree t) others) holds;
          count = omega (arith, count);
          all = ap (λ xs. xs ++ others)
              (ap (map value_of) put.items ∙ map-append value_of parts (put.value ∷ [])
              ∙ ap (λ w. map value_of parts ++ w ∷ []) put.stands.value)
              ∙ append_assoc (map value_of parts) (v ∷ []) others ∙ all;
          formed = subst (AllByRecursion (IsFormed t)) (sym put.items)
              (formed_push t parts put.value h.formed put.stands.formed);
        }

pub RowsRead-end : (arena : ArenaContent) (t : SszType) (vs : List SszValue) (i : ℕ)
    (parts : List Value) (rows : FieldsAhead) → RowsRead arena t vs i parts rows
    → length vs ≤ i → StandAlike t vs parts
RowsRead-end arena t vs i parts rows h all =
    record { value = whole h.rest h.count h.all; formed = h.formed }
  where
    whole : (rest : List SszValue) → i + length rest ≡ length vs
        → map value_of parts ++ rest ≡ vs → map value_of parts ≡ vs
    whole [] count same = sym (append-nil (map value_of parts)) ∙ same
    whole (v ∷ rest) count same = absurd (omega (arith, count))
