-- Containers that are written by rows of their fields.
use Rattle.std.proofs.Common.{ℕ, zero, suc, get_or, ◌+◌, ◌-◌, ◌^◌, min, ◌<◌, ◌≤◌, ◌≡◌, true, false, List, [], ◌∷◌, ◌++◌, length, map, take, Option, Some, None, is_none, refl, sym, ap, ◌∙◌, subst, arith, append_assoc}
use Rattle.std.specs.List.{AllByRecursion}
use Rattle.ssz_chunk.specs.Tree.{Tree, leaf, merkle_tree}
use Rattle.ssz_schema.specs.Types.{SszType, Fields, container}
use Rattle.ssz_schema.specs.Sizes.{basic_size, depth, fixed_size, head_size, part_sizes}
use Rattle.ssz_schema.specs.Unfolding.{fields_over}
use Rattle.ssz_value.specs.Values.{SszValue, Fits, items}
use Rattle.ssz_value.proofs.PartLemmas.{Part}
use Rattle.ssz_nodes.proofs.Formed.{IsContainer, container_fields}
use Rattle.std.proofs.lemmas.List.{append-nil, drop_all, get_or_default}
use Rattle.ssz_value.specs.Encoding.{serialize, heads, bodies, joined, field_encodings}
use Rattle.ssz_value.specs.Trees.{tree}
use Rattle.ssz_arena.specs.declared.node.NodeId.{NodeId}
use Rattle.ssz_arena.specs.Content.{ArenaContent, tree_of}
use Rattle.ssz_parts.specs.Encoded.{head_of, body_of}
use Rattle.ssz_value.specs.Written.{capped}
use Rattle.ssz_nodes.specs.Ahead.{IsRowOf}
use Rattle.ssz_nodes.specs.Beside.{FieldsAhead, FieldsHold}
use Rattle.ssz_writing.specs.Leaves.{IsLeafLen, LeafOf}
use Rattle.ssz_nodes.specs.Shown.{ForValue, AreElements, AreFieldsIn}
use Rattle.ssz_writing.specs.Offsets.{room_of, rooms}
use Rattle.ssz_writing.proofs.Rooms.{Filled, Filled-start, Filled-more, fixed_room, rooms_step}
use Rattle.ssz_nodes.proofs.Walked.{AreElements-trees, composite}
use Rattle.ssz_writing.proofs.Written.{alike, variable_parts}
use Rattle.ssz_writing.proofs.FieldsWritten.{FieldHeads, fixed_fields_add}

-- a leaf of which so many bytes were appended
pub leaf_adds : (t : SszType) (len : ℕ) (node : Tree) (old new : List ℕ) → 0 < len
    → IsLeafLen t len → ((chunk : List ℕ) → node ≡ leaf chunk → new ≡ old ++ take len chunk)
    → ForValue t node (λ v. new ≡ old ++ room_of (fixed_size t) (serialize t v))
leaf_adds t len node old new some is bytes = λ v h.
    let at : LeafOf len (serialize t v) node = is.leaf some node v h in
    subst (λ size. new ≡ old ++ room_of size (serialize t v)) (sym (is.size some))
    (bytes at.chunk at.is ∙ ap (λ xs. old ++ xs) at.same)

-- the fields of a container of fixed size, all written
pub row_adds : (fs : Fields) (vs : List SszValue) (old new : List ℕ)
    → is_none (fixed_size (container fs)) ≡ false
    → new ≡ old ++ rooms (part_sizes fs) (field_encodings fs vs)
    → new ≡ old ++ joined (part_sizes fs) (field_encodings fs vs)
row_adds fs vs old new fixed is = go (fixed_size (container fs)) refl
  where
    go : (size : Option ℕ) → size ≡ fixed_size (container fs)
        → new ≡ old ++ joined (part_sizes fs) (field_encodings fs vs)
    go None e = let none : true ≡ false = ap is_none e ∙ fixed in cc
    go (Some z) e = fixed_fields_add fs z vs old new (sym e) is

-- the type of each field stands before that of the container
pub field_before : (fields : List Part) (id i : ℕ) (part : Part)
    → AllByRecursion (λ (p : Part). p.1 < id) fields → i < length fields
    → part ≡ get_or fields i part → part.1 < id
field_before [] id i part all inside at = absurd (omega (arith, inside))
field_before (p ∷ ps) id zero part all inside at =
    subst (λ (q : Part). q.1 < id) (sym at) all.0
field_before (p ∷ ps) id (suc i) part all inside at =
    field_before ps id i part all.1 (omega (arith, inside)) at

-- the field of a place
abbrev pub field_at : List Part → ℕ → Part
field_at fields i = get_or fields i ([], 0)

pub field_at-is : (fields : List Part) (i : ℕ) → i < length fields
    → field_at fields i ≡ get_or fields i (field_at fields i)
field_at-is fields i inside = get_or_default fields i ([], 0) (field_at fields i) inside

-- where all fields were gone over, nothing more is to be written
pub FieldHeads-end : (trees : List SszType) (fields : List Part) (i depth : ℕ) (all out : List ℕ)
    (node : Tree) → FieldHeads trees fields i depth all out node → length fields ≤ i → out ≡ all
FieldHeads-end trees fields i depth all out node h past =
    sym (append-nil out)
    ∙ ap (λ (ps : List Part). out ++ rooms (part_sizes (fields_over trees ps))
    (field_encodings (fields_over trees ps) h.rest)) (sym (drop_all i fields past)) ∙ h.is

-- the container of these fields
pub row_value : (t : SszType) (fs : Fields) (node : Tree) (old new : List ℕ) → t ≡ container fs
    → is_none (fixed_size t) ≡ false
    → ((vs : List SszValue) → AreFieldsIn fs (depth t) vs node
    → new ≡ old ++ rooms (part_sizes fs) (field_encodings fs vs))
    → ForValue t node (λ v. new ≡ old ++ serialize t v)
row_value t fs node old new form fixed adds = subst
    (λ (ty : SszType). is_none (fixed_size ty) ≡ false
    → ((vs : List SszValue) → AreFieldsIn fs (depth ty) vs node
    → new ≡ old ++ rooms (part_sizes fs) (field_encodings fs vs))
    → ForValue ty node (λ v. new ≡ old ++ serialize ty v)) (sym form)
    (λ fixed_is all v h.
    let of : IsContainer fs v node = container_fields fs v node h in
    subst (λ (w : SszValue). new ≡ old ++ serialize (container fs) w) (sym of.is)
    (row_adds fs (items of.parts) old new fixed_is (all (items of.parts) of.are)))
    fixed adds

-- containers whose fixed parts are still to be written
pub record RowsSoFar (arena : ArenaContent) (t : SszType) (vs : List SszValue) (i : ℕ)
    (all out : List ℕ) (ahead : FieldsAhead) : Type 0 where
  pub rest : List SszValue
  pub fit : AllByRecursion (Fits t) rest
  pub holds : FieldsHold arena (map (tree t) rest) ahead
  pub count : i + length rest ≡ length vs
  pub is : out ++ rooms (alike t rest) (map (serialize t) rest) ≡ all

pub RowsSoFar-start : (arena : ArenaContent) (t : SszType) (depth count : ℕ) (vs : List SszValue)
    (out : List ℕ) (node : NodeId) (ahead : FieldsAhead) → basic_size t ≡ None
    → AreElements t depth count vs (tree_of arena node)
    → ((trees : List Tree) → length trees ≤ 2 ^ depth → tree_of arena node ≡ merkle_tree depth trees
    → FieldsHold arena trees ahead)
    → RowsSoFar arena t vs 0 (out ++ rooms (alike t vs) (map (serialize t) vs)) out ahead
RowsSoFar-start arena t depth count vs out node ahead none are holds =
    let trees = AreElements-trees t depth count vs (tree_of arena node) none are in
    record {
      rest = vs;
      fit = are.fit;
      holds = holds (map (tree t) vs) trees.0 trees.1;
      count = omega arith;
      is = refl;
    }

pub RowsSoFar-more : (arena : ArenaContent) (t : SszType) (depth : ℕ) (vs : List SszValue) (i : ℕ)
    (all out written : List ℕ) (old new : FieldsAhead) (row : List NodeId)
    → RowsSoFar arena t vs i all out old → i < length vs
    → ((first : Tree) (trees : List Tree) → FieldsHold arena (first ∷ trees) old
    → IsRowOf arena depth first row)
    → ((first : Tree) (trees : List Tree) → FieldsHold arena (first ∷ trees) old
    → FieldsHold arena trees new)
    → ((node : Tree) → IsRowOf arena depth node row
    → ForValue t node (λ v. written ≡ out ++ room_of (fixed_size t) (serialize t v)))
    → RowsSoFar arena t vs (i + 1) all written new
RowsSoFar-more arena t depth vs i all out written old new row h below row_is rest_is head =
    go h.rest h.fit h.holds h.count h.is
  where
    go : (rest : List SszValue) → AllByRecursion (Fits t) rest
        → FieldsHold arena (map (tree t) rest) old → i + length rest ≡ length vs
        → out ++ rooms (alike t rest) (map (serialize t) rest) ≡ all
        → RowsSoFar arena t vs (i + 1) all written new
    go [] fit holds count is = absurd (omega (arith, count, below))
    go (v ∷ others) fit holds count is = record {
      rest = others;
      fit = fit.1;
      holds = rest_is _ _ holds;
      count = omega (arith, count);
      is = rooms_step (fixed_size t) (alike t others) (serialize t v)
          (map (serialize t) others) out written
          all is (head (tree t v) (row_is _ _ holds) v (record { fits = fit.0; is = refl }));
    }

-- where all were gone over, nothing more is to be written
pub RowsSoFar-end : (arena : ArenaContent) (t : SszType) (vs : List SszValue) (i : ℕ)
    (all out : List ℕ) (ahead : FieldsAhead) → RowsSoFar arena t vs i all out ahead → length vs ≤ i
    → out ≡ all
RowsSoFar-end arena t vs i all out ahead h done = go h.rest h.count h.is
  where
    go : (rest : List SszValue) → i + length rest ≡ length vs
        → out ++ rooms (alike t rest) (map (serialize t) rest) ≡ all → out ≡ all
    go [] count is = sym (append-nil out) ∙ is
    go (v ∷ others) count is = absurd (omega (arith, count, done))

-- one more was gathered behind those that were, some of which were appended before
pub RowsSoFar-gathered : (arena : ArenaContent) (t : SszType) (fs : Fields) (vs : List SszValue)
    (i : ℕ) (all out before gathered more : List ℕ) (old new : FieldsAhead) (row : List NodeId)
    → t ≡ container fs → is_none (fixed_size t) ≡ false
    → RowsSoFar arena t vs i all before old → i < length vs → out ++ gathered ≡ before
    → ((first : Tree) (trees : List Tree) → FieldsHold arena (first ∷ trees) old
    → IsRowOf arena (depth t) first row)
    → ((first : Tree) (trees : List Tree) → FieldsHold arena (first ∷ trees) old
    → FieldsHold arena trees new)
    → ((node : Tree) → IsRowOf arena (depth t) node row → (vs : List SszValue)
    → AreFieldsIn fs (depth t) vs node
    → more ≡ gathered ++ rooms (part_sizes fs) (field_encodings fs vs))
    → RowsSoFar arena t vs (i + 1) all (out ++ more) new
RowsSoFar-gathered arena t fs vs i all out before gathered more old new row form fixed h below same
    row_is rest_is heads_are =
    RowsSoFar-more arena t (depth t) vs i all before (out ++ more) old new row h below row_is
    rest_is
    (λ node is v value.
    ap (λ xs. out ++ xs)
    (row_value t fs node gathered more form fixed (heads_are node is) v value)
    ∙ sym (append_assoc out gathered (serialize t v)) ∙ ap (λ xs. xs ++ serialize t v) same
    ∙ ap (λ xs. before ++ xs) (fixed_room (fixed_size t) (serialize t v) fixed))

-- containers of variable size whose offsets and variable parts are still to be written
pub record RowBodiesSoFar (arena : ArenaContent) (t : SszType) (vs : List SszValue)
    (i start room : ℕ) (all out : List ℕ) (ahead : FieldsAhead) : Type 0 where
  pub rest : List SszValue
  pub fit : AllByRecursion (Fits t) rest
  pub holds : FieldsHold arena (map (tree t) rest) ahead
  pub count : i + length rest ≡ length vs
  pub filled : Filled (alike t rest) (map (serialize t) rest) start room all out

pub RowBodiesSoFar-start : (arena : ArenaContent) (t : SszType) (depth count start : ℕ)
    (vs : List SszValue) (front out : List ℕ) (node : NodeId) (ahead : FieldsAhead)
    → fixed_size t ≡ None → AreElements t depth count vs (tree_of arena node)
    → ((trees : List Tree) → length trees ≤ 2 ^ depth → tree_of arena node ≡ merkle_tree depth trees
    → FieldsHold arena trees ahead)
    → start < 2 ^ 64 → length front ≡ start
    → out ≡ front ++ rooms (alike t vs) (map (serialize t) vs)
    → RowBodiesSoFar arena t vs 0 start start
    (front ++ heads (alike t vs) (map (serialize t) vs) (length out - start)
    ++ bodies (alike t vs) (map (serialize t) vs)) out ahead
RowBodiesSoFar-start arena t depth count start vs front out node ahead none are holds small at is =
    let trees = AreElements-trees t depth count vs (tree_of arena node) (composite t none) are in
    record {
      rest = vs;
      fit = are.fit;
      holds = holds (map (tree t) vs) trees.0 trees.1;
      count = omega arith;
      filled = Filled-start (alike t vs) (map (serialize t) vs) start front out
          (variable_parts t vs none) small at is;
    }

pub RowBodiesSoFar-more : (arena : ArenaContent) (t : SszType) (depth : ℕ) (vs : List SszValue)
    (i start room next : ℕ) (all out written : List ℕ) (old new : FieldsAhead)
    (row : List NodeId) → RowBodiesSoFar arena t vs i start room all out old → i < length vs
    → fixed_size t ≡ None
    → ((first : Tree) (trees : List Tree) → FieldsHold arena (first ∷ trees) old
    → IsRowOf arena depth first row)
    → ((first : Tree) (trees : List Tree) → FieldsHold arena (first ∷ trees) old
    → FieldsHold arena trees new)
    → next ≡ min (room + 4) (2 ^ 64 - 1)
    → ((node : Tree) → IsRowOf arena depth node row
    → ForValue t node (λ v. (front back : List ℕ) → room ≡ capped (length front)
    → out ≡ front ++ room_of None (serialize t v) ++ back
    → written ≡ front ++ head_of None (serialize t v) (length out - start) ++ back
    ++ body_of None (serialize t v)))
    → RowBodiesSoFar arena t vs (i + 1) start next all written new
RowBodiesSoFar-more arena t depth vs i start room next all out written old new row h below none
    row_is rest_is next_is body = go h.rest h.fit h.holds h.count h.filled
  where
    go : (rest : List SszValue) → AllByRecursion (Fits t) rest
        → FieldsHold arena (map (tree t) rest) old → i + length rest ≡ length vs
        → Filled (alike t rest) (map (serialize t) rest) start room all out
        → RowBodiesSoFar arena t vs (i + 1) start next all written new
    go [] fit holds count filled = absurd (omega (arith, count, below))
    go (v ∷ others) fit holds count filled = record {
      rest = others;
      fit = fit.1;
      holds = rest_is _ _ holds;
      count = omega (arith, count);
      filled = Filled-more (fixed_size t) (alike t others) (serialize t v)
          (map (serialize t) others) start
          room next all out written filled
          (next_is ∙ ap (λ size. min (room + head_size size) (2 ^ 64 - 1)) (sym none))
          (subst (λ (size : Option ℕ). (front back : List ℕ) → room ≡ capped (length front)
          → out ≡ front ++ room_of size (serialize t v) ++ back
          → written ≡ front ++ head_of size (serialize t v) (length out - start) ++ back
          ++ body_of size (serialize t v)) (sym none)
          (body (tree t v) (row_is _ _ holds) v (record { fits = fit.0; is = refl })));
    }
