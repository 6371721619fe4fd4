-- The values of the places that are still to come.
use Rattle.std.proofs.Common.{ℕ, suc, ◌+◌, ◌-◌, ◌^◌, ◌<◌, ◌≤◌, ◌≡◌, min, ◌*◌, List, [], ◌∷◌, length, map, drop, get_or, sum_by, Option, Some, None, refl, sym, ap, ◌∙◌, subst, arith, length-append, zero-mul}
use Rattle.std.specs.List.{AllByRecursion, concat}
use Rattle.std.proofs.lemmas.List.{length-map, length-drop, drop_all, drop_more}
use Rattle.std.proofs.lemmas.List.Sums.{sum_by-cons}
use Rattle.ssz_chunk.specs.Chunk.{zero_chunk}
use Rattle.ssz_chunk.specs.Tree.{Tree, leaf, merkle_tree, place}
use Rattle.ssz_schema.specs.Types.{SszType, Fields, uint, boolean, container, vector, list, bitvector, bitlist, union, no_fields, field}
use Rattle.ssz_schema.specs.Sizes.{fixed_size, basic_size, element_chunks, part_length}
use Rattle.ssz_value.specs.Encoding.{serialize}
use Rattle.ssz_schema.specs.Unfolding.{type_tree_at, fields_over}
use Rattle.ssz_value.specs.Values.{SszValue, Fits, FitFields}
use Rattle.ssz_value.specs.Trees.{tree, field_trees, element_leaves}
use Rattle.ssz_value.specs.Sizes.{size, fields_size}
use Rattle.ssz_schema.proofs.WalkFields.{drop_at}
use Rattle.ssz_value.proofs.PartLemmas.{Part, size_at}
use Rattle.ssz_arena.specs.declared.node.NodeId.{NodeId}
use Rattle.ssz_arena.specs.Content.{ArenaContent, tree_of}
use Rattle.ssz_nodes.specs.Ahead.{Ahead, AheadHolds}
use Rattle.ssz_places.specs.PlaceLaws.{IsTreeOf}
use Rattle.ssz_places.proofs.Elements.{IsBasic}
use Rattle.ssz_value.specs.Written.{capped}
use Rattle.ssz_nodes.specs.Shown.{ForValue, ForPlace, IsAtPlace, AreElements, AreFieldsIn}

-- a node was taken as the next place: it has the first tree, and the others are left
pub record Takes (arena : ArenaContent) (old new : Ahead) (node : NodeId) : Type 0 where
  pub tree : (first : Tree) (trees : List Tree) → AheadHolds arena (first ∷ trees) old
      → tree_of arena node ≡ first
  pub rest : (first : Tree) (trees : List Tree) → AheadHolds arena (first ∷ trees) old
      → AheadHolds arena trees new

-- a type of variable size is composite
pub composite : (t : SszType) → fixed_size t ≡ None → basic_size t ≡ None
composite (uint w) e = cc
composite boolean e = cc
composite (container fs) e = refl
composite (vector elem n) e = refl
composite (list elem n) e = refl
composite (bitvector n) e = refl
composite (bitlist n) e = refl
composite (union os) e = refl

-- the trees of elements of a composite type
pub AreElements-trees : (t : SszType) (depth count : ℕ) (vs : List SszValue) (node : Tree)
    → basic_size t ≡ None → AreElements t depth count vs node
    → (length (map (tree t) vs) ≤ 2 ^ depth) × (node ≡ merkle_tree depth (map (tree t) vs))
AreElements-trees t depth count vs node none are = go (basic_size t) none are.few are.tree
  where
    go : (o : Option ℕ) → o ≡ None → element_chunks o count ≤ 2 ^ depth
        → node ≡ merkle_tree depth (element_leaves o (map (serialize t) vs) (map (tree t) vs))
        → (length (map (tree t) vs) ≤ 2 ^ depth) × (node ≡ merkle_tree depth (map (tree t) vs))
    go None e few is = (omega (arith, length-map vs (tree t), are.many), is)
    go (Some z) e few is = cc

-- values of one type that are still to come
pub record Left (arena : ArenaContent) (t : SszType) (rest : List SszValue) (places : Ahead)
    : Type 0 where
  pub fit : AllByRecursion (Fits t) rest
  pub holds : AheadHolds arena (map (tree t) rest) places

-- the first of them, and the others
pub record First (arena : ArenaContent) (t : SszType) (rest : List SszValue) (node : NodeId)
    (places : Ahead) : Type 0 where
  pub value : SszValue
  pub others : List SszValue
  pub are : rest ≡ value ∷ others
  pub is : IsTreeOf t value (tree_of arena node)
  pub left : Left arena t others places

pub Left-first : (arena : ArenaContent) (t : SszType) (rest : List SszValue) (old new : Ahead)
    (node : NodeId) → Left arena t rest old → 0 < length rest → Takes arena old new node
    → First arena t rest node new
Left-first arena t [] old new node h some takes = absurd (omega arith)
Left-first arena t (v ∷ vs) old new node h some takes = record {
  value = v;
  others = vs;
  are = refl;
  is = record { fits = h.fit.0; is = takes.tree (tree t v) (map (tree t) vs) h.holds };
  left = record { fit = h.fit.1; holds = takes.rest (tree t v) (map (tree t) vs) h.holds };
}

-- what a value adds to the whole
abbrev pub added : SszType → SszValue → ℕ
added t v = part_length (fixed_size t) (size t v)

-- The sum so far, and those of the values still to come.
pub record Sums (arena : ArenaContent) (t : SszType) (vs : List SszValue)
    (i total : ℕ) (places : Ahead) : Type 0 where
  pub rest : List SszValue
  pub left : Left arena t rest places
  pub count : i + length rest ≡ length vs
  pub sum : capped (total + sum_by (added t) rest) ≡ capped (sum_by (added t) vs)
  pub small : total < 2 ^ 64

pub Sums-start : (arena : ArenaContent) (t : SszType) (depth count : ℕ)
    (vs : List SszValue) (node : NodeId) (places : Ahead) → basic_size t ≡ None
    → AreElements t depth count vs (tree_of arena node)
    → ((trees : List Tree) → length trees ≤ 2 ^ depth → tree_of arena node ≡ merkle_tree depth trees
    → AheadHolds arena trees places)
    → Sums arena t vs 0 0 places
Sums-start arena t depth count vs node places none are holds =
    let trees = AreElements-trees t depth count vs (tree_of arena node) none are in
    record {
      rest = vs;
      left = record { fit = are.fit; holds = holds (map (tree t) vs) trees.0 trees.1 };
      count = omega arith;
      sum = ap capped (let e : 0 + sum_by (added t) vs ≡ sum_by (added t) vs = omega arith in e);
      small = omega arith;
    }

pub Sums-more : (arena : ArenaContent) (t : SszType) (vs : List SszValue)
    (i total len next : ℕ) (old new : Ahead) (node : NodeId) → Sums arena t vs i total old
    → i < length vs → Takes arena old new node
    → ForValue t (tree_of arena node) (λ v. len ≡ capped (added t v))
    → next ≡ min (total + len) (2 ^ 64 - 1)
    → Sums arena t vs (i + 1) next new
Sums-more arena t vs i total len next old new node h below takes measured is =
    let first = Left-first arena t h.rest old new node h.left (omega (arith, h.count)) takes in
    let sum : sum_by (added t) h.rest ≡ added t first.value + sum_by (added t) first.others =
    ap (sum_by (added t)) first.are ∙ sum_by-cons (added t) first.value first.others in
    record {
      rest = first.others;
      left = first.left;
      count = omega (arith, h.count, ap (λ (ws : List SszValue). length ws) first.are);
      sum = omega (arith, h.sum, sum, is, measured first.value first.is, h.small);
      small = omega (arith, is);
    }

pub Sums-end : (arena : ArenaContent) (t : SszType) (vs : List SszValue)
    (i total : ℕ) (places : Ahead) → Sums arena t vs i total places → length vs ≤ i
    → total ≡ capped (sum_by (added t) vs)
Sums-end arena t vs i total places h all = end h.rest h.count h.sum
  where
    end : (rest : List SszValue) → i + length rest ≡ length vs
        → capped (total + sum_by (added t) rest) ≡ capped (sum_by (added t) vs)
        → total ≡ capped (sum_by (added t) vs)
    end [] count sum = omega (arith, sum, h.small)
    end (v ∷ rest) count sum = absurd (omega (arith, count))

-- the next of some trees, by their place
record NextTree (all : List Tree) (i : ℕ) (next : Tree) (others : List Tree) : Type 0 where
  inside : i < length all
  here : place all i ≡ next
  behind : drop (i + 1) all ≡ others

next_tree : (all : List Tree) (i : ℕ) (next : Tree) (others : List Tree)
    → drop i all ≡ next ∷ others → NextTree all i next others
next_tree all i next others e =
    let inside : i < length all =
    omega (arith, length-drop i all, ap (λ (ts : List Tree). length ts) e) in
    let both : place all i ∷ drop (i + 1) all ≡ next ∷ others =
    sym (drop_more all i (leaf zero_chunk) inside) ∙ e in
    record { inside = inside; here = cc; behind = cc }

-- Values of the fields from i on that are still to come, in a full tree of this depth.
pub record FieldsLeft (trees : List SszType) (fields : List Part) (i depth : ℕ)
    (rest : List SszValue) (node : Tree) : Type 0 where
  pub fit : FitFields (fields_over trees (drop i fields)) rest
  pub all : List Tree
  pub few : length all ≤ 2 ^ depth
  pub whole : node ≡ merkle_tree depth all
  pub ahead : drop i all ≡ field_trees (fields_over trees (drop i fields)) rest

pub record FirstField (trees : List SszType) (fields : List Part) (i depth : ℕ) (part : Part)
    (rest : List SszValue) (node : Tree) : Type 0 where
  pub value : SszValue
  pub others : List SszValue
  pub are : rest ≡ value ∷ others
  pub is : IsAtPlace (type_tree_at trees part.1) depth i value node
  pub left : FieldsLeft trees fields (i + 1) depth others node

pub FieldsLeft-first : (trees : List SszType) (fields : List Part) (i depth : ℕ) (part : Part)
    (rest : List SszValue) (node : Tree) → FieldsLeft trees fields i depth rest node
    → i < length fields → part ≡ get_or fields i part
    → FirstField trees fields i depth part rest node
FieldsLeft-first trees fields i depth part rest node h below e =
    let here = drop_at fields i part below e in
    go rest (subst (λ (fs : List Part). FitFields (fields_over trees fs) rest) here h.fit)
    (h.ahead ∙ ap (λ (fs : List Part). field_trees (fields_over trees fs) rest) here)
  where
    go : (rest : List SszValue)
        → FitFields (fields_over trees (part ∷ drop (i + 1) fields)) rest
        → drop i h.all ≡ field_trees (fields_over trees (part ∷ drop (i + 1) fields)) rest
        → FirstField trees fields i depth part rest node
    go [] fit ahead = absurd fit
    go (v ∷ vs) fit ahead =
        let next = next_tree h.all i _ _ ahead in
        record {
          value = v;
          others = vs;
          are = refl;
          is = record {
            fits = fit.0;
            inside = omega (arith, next.inside, h.few);
            trees = h.all;
            whole = h.whole;
            here = next.here;
          };
          left = record {
            fit = fit.1;
            all = h.all;
            few = h.few;
            whole = h.whole;
            ahead = next.behind;
          };
        }

-- the node that was come down to at its place has its tree
pub at_place : (t : SszType) (depth i : ℕ) (v : SszValue) (node here : Tree)
    → IsAtPlace t depth i v node
    → ((trees : List Tree) → i < 2 ^ depth → node ≡ merkle_tree depth trees → here ≡ place trees i)
    → IsTreeOf t v here
at_place t depth i v node here h found = record {
  fits = h.fits;
  is = found h.trees h.inside h.whole ∙ h.here;
}

pub record FieldSums (trees : List SszType) (fields : List Part) (vs : List SszValue)
    (i total depth : ℕ) (node : Tree) : Type 0 where
  pub rest : List SszValue
  pub left : FieldsLeft trees fields i depth rest node
  pub sum : capped (total + fields_size (fields_over trees (drop i fields)) rest)
      ≡ capped (fields_size (fields_over trees fields) vs)
  pub small : total < 2 ^ 64

pub length-field_trees : (fs : Fields) (vs : List SszValue) → FitFields fs vs
    → length (field_trees fs vs) ≡ length vs
length-field_trees no_fields [] fit = refl
length-field_trees no_fields (v ∷ vs) fit = absurd fit
length-field_trees (field name t fs) [] fit = absurd fit
length-field_trees (field name t fs) (v ∷ vs) fit = ap suc (length-field_trees fs vs fit.1)

pub FieldsLeft-start : (trees : List SszType) (fields : List Part) (depth : ℕ)
    (vs : List SszValue) (node : Tree) → AreFieldsIn (fields_over trees fields) depth vs node
    → FieldsLeft trees fields 0 depth vs node
FieldsLeft-start trees fields depth vs node are = record {
  fit = are.fit;
  all = field_trees (fields_over trees fields) vs;
  few = omega (arith, length-field_trees (fields_over trees fields) vs are.fit, are.few);
  whole = are.tree;
  ahead = refl;
}

pub FieldSums-start : (trees : List SszType) (fields : List Part) (depth : ℕ)
    (vs : List SszValue) (node : Tree) → AreFieldsIn (fields_over trees fields) depth vs node
    → FieldSums trees fields vs 0 0 depth node
FieldSums-start trees fields depth vs node are = record {
  rest = vs;
  left = FieldsLeft-start trees fields depth vs node are;
  sum = ap capped (let e : 0 + fields_size (fields_over trees fields) vs
      ≡ fields_size (fields_over trees fields) vs = omega arith in e);
  small = omega arith;
}

pub FieldSums-more : (trees : List SszType) (fields : List Part) (vs : List SszValue)
    (i total depth len next : ℕ) (part : Part) (node : Tree)
    → FieldSums trees fields vs i total depth node → i < length fields
    → part ≡ get_or fields i part
    → ForPlace (type_tree_at trees part.1) depth i node
    (λ v. len ≡ capped (part_length (size_at trees part) (size (type_tree_at trees part.1) v)))
    → next ≡ min (total + len) (2 ^ 64 - 1)
    → FieldSums trees fields vs (i + 1) next depth node
FieldSums-more trees fields vs i total depth len next part node h below e measured is =
    let first = FieldsLeft-first trees fields i depth part h.rest node h.left below e in
    let sum : fields_size (fields_over trees (drop i fields)) h.rest
    ≡ part_length (size_at trees part) (size (type_tree_at trees part.1) first.value)
    + fields_size (fields_over trees (drop (i + 1) fields)) first.others =
    ap (λ fs. fields_size (fields_over trees fs) h.rest) (drop_at fields i part below e)
    ∙ ap (fields_size (fields_over trees (part ∷ drop (i + 1) fields))) first.are in
    record {
      rest = first.others;
      left = first.left;
      sum = omega (arith, h.sum, sum, is, measured first.value first.is, h.small);
      small = omega (arith, is);
    }

pub FieldSums-end : (trees : List SszType) (fields : List Part) (vs : List SszValue)
    (i total depth : ℕ) (node : Tree) → FieldSums trees fields vs i total depth node
    → length fields ≤ i
    → total ≡ capped (fields_size (fields_over trees fields) vs)
FieldSums-end trees fields vs i total depth node h all =
    let none : fields_size (fields_over trees (drop i fields)) h.rest ≡ 0 =
    ap (λ fs. fields_size (fields_over trees fs) h.rest) (drop_all i fields all) in
    omega (arith, h.sum, h.small, none)

-- the encodings of values of one basic type
pub length-encodings : (t : SszType) (z : ℕ) → IsBasic t z → (vs : List SszValue)
    → AllByRecursion (Fits t) vs → length (concat (map (serialize t) vs)) ≡ length vs * z
length-encodings t z basic [] fit = sym (zero-mul z)
length-encodings t z basic (v ∷ vs) fit =
    length-append (serialize t v) (concat (map (serialize t) vs))
    ∙ omega (arith, basic.sized v fit.0, length-encodings t z basic vs fit.1)
