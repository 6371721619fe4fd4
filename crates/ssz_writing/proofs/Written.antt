-- Encodings that are written part after part.
use Rattle.std.proofs.Common.{ℕ, ◌+◌, ◌-◌, ◌*◌, ◌/◌, ◌^◌, ◌<◌, ◌≤◌, ◌≡◌, min, List, [], ◌∷◌, ◌++◌, length, map, take, replicate, Option, Some, None, Result, OnOk, refl, sym, ap, ap₂, ◌∙◌, subst, arith}
use Rattle.std.specs.List.{AllByRecursion, concat}
use Rattle.std.proofs.lemmas.List.{length-map}
use Rattle.ssz_chunk.specs.Tree.{Tree, leaf, merkle_tree}
use Rattle.ssz_schema.specs.format.Format.{Format}
use Rattle.ssz_schema.specs.Types.{SszType}
use Rattle.ssz_schema.specs.Sizes.{basic_size, fixed_size, head_size, element_chunks, depth}
use Rattle.ssz_schema.specs.Legal.{IsLegal}
use Rattle.ssz_schema.specs.Indices.{whole}
use Rattle.ssz_value.specs.Values.{SszValue, Fits}
use Rattle.ssz_value.specs.Encoding.{serialize, heads, bodies, joined, joined_alike}
use Rattle.ssz_value.specs.Trees.{tree, element_leaves}
use Rattle.ssz_value.proofs.ChunkLaw.{length-chunks}
use Rattle.ssz_value.proofs.Cut.{AreParts}
use Rattle.ssz_value.proofs.Sequences.{AreParts-alike}
use Rattle.ssz_value.proofs.ExactLaw.{agrees}
use Rattle.ssz_packing.proofs.BasicTrees.{joined_alike-concat}
use Rattle.ssz_places.specs.PlaceLaws.{HasBasicPart}
use Rattle.ssz_places.proofs.BasicParts.{basic_part}
use Rattle.ssz_places.proofs.Elements.{is_basic}
use Rattle.ssz_arena.specs.declared.node.NodeId.{NodeId}
use Rattle.ssz_arena.specs.Content.{ArenaContent, tree_of}
use Rattle.ssz_nodes.specs.declared.basics.Basic.{Basic}
use Rattle.ssz_nodes.specs.declared.basics.Basic.TheVariants.{Number, Flag}
use Rattle.ssz_nodes.specs.Ahead.{Ahead, AheadHolds}
use Rattle.ssz_parts.specs.Encoded.{head_of, body_of}
use Rattle.ssz_value.specs.Written.{capped}
use Rattle.ssz_nodes.specs.Shown.{ForValue, AreElements, ArePacked, ForElements, basic_type}
use Rattle.ssz_writing.specs.Offsets.{AddsBytes, room_of, rooms, offset_rooms}
use Rattle.ssz_writing.proofs.Rooms.{rooms_step, variable_rooms, Filled, Filled-start, Filled-more, joined_adds}
use Rattle.ssz_nodes.proofs.Chunked.{on_ok}
use Rattle.ssz_nodes.proofs.Walked.{Takes, Left, Left-first, AreElements-trees, composite, length-encodings}

-- elements of one type

abbrev pub alike : SszType → List SszValue → List (Option ℕ)
alike t vs = replicate (length vs) (fixed_size t)

pub record HeadsSoFar (arena : ArenaContent) (t : SszType) (vs : List SszValue) (i : ℕ)
    (all out : List ℕ) (places : Ahead) : Type 0 where
  pub rest : List SszValue
  pub left : Left arena t rest places
  pub count : i + length rest ≡ length vs
  pub is : out ++ rooms (alike t rest) (map (serialize t) rest) ≡ all

pub HeadsSoFar-start : (arena : ArenaContent) (t : SszType) (depth count : ℕ)
    (vs : List SszValue) (out : List ℕ) (node : NodeId) (places : Ahead) → basic_size t ≡ None
    → AreElements t depth count vs (tree_of arena node)
    → ((trees : List Tree) → length trees ≤ 2 ^ depth → tree_of arena node ≡ merkle_tree depth trees
    → AheadHolds arena trees places)
    → HeadsSoFar arena t vs 0 (out ++ rooms (alike t vs) (map (serialize t) vs)) out places
HeadsSoFar-start arena t depth count vs out node places none are holds =
    let trees = AreElements-trees t depth count vs (tree_of arena node) none are in
    record {
      rest = vs;
      left = record { fit = are.fit; holds = holds (map (tree t) vs) trees.0 trees.1 };
      count = omega arith;
      is = refl;
    }

pub HeadsSoFar-more : (arena : ArenaContent) (t : SszType) (vs : List SszValue) (i : ℕ)
    (all out written : List ℕ) (old new : Ahead) (node : NodeId)
    → HeadsSoFar arena t vs i all out old → i < length vs → Takes arena old new node
    → ForValue t (tree_of arena node) (λ v. written ≡ out ++ room_of (fixed_size t) (serialize t v))
    → HeadsSoFar arena t vs (i + 1) all written new
HeadsSoFar-more arena t vs i all out written old new node h below takes head =
    let first = Left-first arena t h.rest old new node h.left (omega (arith, h.count)) takes in
    record {
      rest = first.others;
      left = first.left;
      count = omega (arith, h.count, ap (λ (ws : List SszValue). length ws) first.are);
      is = rooms_step (fixed_size t) (alike t first.others) (serialize t first.value)
          (map (serialize t) first.others) out written all
          (subst (λ ws. out ++ rooms (alike t ws) (map (serialize t) ws) ≡ all) first.are h.is)
          (head first.value first.is);
    }

-- room for the offsets of elements of variable size
pub element_rooms : (t : SszType) (count : ℕ) (vs : List SszValue) → fixed_size t ≡ None
    → length vs ≡ count → offset_rooms count ≡ rooms (alike t vs) (map (serialize t) vs)
element_rooms t count vs none many =
    let long : length (map (serialize t) vs) ≡ length vs = length-map vs (serialize t) in
    ap offset_rooms (sym (long ∙ many)) ∙ sym (variable_rooms (map (serialize t) vs))
    ∙ ap₂ (λ n size. rooms (replicate n size) (map (serialize t) vs)) long (sym none)

pub record BodiesSoFar (arena : ArenaContent) (t : SszType) (vs : List SszValue) (i start room : ℕ)
    (all out : List ℕ) (places : Ahead) : Type 0 where
  pub rest : List SszValue
  pub left : Left arena t rest places
  pub count : i + length rest ≡ length vs
  pub filled : Filled (alike t rest) (map (serialize t) rest) start room all out

-- values of a type of variable size are parts
pub variable_parts : (t : SszType) (vs : List SszValue) → fixed_size t ≡ None
    → AreParts (alike t vs) (map (serialize t) vs)
variable_parts t vs none =
    subst (λ size. AreParts (replicate (length vs) size) (map (serialize t) vs))
    (sym none) (go vs)
  where
    go : (vs : List SszValue) → AreParts (replicate (length vs) None) (map (serialize t) vs)
    go [] = tt
    go (v ∷ vs) = go vs

pub BodiesSoFar-start : (arena : ArenaContent) (t : SszType) (depth count start : ℕ)
    (vs : List SszValue) (front out : List ℕ) (node : NodeId) (places : Ahead)
    → fixed_size t ≡ None → AreElements t depth count vs (tree_of arena node)
    → ((trees : List Tree) → length trees ≤ 2 ^ depth → tree_of arena node ≡ merkle_tree depth trees
    → AheadHolds arena trees places)
    → start < 2 ^ 64 → length front ≡ start
    → out ≡ front ++ rooms (alike t vs) (map (serialize t) vs)
    → BodiesSoFar arena t vs 0 start start
    (front ++ heads (alike t vs) (map (serialize t) vs) (length out - start)
    ++ bodies (alike t vs) (map (serialize t) vs)) out places
BodiesSoFar-start arena t depth count start vs front out node places none are holds small at is =
    let trees = AreElements-trees t depth count vs (tree_of arena node) (composite t none) are in
    record {
      rest = vs;
      left = record { fit = are.fit; holds = holds (map (tree t) vs) trees.0 trees.1 };
      count = omega arith;
      filled = Filled-start (alike t vs) (map (serialize t) vs) start front out
          (variable_parts t vs none) small at is;
    }

pub BodiesSoFar-more : (arena : ArenaContent) (t : SszType) (vs : List SszValue)
    (i start room next : ℕ) (all out written : List ℕ) (old new : Ahead) (node : NodeId)
    → BodiesSoFar arena t vs i start room all out old → i < length vs → fixed_size t ≡ None
    → Takes arena old new node → next ≡ min (room + 4) (2 ^ 64 - 1)
    → ForValue t (tree_of arena node) (λ v. (front back : List ℕ) → room ≡ capped (length front)
    → out ≡ front ++ room_of None (serialize t v) ++ back
    → written ≡ front ++ head_of None (serialize t v) (length out - start) ++ back
    ++ body_of None (serialize t v))
    → BodiesSoFar arena t vs (i + 1) start next all written new
BodiesSoFar-more arena t vs i start room next all out written old new node h below none takes is
    body =
    let first = Left-first arena t h.rest old new node h.left (omega (arith, h.count)) takes in
    record {
      rest = first.others;
      left = first.left;
      count = omega (arith, h.count, ap (λ (ws : List SszValue). length ws) first.are);
      filled = Filled-more (fixed_size t) (alike t first.others) (serialize t first.value)
          (map (serialize t) first.others) start room next all out written
          (subst (λ ws. Filled (alike t ws) (map (serialize t) ws) start room all out) first.are
          h.filled)
          (is ∙ ap (λ size. min (room + head_size size) (2 ^ 64 - 1)) (sym none))
          (subst (λ (size : Option ℕ). (front back : List ℕ) → room ≡ capped (length front)
          → out ≡ front ++ room_of size (serialize t first.value) ++ back
          → written ≡ front ++ head_of size (serialize t first.value) (length out - start) ++ back
          ++ body_of size (serialize t first.value)) (sym none) (body first.value first.is));
    }

pub elements_adds : (format : Format) (t : SszType) (start : ℕ) (vs : List SszValue)
    (old mid new : List ℕ) → IsLegal format t → AllByRecursion (Fits t) vs → start ≡ length old
    → mid ≡ old ++ rooms (alike t vs) (map (serialize t) vs)
    → new ≡ old ++ heads (alike t vs) (map (serialize t) vs) (length mid - start)
    ++ bodies (alike t vs) (map (serialize t) vs)
    → new ≡ old ++ joined_alike (fixed_size t) (map (serialize t) vs)
elements_adds format t start vs old mid new legal fit at front end =
    let sizes : replicate (length (map (serialize t) vs)) (fixed_size t) ≡ alike t vs =
    ap (λ n. replicate n (fixed_size t)) (length-map vs (serialize t)) in
    let parts = subst (λ ss. AreParts ss (map (serialize t) vs)) sizes
    (AreParts-alike t (fixed_size t) (λ z v. (agrees format t legal).sized z v) vs fit) in
    joined_adds (alike t vs) (map (serialize t) vs) start old mid new parts at front end
    ∙ ap (λ ss. old ++ joined ss (map (serialize t) vs)) (sym sizes)

-- basic elements

pub packed_elements : (t : SszType) (z depth count : ℕ) (vs : List SszValue) (node : Tree)
    → basic_size t ≡ Some z → AreElements t depth count vs node
    → ArePacked depth (count * z) (concat (map (serialize t) vs)) node
packed_elements t z depth count vs node size are =
    let long : length (concat (map (serialize t) vs)) ≡ count * z =
    length-encodings t z (is_basic t z size) vs are.fit ∙ ap (λ n. n * z) are.many in
    go (basic_size t) size are.few are.tree long
  where
    go : (o : Option ℕ) → o ≡ Some z → element_chunks o count ≤ 2 ^ depth
        → node ≡ merkle_tree depth (element_leaves o (map (serialize t) vs) (map (tree t) vs))
        → length (concat (map (serialize t) vs)) ≡ count * z
        → ArePacked depth (count * z) (concat (map (serialize t) vs)) node
    go None e few is long = cc
    go (Some y) e few is long =
        let same : y ≡ z = cc in
        record {
          many = long;
          few = omega (
            arith,
            few,
            long,
            ap (λ n. count * n) same,
            length-chunks ((length (concat (map (serialize t) vs)) + 31) / 32)
                (concat (map (serialize t) vs)),
          );
          tree = is;
        }

basic_fixed : (basic : Basic) → fixed_size (basic_type basic) ≡ basic_size (basic_type basic)
basic_fixed (Number width) = refl
basic_fixed Flag = refl

pub packed_adds : {E : Type 0} (basic : Basic) (t : SszType) (z d count len : ℕ) (node : Tree)
    (old new : List ℕ) (result : Result Unit E) → basic_type basic ≡ t
    → basic_size (basic_type basic) ≡ Some z → len ≡ count * z
    → ((bytes : List ℕ) → ArePacked d len bytes node → OnOk result (new ≡ old ++ bytes))
    → ForElements t d count node (λ vs.
    AddsBytes (joined_alike (fixed_size t) (map (serialize t) vs)) old new result)
packed_adds {E = E} basic t z d count len node old new result same size long adds =
    subst (λ (ty : SszType). ForElements ty d count node (λ vs.
    AddsBytes (joined_alike (fixed_size ty) (map (serialize ty) vs)) old new result)) same
    (λ vs are.
    let fixed : fixed_size (basic_type basic) ≡ Some z = basic_fixed basic ∙ size in
    let bytes : joined_alike (fixed_size (basic_type basic)) (map (serialize (basic_type basic)) vs)
    ≡ concat (map (serialize (basic_type basic)) vs) =
    ap (λ s. joined_alike s (map (serialize (basic_type basic)) vs)) fixed
    ∙ joined_alike-concat z (map (serialize (basic_type basic)) vs) in
    on_ok result (λ is. is ∙ ap (λ xs. old ++ xs) (sym bytes))
    (adds (concat (map (serialize (basic_type basic)) vs))
    (subst (λ n. ArePacked d n (concat (map (serialize (basic_type basic)) vs)) node) (sym long)
    (packed_elements (basic_type basic) z d count vs node size are))))

-- a basic value, by its leaf
pub basic_adds : (basic : Basic) (z : ℕ) (node : Tree) (chunk old new : List ℕ)
    → basic_size (basic_type basic) ≡ Some z → ((c : List ℕ) → node ≡ leaf c → chunk ≡ c)
    → new ≡ old ++ take z chunk
    → ForValue (basic_type basic) node (λ v. new ≡ old ++ serialize (basic_type basic) v)
basic_adds basic z node chunk old new size shows is = λ v h.
    let at : HasBasicPart whole (basic_type basic) v node z =
    basic_part whole (basic_type basic) v node z size refl h.fits h.is in
    let all : z ≡ 0 + z - 0 = omega arith in
    is ∙ ap₂ (λ c n. old ++ take n c) (shows at.chunk at.is) all ∙ ap (λ xs. old ++ xs) at.bytes
