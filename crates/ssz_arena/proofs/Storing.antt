-- Nodes as they are kept: at a place, and after a push.
use Rattle.std.proofs.Common.{◌≡◌, ◌≢◌, ℕ, ◌+◌, ◌-◌, ◌*◌, ◌/◌, ◌%◌, ◌^◌, ◌<◌, ◌≤◌, Bool, true, false, cond, eqb, List, [], ◌∷◌, ◌++◌, length, get_or, refl, sym, ap, ◌∙◌, subst, slice_get, Option, Some, None, inl, inr, arith, length-append, length-set, leb, set}
use Rattle.std.specs.Prelude.{unwrap_or}
use Rattle.std.proofs.lemmas.Bool.{cases_eq, cases_lt, eq-eqb, le-leb}
use Rattle.std.proofs.lemmas.Bool.Decides.{nat_tests}
use Rattle.std.proofs.lemmas.List.{get_or_append_left, get_or_push, get_or-append-add, get_or-set_same, get_or-set_other}
use Rattle.std.proofs.lemmas.List.FromFn.{length-map-range_with_len, get_or-map-range_with_len, fill_by_all}
use Rattle.std.proofs.lemmas.Option.{get_or_from_slice_get, same_Some, slice_get-get_or}
use Rattle.ssz_chunk.specs.declared.Chunk.{Chunk}
use Rattle.ssz_arena.specs.declared.node.NodeId.{NodeId}
use Rattle.ssz_arena.specs.declared.node.Node.{Node}
use Rattle.ssz_arena.specs.declared.node.Node.TheVariants.{Leaf, Pair}
use Rattle.ssz_arena.specs.Batches.{halves_of, left_child, right_child}
use Rattle.ssz_arena.specs.Content.{child, is_unhashed}
use Rattle.ssz_arena.specs.Copied.{AreOrdered}
use Rattle.ssz_arena.specs.Stored.{chunk_of, shape_of, count_of, link_count, first_link, mark_of, links_with, links_at, pair_in, node_with, no_chunk, node_in, nodes_in, IsStored, pair_shape, pair_links, blocks_for}

-- ---- the node at a place

pub length-nodes_in : (cs : List Chunk) (ks fs ls : List ℕ)
    → length (nodes_in cs ks fs ls) ≡ length cs
unfolding nodes_in
length-nodes_in cs ks fs ls = length-map-range_with_len (node_in cs ks fs ls) 0 (length cs)

pub get-nodes_in : (cs : List Chunk) (ks fs ls : List ℕ) (i : ℕ) (d : Node) → i < length cs
    → get_or (nodes_in cs ks fs ls) i d ≡ node_in cs ks fs ls i
unfolding nodes_in
get-nodes_in cs ks fs ls i d within =
    get_or-map-range_with_len (node_in cs ks fs ls) 0 (length cs) i i d within (omega arith)

-- a list that has each of these nodes
pub nodes_in-is : (cs : List Chunk) (ks fs ls : List ℕ) (ns : List Node) (d : Node)
    → length ns ≡ length cs
    → ((i : ℕ) → i < length cs → get_or ns i d ≡ node_in cs ks fs ls i)
    → ns ≡ nodes_in cs ks fs ls
unfolding nodes_in
nodes_in-is cs ks fs ls ns d count each =
    fill_by_all (node_in cs ks fs ls) ns (length cs) d count each

-- no nodes
pub nodes_in-none : (cs : List Chunk) (ks fs ls : List ℕ) → cs ≡ [] → nodes_in cs ks fs ls ≡ []
nodes_in-none cs ks fs ls none =
    sym (nodes_in-is cs ks fs ls [] (Leaf no_chunk) (sym (ap (λ (xs : List Chunk). length xs) none))
    (λ i within. absurd (omega (arith, within, ap (λ (xs : List Chunk). length xs) none))))

pub found : (nodes : List Node) (cs : List Chunk) (ks fs ls : List ℕ) (i : ℕ)
    → nodes_in cs ks fs ls ≡ nodes → i < length nodes
    → slice_get nodes i ≡ Some (node_in cs ks fs ls i)
found nodes cs ks fs ls i is within =
    let inside : i < length cs =
    omega (arith, within, length-nodes_in cs ks fs ls, ap (λ (ns : List Node). length ns) is) in
    slice_get-get_or nodes i (Leaf no_chunk) within
    ∙ ap (λ ns. Some (get_or ns i (Leaf no_chunk))) (sym is)
    ∙ ap Some (get-nodes_in cs ks fs ls i (Leaf no_chunk) inside)

-- of a pair that has no root yet
pub pair_in-due : (chunk : Chunk) (link right : ℕ) → 2 ^ 31 ≤ link
    → pair_in chunk link right ≡ Pair (record { 0 = link - 2 ^ 31 }) (record { 0 = right }) None
pair_in-due chunk link right marked =
    ap (λ t. cond t (Pair (record { 0 = link - 2 ^ 31 }) (record { 0 = right }) None)
    (Pair (record { 0 = link }) (record { 0 = right }) (Some chunk))) (le-leb (2 ^ 31) link marked)

-- of one that has its root
pub pair_in-kept : (chunk : Chunk) (link right : ℕ) → link < 2 ^ 31
    → pair_in chunk link right ≡ Pair (record { 0 = link }) (record { 0 = right }) (Some chunk)
pair_in-kept chunk link right low =
    let not : leb (2 ^ 31) link ≡ false = grind (arith, nat_tests) in
    ap (λ t. cond t (Pair (record { 0 = link - 2 ^ 31 }) (record { 0 = right }) None)
    (Pair (record { 0 = link }) (record { 0 = right }) (Some chunk))) not

-- ---- marks

pub mark_of-marked : (link : ℕ) → 2 ^ 31 ≤ link → mark_of link ≡ 2 ^ 31
mark_of-marked link marked = ap (λ t. cond t (2 ^ 31) 0) (le-leb (2 ^ 31) link marked)

pub mark_of-low : (link : ℕ) → link < 2 ^ 31 → mark_of link ≡ 0
mark_of-low link low =
    let not : leb (2 ^ 31) link ≡ false = grind (arith, nat_tests) in
    ap (λ t. cond t (2 ^ 31) 0) not

-- ---- shapes

count-three : (shape : ℕ) → shape ≡ 3 → count_of shape ≡ 1
count-three shape three = ap (λ t. cond t 1 shape) (eq-eqb shape 3 three)

count-other : (shape : ℕ) → shape ≢ 3 → count_of shape ≡ shape
count-other shape other =
    let not : eqb shape 3 ≡ false = grind (arith, nat_tests) in
    ap (λ t. cond t 1 shape) not

-- a leaf alone has no links
pub count_some : (shape : ℕ) → 0 < shape → 0 < count_of shape
count_some shape some = elim (cases_eq shape 3) [
  | inl three ↦ omega (arith, count-three shape three)
  | inr other ↦ omega (arith, some, count-other shape other)
]

pub count_few : (shape : ℕ) → shape < 4 → count_of shape < 3
count_few shape few = elim (cases_eq shape 3) [
  | inl three ↦ omega (arith, count-three shape three)
  | inr other ↦ omega (arith, few, other, count-other shape other)
]

count_many : (shape : ℕ) → shape ≢ 0 → shape ≢ 1 → shape ≢ 3 → 1 < count_of shape
count_many shape some near other = omega (arith, some, near, count-other shape other)

-- ---- links

abbrev of_links : Bool → Bool → Bool → ℕ → ℕ → ℕ → Option (ℕ × ℕ)
of_links none right left i x y =
    cond none None (cond right (Some (x, i - 1))
    (cond left (Some (i - 1 + mark_of x, x - mark_of x)) (Some (x, y))))

two_links : (none right left : Bool) (i x y x' y' : ℕ) → (none ≡ false → x' ≡ x)
    → (none ≡ false → right ≡ false → left ≡ false → y' ≡ y)
    → of_links none right left i x' y' ≡ of_links none right left i x y
two_links true right left i x y x' y' one two = refl
two_links false true left i x y x' y' one two =
    ap (λ a. of_links false true left i a y) (one refl)
two_links false false true i x y x' y' one two =
    ap (λ a. of_links false false true i a y) (one refl)
two_links false false false i x y x' y' one two =
    ap (λ a. of_links false false false i a y') (one refl)
    ∙ ap (λ b. of_links false false false i x b) (two refl refl refl)

-- the links of a node are the same in both lists
pub links_with-as : (shape first : ℕ) (ls ls' : List ℕ) (i : ℕ)
    → (0 < count_of shape → get_or ls' first 0 ≡ get_or ls first 0)
    → (1 < count_of shape → get_or ls' (first + 1) 0 ≡ get_or ls (first + 1) 0)
    → links_with shape first ls' i ≡ links_with shape first ls i
links_with-as shape first ls ls' i left right =
    two_links (eqb shape 0) (eqb shape 1) (eqb shape 3) i _ _ _ _
    (λ some. let more : 0 < shape = grind (arith, nat_tests) in left (count_some shape more))
    (λ some near other.
    let more : shape ≢ 0 = grind (arith, nat_tests) in
    let not_near : shape ≢ 1 = grind (arith, nat_tests) in
    let not_left : shape ≢ 3 = grind (arith, nat_tests) in
    right (count_many shape more not_near not_left))

-- the children of a pair, of which the left one has the mark, by its first and its second link
abbrev left_of : ℕ → ℕ → ℕ → ℕ
left_of shape i x = cond (eqb shape 1) x (cond (eqb shape 3) (i - 1 + mark_of x) x)

abbrev right_of : ℕ → ℕ → ℕ → ℕ → ℕ
right_of shape i x y = cond (eqb shape 1) (i - 1) (cond (eqb shape 3) (x - mark_of x) y)

pair_seen : (chunk : Chunk) (shape first : ℕ) (ls : List ℕ) (i : ℕ) → 0 < shape
    → node_with chunk (links_with shape first ls i)
    ≡ pair_in chunk (left_of shape i (get_or ls first 0))
    (right_of shape i (get_or ls first 0) (get_or ls (first + 1) 0))
pair_seen chunk shape first ls i some =
    let not : eqb shape 0 ≡ false = grind (arith, nat_tests) in
    let x : ℕ = get_or ls first 0 in
    let y : ℕ = get_or ls (first + 1) 0 in
    ap (λ t. node_with chunk (of_links t (eqb shape 1) (eqb shape 3) i x y)) not
    ∙ apart_by (eqb shape 1) (eqb shape 3) x y
  where
    apart_by : (right left : Bool) (x y : ℕ)
        → node_with chunk (of_links false right left i x y)
        ≡ pair_in chunk (cond right x (cond left (i - 1 + mark_of x) x))
        (cond right (i - 1) (cond left (x - mark_of x) y))
    apart_by true left x y = refl
    apart_by false true x y = refl
    apart_by false false x y = refl

leaf_seen : (chunk : Chunk) (shape first : ℕ) (ls : List ℕ) (i : ℕ) → shape ≡ 0
    → node_with chunk (links_with shape first ls i) ≡ Leaf chunk
leaf_seen chunk shape first ls i none =
    ap (λ t. node_with chunk (of_links t (eqb shape 1) (eqb shape 3) i (get_or ls first 0)
    (get_or ls (first + 1) 0))) (eq-eqb shape 0 none)

-- the mark of the first link is that of the left child
module _ (shape i x : ℕ) (few : i ≤ 2 ^ 31) where
  left_low : x < 2 ^ 31 → left_of shape i x < 2 ^ 31
  left_low low =
      let before : i - 1 + mark_of x < 2 ^ 31 = omega (arith, few, mark_of-low x low) in
      by (eqb shape 1) (eqb shape 3) before
    where
      by : (right left : Bool) → i - 1 + mark_of x < 2 ^ 31
          → cond right x (cond left (i - 1 + mark_of x) x) < 2 ^ 31
      by true left before = low
      by false true before = before
      by false false before = low

  left_marked : 2 ^ 31 ≤ x → 2 ^ 31 ≤ left_of shape i x
  left_marked marked =
      let before : 2 ^ 31 ≤ i - 1 + mark_of x = omega (arith, mark_of-marked x marked) in
      by (eqb shape 1) (eqb shape 3) before
    where
      by : (right left : Bool) → 2 ^ 31 ≤ i - 1 + mark_of x
          → 2 ^ 31 ≤ cond right x (cond left (i - 1 + mark_of x) x)
      by true left before = marked
      by false true before = before
      by false false before = marked

  -- without the mark
  left_unmarked : 2 ^ 31 ≤ x → x < 2 ^ 32 → left_of shape i (x - 2 ^ 31) ≡ left_of shape i x - 2
      ^ 31
  left_unmarked marked fits =
      let low : x - 2 ^ 31 < 2 ^ 31 = omega (arith, marked, fits) in
      let before : i - 1 + mark_of (x - 2 ^ 31) ≡ i - 1 + mark_of x - 2 ^ 31 =
      omega (arith, mark_of-low _ low, mark_of-marked x marked) in
      by (eqb shape 1) (eqb shape 3) before
    where
      by : (right left : Bool) → i - 1 + mark_of (x - 2 ^ 31) ≡ i - 1 + mark_of x - 2 ^ 31
          → cond right (x - 2 ^ 31) (cond left (i - 1 + mark_of (x - 2 ^ 31)) (x - 2 ^ 31))
          ≡ cond right x (cond left (i - 1 + mark_of x) x) - 2 ^ 31
      by true left before = refl
      by false true before = before
      by false false before = refl

  right_unmarked : (y : ℕ) → 2 ^ 31 ≤ x → x < 2 ^ 32
      → right_of shape i (x - 2 ^ 31) y ≡ right_of shape i x y
  right_unmarked y marked fits =
      let low : x - 2 ^ 31 < 2 ^ 31 = omega (arith, marked, fits) in
      let rest : x - 2 ^ 31 - mark_of (x - 2 ^ 31) ≡ x - mark_of x =
      omega (arith, mark_of-low _ low, mark_of-marked x marked) in
      ap (λ r. cond (eqb shape 1) (i - 1) (cond (eqb shape 3) r y)) rest

-- ---- a block that begins

record Begun (n : ℕ) (fs fs' : List ℕ) (total : ℕ) : Type 0 where
  kept : (b : ℕ) → b < length fs → get_or fs' b 0 ≡ get_or fs b 0
  blocks : n < 32 * length fs'
  no_more : 32 * length fs' ≤ n + 32
  begins : (b : ℕ) → b < length fs'
      → (get_or fs' b 0 ≤ total) × (total + 64 * b ≤ get_or fs' b 0 + 2 * n)

begun : (n : ℕ) (ks fs : List ℕ) (total : ℕ) → IsStored n ks fs total
    → Begun n fs (blocks_for fs n total) total
begun n ks fs total stored = elim (cases_eq (32 * length fs) n) [
  | inl same ↦
      let more : _ = length-append fs (total ∷ []) in
      subst (λ xs. Begun n fs xs total)
      (sym (ap (λ t. cond t (fs ++ total ∷ []) fs) (eq-eqb _ _ same))) (record {
        kept = λ b h. get_or_append_left fs (total ∷ []) 0 b h;
        blocks = omega (arith, more, same);
        no_more = omega (arith, more, same);
        begins = λ b h. elim (cases_lt b (length fs)) [
          | inl old ↦
              let is : _ = get_or_append_left fs (total ∷ []) 0 b old in (
                omega (arith, is, (stored.begins b old).0),
                omega (arith, is, (stored.begins b old).1),
              )
          | inr last ↦
              let here : length fs ≡ b = omega (arith, more, h, last) in
              let is : _ = get_or_push fs total 0 b here in
              (omega (arith, is), omega (arith, is, here, same))
        ];
      })
  | inr other ↦
      let not : eqb (32 * length fs) n ≡ false = grind (arith, nat_tests) in
      subst (λ xs. Begun n fs xs total) (sym (ap (λ t. cond t (fs ++ total ∷ []) fs) not)) (record {
        kept = λ b h. refl;
        blocks = omega (arith, stored.enough, other);
        no_more = omega (arith, stored.no_more);
        begins = stored.begins;
      })
]

-- ---- one node more, with these links

module _ (n : ℕ) (ks fs : List ℕ) (total : ℕ) (stored : IsStored n ks fs total) (shape kind before
    : ℕ)
    (small : shape < 4) (first : n ≡ 0 → count_of shape ≢ 1) (byte : kind ≡ shape + 4 * before)
    (sum : get_or (blocks_for fs n total) (n / 32) 0 + before ≡ total) where
  abbrev count : ℕ
  count = count_of shape

  few : count < 3
  few = count_few shape small

  abbrev fs' : List ℕ
  fs' = blocks_for fs n total

  abbrev ks' : List ℕ
  ks' = ks ++ kind ∷ []

  opened : Begun n fs fs' total
  opened = begun n ks fs total stored

  old_kind : (i : ℕ) → i < n → get_or ks' i 0 ≡ get_or ks i 0
  old_kind i h = get_or_append_left ks (kind ∷ []) 0 i (omega (arith, stored.count, h))

  old_shape : (i : ℕ) → i < n → shape_of ks' i ≡ shape_of ks i
  old_shape i h = ap (λ k. k % 4) (old_kind i h)

  old_count : (i : ℕ) → i < n → link_count ks' i ≡ link_count ks i
  old_count i h = ap count_of (old_shape i h)

  old_first : (i : ℕ) → i < n → first_link ks' fs' i ≡ first_link ks fs i
  old_first i h =
      let block : i / 32 < length fs = omega (arith, stored.enough, h) in
      ap (λ f. f + get_or ks' i 0 / 4) (opened.kept (i / 32) block)
      ∙ ap (λ k. get_or fs (i / 32) 0 + k / 4) (old_kind i h)

  new_kind : get_or ks' n 0 ≡ shape + 4 * before
  new_kind = get_or_push ks kind 0 n stored.count ∙ byte

  new_shape : shape_of ks' n ≡ shape
  new_shape =
      let rest : (shape + 4 * before) % 4 ≡ shape = omega (arith, small) in
      ap (λ k. k % 4) new_kind ∙ rest

  new_count : link_count ks' n ≡ count
  new_count = ap count_of new_shape

  new_first : first_link ks' fs' n ≡ total
  new_first =
      let rest : (shape + 4 * before) / 4 ≡ before = omega (arith, small) in
      ap (λ k. get_or fs' (n / 32) 0 + k / 4) new_kind
      ∙ ap (λ k. get_or fs' (n / 32) 0 + k) rest ∙ sum

  pub pushed : IsStored (n + 1) ks' fs' (total + count)
  pushed = record {
    count = length-append ks (kind ∷ []) ∙ omega (arith, stored.count);
    all = omega (arith, stored.all, few);
    first = elim (cases_eq n 0) [
      | inl none ↦ λ one.
          first none (sym new_count ∙ ap (λ k. link_count ks' k) none ∙ one)
      | inr some ↦ λ one.
          let here : 0 < n = omega (arith, some) in
          stored.first (sym (old_count 0 here) ∙ one)
    ];
    enough = omega (arith, opened.blocks);
    no_more = omega (arith, opened.no_more);
    begins = λ b h. (
      omega (arith, (opened.begins b h).0),
      omega (arith, (opened.begins b h).1, few),
    );
    inside = λ i h. elim (cases_lt i n) [
      | inl old ↦ omega (arith, old_count i old, old_first i old, stored.inside i old)
      | inr last ↦
          let here : n ≡ i = omega (arith, h, last) in
          subst (λ k. first_link ks' fs' k + link_count ks' k ≤ total + count) here
          (omega (arith, new_first, new_count))
    ];
    apart = λ i j less h. elim (cases_lt j n) [
      | inl old ↦
          let under : i < n = omega (arith, less, old) in
          omega (
            arith,
            old_count i under,
            old_first i under,
            old_first j old,
            stored.apart i j less old,
          )
      | inr last ↦
          let here : n ≡ j = omega (arith, h, last) in
          let under : i < n = omega (arith, less, here) in
          subst (λ k. first_link ks' fs' i + link_count ks' i ≤ first_link ks' fs' k) here
          (omega (arith, new_first, old_count i under, old_first i under, stored.inside i under))
    ];
  }

  module _ (cs : List Chunk) (ls ws : List ℕ) (chunk : Chunk) (long : length cs ≡ n)
      (links : length ls ≡ total) where
    abbrev cs' : List Chunk
    cs' = cs ++ chunk ∷ []

    abbrev ls' : List ℕ
    ls' = ls ++ ws

    old_links : (i : ℕ) → i < n → links_at ks' fs' ls' i ≡ links_at ks fs ls i
    old_links i h =
        ap (λ c. links_with c (first_link ks' fs' i) ls' i) (old_shape i h)
        ∙ ap (λ f. links_with (shape_of ks i) f ls' i) (old_first i h)
        ∙ links_with-as (shape_of ks i) (first_link ks fs i) ls ls' i
        (λ some. get_or_append_left ls ws 0 (first_link ks fs i)
        (omega (arith, some, stored.inside i h, links)))
        (λ many. get_or_append_left ls ws 0 (first_link ks fs i + 1)
        (omega (arith, many, stored.inside i h, links)))

    old_node : (i : ℕ) → i < n → node_in cs' ks' fs' ls' i ≡ node_in cs ks fs ls i
    old_node i h =
        ap (node_with (get_or cs' i no_chunk)) (old_links i h)
        ∙ ap (λ c. node_with c (links_at ks fs ls i))
        (get_or_append_left cs (chunk ∷ []) no_chunk i (omega (arith, h, long)))

    new_node : node_in cs' ks' fs' ls' n ≡ node_with chunk (links_with shape total ls' n)
    new_node =
        ap (λ c. node_with c (links_at ks' fs' ls' n)) (get_or_push cs chunk no_chunk n long)
        ∙ ap (λ c. node_with chunk (links_with c (first_link ks' fs' n) ls' n)) new_shape
        ∙ ap (λ f. node_with chunk (links_with shape f ls' n)) new_first

    pub pushed_nodes : (node : Node) → node_with chunk (links_with shape total ls' n) ≡ node
        → nodes_in cs' ks' fs' ls' ≡ nodes_in cs ks fs ls ++ node ∷ []
    pushed_nodes node made =
        let old : List Node = nodes_in cs ks fs ls in
        let d : Node = Leaf no_chunk in
        let size : length old ≡ n = length-nodes_in cs ks fs ls ∙ long in
        sym (nodes_in-is cs' ks' fs' ls' (old ++ node ∷ []) d
        (omega (arith, length-append old (node ∷ []), length-append cs (chunk ∷ []), size, long))
        (λ i h. elim (cases_lt i n) [
          | inl before_it ↦
              get_or_append_left old (node ∷ []) d i (omega (arith, before_it, size))
              ∙ get-nodes_in cs ks fs ls i d (omega (arith, before_it, long))
              ∙ sym (old_node i before_it)
          | inr last ↦
              let here : n ≡ i = omega (arith, h, last, long, length-append cs (chunk ∷ [])) in
              subst (λ k. get_or (old ++ node ∷ []) k d ≡ node_in cs' ks' fs' ls' k) here
              (get_or_push old node d n size ∙ sym made ∙ sym new_node)
        ]))

-- ---- the links of a pair

pub pair_few : (left right n : ℕ) → pair_shape left right n < 4
pair_few left right n = short (eqb (right + 1) n) (eqb (left - mark_of left + 1) n)
  where
    short : (t u : Bool) → cond t 1 (cond u 3 2) < 4
    short true u = omega arith
    short false true = omega arith
    short false false = omega arith

abbrev of_shape : Bool → Bool → ℕ
of_shape t u = cond t 1 (cond u 3 2)

abbrev of_pair : ℕ → ℕ → Bool → Bool → List ℕ
of_pair left right t u = cond t (left ∷ [])
    (cond u ((right + mark_of left) ∷ []) (left ∷ right ∷ []))

pub pair_first : (left right n : ℕ) → n ≡ 0 → count_of (pair_shape left right n) ≢ 1
pair_first left right n none =
    let not : eqb (right + 1) n ≡ false = grind (arith, nat_tests) in
    let neither : eqb (left - mark_of left + 1) n ≡ false = grind (arith, nat_tests) in
    λ one. absurd (omega (
      arith,
      ap (λ t. count_of (of_shape t (eqb (left - mark_of left + 1) n))) not,
      ap (λ u. count_of (of_shape false u)) neither,
      one,
    ))

abbrev made_of : Chunk → List ℕ → ℕ → ℕ → ℕ → ℕ → Bool → Bool → Node
made_of chunk ls left right n total t u =
    node_with chunk (links_with (of_shape t u) total (ls ++ of_pair left right t u) n)

-- its left child just before it: the mark stands on its right child
left_made : (chunk : Chunk) (ls : List ℕ) (left right n total : ℕ) → length ls ≡ total
    → right < 2 ^ 31 → left - mark_of left + 1 ≡ n
    → made_of chunk ls left right n total false true ≡ pair_in chunk left right
left_made chunk ls left right n total long short near =
    let x : ℕ = right + mark_of left in
    let read : get_or (ls ++ x ∷ []) total 0 ≡ x = get_or_push ls x 0 total long in
    let same : (mark_of x ≡ mark_of left) × (mark_of left ≤ left) =
    elim (cases_lt left (2 ^ 31)) [
      | inl low ↦
          let none : mark_of left ≡ 0 = mark_of-low left low in
          (mark_of-low x (omega (arith, short, none)) ∙ sym none, omega (arith, none))
      | inr marked ↦
          let one : mark_of left ≡ 2 ^ 31 = mark_of-marked left marked in
          (mark_of-marked x (omega (arith, one)) ∙ sym one, omega (arith, one, marked))
    ] in
    ap (λ k. pair_in chunk (n - 1 + mark_of k) (k - mark_of k)) read
    ∙ ap (λ l. pair_in chunk l (x - mark_of x)) (omega (arith, same.0, same.1, near))
    ∙ ap (pair_in chunk left) (omega (arith, same.0))

-- no child just before it
wide_made : (chunk : Chunk) (ls : List ℕ) (left right n total : ℕ) → length ls ≡ total
    → made_of chunk ls left right n total false false ≡ pair_in chunk left right
wide_made chunk ls left right n total long =
    let one : get_or (ls ++ left ∷ right ∷ []) total 0 ≡ left =
    ap (λ k. get_or (ls ++ left ∷ right ∷ []) k 0) (omega (arith, long))
    ∙ get_or-append-add ls (left ∷ right ∷ []) 0 0 in
    let two : get_or (ls ++ left ∷ right ∷ []) (total + 1) 0 ≡ right =
    ap (λ k. get_or (ls ++ left ∷ right ∷ []) k 0) (omega (arith, long))
    ∙ get_or-append-add ls (left ∷ right ∷ []) 1 0 in
    ap (λ l. pair_in chunk l (get_or (ls ++ left ∷ right ∷ []) (total + 1) 0)) one
    ∙ ap (pair_in chunk left) two

pub pair_made : (chunk : Chunk) (ls : List ℕ) (left right n total : ℕ) → length ls ≡ total
    → right < 2 ^ 31
    → node_with chunk (links_with (pair_shape left right n) total
    (ls ++ pair_links left right n) n)
    ≡ pair_in chunk left right
pair_made chunk ls left right n total long short = elim (cases_eq (right + 1) n) [
  | inl near ↦
      ap (λ t. made_of chunk ls left right n total t (eqb (left - mark_of left + 1) n))
      (eq-eqb _ _ near)
      ∙ ap (λ l. pair_in chunk l (n - 1)) (get_or_push ls left 0 total long)
      ∙ ap (pair_in chunk left) (omega (arith, near))
  | inr far ↦
      let not : eqb (right + 1) n ≡ false = grind (arith, nat_tests) in
      ap (λ t. made_of chunk ls left right n total t (eqb (left - mark_of left + 1) n)) not
      ∙ elim (cases_eq (left - mark_of left + 1) n) [
        | inl near ↦
            ap (made_of chunk ls left right n total false) (eq-eqb _ _ near)
            ∙ left_made chunk ls left right n total long short near
        | inr wide ↦
            let neither : eqb (left - mark_of left + 1) n ≡ false = grind (arith, nat_tests) in
            ap (made_of chunk ls left right n total false) neither
            ∙ wide_made chunk ls left right n total long
      ]
]

-- ---- what is read at a place

abbrev both : ℕ → ℕ → Option (NodeId × NodeId)
both left right = Some (record { 0 = left }, record { 0 = right })

-- the left child of a pair just behind it, whatever the mark
behind_in : (chunk : Chunk) (x : ℕ) {i : ℕ} → i ≤ 2 ^ 31
    → child false (pair_in chunk (i - 1 + mark_of x) (x - mark_of x)) ≡ Some (record { 0 = i - 1 })
behind_in chunk x {i} few = elim (cases_lt x (2 ^ 31)) [
  | inl low ↦
      let same : i - 1 + mark_of x ≡ i - 1 = omega (arith, mark_of-low x low) in
      ap (child false) (pair_in-kept chunk _ _ (omega (arith, few, mark_of-low x low)))
      ∙ ap (λ j. Some (record { 0 = j })) same
  | inr marked ↦
      let same : i - 1 + mark_of x - 2 ^ 31 ≡ i - 1 = omega (arith, mark_of-marked x marked) in
      ap (child false) (pair_in-due chunk _ _ (omega (arith, mark_of-marked x marked)))
      ∙ ap (λ j. Some (record { 0 = j })) same
]

-- what is read as the children of a node are its halves, or the first node where it has none
pub halves_or : (node : Node) (found : Option (NodeId × NodeId)) (read : NodeId × NodeId)
    → found ≡ halves_of node → read ≡ unwrap_or found (record { 0 = 0 }, record { 0 = 0 })
    → (read.0 ≡ left_child node) × (read.1 ≡ right_child node)
halves_or (Leaf chunk) found read has is =
    let same = is ∙ ap (λ o. unwrap_or o (record { 0 = 0 }, record { 0 = 0 })) has in
    (ap (λ (k : NodeId × NodeId). k.0) same, ap (λ (k : NodeId × NodeId). k.1) same)
halves_or (Pair a b cached) found read has is =
    let same = is ∙ ap (λ o. unwrap_or o (record { 0 = 0 }, record { 0 = 0 })) has in
    (ap (λ (k : NodeId × NodeId). k.0) same, ap (λ (k : NodeId × NodeId). k.1) same)

pub size_seen : (nodes : List Node) (cs : List Chunk) (ks fs ls : List ℕ)
    → nodes_in cs ks fs ls ≡ nodes → length nodes ≡ length cs
size_seen nodes cs ks fs ls is =
    omega (arith, length-nodes_in cs ks fs ls, ap (λ (ns : List Node). length ns) is)

module _ (nodes : List Node) (cs : List Chunk) (ks fs ls : List ℕ) (i : ℕ)
    (is : nodes_in cs ks fs ls ≡ nodes) (within : i < length nodes) where
  pub read_leaf : None ≡ links_at ks fs ls i
      → slice_get nodes i ≡ Some (Leaf (get_or cs i no_chunk))
  read_leaf none = found nodes cs ks fs ls i is within
      ∙ ap (λ l. Some (node_with (get_or cs i no_chunk) l)) (sym none)

  pub read_due : (link right : ℕ) → Some (link, right) ≡ links_at ks fs ls i → 2 ^ 31 ≤ link
      → slice_get nodes i
      ≡ Some (Pair (record { 0 = link - 2 ^ 31 }) (record { 0 = right }) None)
  read_due link right at marked = found nodes cs ks fs ls i is within
      ∙ ap (λ l. Some (node_with (get_or cs i no_chunk) l)) (sym at)
      ∙ ap Some (pair_in-due (get_or cs i no_chunk) link right marked)

  pub read_kept : (link right : ℕ) → Some (link, right) ≡ links_at ks fs ls i → link < 2 ^ 31
      → slice_get nodes i
      ≡ Some (Pair (record { 0 = link }) (record { 0 = right }) (Some (get_or cs i no_chunk)))
  read_kept link right at low = found nodes cs ks fs ls i is within
      ∙ ap (λ l. Some (node_with (get_or cs i no_chunk) l)) (sym at)
      ∙ ap Some (pair_in-kept (get_or cs i no_chunk) link right low)

  -- the children, marked or not
  pub read_halves : (link right : ℕ) → Some (link, right) ≡ links_at ks fs ls i → link < 2 ^ 32
      → Some (record { 0 = link % 2 ^ 31 }, record { 0 = right })
      ≡ halves_of (get_or nodes i (Leaf (record { 0 = [] })))
  read_halves link right at small = elim (cases_lt link (2 ^ 31)) [
    | inl low ↦
        ap (λ l. both l right) (omega (arith, low))
        ∙ sym (ap halves_of (get_or_from_slice_get nodes i _ _ (read_kept link right at low)))
    | inr marked ↦
        ap (λ l. both l right) (omega (arith, marked, small))
        ∙ sym (ap halves_of (get_or_from_slice_get nodes i _ _ (read_due link right at marked)))
  ]

  -- whether it has a root, by its first link alone
  pub read_due_leaf : shape_of ks i ≡ 0
      → is_unhashed (get_or nodes i (Leaf (record { 0 = [] }))) ≡ false
  read_due_leaf leaf =
      ap is_unhashed (get_or_from_slice_get nodes i _ _ (found nodes cs ks fs ls i is within)
      ∙ leaf_seen (get_or cs i no_chunk) (shape_of ks i) (first_link ks fs i) ls i leaf)

  pub read_due_pair : i ≤ 2 ^ 31 → shape_of ks i ≢ 0
      → is_unhashed (get_or nodes i (Leaf (record { 0 = [] })))
      ≡ leb (2 ^ 31) (get_or ls (first_link ks fs i) 0)
  read_due_pair few pair =
      let more : 0 < shape_of ks i = omega (arith, pair) in
      let x : ℕ = get_or ls (first_link ks fs i) 0 in
      let here : get_or nodes i (Leaf (record { 0 = [] })) ≡ _ =
      get_or_from_slice_get nodes i _ _ (found nodes cs ks fs ls i is within)
      ∙ pair_seen (get_or cs i no_chunk) (shape_of ks i) (first_link ks fs i) ls i more in
      elim (cases_lt x (2 ^ 31)) [
        | inl low ↦
            let no_mark : leb (2 ^ 31) x ≡ false = grind (arith, nat_tests) in
            ap is_unhashed (here ∙ pair_in-kept (get_or cs i no_chunk)
            (left_of (shape_of ks i) i x) _ (left_low (shape_of ks i) i x few low))
            ∙ sym no_mark
        | inr marked ↦
            ap is_unhashed (here ∙ pair_in-due (get_or cs i no_chunk)
            (left_of (shape_of ks i) i x) _ (left_marked (shape_of ks i) i x few marked))
            ∙ sym (le-leb (2 ^ 31) x marked)
      ]

  pub read_child : (right : Bool) (result : Option NodeId)
      → ((chunk : Chunk) → result ≡ child right (node_with chunk (links_at ks fs ls i)))
      → result ≡ child right (get_or nodes i (Leaf (record { 0 = [] })))
  read_child right result seen = seen (get_or cs i no_chunk)
      ∙ ap (child right)
      (sym (get_or_from_slice_get nodes i _ _ (found nodes cs ks fs ls i is within)))

  -- the left child that stands just before its pair
  pub read_behind : shape_of ks i ≡ 3 → i ≤ 2 ^ 31
      → Some (record { 0 = i - 1 }) ≡ child false (get_or nodes i (Leaf (record { 0 = [] })))
  read_behind three few = read_child false (Some (record { 0 = i - 1 })) (λ chunk.
      let x : ℕ = get_or ls (first_link ks fs i) 0 in
      sym (ap (λ shape. child false (node_with chunk
      (links_with shape (first_link ks fs i) ls i))) three
      ∙ behind_in chunk x few))

  -- the second link of a pair that has two is the place of an older node
  pub second_before : AreOrdered nodes → shape_of ks i ≡ 2
      → get_or ls (first_link ks fs i + 1) 0 < i
  second_before ordered wide =
      let link : ℕ = get_or ls (first_link ks fs i) 0 in
      let right : ℕ = get_or ls (first_link ks fs i + 1) 0 in
      let at : Some (link, right) ≡ links_at ks fs ls i =
      sym (ap (λ shape. links_with shape (first_link ks fs i) ls i) wide) in
      elim (cases_lt link (2 ^ 31)) [
        | inl low ↦ (ordered.each i _ _ _ (read_kept link right at low)).1
        | inr marked ↦ (ordered.each i _ _ _ (read_due link right at marked)).1
      ]

  pub read_chunk : (chunk : Chunk) → chunk ≡ get_or cs i chunk → get_or cs i no_chunk ≡ chunk
  read_chunk chunk read =
      let inside : i < length cs = omega (arith, within, size_seen nodes cs ks fs ls is) in
      same_Some _ _ (sym (slice_get-get_or cs i no_chunk inside)
      ∙ slice_get-get_or cs i chunk inside) ∙ sym read

-- the chunk of a node, whose links are not read
pub chunk_seen : (chunk known : Chunk) (links : Option (ℕ × ℕ))
    → chunk_of (node_with chunk links) ≡ Some known → chunk ≡ known
chunk_seen chunk known None is = same_Some _ _ is
chunk_seen chunk known (Some links) is = elim (cases_lt links.0 (2 ^ 31)) [
  | inl low ↦ same_Some _ _ (sym (ap chunk_of (pair_in-kept chunk links.0 links.1 low)) ∙ is)
  | inr marked ↦
      let none : None ≡ Some known =
      sym (ap chunk_of (pair_in-due chunk links.0 links.1 marked)) ∙ is in
      absurd (cc)
]

-- ---- the same, of what equals these lists

pub stored-as : (n n' : ℕ) (ks ks' fs fs' : List ℕ) (total total' : ℕ) → IsStored n ks fs total
    → n' ≡ n → ks' ≡ ks → fs' ≡ fs → total' ≡ total → IsStored n' ks' fs' total'
stored-as n n' ks ks' fs fs' total total' stored same_n same_ks same_fs same_total =
    subst (λ m. IsStored m ks' fs' total') (sym same_n)
    (subst (λ xs. IsStored n xs fs' total') (sym same_ks)
    (subst (λ xs. IsStored n ks xs total') (sym same_fs)
    (subst (IsStored n ks fs) (sym same_total) stored)))

module _ (n : ℕ) (ks fs : List ℕ) (total : ℕ) (stored : IsStored n ks fs total) (before : ℕ)
    (place all : ℕ) (fs' : List ℕ) (place_is : place ≡ n) (all_is : all ≡ total)
    (begins : fs' ≡ blocks_for fs place all) (sum : get_or fs' (place / 32) 0 + before ≡ all) where
  blocks_are : fs' ≡ blocks_for fs n total
  blocks_are = begins ∙ ap (λ m. blocks_for fs m all) place_is ∙ ap (blocks_for fs n) all_is

  sum_is : get_or (blocks_for fs n total) (n / 32) 0 + before ≡ total
  sum_is = ap (λ xs. get_or xs (n / 32) 0 + before) (sym blocks_are)
      ∙ ap (λ m. get_or fs' (m / 32) 0 + before) (sym place_is) ∙ sum ∙ all_is

  module _ (shape kind : ℕ) (few : shape < 4) (first : n ≡ 0 → count_of shape ≢ 1)
      (byte : kind ≡ shape + 4 * before) where
    pub pushed-as : (n' : ℕ) (ks' : List ℕ) (total' : ℕ) → n' ≡ n + 1 → ks' ≡ ks ++ kind ∷ []
        → total' ≡ total + count_of shape → IsStored n' ks' fs' total'
    pushed-as n' ks' total' same_n same_ks same_total =
        stored-as (n + 1) n' (ks ++ kind ∷ []) ks' (blocks_for fs n total) fs'
        (total + count_of shape)
        total' (pushed n ks fs total stored shape kind before few first byte sum_is) same_n same_ks
        blocks_are same_total

    pub nodes-as : (cs : List Chunk) (ls ws : List ℕ) (chunk : Chunk) → length cs ≡ n
        → length ls ≡ total → (chunks : List Chunk) (kinds links_now : List ℕ)
        → chunks ≡ cs ++ chunk ∷ [] → kinds ≡ ks ++ kind ∷ [] → links_now ≡ ls ++ ws → (node : Node)
        → node_with chunk (links_with shape total (ls ++ ws) n) ≡ node → (nodes : List Node)
        → nodes_in cs ks fs ls ≡ nodes → nodes_in chunks kinds fs' links_now ≡ nodes ++ node ∷ []
    nodes-as cs ls ws chunk long links chunks kinds links_now same_cs same_ks same_ls node made
        nodes seen =
        ap (λ xs. nodes_in xs kinds fs' links_now) same_cs
        ∙ ap (λ xs. nodes_in (cs ++ chunk ∷ []) xs fs' links_now) same_ks
        ∙ ap (λ xs. nodes_in (cs ++ chunk ∷ []) (ks ++ kind ∷ []) xs links_now) blocks_are
        ∙ ap (nodes_in (cs ++ chunk ∷ []) (ks ++ kind ∷ []) (blocks_for fs n total)) same_ls
        ∙ pushed_nodes n ks fs total stored shape kind before few first byte sum_is cs ls ws chunk
        long links node made
        ∙ ap (λ ns. ns ++ node ∷ []) seen

  module _ (left right shape kind : ℕ) (shape_is : shape ≡ pair_shape left right place)
      (byte : kind ≡ shape + 4 * before) where
    shaped : shape ≡ pair_shape left right n
    shaped = shape_is ∙ ap (pair_shape left right) place_is

    few_shapes : shape < 4
    few_shapes = subst (λ k. k < 4) (sym shaped) (pair_few left right n)

    not_first : n ≡ 0 → count_of shape ≢ 1
    not_first none = λ one. pair_first left right n none (ap count_of (sym shaped) ∙ one)

    pub pair-as : (n' : ℕ) (ks' : List ℕ) (total' : ℕ) → n' ≡ n + 1 → ks' ≡ ks ++ kind ∷ []
        → total' ≡ total + count_of shape → IsStored n' ks' fs' total'
    pair-as = pushed-as shape kind few_shapes not_first byte

    pub pair_nodes-as : right < 2 ^ 31 → (cs : List Chunk) (ls : List ℕ) (chunk : Chunk)
        → length cs ≡ n
        → length ls ≡ total → (cs' : List Chunk) (ks' ls' : List ℕ) → cs' ≡ cs ++ chunk ∷ []
        → ks' ≡ ks ++ kind ∷ [] → ls' ≡ ls ++ pair_links left right place → (node : Node)
        → pair_in chunk left right ≡ node → (nodes : List Node)
        → nodes_in cs ks fs ls ≡ nodes → nodes_in cs' ks' fs' ls' ≡ nodes ++ node ∷ []
    pair_nodes-as short cs ls chunk long links cs' ks' ls' same_cs same_ks same_ls node made =
        nodes-as shape kind few_shapes not_first byte cs ls (pair_links left right n) chunk long
        links cs' ks' ls' same_cs same_ks
        (same_ls ∙ ap (λ m. ls ++ pair_links left right m) place_is) node
        (ap (λ k. node_with chunk (links_with k total (ls ++ pair_links left right n) n)) shaped
        ∙ pair_made chunk ls left right n total links short ∙ made)

-- ---- a root that is kept

due_parts : (chunk : Chunk) (shape first : ℕ) (ls : List ℕ) (i : ℕ) → i ≤ 2 ^ 31
    → is_unhashed (node_with chunk (links_with shape first ls i)) ≡ true
    → (0 < shape) × (2 ^ 31 ≤ get_or ls first 0)
due_parts chunk shape first ls i few due = elim (cases_eq shape 0) [
  | inl none ↦
      let bad : false ≡ true =
      sym (ap is_unhashed (leaf_seen chunk shape first ls i none)) ∙ due in
      absurd (cc)
  | inr some ↦
      let more : 0 < shape = omega (arith, some) in
      elim (cases_lt (get_or ls first 0) (2 ^ 31)) [
        | inl low ↦
            let bad : false ≡ true =
            sym (ap is_unhashed (pair_seen chunk shape first ls i more
            ∙ pair_in-kept chunk (left_of shape i (get_or ls first 0)) _
            (left_low shape i (get_or ls first 0) few low))) ∙ due in
            absurd (cc)
        | inr marked ↦ (more, marked)
      ]
]

-- the marked link of a pair that has no root yet
pub record HasMark (ks fs ls : List ℕ) (i : ℕ) : Type 0 where
  pub some : 0 < shape_of ks i
  pub inside : first_link ks fs i < length ls
  pub marked : 2 ^ 31 ≤ get_or ls (first_link ks fs i) 0

pub has_mark : (n : ℕ) (ks fs : List ℕ) (total : ℕ) → IsStored n ks fs total → n ≤ 2 ^ 31
    → (cs : List Chunk)
    (ls : List ℕ) → length cs ≡ n → length ls ≡ total → (nodes : List Node)
    → nodes_in cs ks fs ls ≡ nodes → (i : ℕ) → i < length nodes
    → is_unhashed (get_or nodes i (Leaf (record { 0 = [] }))) ≡ true → HasMark ks fs ls i
has_mark n ks fs total stored few cs ls long links nodes seen i within due =
    let below : i < n = omega (arith, within, long, size_seen nodes cs ks fs ls seen) in
    let here : _ = get_or_from_slice_get nodes i (node_in cs ks fs ls i)
    (Leaf (record { 0 = [] })) (found nodes cs ks fs ls i seen within) in
    let parts : (0 < shape_of ks i) × (2 ^ 31 ≤ get_or ls (first_link ks fs i) 0) =
    due_parts (get_or cs i no_chunk) (shape_of ks i) (first_link ks fs i) ls i
    (omega (arith, below, few)) (sym (ap is_unhashed here) ∙ due) in
    record {
      some = parts.0;
      inside = omega (arith, stored.inside i below, count_some _ parts.0, links);
      marked = parts.1;
    }

module _ (n : ℕ) (ks fs : List ℕ) (total : ℕ) (stored : IsStored n ks fs total) (cs : List Chunk)
    (ls : List ℕ) (long : length cs ≡ n) (links : length ls ≡ total) (i : ℕ) (within : i < n)
    (few : n ≤ 2 ^ 31) (shaped : 0 < shape_of ks i) (marked : 2 ^ 31
    ≤ get_or ls (first_link ks fs i) 0)
    (fits : get_or ls (first_link ks fs i) 0 < 2 ^ 32) (chunk : Chunk) where
  abbrev first : ℕ
  first = first_link ks fs i

  abbrev link : ℕ
  link = get_or ls first 0

  abbrev unmarked : List ℕ
  unmarked = set ls first (link - 2 ^ 31)

  abbrev shape : ℕ
  shape = shape_of ks i

  abbrev left : ℕ
  left = left_of shape i link

  abbrev right : ℕ
  right = right_of shape i link (get_or ls (first + 1) 0)

  abbrev rooted : Node
  rooted = Pair (record { 0 = left - 2 ^ 31 }) (record { 0 = right }) (Some chunk)

  some : 0 < link_count ks i
  some = count_some shape shaped

  low_place : i ≤ 2 ^ 31
  low_place = omega (arith, within, few)

  inside : first < length ls
  inside = omega (arith, stored.inside i within, some, links)

  other_links : (j : ℕ) → j < n → j ≢ i → links_at ks fs unmarked j ≡ links_at ks fs ls j
  other_links j h other =
      links_with-as (shape_of ks j) (first_link ks fs j) ls unmarked j
      (λ one. let ne : first_link ks fs j ≢ first = elim (cases_lt j i) [
        | inl less ↦ omega (arith, stored.apart j i less within, one)
        | inr more ↦
            let above : i < j = omega (arith, more, other) in
            omega (arith, stored.apart i j above h, some)
      ] in
      get_or-set_other ls first (first_link ks fs j) (link - 2 ^ 31) 0 ne)
      (λ two. let ne : first_link ks fs j + 1 ≢ first = elim (cases_lt j i) [
        | inl less ↦ omega (arith, stored.apart j i less within, two)
        | inr more ↦
            let above : i < j = omega (arith, more, other) in
            omega (arith, stored.apart i j above h, some)
      ] in
      get_or-set_other ls first (first_link ks fs j + 1) (link - 2 ^ 31) 0 ne)

  other_node : (j : ℕ) → j < n → j ≢ i
      → node_in (set cs i chunk) ks fs unmarked j ≡ node_in cs ks fs ls j
  other_node j h other =
      ap (node_with (get_or (set cs i chunk) j no_chunk)) (other_links j h other)
      ∙ ap (λ c. node_with c (links_at ks fs ls j))
      (get_or-set_other cs i j chunk no_chunk other)

  this_node : node_in (set cs i chunk) ks fs unmarked i ≡ rooted
  this_node =
      let one : get_or unmarked first 0 ≡ link - 2 ^ 31 =
      get_or-set_same ls first (link - 2 ^ 31) 0 inside in
      let ne : first + 1 ≢ first = omega arith in
      let two : get_or unmarked (first + 1) 0 ≡ get_or ls (first + 1) 0 =
      get_or-set_other ls first (first + 1) (link - 2 ^ 31) 0 ne in
      let low : link - 2 ^ 31 < 2 ^ 31 = omega (arith, fits) in
      let beyond : ℕ = get_or ls (first + 1) 0 in
      let left_is : left_of shape i (link - 2 ^ 31) ≡ left - 2 ^ 31 =
      left_unmarked shape i link low_place marked fits in
      let below : left_of shape i (link - 2 ^ 31) < 2 ^ 31 =
      left_low shape i (link - 2 ^ 31) low_place low in
      ap (λ c. node_with c (links_at ks fs unmarked i))
      (get_or-set_same cs i chunk no_chunk (omega (arith, within, long)))
      ∙ pair_seen chunk shape first unmarked i shaped
      ∙ ap (λ l. pair_in chunk (left_of shape i l)
      (right_of shape i l (get_or unmarked (first + 1) 0))) one
      ∙ ap (λ r. pair_in chunk (left_of shape i (link - 2 ^ 31))
      (right_of shape i (link - 2 ^ 31) r)) two
      ∙ ap (λ l. pair_in chunk l (right_of shape i (link - 2 ^ 31) beyond)) left_is
      ∙ ap (pair_in chunk (left - 2 ^ 31))
      (right_unmarked shape i link low_place beyond marked fits)
      ∙ pair_in-kept chunk (left - 2 ^ 31) right (omega (arith, left_is, below))

  kept_nodes : nodes_in (set cs i chunk) ks fs unmarked ≡ set (nodes_in cs ks fs ls) i rooted
  kept_nodes =
      let old : List Node = nodes_in cs ks fs ls in
      let d : Node = Leaf no_chunk in
      let size : length old ≡ n = length-nodes_in cs ks fs ls ∙ long in
      sym (nodes_in-is (set cs i chunk) ks fs unmarked (set old i rooted) d
      (length-set old i rooted ∙ size ∙ sym long ∙ sym (length-set cs i chunk))
      (λ j h.
      let below : j < n = omega (arith, h, length-set cs i chunk, long) in
      elim (cases_eq j i) [
        | inl same ↦
            subst (λ k. get_or (set old i rooted) k d
            ≡ node_in (set cs i chunk) ks fs unmarked k) (sym same)
            (get_or-set_same old i rooted d (omega (arith, within, size)) ∙ sym this_node)
        | inr other ↦
            get_or-set_other old i j rooted d other
            ∙ get-nodes_in cs ks fs ls j d (omega (arith, below, long))
            ∙ sym (other_node j below other)
      ]))

  pub kept-as : (nodes : List Node) → nodes_in cs ks fs ls ≡ nodes → (left' right' : NodeId)
      → slice_get nodes i ≡ Some (Pair left' right' None)
      → nodes_in (set cs i chunk) ks fs unmarked
      ≡ set nodes i (Pair left' right' (Some chunk))
  kept-as nodes seen left' right' is =
      let inside_it : i < length nodes =
      omega (arith, within, long, size_seen nodes cs ks fs ls seen) in
      let was : Pair (record { 0 = left - 2 ^ 31 }) (record { 0 = right }) None
      ≡ Pair left' right' None =
      sym (pair_in-due (get_or cs i no_chunk) left right
      (left_marked shape i link low_place marked))
      ∙ sym (pair_seen (get_or cs i no_chunk) shape first ls i shaped)
      ∙ same_Some _ _ (sym (found nodes cs ks fs ls i seen inside_it) ∙ is) in
      kept_nodes
      ∙ ap (λ l. set (nodes_in cs ks fs ls) i (Pair l (record { 0 = right }) (Some chunk)))
      (ap left_child was)
      ∙ ap (λ r. set (nodes_in cs ks fs ls) i (Pair left' r (Some chunk))) (ap right_child was)
      ∙ ap (λ ns. set ns i (Pair left' right' (Some chunk))) seen
