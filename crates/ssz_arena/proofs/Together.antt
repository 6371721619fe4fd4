-- Nodes that are hashed together: which of them are due, their children, and their roots.
use Rattle.std.proofs.Common.{◌≡◌, ℕ, zero, suc, ◌+◌, ◌-◌, ◌*◌, ◌<◌, ◌≤◌, List, [], ◌∷◌, length, min, take, drop, refl, sym, ap, ap₂, ◌∙◌, subst, slice_get, Bool, true, false, not, cond, Option, Some, None, inl, inr, arith, length-take, length-drop}
use Rattle.std.specs.Option.{option_and_then}
use Rattle.std.specs.List.{All, filter, sum_by}
use Rattle.std.proofs.lemmas.Bool.{cases_lt}
use Rattle.std.proofs.lemmas.List.{get_or-take, get_or-drop, take-take, drop-take}
use Rattle.std.proofs.lemmas.List.Elements.{All-filter, filter_passes, All-from_get_or}
use Rattle.std.proofs.lemmas.List.Filters.{sum_by-filter_both}
use Rattle.std.proofs.lemmas.List.Sums.{sum_by-append}
use Rattle.std.proofs.lemmas.Option.{slice_get-get_or, same_Some}
use Rattle.ssz_chunk.specs.Chunk.{CountsUp}
use Rattle.ssz_chunk.proofs.Counting.{CountsUp-add}
use Rattle.ssz_chunk.specs.Rows.{chunk_in_row, pair_in_row}
use Rattle.ssz_chunk.specs.Tree.{root}
use Rattle.ssz_chunk.specs.declared.Chunk.{Chunk}
use Rattle.ssz_arena.specs.declared.node.NodeId.{NodeId}
use Rattle.ssz_arena.specs.declared.node.Node.{Node}
use Rattle.ssz_arena.specs.declared.node.Node.TheVariants.{Leaf, Pair}
use Rattle.ssz_arena.specs.Content.{is_unhashed, child}
use Rattle.ssz_arena.specs.Invariant.{IsArena}
use Rattle.ssz_arena.specs.Filled.{FillsUpTo}
use Rattle.ssz_arena.specs.Batches.{NodesAreBelow, AreDue, AreHashed, HasRoot, IsNodeReady, id_at, is_due, kids, left_child, node_of, right_child, todo_all}
use Rattle.ssz_arena.proofs.Nodes.{tree, due, due-pair, none_due, tree-pair}

-- ---- which are due

pub due_below : (nodes : List Node) (ids found : List NodeId) (limit : ℕ)
    → found ≡ filter (is_due nodes) ids → NodesAreBelow limit ids → NodesAreBelow limit found
due_below nodes ids found limit is below =
    subst (NodesAreBelow limit) (sym is) (λ j within.
    All-filter (is_due nodes) (λ (id : NodeId). id.0 < limit) ids
    (All-from_get_or (λ (id : NodeId). id.0 < limit) ids (record { 0 = 0 }) below)
    j (record { 0 = 0 }) within)

pub due_pass : (nodes : List Node) (ids found : List NodeId) → found ≡ filter (is_due nodes) ids
    → AreDue nodes found
due_pass nodes ids found is = subst (AreDue nodes) (sym is) (filter_passes (is_due nodes) ids)

pub due_sum : (nodes : List Node) (ids found : List NodeId) → found ≡ filter (is_due nodes) ids
    → todo_all nodes found ≤ todo_all nodes ids
due_sum nodes ids found is =
    let both : _ = sum_by-filter_both (is_due nodes) (λ id. not (is_due nodes id)) (λ id. refl)
    (λ (id : NodeId). due nodes id.0) ids in
    subst (λ l. todo_all nodes l ≤ todo_all nodes ids) (sym is) (omega (arith, both))

-- where the due ones are hashed, all are
pub due_hashed : (nodes new : List Node) (ids : List NodeId) → NodesAreBelow (length nodes) ids
    → ((j : ℕ) → due new j ≤ due nodes j) → AreHashed new (filter (is_due nodes) ids)
    → AreHashed new ids
due_hashed nodes new [] below less hashed = λ j within. absurd (omega arith)
due_hashed nodes new (id ∷ ids) below less hashed =
    by_case (due_hashed nodes new ids rest_below less) (is_due nodes id) refl
  where
    rest_below : NodesAreBelow (length nodes) ids
    rest_below j within = below (suc j) (omega arith)

    rest : List NodeId
    rest = filter (is_due nodes) ids

    join : due new id.0 ≡ 0 → AreHashed new ids → AreHashed new (id ∷ ids)
    join first others zero within = first
    join first others (suc j) within = others j (omega arith)

    by_case : (AreHashed new rest → AreHashed new ids) → (b : Bool) → is_due nodes id ≡ b
        → AreHashed new (id ∷ ids)
    by_case others true is =
        let all : AreHashed new (id ∷ rest) =
        subst (λ b. AreHashed new (cond b (id ∷ rest) rest)) is hashed in
        join (all 0 (omega arith)) (others (λ j within. all (suc j) (omega arith)))
    by_case others false is =
        let all : AreHashed new rest =
        subst (λ b. AreHashed new (cond b (id ∷ rest) rest)) is hashed in
        let inside : id.0 < length nodes = below 0 (omega arith) in
        let none : due nodes id.0 ≡ 0 =
        none_due nodes id.0 (node_of nodes id) (slice_get-get_or nodes id.0 _ inside) is in
        join (omega (arith, less id.0, none)) (others all)

-- ---- their children

due_node : (node : Node) → is_unhashed node ≡ true
    → node ≡ Pair (left_child node) (right_child node) None
due_node (Leaf chunk) is = cc
due_node (Pair left right (Some chunk)) is = cc
due_node (Pair left right None) is = refl

pub due_found : (nodes : List Node) (id : NodeId) → id.0 < length nodes → is_due nodes id ≡ true
    → slice_get nodes id.0
    ≡ Some (Pair (left_child (node_of nodes id)) (right_child (node_of nodes id)) None)
due_found nodes id inside is =
    slice_get-get_or nodes id.0 _ inside ∙ ap Some (due_node (node_of nodes id) is)

length-kids : (nodes : List Node) (ids : List NodeId)
    → length (kids nodes ids) ≡ 2 * length ids
length-kids nodes [] = refl
length-kids nodes (id ∷ ids) = omega (arith, length-kids nodes ids)

kid-left : (nodes : List Node) (ids : List NodeId) (j : ℕ) → j < length ids
    → id_at (kids nodes ids) (2 * j) ≡ left_child (node_of nodes (id_at ids j))
kid-left nodes [] j within = absurd (omega arith)
kid-left nodes (id ∷ ids) zero within = refl
kid-left nodes (id ∷ ids) (suc j) within =
    let two : 2 * suc j ≡ suc (suc (2 * j)) = omega arith in
    rw two (kid-left nodes ids j (omega arith))

kid-right : (nodes : List Node) (ids : List NodeId) (j : ℕ) → j < length ids
    → id_at (kids nodes ids) (2 * j + 1) ≡ right_child (node_of nodes (id_at ids j))
kid-right nodes [] j within = absurd (omega arith)
kid-right nodes (id ∷ ids) zero within = refl
kid-right nodes (id ∷ ids) (suc j) within =
    let two : 2 * suc j + 1 ≡ suc (suc (2 * j + 1)) = omega arith in
    rw two (kid-right nodes ids j (omega arith))

-- what holds of the children of each holds of each child
each_kid : (P : NodeId → Type 0) (nodes : List Node) (ids : List NodeId)
    → ((j : ℕ) → j < length ids → P (left_child (node_of nodes (id_at ids j)))
    × P (right_child (node_of nodes (id_at ids j))))
    → (k : ℕ) → k < length (kids nodes ids) → P (id_at (kids nodes ids) k)
each_kid P nodes [] both k within = absurd (omega arith)
each_kid P nodes (id ∷ ids) both zero within = (both 0 (omega arith)).0
each_kid P nodes (id ∷ ids) both (suc zero) within = (both 0 (omega arith)).1
each_kid P nodes (id ∷ ids) both (suc (suc k)) within =
    each_kid P nodes ids (λ j inside. both (suc j) (omega arith)) k (omega arith)

module _ (p : List ℕ → List ℕ → List ℕ) (nodes : List Node) (ids : List NodeId)
    (arena : IsArena p nodes) (inside : NodesAreBelow (length nodes) ids) (pairs : AreDue nodes ids)
  where
    found : (j : ℕ) → j < length ids → slice_get nodes (id_at ids j).0
        ≡ Some (Pair (left_child (node_of nodes (id_at ids j)))
        (right_child (node_of nodes (id_at ids j))) None)
    found j within =
        due_found nodes (id_at ids j) (inside j within) (pairs j (record { 0 = 0 }) within)

    -- children stand below their parents
    pub kids_below : (limit : ℕ) → NodesAreBelow limit ids
        → NodesAreBelow (limit - 1) (kids nodes ids)
    kids_below limit below =
        each_kid (λ (kid : NodeId). kid.0 < limit - 1) nodes ids (λ j within.
        let sound : _ = arena.sound.each _ _ (found j within) in
        (omega (arith, sound.0, below j within), omega (arith, sound.1, below j within)))

    pub kids_inside : NodesAreBelow (length nodes) (kids nodes ids)
    kids_inside =
        each_kid (λ (kid : NodeId). kid.0 < length nodes) nodes ids (λ j within.
        let sound : _ = arena.sound.each _ _ (found j within) in
        (omega (arith, sound.0, inside j within), omega (arith, sound.1, inside j within)))

    -- where these are ready their children are hashed
    pub kids_hashed : All (IsNodeReady nodes) ids → AreHashed nodes (kids nodes ids)
    kids_hashed ready =
        each_kid (λ (kid : NodeId). due nodes kid.0 ≡ 0) nodes ids (λ j within.
        ready j (record { 0 = 0 }) within _ _ _ (found j within))

    -- and where their children are hashed later they are ready then
    pub ready_later : (limit : ℕ) (new : List Node) → FillsUpTo limit nodes new
        → AreHashed new (kids nodes ids) → All (IsNodeReady new) ids
    ready_later limit new fills hashed =
        All-from_get_or (IsNodeReady new) ids (record { 0 = 0 })
        (λ j within left right cached there.
        let same_left : Some left ≡ Some (left_child (node_of nodes (id_at ids j))) =
        ap (option_and_then (child false)) (sym there) ∙ fills.children (id_at ids j).0 false
        ∙ ap (option_and_then (child false)) (found j within) in
        let same_right : Some right ≡ Some (right_child (node_of nodes (id_at ids j))) =
        ap (option_and_then (child true)) (sym there) ∙ fills.children (id_at ids j).0 true
        ∙ ap (option_and_then (child true)) (found j within) in
        let count : length (kids nodes ids) ≡ 2 * length ids = length-kids nodes ids in (
          ap (λ (kid : NodeId). due new kid.0) (same_Some _ _ same_left
              ∙ sym (kid-left nodes ids j within))
              ∙ hashed (2 * j) (omega arith),
          ap (λ (kid : NodeId). due new kid.0) (same_Some _ _ same_right
              ∙ sym (kid-right nodes ids j within))
              ∙ hashed (2 * j + 1) (omega arith),
        ))

    -- the pairs made of their children's roots are their roots
    pub have_roots : (row made : List Chunk) → All (IsNodeReady nodes) ids
        → ((k : ℕ) → k < length (kids nodes ids)
        → chunk_in_row row k ≡ root p (tree nodes (id_at (kids nodes ids) k).0))
        → ((j : ℕ) → j < length ids → chunk_in_row made j ≡ pair_in_row p row j)
        → (j : ℕ) → j < length ids → HasRoot p nodes (id_at ids j).0 (chunk_in_row made j)
    have_roots row made ready roots pairs_made j within =
        let here : _ = found j within in
        let sound : _ = arena.sound.each _ _ here in
        let hashed : _ = ready j (record { 0 = 0 }) within _ _ _ here in
        let count : length (kids nodes ids) ≡ 2 * length ids = length-kids nodes ids in
        record {
          left = left_child (node_of nodes (id_at ids j));
          right = right_child (node_of nodes (id_at ids j));
          found = here;
          left_hashed = hashed.0;
          right_hashed = hashed.1;
          root = pairs_made j within
              ∙ ap₂ p
              (roots (2 * j) (omega arith)
              ∙ ap (λ (kid : NodeId). root p (tree nodes kid.0)) (kid-left nodes ids j within))
              (roots (2 * j + 1) (omega arith)
              ∙ ap (λ (kid : NodeId). root p (tree nodes kid.0)) (kid-right nodes ids j within))
              ∙ ap (root p) (sym (tree-pair nodes (id_at ids j).0 _ _ None here sound.0 sound.1));
        }

pub todo-cons : (nodes : List Node) (id : NodeId) (ids : List NodeId)
    → todo_all nodes (id ∷ ids) ≡ due nodes id.0 + todo_all nodes ids
todo-cons nodes id ids =
    let f : NodeId → ℕ = λ (x : NodeId). due nodes x.0 in
    let one : sum_by f (id ∷ []) ≡ 0 + due nodes id.0 = refl in
    sum_by-append f (id ∷ []) ids ∙ ap (λ n. n + sum_by f ids) (one ∙ omega arith)

-- what is to be hashed for pairs is one more each than for their children
pub kids_sum : (p : List ℕ → List ℕ → List ℕ) (nodes : List Node) (ids : List NodeId)
    → IsArena p nodes → NodesAreBelow (length nodes) ids → AreDue nodes ids
    → todo_all nodes (kids nodes ids) + length ids ≡ todo_all nodes ids
kids_sum p nodes [] arena inside pairs = refl
kids_sum p nodes (id ∷ ids) arena inside pairs =
    let here : _ = due_found nodes id (inside 0 (omega arith)) (pairs 0 (record { 0 = 0 })
    (omega arith)) in
    let sound : _ = arena.sound.each _ _ here in
    let one : _ = due-pair nodes id.0 _ _ here sound.0 sound.1 in
    let rest : _ = kids_sum p nodes ids arena (λ j within. inside (suc j) (omega arith))
    (λ j d within. pairs (suc j) d (omega arith)) in
    omega (
      arith,
      one,
      rest,
      todo-cons nodes id ids,
      todo-cons nodes (left_child (node_of nodes id))
          (right_child (node_of nodes id) ∷ kids nodes ids),
      todo-cons nodes (right_child (node_of nodes id)) (kids nodes ids),
    )

-- ---- sums and composition

pub sum_less : (old new : List Node) (ids : List NodeId) → ((j : ℕ) → due new j ≤ due old j)
    → todo_all new ids ≤ todo_all old ids
sum_less old new [] less = omega arith
sum_less old new (id ∷ ids) less =
    omega (arith, todo-cons old id ids, todo-cons new id ids, less id.0, sum_less old new ids less)

-- what was hashed in two parts
pub fills_then : (a b limit : ℕ) (one two three : List Node) → a ≤ limit → b ≤ limit
    → FillsUpTo a one two → FillsUpTo b two three → FillsUpTo limit one three
fills_then a b limit one two three first second by_first by_second = record {
  count = by_second.count ∙ by_first.count;
  trees = by_second.trees ∙ by_first.trees;
  todo = λ j. omega (arith, by_second.todo j, by_first.todo j);
  children = λ j step. by_second.children j step ∙ by_first.children j step;
  behind = λ j h. by_second.behind j (omega arith) ∙ by_first.behind j (omega arith);
}

-- the first of some, and the rest
pub hashed_join : (nodes : List Node) (ids : List NodeId) (n : ℕ) → n ≤ length ids
    → AreHashed nodes (take n ids) → AreHashed nodes (drop n ids) → AreHashed nodes ids
hashed_join nodes ids n few first rest j within = elim (cases_lt j n) [
  | inl below ↦
      ap (λ (id : NodeId). due nodes id.0) (sym (get_or-take n ids j (record { 0 = 0 }) below))
      ∙ first j (omega (arith, length-take n ids))
  | inr above ↦
      let back : n + (j - n) ≡ j = omega arith in
      ap (λ k. due nodes (id_at ids k).0) (sym back)
      ∙ ap (λ (id : NodeId). due nodes id.0) (sym (get_or-drop n ids (j - n) (record { 0 = 0 })))
      ∙ rest (j - n) (omega (arith, length-drop n ids))
]

pub below_take : (limit n : ℕ) (ids : List NodeId) → NodesAreBelow limit ids
    → NodesAreBelow limit (take n ids)
below_take limit n ids below j within =
    let under : j < n = omega (arith, length-take n ids) in
    subst (λ (id : NodeId). id.0 < limit) (sym (get_or-take n ids j (record { 0 = 0 }) under))
    (below j (omega (arith, length-take n ids)))

pub below_drop : (limit n : ℕ) (ids : List NodeId) → NodesAreBelow limit ids
    → NodesAreBelow limit (drop n ids)
below_drop limit n ids below j within =
    subst (λ (id : NodeId). id.0 < limit) (sym (get_or-drop n ids j (record { 0 = 0 })))
    (below (n + j) (omega (arith, length-drop n ids)))

-- where each is ready, each has at most one pair to be hashed
pub ready_sum : (p : List ℕ → List ℕ → List ℕ) (nodes : List Node) (ids : List NodeId)
    → IsArena p nodes → NodesAreBelow (length nodes) ids → AreDue nodes ids
    → All (IsNodeReady nodes) ids
    → todo_all nodes ids ≤ length ids
ready_sum p nodes [] arena inside pairs ready = omega arith
ready_sum p nodes (id ∷ ids) arena inside pairs ready =
    let here : _ = due_found nodes id (inside 0 (omega arith)) (pairs 0 (record { 0 = 0 })
    (omega arith)) in
    let sound : _ = arena.sound.each _ _ here in
    let one : _ = due-pair nodes id.0 _ _ here sound.0 sound.1 in
    let hashed : _ = ready 0 (record { 0 = 0 }) (omega arith) _ _ _ here in
    let rest : _ = ready_sum p nodes ids arena (λ j within. inside (suc j) (omega arith))
    (λ j d within. pairs (suc j) d (omega arith)) (λ j d within. ready (suc j) d (omega arith)) in
    omega (arith, one, hashed.0, hashed.1, rest, todo-cons nodes id ids)

-- what was counted in two parts
pub counts_then : (one two three start middle end : ℕ) → two ≤ one → three ≤ two
    → CountsUp (one - two) start middle → CountsUp (two - three) middle end
    → CountsUp (one - three) start end
counts_then one two three start middle end first second by_first by_second =
    let sum : one - two + (two - three) ≡ one - three = omega arith in
    subst (λ n. CountsUp n start end) sum (CountsUp-add _ _ start middle end by_first by_second)

-- some more of these
pub hashed_on : (nodes : List Node) (ids : List NodeId) (from end : ℕ) → end ≤ length ids
    → ((j : ℕ) → j < from → due nodes (id_at ids j).0 ≡ 0)
    → AreHashed nodes (take (end - from) (drop from ids))
    → (j : ℕ) → j < end → due nodes (id_at ids j).0 ≡ 0
hashed_on nodes ids from end few before these j within = elim (cases_lt j from) [
  | inl below ↦ before j below
  | inr above ↦
      let back : from + (j - from) ≡ j = omega arith in
      let rest : List NodeId = drop from ids in
      ap (λ k. due nodes (id_at ids k).0) (sym back)
      ∙ ap (λ (id : NodeId). due nodes id.0)
      (sym (get_or-drop from ids (j - from) (record { 0 = 0 })))
      ∙ ap (λ (id : NodeId). due nodes id.0)
      (sym (get_or-take (end - from) rest (j - from) (record { 0 = 0 }) (omega arith)))
      ∙ these (j - from) (omega (arith, length-take (end - from) rest, length-drop from ids))
]

-- what is ready stays so
ready_as : (old new : List Node) (id left right : NodeId) → IsNodeReady old id
    → ((j : ℕ) → due new j ≤ due old j) → (found : Option Node) → slice_get old id.0 ≡ found
    → option_and_then (child false) found ≡ Some left
    → option_and_then (child true) found ≡ Some right
    → (due new left.0 ≡ 0) × (due new right.0 ≡ 0)
ready_as old new id left right was less None is to_left to_right = cc
ready_as old new id left right was less (Some (Leaf chunk)) is to_left to_right = cc
ready_as old new id left right was less (Some (Pair a b cached)) is to_left to_right =
    let both : _ = was a b cached is in (
      omega (
        arith,
        both.0,
        less left.0,
        ap (λ (n : NodeId). due old n.0) (same_Some _ _ to_left),
      ),
      omega (
        arith,
        both.1,
        less right.0,
        ap (λ (n : NodeId). due old n.0) (same_Some _ _ to_right),
      ),
    )

pub ready_still : (ids : List NodeId) (limit : ℕ) (old new : List Node) → FillsUpTo limit old new
    → All (IsNodeReady old) ids → All (IsNodeReady new) ids
ready_still ids limit old new fills ready =
    All-from_get_or (IsNodeReady new) ids (record { 0 = 0 }) (λ j within left right cached there.
    let id = id_at ids j in
    ready_as old new id left right (ready j (record { 0 = 0 }) within) fills.todo
    (slice_get old id.0) refl
    (sym (fills.children id.0 false) ∙ ap (option_and_then (child false)) there)
    (sym (fills.children id.0 true) ∙ ap (option_and_then (child true)) there))

-- the children of the due ones, in two parts of at most 64
pub record KidsParts (nodes : List Node) (found result : List NodeId) (n first limit : ℕ)
    : Type 0 where
  pub some : 0 < limit
  pub count : length found ≡ n
  pub first_is : take first result ≡ take first (kids nodes found)
  pub rest_is : take (2 * n - first) (drop first result) ≡ drop first (kids nodes found)
  pub first_few : length (take first result) ≤ 64
  pub rest_few : length (take (2 * n - first) (drop first result)) ≤ 64
  pub first_below : NodesAreBelow (limit - 1) (take first result)
  pub rest_below : NodesAreBelow (limit - 1) (take (2 * n - first) (drop first result))
  pub cut : first ≤ length (kids nodes found)

pub kids_parts : (p : List ℕ → List ℕ → List ℕ) (nodes : List Node) (found result : List NodeId)
    (n first limit : ℕ) → IsArena p nodes → NodesAreBelow (length nodes) found
    → NodesAreBelow limit found
    → AreDue nodes found → length found ≡ n → (n ≡ 0 → ⊥) → n ≤ 64 → first ≡ min 64 (2 * n)
    → take (2 * length found) result ≡ kids nodes found
    → KidsParts nodes found result n first limit
kids_parts p nodes found result n first limit arena inside below pairs count some few is_first
    is_kids =
    let all : take (2 * n) result ≡ kids nodes found =
    ap (λ k. take (2 * k) result) (sym count) ∙ is_kids in
    let long : length (kids nodes found) ≡ 2 * n =
    length-kids nodes found ∙ ap (λ k. 2 * k) count in
    let under : first ≤ 2 * n = omega (arith, is_first) in
    let whole : first + (2 * n - first) ≡ 2 * n = omega (arith, under) in
    let first_part : take first result ≡ take first (kids nodes found) =
    sym (take-take first (2 * n) result under) ∙ ap (take first) all in
    let rest_part : take (2 * n - first) (drop first result) ≡ drop first (kids nodes found) =
    sym (drop-take first (2 * n - first) result)
    ∙ ap (λ k. drop first (take k result)) whole ∙ ap (drop first) all in
    let low : NodesAreBelow (limit - 1) (kids nodes found) =
    kids_below p nodes found arena inside pairs limit below in
    record {
      some = omega (arith, below 0 (omega (arith, count, some)));
      count = count;
      first_is = first_part;
      rest_is = rest_part;
      first_few = omega (arith, length-take first result, is_first);
      rest_few = omega (
        arith,
        ap (λ (l : List NodeId). length l) rest_part,
        length-drop first (kids nodes found),
        long,
        is_first,
        few,
      );
      first_below = subst (NodesAreBelow (limit - 1)) (sym first_part)
          (below_take (limit - 1) first (kids nodes found) low);
      rest_below = subst (NodesAreBelow (limit - 1)) (sym rest_part)
          (below_drop (limit - 1) first (kids nodes found) low);
      cut = omega (arith, long, under);
    }
