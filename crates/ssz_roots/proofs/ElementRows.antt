-- The roots of more elements of one size.
use Rattle.std.proofs.Common.{◌≡◌, ℕ, suc, ◌+◌, ◌-◌, ◌*◌, ◌<◌, ◌≤◌, ◌^◌, List, [], ◌∷◌, ◌++◌, length, map, take, drop, get_or, slice_range, Some, sym, ap, refl, ◌∙◌, subst, add-zero, arith, append_assoc}
use Rattle.std.specs.List.{sum_by}
use Rattle.std.proofs.Math.Seq.{take-add, drop-append_seam}
use Rattle.std.proofs.lemmas.List.{append-nil, map-append, drop-drop}
use Rattle.std.proofs.lemmas.List.Sums.{sum_by-append}
use Rattle.ssz_chunk.specs.declared.Chunk.{Chunk}
use Rattle.ssz_chunk.specs.Chunk.{CountsUp}
use Rattle.ssz_chunk.specs.Rows.{chunk_in_row}
use Rattle.ssz_chunk.specs.Tree.{root}
use Rattle.ssz_chunk.proofs.Counting.{CountsUp-none, CountsUp-add}
use Rattle.ssz_schema.specs.Types.{SszType}
use Rattle.ssz_schema.specs.Sizes.{fixed_size}
use Rattle.ssz_value.specs.Values.{SszValue}
use Rattle.ssz_value.specs.Reading.{value_in, elements_in}
use Rattle.ssz_value.specs.Trees.{tree}
use Rattle.ssz_value.specs.Pairs.{pairs}
use Rattle.ssz_merkle.specs.Frontier.{Frontier, FrontierHolds, chunk_bytes, whole_pairs}
use Rattle.ssz_merkle.proofs.WholePairs.{whole_pairs-zero}
use Rattle.ssz_merkle.proofs.Gathering.{Gathered-pushed}
use Rattle.ssz_parts.specs.PartValues.{element_values}
use Rattle.ssz_parts.proofs.ElementLemmas.{part_fixed_first, take-map-more, length-elements_in}
use Rattle.ssz_parts.proofs.ElementValues.{length-element_values}
use Rattle.ssz_roots.specs.Eights.{eight}
use Rattle.ssz_roots.proofs.Gathering.{FirstElements, length-first}
use Rattle.ssz_roots.proofs.RowChunks.{whole_pairs-rise}

-- a lane is an element
pub lane_element : (t : SszType) (z count first j : ℕ) (b : List ℕ) → fixed_size t ≡ Some z
    → first + j < count → slice_range b (first * z + j * z) (first * z + j * z + z)
    ≡ get_or (elements_in (fixed_size t) count b) (first + j) []
lane_element t z count first j b is below =
    let place : (first + j) * z ≡ first * z + j * z = omega arith in
    sym (ap (λ size. get_or (elements_in size count b) (first + j) []) is
    ∙ part_fixed_first count z b (first + j) below
    ∙ ap (λ k. slice_range b k (k + z)) place)

-- the roots of the first n elements, and their pairs
abbrev pub roots_to : (List ℕ → List ℕ → List ℕ) → SszType → ℕ → List ℕ → ℕ → List (List ℕ)
roots_to pair_of t count b n =
    map (root pair_of) (map (tree t) (take n (element_values t count b)))

abbrev pub costs_to : SszType → ℕ → List ℕ → ℕ → ℕ
costs_to t count b n = sum_by (pairs t) (take n (element_values t count b))

-- and those of n elements from one on
abbrev pub roots_from : (List ℕ → List ℕ → List ℕ) → SszType → ℕ → List ℕ → ℕ → ℕ
    → List (List ℕ)
roots_from pair_of t count b first n =
    map (root pair_of) (map (tree t) (take n (drop first (element_values t count b))))

abbrev pub costs_from : SszType → ℕ → List ℕ → ℕ → ℕ → ℕ
costs_from t count b first n =
    sum_by (pairs t) (take n (drop first (element_values t count b)))

-- values side by side
roots-split : (pair_of : List ℕ → List ℕ → List ℕ) (t : SszType) (vs : List SszValue) (n m : ℕ)
    → map (root pair_of) (map (tree t) (take n vs))
    ++ map (root pair_of) (map (tree t) (take m (drop n vs)))
    ≡ map (root pair_of) (map (tree t) (take (n + m) vs))
roots-split pair_of t vs n m =
    sym (ap (λ ws. map (root pair_of) (map (tree t) ws)) (take-add n m vs)
    ∙ ap (map (root pair_of)) (map-append (tree t) (take n vs) (take m (drop n vs)))
    ∙ map-append (root pair_of) (map (tree t) (take n vs)) (map (tree t) (take m (drop n vs))))

costs-split : (t : SszType) (vs : List SszValue) (n m : ℕ)
    → sum_by (pairs t) (take n vs) + sum_by (pairs t) (take m (drop n vs))
    ≡ sum_by (pairs t) (take (n + m) vs)
costs-split t vs n m = sym (ap (sum_by (pairs t)) (take-add n m vs)
    ∙ sum_by-append (pairs t) (take n vs) (take m (drop n vs)))

pub roots_joined : (pair_of : List ℕ → List ℕ → List ℕ) (t : SszType) (count : ℕ) (b : List ℕ)
    (first n m : ℕ) → roots_from pair_of t count b first n
    ++ roots_from pair_of t count b (first + n) m ≡ roots_from pair_of t count b first (n + m)
roots_joined pair_of t count b first n m =
    let vs : List SszValue = element_values t count b in
    ap (λ ws. roots_from pair_of t count b first n
    ++ map (root pair_of) (map (tree t) (take m ws))) (sym (drop-drop n first vs))
    ∙ roots-split pair_of t (drop first vs) n m

pub costs_joined : (t : SszType) (count : ℕ) (b : List ℕ) (first n m : ℕ)
    → costs_from t count b first n + costs_from t count b (first + n) m
    ≡ costs_from t count b first (n + m)
costs_joined t count b first n m =
    let vs : List SszValue = element_values t count b in
    ap (λ ws. costs_from t count b first n + sum_by (pairs t) (take m ws))
    (sym (drop-drop n first vs)) ∙ costs-split t (drop first vs) n m

value_more : (t : SszType) (count : ℕ) (b : List ℕ) (n : ℕ) → n < count
    → take (n + 1) (element_values t count b) ≡ take n (element_values t count b)
    ++ value_in t (get_or (elements_in (fixed_size t) count b) n []) ∷ []
value_more t count b n below = take-map-more (value_in t) (elements_in (fixed_size t) count b) n
    (omega (arith, length-elements_in (fixed_size t) count b))

roots_more : (pair_of : List ℕ → List ℕ → List ℕ) (t : SszType) (count : ℕ) (b : List ℕ) (n : ℕ)
    → n < count → roots_to pair_of t count b n
    ++ root pair_of (tree t (value_in t (get_or (elements_in (fixed_size t) count b) n []))) ∷ []
    ≡ roots_to pair_of t count b (n + 1)
roots_more pair_of t count b n below =
    let v : SszValue = value_in t (get_or (elements_in (fixed_size t) count b) n []) in
    let vs : List SszValue = take n (element_values t count b) in
    sym (ap (λ ws. map (root pair_of) (map (tree t) ws)) (value_more t count b n below)
    ∙ ap (map (root pair_of)) (map-append (tree t) vs (v ∷ []))
    ∙ map-append (root pair_of) (map (tree t) vs) (tree t v ∷ []))

costs_more : (t : SszType) (count : ℕ) (b : List ℕ) (n m : ℕ) → m ≡ n + 1 → n < count
    → costs_to t count b m ≡ costs_to t count b n
    + pairs t (value_in t (get_or (elements_in (fixed_size t) count b) n []))
costs_more t count b n m next below =
    let v : SszValue = value_in t (get_or (elements_in (fixed_size t) count b) n []) in
    let sum : sum_by (pairs t) (v ∷ []) ≡ pairs t v = omega arith in
    ap (costs_to t count b) next ∙ ap (sum_by (pairs t)) (value_more t count b n below)
    ∙ sum_by-append (pairs t) (take n (element_values t count b)) (v ∷ [])
    ∙ ap (λ k. costs_to t count b n + k) sum

-- chunks that are the roots of the elements from n on
pub roots_behind : (pair_of : List ℕ → List ℕ → List ℕ) (t : SszType) (count : ℕ) (b : List ℕ)
    (column : List Chunk) (n : ℕ) → n + length column ≤ count
    → ((j : ℕ) → j < length column → chunk_in_row column j ≡ root pair_of (tree t (value_in t
    (get_or (elements_in (fixed_size t) count b) (n + j) []))))
    → roots_to pair_of t count b n ++ chunk_bytes column
    ≡ roots_to pair_of t count b (n + length column)
roots_behind pair_of t count b [] n inside each =
    append-nil (roots_to pair_of t count b n) ∙ ap (roots_to pair_of t count b) (sym (add-zero n))
roots_behind pair_of t count b (chunk ∷ column) n inside each =
    let here : n + 0 ≡ n = omega arith in
    let first : chunk.0 ≡ root pair_of (tree t (value_in t
    (get_or (elements_in (fixed_size t) count b) n []))) = each 0 (omega arith)
    ∙ ap (λ k. root pair_of (tree t (value_in t
    (get_or (elements_in (fixed_size t) count b) k [])))) here in
    let rest : (j : ℕ) → j < length column
    → chunk_in_row column j ≡ root pair_of (tree t (value_in t
    (get_or (elements_in (fixed_size t) count b) (n + 1 + j) []))) =
    λ j below.
    let place : n + suc j ≡ n + 1 + j = omega arith in
    each (suc j) (omega arith) ∙ ap (λ k. root pair_of (tree t (value_in t
    (get_or (elements_in (fixed_size t) count b) k [])))) place in
    let last : n + 1 + length column ≡ n + suc (length column) = omega arith in
    sym (append_assoc (roots_to pair_of t count b n) (chunk.0 ∷ []) (chunk_bytes column))
    ∙ ap (λ cs. cs ++ chunk_bytes column)
    (ap (λ c. roots_to pair_of t count b n ++ c ∷ []) first
    ∙ roots_more pair_of t count b n (omega arith))
    ∙ roots_behind pair_of t count b column (n + 1) (omega arith) rest
    ∙ ap (roots_to pair_of t count b) last

-- the chunks of a column are the roots of as many elements
pub column_roots : (pair_of : List ℕ → List ℕ → List ℕ) (t : SszType) (count : ℕ) (b : List ℕ)
    (column : List Chunk) (first n : ℕ) → length column ≡ n → first + n ≤ count
    → ((j : ℕ) → j < n → chunk_in_row column j ≡ root pair_of (tree t (value_in t
    (get_or (elements_in (fixed_size t) count b) (first + j) []))))
    → chunk_bytes column ≡ roots_from pair_of t count b first n
column_roots pair_of t count b column first n long inside each =
    let before : List (List ℕ) = roots_to pair_of t count b first in
    let behind : before ++ chunk_bytes column ≡ before ++ roots_from pair_of t count b first n =
    roots_behind pair_of t count b column first (omega (arith, long))
    (λ j below. each j (omega (arith, below, long)))
    ∙ ap (λ k. roots_to pair_of t count b (first + k)) long
    ∙ sym (roots-split pair_of t (element_values t count b) first n) in
    sym (drop-append_seam before (chunk_bytes column))
    ∙ ap (drop (length before)) behind
    ∙ drop-append_seam before (roots_from pair_of t count b first n)

-- what eight elements cost
costs_eight : (t : SszType) (count : ℕ) (b : List ℕ) (n : ℕ) → n + 8 ≤ count
    → costs_to t count b n + eight (λ j. pairs t (value_in t
    (get_or (elements_in (fixed_size t) count b) (n + j) []))) ≡ costs_to t count b (n + 8)
costs_eight t count b n inside =
    let here : costs_to t count b (n + 0) ≡ costs_to t count b n =
    ap (costs_to t count b) (add-zero n) in
    omega (
      arith,
      here,
      costs_more t count b (n + 0) (n + 1) (omega arith) (omega arith),
      costs_more t count b (n + 1) (n + 2) (omega arith) (omega arith),
      costs_more t count b (n + 2) (n + 3) (omega arith) (omega arith),
      costs_more t count b (n + 3) (n + 4) (omega arith) (omega arith),
      costs_more t count b (n + 4) (n + 5) (omega arith) (omega arith),
      costs_more t count b (n + 5) (n + 6) (omega arith) (omega arith),
      costs_more t count b (n + 6) (n + 7) (omega arith) (omega arith),
      costs_more t count b (n + 7) (n + 8) (omega arith) (omega arith),
    )

pub costs_of_eight : (t : SszType) (count : ℕ) (b : List ℕ) (n : ℕ) → n + 8 ≤ count
    → eight (λ j. pairs t (value_in t (get_or (elements_in (fixed_size t) count b) (n + j) [])))
    ≡ costs_from t count b n 8
costs_of_eight t count b n inside = omega (
  arith,
  costs_eight t count b n inside,
  costs-split t (element_values t count b) n 8,
)

-- no elements
pub counts_none : (t : SszType) (count : ℕ) (b : List ℕ) (d now : ℕ)
    → CountsUp (whole_pairs d 0 + costs_to t count b 0) now now
counts_none t count b d now =
    let none : 0 ≡ whole_pairs d 0 + costs_to t count b 0 = omega (arith, whole_pairs-zero d) in
    subst (λ k. CountsUp k now now) none (CountsUp-none now)

-- a loop over what is left goes on from there
pub FirstElements-eights : (pair_of : List ℕ → List ℕ → List ℕ) (depth : ℕ) (frontier : Frontier)
    (t : SszType) (count : ℕ) (b : List ℕ) (done start now new_depth : ℕ) → new_depth ≡ depth
    → frontier.depth ≡ new_depth → done ≤ count
    → FrontierHolds pair_of (roots_to pair_of t count b done) frontier
    → CountsUp (whole_pairs new_depth done + costs_to t count b done) start now
    → FirstElements pair_of depth frontier t count b done start now
FirstElements-eights pair_of depth frontier t count b done start now new_depth deep stays within
    held counted =
    let long : length (map (tree t) (take done (element_values t count b))) ≡ done =
    length-first t (element_values t count b) done
    (omega (arith, length-element_values t count b)) in
    record {
      gathered = record {
        deep = stays ∙ deep;
        holds = held;
        counted = subst (λ k. CountsUp (whole_pairs depth k + costs_to t count b done) start now)
            (sym long)
            (subst (λ d. CountsUp (whole_pairs d done + costs_to t count b done) start now) deep
            counted);
      };
    }

-- so many were pushed, and there is room for more
pub FirstElements-fits : (pair_of : List ℕ → List ℕ → List ℕ) (depth : ℕ) (frontier : Frontier)
    (t : SszType) (count : ℕ) (b : List ℕ) (i n start now : ℕ)
    → FirstElements pair_of depth frontier t count b i start now → i + n ≤ count
    → count ≤ 2 ^ depth
    → (frontier.pushed ≡ i) × (frontier.pushed + n ≤ 2 ^ frontier.depth)
FirstElements-fits pair_of depth frontier t count b i n start now h inside few =
    let pushed : frontier.pushed ≡ i =
    Gathered-pushed pair_of depth frontier _ _ start now h.gathered
    ∙ length-first t (element_values t count b) i
    (omega (arith, length-element_values t count b)) in
    let room : frontier.pushed + n ≤ 2 ^ depth = omega (arith, pushed) in
    (pushed, subst (λ d. frontier.pushed + n ≤ 2 ^ d) (sym h.gathered.deep) room)

pub FirstElements-counted : (pair_of : List ℕ → List ℕ → List ℕ) (depth : ℕ)
    (frontier : Frontier) (t : SszType) (count : ℕ) (b : List ℕ) (i start now : ℕ)
    → FirstElements pair_of depth frontier t count b i start now → i ≤ count
    → CountsUp (whole_pairs depth i + costs_to t count b i) start now
FirstElements-counted pair_of depth frontier t count b i start now h within =
    let long : length (map (tree t) (take i (element_values t count b))) ≡ i =
    length-first t (element_values t count b) i
    (omega (arith, length-element_values t count b)) in
    subst (λ k. CountsUp (whole_pairs depth k + costs_to t count b i) start now) long
    h.gathered.counted

-- the roots of a row of elements were made and pushed
pub FirstElements-row : (pair_of : List ℕ → List ℕ → List ℕ) (depth : ℕ)
    (frontier after : Frontier) (t : SszType) (count : ℕ) (b : List ℕ)
    (i n start now middle end : ℕ) (row : List Chunk)
    → FirstElements pair_of depth frontier t count b i start now → i + n ≤ count
    → chunk_bytes row ≡ roots_from pair_of t count b i n
    → CountsUp (costs_from t count b i n) now middle
    → after.depth ≡ frontier.depth
    → ((before : List (List ℕ)) → FrontierHolds pair_of before frontier
    → FrontierHolds pair_of (before ++ chunk_bytes row) after)
    → CountsUp (whole_pairs frontier.depth (frontier.pushed + n)
    - whole_pairs frontier.depth frontier.pushed) middle end
    → FirstElements pair_of depth after t count b (i + n) start end
FirstElements-row pair_of depth frontier after t count b i n start now middle end row h inside is
    made stays held pushes =
    let vs : List SszValue = element_values t count b in
    let one : frontier.pushed ≡ i =
    Gathered-pushed pair_of depth frontier _ _ start now h.gathered
    ∙ length-first t vs i (omega (arith, length-element_values t count b)) in
    let above : CountsUp (whole_pairs depth (i + n) - whole_pairs depth i) middle end =
    subst (λ k. CountsUp (whole_pairs depth (k + n) - whole_pairs depth k) middle end) one
    (subst (λ d. CountsUp (whole_pairs d (frontier.pushed + n)
    - whole_pairs d frontier.pushed) middle end) h.gathered.deep pushes) in
    let sum : whole_pairs depth i + costs_to t count b i + costs_from t count b i n
    + (whole_pairs depth (i + n) - whole_pairs depth i)
    ≡ whole_pairs depth (i + n) + costs_to t count b (i + n) =
    omega (arith, costs-split t vs i n, whole_pairs-rise depth i n) in
    FirstElements-eights pair_of depth after t count b (i + n) start end depth refl
    (stays ∙ h.gathered.deep) inside
    (subst (λ cs. FrontierHolds pair_of cs after)
    (ap (λ cs. roots_to pair_of t count b i ++ cs) is ∙ roots-split pair_of t vs i n)
    (held (roots_to pair_of t count b i) h.gathered.holds))
    (subst (λ k. CountsUp k start end) sum
    (CountsUp-add _ _ start middle end (CountsUp-add _ _ start now middle
    (FirstElements-counted pair_of depth frontier t count b i start now h (omega arith)) made)
    above))
