use Rattle.std.proofs.Common.{◌≡◌, ℕ, ◌+◌, ◌-◌, ◌*◌, ◌/◌, ◌<◌, ◌≤◌, ◌++◌, List, None, [], ◌∷◌, length, min, take, drop, sym, ap, ap₂, ◌∙◌, subst, arith, length-take}
use Rattle.std.specs.List.{filter}
use Rattle.std.proofs.lemmas.List.{get_or-take}
use Rattle.ssz_chunk.specs.declared.Chunk.{Chunk}
use Rattle.ssz_chunk.specs.Rows.{chunk_in_row as row_at}
use Rattle.ssz_proof.specs.Calculation.{chunk_at}
use Rattle.ssz_proof.specs.Descent.{IsReached}
use Rattle.ssz_proof.specs.Rows.{AreCalculated, AreReached, AreUnknown, children, is_unknown, levels_left}
use Rattle.ssz_proof.proofs.Descending.{goes_down}
use Rattle.ssz_chunk.proofs.Halving.{halved_row}
use Rattle.ssz_proof.proofs.Rowwise.{alone, back_part, both, children_fit, children_reached, children_sum, filtered, front_part, front_row, joined_row, left_children, none_found, pairs_calculated, placed_row, sum_of_two}
use Rattle.ssz_proof.proofs.rows.+rows.Goals as goal

pub calculate-overflow_mul-first : goal.calculate-overflow_mul-first
calculate-overflow_mul-first g t c =
    let down : _ = goes_down c.args.leaves.now c.args.nodes.now c.requires.ordered
    g.H.PairHash.pair_of c.args.index c.requires.positive c.requires.reached c.requires.unknown in
    omega (arith, down.fits)

pub calculate-overflow_add-second : goal.calculate-overflow_add-second
calculate-overflow_add-second g t c =
    let down : _ = goes_down c.args.leaves.now c.args.nodes.now c.requires.ordered
    g.H.PairHash.pair_of c.args.index c.requires.positive c.requires.reached c.requires.unknown in
    omega (arith, down.fits)

pub calculate-calculate_row-requires : goal.calculate-calculate_row-requires
calculate-calculate_row-requires g t c κs within =
    let down : _ = goes_down c.args.leaves.now c.args.nodes.now c.requires.ordered
    g.H.PairHash.pair_of c.args.index c.requires.positive c.requires.reached c.requires.unknown in
    let leaves = c.args.leaves.now in
    let nodes = c.args.nodes.now in
    let index = c.args.index in
    let come : AreReached leaves nodes (index ∷ []) =
    alone (λ i. (0 < i) × IsReached leaves nodes i) index
    (c.requires.positive, c.requires.reached) in
    let unknown : AreUnknown (leaves ++ nodes) (index ∷ []) =
    alone (λ i. None ≡ chunk_at (leaves ++ nodes) i) index c.requires.unknown in
    let fewer : levels_left leaves (children (index ∷ [])) < levels_left leaves (index ∷ []) =
    left_children g.H.PairHash.pair_of leaves nodes c.requires.ordered (index ∷ []) come unknown
    (omega arith) in (
      omega (arith, fewer),
      (
        within,
        (
          c.requires.ordered,
          (
            omega arith,
            (
              omega arith,
              (
                omega arith,
                (
                  children_reached g.H.PairHash.pair_of leaves nodes c.requires.ordered
                      (index ∷ []) come unknown,
                  both (λ i. None ≡ chunk_at (leaves ++ nodes) i) (2 * index) (2 * index + 1)
                      (none_found _ _ c.if-is_none.ensures c.chunk_of-left.ensures)
                      (none_found _ _ c.if-is_none-2.ensures c.chunk_of-right.ensures),
                ),
              ),
            ),
          ),
        ),
      ),
    )

pub calculate-returns-then-is_none-2-clause-value
    : goal.calculate-returns-then-is_none-2-clause-value
calculate-returns-then-is_none-2-clause-value g t c =
    let down : _ = goes_down c.args.leaves.now c.args.nodes.now c.requires.ordered
    g.H.PairHash.pair_of c.args.index c.requires.positive c.requires.reached c.requires.unknown in
    c.pair.ensures.value
    ∙ ap₂ g.H.PairHash.pair_of (c.calculate_row.ensures.value 0 (omega arith))
    (c.calculate_row.ensures.value 1 (omega arith))
    ∙ sym down.chunk

pub calculate-returns-then-is_none-2-clause-pairs
    : goal.calculate-returns-then-is_none-2-clause-pairs
calculate-returns-then-is_none-2-clause-pairs g t c =
    let down : _ = goes_down c.args.leaves.now c.args.nodes.now c.requires.ordered
    g.H.PairHash.pair_of c.args.index c.requires.positive c.requires.reached c.requires.unknown in
    omega (
      arith,
      down.pairs,
      c.pair.ensures.counts.at_most,
      c.calculate_row.ensures.pairs,
      sum_of_two c.args.leaves.now (2 * c.args.index) (2 * c.args.index + 1),
    )

pub calculate-found_or_calculated-left-requires : goal.calculate-found_or_calculated-left-requires
calculate-found_or_calculated-left-requires g t c κs within =
    let down : _ = goes_down c.args.leaves.now c.args.nodes.now c.requires.ordered
    g.H.PairHash.pair_of c.args.index c.requires.positive c.requires.reached c.requires.unknown in (
      omega (arith, down.above, down.left_levels),
      (
        within,
        (
          c.requires.ordered,
          (omega (arith, c.requires.positive), (down.left, c.chunk_of-left.ensures)),
        ),
      ),
    )

pub calculate-found_or_calculated-right-requires : goal.calculate-found_or_calculated-right-requires
calculate-found_or_calculated-right-requires g t c κs within =
    let down : _ = goes_down c.args.leaves.now c.args.nodes.now c.requires.ordered
    g.H.PairHash.pair_of c.args.index c.requires.positive c.requires.reached c.requires.unknown in (
      omega (arith, down.above, down.right_levels),
      (
        within,
        (
          c.requires.ordered,
          (omega (arith, c.requires.positive), (down.right, c.chunk_of-right.ensures)),
        ),
      ),
    )

pub calculate-returns-clause-value : goal.calculate-returns-clause-value
calculate-returns-clause-value g t c =
    let down : _ = goes_down c.args.leaves.now c.args.nodes.now c.requires.ordered
    g.H.PairHash.pair_of c.args.index c.requires.positive c.requires.reached c.requires.unknown in
    c.pair-2.ensures.value
    ∙ ap₂ g.H.PairHash.pair_of c.found_or_calculated-left.ensures.value
    c.found_or_calculated-right.ensures.value
    ∙ sym down.chunk

pub calculate-returns-clause-pairs : goal.calculate-returns-clause-pairs
calculate-returns-clause-pairs g t c =
    let down : _ = goes_down c.args.leaves.now c.args.nodes.now c.requires.ordered
    g.H.PairHash.pair_of c.args.index c.requires.positive c.requires.reached c.requires.unknown in
    omega (
      arith,
      down.pairs,
      c.pair-2.ensures.counts.at_most,
      c.found_or_calculated-left.ensures.pairs,
      c.found_or_calculated-right.ensures.pairs,
    )

pub calculate_row-children-below-requires-clause-fits
    : goal.calculate_row-children-below-requires-clause-fits
calculate_row-children-below-requires-clause-fits g t c =
    children_fit g.H.PairHash.pair_of c.args.leaves.now c.args.nodes.now c.requires.ordered
    c.args.indices.now c.requires.reached c.requires.unknown

pub calculate_row-calculate_rows-requires : goal.calculate_row-calculate_rows-requires
calculate_row-calculate_rows-requires g t c κs within =
    let leaves = c.args.leaves.now in
    let nodes = c.args.nodes.now in
    let indices = c.args.indices.now in
    let count = c.look-looked.result.count in
    let found : List ℕ = take count c.look-looked.result.unknown in
    let come : AreReached leaves nodes (children indices) =
    children_reached g.H.PairHash.pair_of leaves nodes c.requires.ordered indices c.requires.reached
    c.requires.unknown in
    let parts : _ = filtered leaves nodes (children indices) found
    (c.look-looked.ensures.unknown
    ∙ ap (filter (is_unknown (leaves ++ nodes))) c.children-below.ensures.value) come in
    let fewer : levels_left leaves (children indices) < levels_left leaves indices =
    left_children g.H.PairHash.pair_of leaves nodes c.requires.ordered indices c.requires.reached
    c.requires.unknown c.requires.some in
    let long : length found ≡ min count 16 =
    length-take count c.look-looked.result.unknown ∙ ap (min count) c.look-looked.ensures.long in (
      omega (arith, fewer, parts.left),
      (
        within,
        (
          c.requires.ordered,
          (
            omega (arith, long),
            (length-take count _ ∙ sym long, (parts.reached, parts.unknown)),
          ),
        ),
      ),
    )

pub calculate_row-returns-clause-value : goal.calculate_row-returns-clause-value
calculate_row-returns-clause-value g t c j inside =
    let p = g.H.PairHash.pair_of in
    let leaves = c.args.leaves.now in
    let nodes = c.args.nodes.now in
    let known = leaves ++ nodes in
    let indices = c.args.indices.now in
    let n = length indices in
    let look = c.look-looked.result in
    let placed = c.place_all.new.row in
    let fits : 2 * n ≤ length placed = omega (arith, c.requires.few) in
    let counted : length (take look.count look.unknown) ≡ look.count = omega (
      arith,
      length-take look.count look.unknown,
      c.look-looked.ensures.few,
      c.look-looked.ensures.long,
      length-take (2 * n) c.children-below.result,
      c.children-below.ensures.long,
    ) in
    let short : min look.count 16 ≡ look.count = omega (
      arith,
      counted,
      length-take look.count look.unknown,
      c.look-looked.ensures.long,
    ) in
    let all : AreCalculated p known (take (2 * n) c.children-below.result) placed =
    placed_row p known (take (2 * n) c.children-below.result) look.unknown look.places look.count
    look.row _ placed
    (omega (arith, counted, length-take look.count look.unknown))
    (c.look-looked.ensures.placed ∙ sym c.look-looked.ensures.long) c.look-looked.ensures.places
    (c.look-looked.ensures.row p)
    (front_row p known (take look.count look.unknown) look.count c.calculate_rows.new.row _
    (c.calculate_rows.auto.row ∙ length-take look.count _ ∙ short) (omega (arith, counted))
    c.calculate_rows.ensures.value)
    c.place_all.ensures in
    let below : AreCalculated p known (children indices) placed =
    subst (λ (l : List ℕ). AreCalculated p known l placed) c.children-below.ensures.value all in
    ap (λ (row : List Chunk). row_at row j) c.copy_from_slice.ensures.after
    ∙ ap (λ (chunk : Chunk). chunk.0) (get_or-take n _ j (record { 0 = [] }) inside)
    ∙ pairs_calculated p leaves nodes c.requires.ordered indices c.requires.reached
    c.requires.unknown placed _ below
    (halved_row p placed c.halve.new.chunks (drop (2 * n) placed) n fits c.halve.ensures.value
    c.halve.auto.chunks) j inside

pub calculate_row-returns-clause-pairs : goal.calculate_row-returns-clause-pairs
calculate_row-returns-clause-pairs g t c =
    let leaves = c.args.leaves.now in
    let nodes = c.args.nodes.now in
    let indices = c.args.indices.now in
    let count = c.look-looked.result.count in
    let found : List ℕ = take count c.look-looked.result.unknown in
    let come : AreReached leaves nodes (children indices) =
    children_reached g.H.PairHash.pair_of leaves nodes c.requires.ordered indices c.requires.reached
    c.requires.unknown in
    let parts : _ = filtered leaves nodes (children indices) found
    (c.look-looked.ensures.unknown
    ∙ ap (filter (is_unknown (leaves ++ nodes))) c.children-below.ensures.value) come in
    let sum : _ = children_sum g.H.PairHash.pair_of leaves nodes c.requires.ordered indices
    c.requires.reached c.requires.unknown in
    let made : length (take (2 * length indices) c.place_all.new.row) / 2 ≡ length indices =
    omega (arith, length-take (2 * length indices) c.place_all.new.row, c.requires.few) in
    omega (
      arith,
      made,
      sum,
      parts.sum,
      c.calculate_rows.ensures.pairs,
      c.halve.ensures.counts.at_most,
    )

pub calculate_rows-calculate_row-requires-2 : goal.calculate_rows-calculate_row-requires-2
calculate_rows-calculate_row-requires-2 g t c κs within =
    let part : _ = front_part c.args.leaves.now c.args.nodes.now c.args.indices.now
    c.split_at.result.0.now 8 c.requires.reached c.requires.unknown c.split_at.ensures.front in
    let long : length c.split_at.result.0.now ≡ 8 = omega (
      arith,
      c.split_at.ensures.front_len,
      c.if-indices-le-WIDTH.false,
    ) in (
      omega (arith, part.left),
      (
        within,
        (
          c.requires.ordered,
          (
            omega (arith, long, c.requires.few),
            (
              omega (arith, long, c.if-indices-le-WIDTH.false),
              (
                omega (
                  arith,
                  long,
                  c.requires.room,
                  c.if-indices-le-WIDTH.false,
                  c.split_at_mut-front.ensures.front_len,
                ),
                (part.reached, part.unknown),
              ),
            ),
          ),
        ),
      ),
    )

pub calculate_rows-calculate_row-requires-3 : goal.calculate_rows-calculate_row-requires-3
calculate_rows-calculate_row-requires-3 g t c κs within =
    let part : _ = back_part c.args.leaves.now c.args.nodes.now c.args.indices.now
    c.split_at.result.1.now 8 c.requires.reached c.requires.unknown c.split_at.ensures.back in
    let long : length c.split_at.result.1.now ≡ length c.args.indices.now - 8 = omega (
      arith,
      c.split_at.ensures.back_len,
      c.if-indices-le-WIDTH.false,
    ) in (
      omega (arith, part.left),
      (
        within,
        (
          c.requires.ordered,
          (
            omega (arith, long, c.requires.few),
            (
              omega (arith, long, c.if-indices-le-WIDTH.false),
              (
                omega (
                  arith,
                  long,
                  c.requires.room,
                  c.if-indices-le-WIDTH.false,
                  c.split_at_mut-front.ensures.back_len,
                ),
                (part.reached, part.unknown),
              ),
            ),
          ),
        ),
      ),
    )

pub calculate_rows-returns-clause-value : goal.calculate_rows-returns-clause-value
calculate_rows-returns-clause-value g t c =
    let long : length c.split_at.result.0.now ≡ 8 = omega (
      arith,
      c.split_at.ensures.front_len,
      c.if-indices-le-WIDTH.false,
    ) in
    let room : length c.split_at_mut-front.result.0.now ≡ 8 = omega (
      arith,
      c.requires.room,
      c.if-indices-le-WIDTH.false,
      c.split_at_mut-front.ensures.front_len,
    ) in
    joined_row g.H.PairHash.pair_of (c.args.leaves.now ++ c.args.nodes.now) c.args.indices.now
    c.split_at.result.0.now c.split_at.result.1.now 8 c.calculate_row-2.new.row
    c.calculate_row-3.new.row c.split_at.ensures.front c.split_at.ensures.back long
    (c.calculate_row-2.auto.row ∙ room) c.calculate_row-2.ensures.value
    c.calculate_row-3.ensures.value
