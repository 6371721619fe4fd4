use Rattle.std.proofs.Common.{◌≡◌, ◌∙◌, ℕ, ◌+◌, ◌*◌, List, refl, sym, ap, ap₂, subst, is_some, arith}
use Rattle.ssz_chunk.specs.Index.{levels}
use Rattle.ssz_gindex.specs.Helpers.{sibling}
use Rattle.ssz_gindex.proofs.Within.{sibling-right}
use Rattle.ssz_proof.specs.Calculation.{calculate_root, indices_of}
use Rattle.ssz_proof.specs.Multiproof.{known_of}
use Rattle.ssz_proof.specs.Descent.{IsReached, levels_below}
use Rattle.ssz_clash.specs.Walks.{IsFirstWithin}
use Rattle.ssz_clash.specs.declared.walk.Pairs.{Pairs}
use Rattle.ssz_clash.proofs.FirstClash.{Meet, first-within, found-here, none-known}
use Rattle.ssz_clash.proofs.Walking.{both-known, go-down}
use Rattle.ssz_clash.proofs.walk.+walk.Goals as goal

abbrev pair_up : List ℕ → List ℕ → List ℕ × List ℕ
pair_up left right = (left, right)

pub returns-in-Some-chunk-clause-clash : goal.returns-in-Some-chunk-clause-clash
returns-in-Some-chunk-clause-clash g t c =
    none-known g.H.PairHash.pair_of c.args.first.now c.args.second.now c.requires.ordered_first
    c.args.index (sym (ap is_some c.in-Some.ensures))

pub unreachable-requires : goal.unreachable-requires
unreachable-requires g t c =
    both-known c.args.first.now c.args.second.now c.requires.ordered_first
    c.requires.ordered_second c.requires.places c.args.index c.in-Some.chunk.0 c.in-Some.ensures
    c.in-None.ensures

pub right-behind-requires : goal.right-behind-requires
right-behind-requires g t c =
    let down = go-down c.args.first.now c.args.second.now c.requires.ordered_first
    c.requires.ordered_second c.requires.places g.H.PairHash.pair_of c.args.index
    c.requires.positive c.requires.reached c.in_default.ensures in
    omega (arith, down.first.fits)

pub walk-left-requires : goal.walk-left-requires
walk-left-requires g t c κs within =
    let down = go-down c.args.first.now c.args.second.now c.requires.ordered_first
    c.requires.ordered_second c.requires.places g.H.PairHash.pair_of c.args.index
    c.requires.positive c.requires.reached c.in_default.ensures in
    let left : c.sibling.result ≡ 2 * c.args.index =
    c.sibling.ensures ∙ ap sibling c.right-behind.ensures ∙ sibling-right c.args.index in
    let depth : levels c.sibling.result ≡ levels (2 * c.args.index) =
    ap (λ (k : ℕ). levels k) left in (
      omega (arith, down.first.above, down.first.left_levels),
      (
        within,
        (
          c.requires.ordered_first,
          (
            c.requires.ordered_second,
            (
              c.requires.places,
              (
                omega (arith, c.requires.positive),
                subst (λ (k : ℕ). IsReached c.args.first.now.leaves c.args.first.now.nodes k)
                    (sym left) down.first.left,
              ),
            ),
          ),
        ),
      ),
    )

pub walk-right-requires : goal.walk-right-requires
walk-right-requires g t c κs within =
    let down = go-down c.args.first.now c.args.second.now c.requires.ordered_first
    c.requires.ordered_second c.requires.places g.H.PairHash.pair_of c.args.index
    c.requires.positive c.requires.reached c.in_default.ensures in
    let right : c.right-behind.result ≡ 2 * c.args.index + 1 = c.right-behind.ensures in
    let depth : levels c.right-behind.result ≡ levels (2 * c.args.index + 1) =
    ap (λ (k : ℕ). levels k) right in (
      omega (arith, down.first.above, down.first.right_levels),
      (
        within,
        (
          c.requires.ordered_first,
          (
            c.requires.ordered_second,
            (
              c.requires.places,
              (
                omega arith,
                subst (λ (k : ℕ). IsReached c.args.first.now.leaves c.args.first.now.nodes k)
                    (sym right) down.first.right,
              ),
            ),
          ),
        ),
      ),
    )

pub returns-clause-first : goal.returns-clause-first
returns-clause-first g t c =
    let pair_of = g.H.PairHash.pair_of in
    let proof = c.args.first.now in
    let down = go-down c.args.first.now c.args.second.now c.requires.ordered_first
    c.requires.ordered_second c.requires.places g.H.PairHash.pair_of c.args.index
    c.requires.positive c.requires.reached c.in_default.ensures in
    let left : c.sibling.result ≡ 2 * c.args.index =
    c.sibling.ensures ∙ ap sibling c.right-behind.ensures ∙ sibling-right c.args.index in
    c.pair-one.ensures.value
    ∙ ap₂ pair_of
    (c.walk-left.ensures.first ∙ ap (calculate_root pair_of (known_of proof)) left)
    (c.walk-right.ensures.first
    ∙ ap (calculate_root pair_of (known_of proof)) c.right-behind.ensures)
    ∙ sym down.first.chunk

pub returns-clause-second : goal.returns-clause-second
returns-clause-second g t c =
    let pair_of = g.H.PairHash.pair_of in
    let proof = c.args.second.now in
    let down = go-down c.args.first.now c.args.second.now c.requires.ordered_first
    c.requires.ordered_second c.requires.places g.H.PairHash.pair_of c.args.index
    c.requires.positive c.requires.reached c.in_default.ensures in
    let left : c.sibling.result ≡ 2 * c.args.index =
    c.sibling.ensures ∙ ap sibling c.right-behind.ensures ∙ sibling-right c.args.index in
    c.pair-other.ensures.value
    ∙ ap₂ pair_of
    (c.walk-left.ensures.second ∙ ap (calculate_root pair_of (known_of proof)) left)
    (c.walk-right.ensures.second
    ∙ ap (calculate_root pair_of (known_of proof)) c.right-behind.ensures)
    ∙ sym down.second.chunk

pub returns-clause-pairs : goal.returns-clause-pairs
returns-clause-pairs g t c =
    let indices = indices_of c.args.first.now.leaves in
    let down = go-down c.args.first.now c.args.second.now c.requires.ordered_first
    c.requires.ordered_second c.requires.places g.H.PairHash.pair_of c.args.index
    c.requires.positive c.requires.reached c.in_default.ensures in
    let left : c.sibling.result ≡ 2 * c.args.index =
    c.sibling.ensures ∙ ap sibling c.right-behind.ensures ∙ sibling-right c.args.index in
    let below_left : levels_below c.sibling.result indices
    ≡ levels_below (2 * c.args.index) indices = ap (λ (k : ℕ). levels_below k indices) left in
    let below_right : levels_below c.right-behind.result indices
    ≡ levels_below (2 * c.args.index + 1) indices =
    ap (λ (k : ℕ). levels_below k indices) c.right-behind.ensures in
    omega (
      arith,
      down.first.pairs,
      c.pair-one.ensures.counts.at_most,
      c.pair-other.ensures.counts.at_most,
      c.walk-left.ensures.pairs,
      c.walk-right.ensures.pairs,
    )

pub returns-clause-clash : goal.returns-clause-clash
returns-clause-clash g t c =
    let pair_of = g.H.PairHash.pair_of in
    let one = c.args.first.now in
    let other = c.args.second.now in
    let i = c.args.index in
    let down = go-down one other c.requires.ordered_first c.requires.ordered_second
    c.requires.places pair_of i c.requires.positive c.requires.reached c.in_default.ensures in
    let left : c.sibling.result ≡ 2 * i =
    c.sibling.ensures ∙ ap sibling c.right-behind.ensures ∙ sibling-right i in
    let right : c.right-behind.result ≡ 2 * i + 1 = c.right-behind.ensures in
    let pairs : Pairs = record {
      index = i;
      first = (c.walk-left.result.first, c.walk-right.result.first);
      second = (c.walk-left.result.second, c.walk-right.result.second);
    } in
    let left_one = c.walk-left.ensures.first ∙ ap (calculate_root pair_of (known_of one)) left in
    let right_one = c.walk-right.ensures.first ∙ ap (calculate_root pair_of (known_of one)) right in
    let left_other = c.walk-left.ensures.second
    ∙ ap (calculate_root pair_of (known_of other)) left in
    let right_other = c.walk-right.ensures.second
    ∙ ap (calculate_root pair_of (known_of other)) right in
    let meet : Meet pair_of one other i c.pair-one.result c.pair-other.result pairs = record {
      index = refl;
      above = down.above;
      chunk_of_one = c.pair-one.ensures.value ∙ ap₂ pair_of left_one right_one
          ∙ sym down.first.chunk;
      chunk_of_other = c.pair-other.ensures.value ∙ ap₂ pair_of left_other right_other
          ∙ sym down.second.chunk;
      pair_of_one = ap₂ pair_up left_one right_one;
      pair_of_other = ap₂ pair_up left_other right_other;
    } in
    subst (IsFirstWithin pair_of one other i) (sym c.pick.ensures)
    (first-within pair_of one other i c.requires.positive c.clash_here-found.result
    c.walk-left.result.clash c.walk-right.result.clash
    (found-here pair_of one other i c.pair-one.result c.pair-other.result pairs
    c.clash_here-found.result meet c.clash_here-found.ensures)
    (subst (λ (k : ℕ). IsFirstWithin pair_of one other k c.walk-left.result.clash) left
    c.walk-left.ensures.clash)
    (subst (λ (k : ℕ). IsFirstWithin pair_of one other k c.walk-right.result.clash) right
    c.walk-right.ensures.clash))
