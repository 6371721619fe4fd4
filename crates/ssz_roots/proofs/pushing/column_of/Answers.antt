use Rattle.std.proofs.Common.{◌≡◌, ◌∙◌, ◌+◌, ◌*◌, [], get_or, replicate, Some, None, ap, subst, arith}
use Rattle.ssz_chunk.specs.Chunk.{CountsUp}
use Rattle.ssz_chunk.specs.Tree.{root}
use Rattle.ssz_schema.specs.Sizes.{fixed_size}
use Rattle.ssz_schema.specs.Unfolding.{type_of}
use Rattle.ssz_value.specs.Faults.{first_fault, head_fault}
use Rattle.ssz_value.specs.Reading.{value_in, elements_in}
use Rattle.ssz_value.specs.Trees.{tree}
use Rattle.ssz_value.specs.Pairs.{pairs}
use Rattle.ssz_value.proofs.Agree.{IsInput}
use Rattle.ssz_parts.proofs.ElementLemmas.{fixed_room, element_faultless, elements_head}
use Rattle.ssz_roots.specs.Eights.{lane_range}
use Rattle.ssz_roots.proofs.Pieces.{eight-same}
use Rattle.ssz_roots.proofs.ElementRows.{lane_element, column_roots, costs_of_eight}
use Rattle.ssz_roots.proofs.pushing.column_of.Goals as goal

pub overflow_mul-from : goal.overflow_mul-from
overflow_mul-from g c =
    let ty = type_of c.args.lanes.now.schema.now c.args.elem in
    let head : head_fault (replicate c.args.count (Some c.args.lanes.now.stride)) 0
    c.args.lanes.now.bytes.now ≡ None =
    subst (λ size. head_fault (replicate c.args.count size) 0 c.args.lanes.now.bytes.now ≡ None)
    c.requires.size
    (elements_head ty (fixed_size ty) c.args.count c.args.lanes.now.bytes.now
    c.requires.faultless) in
    let room = fixed_room c.args.count c.args.lanes.now.stride c.args.lanes.now.bytes.now
    c.args.first head (omega (arith, c.requires.inside)) in
    omega (arith, room, c.args.lanes.now.short)

pub roots_of_eight-requires : goal.roots_of_eight-requires
roots_of_eight-requires g c =
    let ty = type_of c.args.lanes.now.schema.now c.args.elem in
    let input : IsInput c.args.lanes.now.bytes.now = record
    { bytes = c.args.lanes.now.are_bytes; short = c.args.lanes.now.short } in
    let head : head_fault (replicate c.args.count (Some c.args.lanes.now.stride)) 0
    c.args.lanes.now.bytes.now ≡ None =
    subst (λ size. head_fault (replicate c.args.count size) 0 c.args.lanes.now.bytes.now ≡ None)
    c.requires.size
    (elements_head ty (fixed_size ty) c.args.count c.args.lanes.now.bytes.now
    c.requires.faultless) in
    let last = fixed_room c.args.count c.args.lanes.now.stride c.args.lanes.now.bytes.now
    (c.args.first + 7) head (omega (arith, c.requires.inside)) in
    let place : (c.args.first + 7) * c.args.lanes.now.stride
    ≡ c.args.first * c.args.lanes.now.stride + 7 * c.args.lanes.now.stride = omega arith in
    record {
      known = c.requires.known;
      fixed = c.requires.size;
      room = omega (arith, last, place);
      faultless = λ j below.
          ap (first_fault ty 0) (lane_element ty c.args.lanes.now.stride c.args.count c.args.first j
          c.args.lanes.now.bytes.now c.requires.size (omega (arith, below, c.requires.inside)))
          ∙ (element_faultless c.args.lanes.now.schema.now.format ty c.requires.legal
          (fixed_size ty)
          c.args.count c.args.lanes.now.bytes.now (c.args.first + j) input c.requires.faultless
          (omega (arith, below, c.requires.inside))).none;
    }

pub returns-clause-roots : goal.returns-clause-roots
returns-clause-roots g c =
    let ty = type_of c.args.lanes.now.schema.now c.args.elem in
    let pair_of = g.H.PairHash.pair_of in
    column_roots pair_of ty c.args.count c.args.lanes.now.bytes.now c.roots_of_eight.result
    c.args.first 8 (omega arith) c.requires.inside
    (λ j below. c.roots_of_eight.ensures.roots j below
    ∙ ap (λ p. root pair_of (tree ty (value_in ty p))) (lane_element ty c.args.lanes.now.stride
    c.args.count
    c.args.first j c.args.lanes.now.bytes.now c.requires.size
    (omega (arith, below, c.requires.inside))))

pub returns-clause-counts : goal.returns-clause-counts
returns-clause-counts g c =
    let ty = type_of c.args.lanes.now.schema.now c.args.elem in
    let same = eight-same
    (λ j. pairs ty (value_in ty (lane_range (c.args.first * c.args.lanes.now.stride)
    c.args.lanes.now.stride c.args.lanes.now.stride c.args.lanes.now.bytes.now j)))
    (λ j. pairs ty (value_in ty (get_or (elements_in (fixed_size ty) c.args.count
    c.args.lanes.now.bytes.now) (c.args.first + j) [])))
    (λ j below. ap (λ p. pairs ty (value_in ty p)) (lane_element ty c.args.lanes.now.stride
    c.args.count c.args.first j c.args.lanes.now.bytes.now c.requires.size
    (omega (arith, below, c.requires.inside)))) in
    subst (λ n. CountsUp n (g.H.PairHash.pairs c.args.hasher.now)
    (g.H.PairHash.pairs c.roots_of_eight.new.hasher))
    (same ∙ costs_of_eight ty c.args.count c.args.lanes.now.bytes.now c.args.first
    c.requires.inside) c.roots_of_eight.ensures.counts
