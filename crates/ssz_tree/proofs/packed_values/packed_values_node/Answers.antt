use Rattle.std.proofs.Common.{◌≡◌, ◌∙◌, ℕ, ◌≤◌, ◌<◌, ◌+◌, ◌*◌, ◌/◌, ◌^◌, length, map, sym, ap, arith}
use Rattle.std.specs.List.{concat}
use Rattle.std.proofs.lemmas.List.{length-map}
use Rattle.ssz_value.specs.declared.value.Value.{Value}
use Rattle.ssz_value.specs.Encoding.{serialize}
use Rattle.ssz_value.specs.Standing.{value_of}
use Rattle.ssz_value.specs.Trees.{chunks}
use Rattle.ssz_packing.specs.Elements.{encodings_of}
use Rattle.ssz_packing.proofs.BasicValues.{encodings_sized}
use Rattle.ssz_packing.proofs.Filling.{length-concat}
use Rattle.ssz_making.specs.Parts.{whole_of, chunk_part}
use Rattle.ssz_tree.proofs.Adding.{Makes-same}
use Rattle.ssz_making.proofs.Chunks.{chunk-at, length-parts}
use Rattle.ssz_tree.proofs.Chunks.{chunks-room}
use Rattle.ssz_tree.proofs.Gathering.{First-start, First-room, First-push, First-pushed, First-more, First-finish, First-done}
use Rattle.ssz_tree.proofs.packed_values.packed_values_node.Goals as goal

pub loop-i-init : goal.loop-i-init
loop-i-init g c = record {
  first = λ t e fits. First-start _ _ _ _ c.new-leaves.ensures.depth c.new-leaves.ensures.holds;
}

pub values_chunk-requires-clause-within : goal.values_chunk-requires-clause-within
values_chunk-requires-clause-within g c = omega (arith, c.chunk_count-count.ensures)

pub leaf_node-leaf-requires : goal.leaf_node-leaf-requires
leaf_node-leaf-requires g c =
    let basic = c.requires.basic in
    let bytes = concat (encodings_of basic.type c.args.parts.now) in
    let room = chunks-room c.args.arena.now c.args.depth
    ((length c.args.parts.now * c.args.size + 31) / 32) bytes c.requires.few c.requires.room in
    let below : c.loop-i.i < (length c.args.parts.now * c.args.size + 31) / 32 =
    omega (arith, c.chunk_count-count.ensures) in
    let at = chunk-at ((length c.args.parts.now * c.args.size + 31) / 32) c.loop-i.i bytes
    c.values_chunk.result.0 below (c.values_chunk.ensures basic.type basic.sized basic.fit) in
    omega (
      arith,
      First-room _ _ _ _ _ _ _
          (c.loop-i.invariant.first basic.type basic.sized basic.fit) at room,
    )

pub push-requires : goal.push-requires
push-requires g c =
    let basic = c.requires.basic in
    let bytes = concat (encodings_of basic.type c.args.parts.now) in
    let room = chunks-room c.args.arena.now c.args.depth
    ((length c.args.parts.now * c.args.size + 31) / 32) bytes c.requires.few c.requires.room in
    let below : c.loop-i.i < (length c.args.parts.now * c.args.size + 31) / 32 =
    omega (arith, c.chunk_count-count.ensures) in
    let at = chunk-at ((length c.args.parts.now * c.args.size + 31) / 32) c.loop-i.i bytes
    c.values_chunk.result.0 below (c.values_chunk.ensures basic.type basic.sized basic.fit) in
    let made = c.leaf_node-leaf.ensures in
    let can = First-push _ _ _ _ _ _ _ _ _
    (c.loop-i.invariant.first basic.type basic.sized basic.fit) at room made in
    let few = First-pushed _ _ _ _ _ _
    (c.loop-i.invariant.first basic.type basic.sized basic.fit) in
    record {
      below = can.below;
      counted = omega (arith, few, c.loop-i-test.true);
      nodes = can.nodes;
      node = made.is.node;
      room = can.room;
    }

pub loop-i-preserved : goal.loop-i-preserved
loop-i-preserved g c = record {
  first = λ t sized fit.
      let below : c.loop-i.i < (length c.args.parts.now * c.args.size + 31) / 32 =
      omega (arith, c.chunk_count-count.ensures) in
      let at = chunk-at ((length c.args.parts.now * c.args.size + 31) / 32) c.loop-i.i
      (concat (encodings_of t c.args.parts.now)) c.values_chunk.result.0 below
      (c.values_chunk.ensures t sized fit) in
      let made = c.leaf_node-leaf.ensures in
      First-more _ _ _ _ _ _ _ _ _ _ _ (c.loop-i.invariant.first t sized fit) at made
      c.push.ensures.depth c.push.ensures.holds c.push.ensures.adds;
}

pub finish-requires : goal.finish-requires
finish-requires g c =
    let basic = c.requires.basic in
    let bytes = concat (encodings_of basic.type c.args.parts.now) in
    let count : ℕ = (length c.args.parts.now * c.args.size + 31) / 32 in
    let room = chunks-room c.args.arena.now c.args.depth
    ((length c.args.parts.now * c.args.size + 31) / 32) bytes c.requires.few c.requires.room in
    let last : c.loop-i.i ≡ length (map chunk_part (chunks count bytes)) =
    omega (arith, c.chunk_count-count.ensures, length-parts count bytes) in
    let can = First-finish c.args.arena.now c.loop-i.arena _ _ _ _
    (c.loop-i.invariant.first basic.type basic.sized basic.fit) last room in
    record { nodes = can.nodes; room = can.room }

pub returns : goal.returns
returns g c = λ t sized fit.
    let bytes = concat (encodings_of t c.args.parts.now) in
    let count : ℕ = (length c.args.parts.now * c.args.size + 31) / 32 in
    let last : c.loop-i.i ≡ length (map chunk_part (chunks count bytes)) =
    omega (arith, c.chunk_count-count.ensures, length-parts count bytes) in
    let few : length (map chunk_part (chunks count bytes)) ≤ 2 ^ c.args.depth =
    omega (arith, c.requires.few, length-parts count bytes) in
    let long : length bytes ≡ length c.args.parts.now * c.args.size =
    length-concat c.args.size (encodings_of t c.args.parts.now)
    (encodings_sized t c.args.size c.args.parts.now sized fit)
    ∙ ap (λ n. n * c.args.size)
    (length-map c.args.parts.now (λ (v : Value). serialize t (value_of v))) in
    Makes-same _ _ _ _ _ (ap (λ n. whole_of c.args.depth (map chunk_part (chunks ((n + 31) / 32)
    bytes))) (sym long))
    (First-done c.args.arena.now c.loop-i.arena _ _ _ _ _ _
    (c.loop-i.invariant.first t sized fit) last c.finish.ensures.part c.finish.ensures.adds)
