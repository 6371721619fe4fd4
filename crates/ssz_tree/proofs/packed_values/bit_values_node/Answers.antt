use Rattle.std.proofs.Common.{◌≡◌, ◌∙◌, ℕ, ◌<◌, refl, ◌+◌, ◌*◌, ◌/◌, List, length, map, ap, arith}
use Rattle.ssz_value.specs.Trees.{chunks}
use Rattle.ssz_packing.proofs.BitValues.{bytes_of_bits, bits_chunk_is, pack_bits-chunks}
use Rattle.ssz_making.specs.Parts.{whole_of, chunk_part}
use Rattle.ssz_tree.proofs.Adding.{Makes-same}
use Rattle.ssz_making.proofs.Chunks.{chunk-at, length-parts}
use Rattle.ssz_tree.proofs.Chunks.{chunks-room}
use Rattle.ssz_tree.proofs.Gathering.{First-start, First-room, First-push, First-pushed, First-more, First-finish, First-done}
use Rattle.ssz_tree.proofs.packed_values.bit_values_node.Goals as goal

pub loop-i-init : goal.loop-i-init
loop-i-init g c = First-start _ _ _ _ c.new-leaves.ensures.depth c.new-leaves.ensures.holds

pub leaf_node-leaf-requires : goal.leaf_node-leaf-requires
leaf_node-leaf-requires g c =
    let count : ℕ = (length c.args.bits.now + 255) / 256 in
    let room = chunks-room c.args.arena.now c.args.depth count (bytes_of_bits c.args.bits.now)
    c.requires.few
    c.requires.room in
    let at = chunk-at count c.loop-i.i (bytes_of_bits c.args.bits.now) c.bits_chunk.result.0
    c.loop-i-test.true
    (c.bits_chunk.ensures ∙ bits_chunk_is c.args.bits.now c.loop-i.i (let within : 256 * c.loop-i.i
    < length c.args.bits.now = omega arith in within)) in
    omega (arith, First-room _ _ _ _ _ _ _ c.loop-i.invariant at room)

pub push-requires-clause-room : goal.push-requires-clause-room
push-requires-clause-room g c =
    let count : ℕ = (length c.args.bits.now + 255) / 256 in
    let room = chunks-room c.args.arena.now c.args.depth count (bytes_of_bits c.args.bits.now)
    c.requires.few
    c.requires.room in
    let at = chunk-at count c.loop-i.i (bytes_of_bits c.args.bits.now) c.bits_chunk.result.0
    c.loop-i-test.true
    (c.bits_chunk.ensures ∙ bits_chunk_is c.args.bits.now c.loop-i.i (let within : 256 * c.loop-i.i
    < length c.args.bits.now = omega arith in within)) in
    let made = c.leaf_node-leaf.ensures in
    (First-push _ _ _ _ _ _ _ _ _ c.loop-i.invariant at room made).room

pub push-requires-clause-counted : goal.push-requires-clause-counted
push-requires-clause-counted g c =
    omega (arith, First-pushed _ _ _ _ _ _ c.loop-i.invariant, c.loop-i-test.true)

pub loop-i-preserved : goal.loop-i-preserved
loop-i-preserved g c =
    let count : ℕ = (length c.args.bits.now + 255) / 256 in
    let at = chunk-at count c.loop-i.i (bytes_of_bits c.args.bits.now) c.bits_chunk.result.0
    c.loop-i-test.true
    (c.bits_chunk.ensures ∙ bits_chunk_is c.args.bits.now c.loop-i.i (let within : 256 * c.loop-i.i
    < length c.args.bits.now = omega arith in within)) in
    let made = c.leaf_node-leaf.ensures in
    First-more _ _ _ _ _ _ _ _ _ _ _ c.loop-i.invariant at made c.push.ensures.depth
    c.push.ensures.holds c.push.ensures.adds

pub finish-requires-clause-room : goal.finish-requires-clause-room
finish-requires-clause-room g c =
    let count : ℕ = (length c.args.bits.now + 255) / 256 in
    let room = chunks-room c.args.arena.now c.args.depth count (bytes_of_bits c.args.bits.now)
    c.requires.few
    c.requires.room in
    let last : c.loop-i.i ≡ length (map chunk_part (chunks count (bytes_of_bits c.args.bits.now))) =
    omega (arith, length-parts count (bytes_of_bits c.args.bits.now)) in
    (First-finish c.args.arena.now c.loop-i.arena _ _ _ _ c.loop-i.invariant last room).room

pub returns : goal.returns
returns g c =
    let count : ℕ = (length c.args.bits.now + 255) / 256 in
    let room = chunks-room c.args.arena.now c.args.depth count (bytes_of_bits c.args.bits.now)
    c.requires.few
    c.requires.room in
    let last : c.loop-i.i ≡ length (map chunk_part (chunks count (bytes_of_bits c.args.bits.now))) =
    omega (arith, length-parts count (bytes_of_bits c.args.bits.now)) in
    Makes-same _ _ _ _ _ (ap (λ (cs : List (List ℕ)). whole_of c.args.depth (map chunk_part cs))
    (pack_bits-chunks c.args.bits.now count refl))
    (First-done c.args.arena.now c.loop-i.arena _ _ _ _ _ _ c.loop-i.invariant last
    c.finish.ensures.part c.finish.ensures.adds)
