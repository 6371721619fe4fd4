use Rattle.std.proofs.Common.{◌≡◌, ◌+◌, ◌/◌, ◌^◌, ◌≤◌, ◌∷◌, [], List, ℕ, zero, suc, length, map, sym, ap, ◌∙◌, arith}
use Rattle.ssz_value.specs.Trees.{chunks}
use Rattle.ssz_chunk.specs.Tree.{merkle_pairs}
use Rattle.ssz_merkle.specs.Packing.{packed_chunk}
use Rattle.ssz_making.specs.Parts.{MadePart, whole_of, chunk_part}
use Rattle.ssz_making.proofs.Chunks.{length-parts, nodes-of_chunks}
use Rattle.ssz_tree.proofs.Adding.{Makes-same}
use Rattle.ssz_tree.proofs.Two.{Makes-beside, Makes-one, one-each, one-pair, two-each}
use Rattle.ssz_tree.proofs.packed.packed_node.Goals as goal

pub front_node-leaf-requires : goal.front_node-leaf-requires
front_node-leaf-requires g c = omega (arith, c.requires.room, c.if-chunks-eq1.true)

pub beside_zeros-requires-clause-room : goal.beside_zeros-requires-clause-room
beside_zeros-requires-clause-room g c =
    let one : (length c.args.bytes.now + 31) / 32 ≡ 1 = c.if-chunks-eq1.true in
    omega (
      arith,
      c.requires.room,
      one,
      ap (merkle_pairs c.args.depth) one,
      one-each c.args.depth,
      c.front_node-leaf.ensures.adds.spare,
    )

pub returns-then-chunks-eq1 : goal.returns-then-chunks-eq1
returns-then-chunks-eq1 g c =
    let one : (length c.args.bytes.now + 31) / 32 ≡ 1 = c.if-chunks-eq1.true in
    let parts : List MadePart = chunk_part (packed_chunk c.args.bytes.now 0) ∷ [] in
    let whole : whole_of c.args.depth (chunk_part (packed_chunk c.args.bytes.now 0) ∷ [])
    ≡ whole_of c.args.depth (map chunk_part (chunks ((length c.args.bytes.now + 31) / 32)
    c.args.bytes.now)) =
    sym (ap (λ n. whole_of c.args.depth (map chunk_part (chunks n c.args.bytes.now))) one) in
    let made = Makes-one _ _ (chunk_part (packed_chunk c.args.bytes.now 0)) _
    c.front_node-leaf.ensures in
    Makes-same _ _ _ _ _ whole
    (Makes-beside _ _ _ (chunk_part (packed_chunk c.args.bytes.now 0) ∷ []) 0 c.args.depth _ _ made
    (omega (arith, one-each c.args.depth, one-each 0))
    (c.beside_zeros.ensures.part (chunk_part (packed_chunk c.args.bytes.now 0) ∷ [])
    (omega arith) (omega arith) made.is)
    c.beside_zeros.ensures.adds)

-- a tree of two chunks has a level
deep : (depth : ℕ) → 2 ≤ 2 ^ depth → 1 ≤ depth
deep zero few = absurd (omega arith)
deep (suc depth) few = omega arith

pub two_chunks_node-both-requires-clause-room : goal.two_chunks_node-both-requires-clause-room
two_chunks_node-both-requires-clause-room g c =
    let two : (length c.args.bytes.now + 31) / 32 ≡ 2 = c.if-chunks-eq2.true in
    let level : 1 ≤ c.args.depth = deep c.args.depth (omega (arith, c.requires.few, two)) in
    omega (
      arith,
      c.requires.room,
      two,
      level,
      ap (merkle_pairs c.args.depth) two,
      two-each c.args.depth level,
    )

pub beside_zeros-requires-then-chunks-eq2-clause-up :
    goal.beside_zeros-requires-then-chunks-eq2-clause-up
beside_zeros-requires-then-chunks-eq2-clause-up g c =
    let two : (length c.args.bytes.now + 31) / 32 ≡ 2 = c.if-chunks-eq2.true in
    deep c.args.depth (omega (arith, c.requires.few, two))

pub beside_zeros-requires-then-chunks-eq2-clause-room :
    goal.beside_zeros-requires-then-chunks-eq2-clause-room
beside_zeros-requires-then-chunks-eq2-clause-room g c =
    let two : (length c.args.bytes.now + 31) / 32 ≡ 2 = c.if-chunks-eq2.true in
    let level : 1 ≤ c.args.depth = deep c.args.depth (omega (arith, c.requires.few, two)) in
    let nodes : (whole_of 1 (map chunk_part (chunks ((length c.args.bytes.now + 31) / 32)
    c.args.bytes.now))).nodes ≡ 3 =
    nodes-of_chunks 1 ((length c.args.bytes.now + 31) / 32) c.args.bytes.now
    ∙ omega (arith, two, ap (merkle_pairs 1) two, one-pair) in
    omega (
      arith,
      c.requires.room,
      two,
      level,
      ap (merkle_pairs c.args.depth) two,
      two-each c.args.depth level,
      nodes,
      c.two_chunks_node-both.ensures.adds.spare,
    )

pub returns-then-chunks-eq2 : goal.returns-then-chunks-eq2
returns-then-chunks-eq2 g c =
    let two : (length c.args.bytes.now + 31) / 32 ≡ 2 = c.if-chunks-eq2.true in
    let level : 1 ≤ c.args.depth = deep c.args.depth (omega (arith, c.requires.few, two)) in
    let parts : List MadePart = map chunk_part (chunks ((length c.args.bytes.now + 31) / 32)
    c.args.bytes.now) in
    let many : length (map chunk_part (chunks ((length c.args.bytes.now + 31) / 32)
    c.args.bytes.now)) ≡ 2 =
    length-parts ((length c.args.bytes.now + 31) / 32) c.args.bytes.now ∙ two in
    Makes-beside _ _ _ (map chunk_part (chunks ((length c.args.bytes.now + 31) / 32)
    c.args.bytes.now)) 1 c.args.depth _ _ c.two_chunks_node-both.ensures
    (omega (
      arith,
      level,
      ap (merkle_pairs c.args.depth) many,
      two-each c.args.depth level,
      ap (merkle_pairs 1) many,
      one-pair,
    ))
    (c.beside_zeros-then-chunks-eq2.ensures.part (map chunk_part
    (chunks ((length c.args.bytes.now + 31) / 32) c.args.bytes.now))
    (omega (arith, many)) (omega (arith, many)) c.two_chunks_node-both.ensures.is)
    c.beside_zeros-then-chunks-eq2.ensures.adds
