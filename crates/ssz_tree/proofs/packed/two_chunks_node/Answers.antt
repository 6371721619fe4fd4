use Rattle.std.proofs.Common.{map, sym, ap, ◌∷◌, [], List, ℕ, ◌∙◌, arith}
use Rattle.std.proofs.lemmas.List.{take_rest}
use Rattle.ssz_value.specs.Trees.{padded}
use Rattle.ssz_making.specs.Parts.{whole_of, chunk_part}
use Rattle.ssz_tree.proofs.Adding.{makes_pair, Makes-same}
use Rattle.ssz_tree.proofs.Two.{Makes-two, two-chunks}
use Rattle.ssz_tree.proofs.packed.two_chunks_node.Goals as goal

pub front_node-right-requires : goal.front_node-right-requires
front_node-right-requires g c = omega (arith, c.requires.room, c.front_node-left.ensures.adds.spare)

pub pair-requires-clause-room : goal.pair-requires-clause-room
pair-requires-clause-room g c = omega (
  arith,
  c.requires.room,
  c.front_node-left.ensures.adds.spare,
  c.front_node-right.ensures.adds.spare,
)

pub pair-requires-clause-left : goal.pair-requires-clause-left
pair-requires-clause-left g c =
    omega (arith, c.front_node-left.ensures.is.node, c.front_node-right.ensures.adds.keeps.count)

pub returns : goal.returns
returns g c =
    let p = c.pair.ensures in
    let chunks = ap (λ (cs : List (List ℕ)). whole_of 1 (map chunk_part cs))
    (ap (λ (b : List ℕ). padded c.args.bytes.now ∷ padded b ∷ []) (take_rest c.args.bytes.now 32)
    ∙ sym (two-chunks c.args.bytes.now c.requires.two)) in
    Makes-same _ _ _ _ _ chunks
    (Makes-two _ _ _ _ _ _ _ _ _ c.front_node-left.ensures c.front_node-right.ensures
    (makes_pair _ _ _ _ _ p.node p.tree p.todo p.keeps p.same p.unhashed p.count p.spare))
