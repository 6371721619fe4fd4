use Rattle.std.proofs.Common.{sym, ap, subst, ◌∙◌, arith}
use Rattle.ssz_schema.specs.Unfolding.{type_of}
use Rattle.ssz_arena.specs.Content.{tree_of}
use Rattle.ssz_places.specs.Spots.{CanHold, LiesWithin}
use Rattle.ssz_tree.specs.Added.{IsPartNode}
use Rattle.ssz_tree.proofs.Adding.{Adds-within}
use Rattle.ssz_tree.proofs.FewNodes.{few_nodes}
use Rattle.ssz_walk.specs.Found.{spot_of}
use Rattle.ssz_edit.specs.Edited.{edited_part}
use Rattle.ssz_edit.specs.Given.{given_value, IsGiven}
use Rattle.ssz_edit.proofs.Parting.{byte_made, bit_made}
use Rattle.ssz_edit.proofs.parts.part_node.Goals as goal

pub given_node-requires-clause-room : goal.given_node-requires-clause-room
given_node-requires-clause-room g c =
    let u = type_of c.args.schema.now c.args.id in
    omega (arith, c.requires.room, few_nodes u (given_value u c.args.given.now) c.fitting.ensures)

pub returns-in-Whole-clause-adds : goal.returns-in-Whole-clause-adds
returns-in-Whole-clause-adds g c =
    let u = type_of c.args.schema.now c.args.id in
    Adds-within _ _ _ _ c.args.arena.now c.given_node.new.arena c.given_node.ensures.adds
    (few_nodes u (given_value u c.args.given.now) c.fitting.ensures) (omega arith)

pub returns-in-Byte-clause-part : goal.returns-in-Byte-clause-part
returns-in-Byte-clause-part g c =
    let u = type_of c.args.schema.now c.args.id in
    let x = given_value u c.args.given.now in
    let tree = tree_of c.args.arena.now c.args.old in
    subst (λ s. CanHold (spot_of s) tree
    → IsPartNode c.byte_part.new.arena (edited_part (spot_of s) u x tree) c.byte_part.result)
    (sym c.in-Byte.is) (λ holds. byte_made c.byte_part.new.arena u c.in-Byte.at tree
    c.byte_part.result c.byte_part.ensures.node c.byte_part.ensures.due x
    c.given_chunk-bytes.result.0
    (subst (λ s. LiesWithin u (spot_of s)) c.in-Byte.is c.requires.lies)
    c.fitting.ensures c.given_chunk-bytes.ensures holds c.byte_part.ensures.tree)

pub given_flag-requires : goal.given_flag-requires
given_flag-requires g c =
    let u = type_of c.args.schema.now c.args.id in
    let lies = subst (λ s. LiesWithin u (spot_of s)) c.in-Bit.is c.requires.lies in
    subst (λ s. IsGiven s c.args.given.now) lies.0 c.requires.given

pub returns-in-Bit-clause-part : goal.returns-in-Bit-clause-part
returns-in-Bit-clause-part g c =
    let u = type_of c.args.schema.now c.args.id in
    let x = given_value u c.args.given.now in
    let tree = tree_of c.args.arena.now c.args.old in
    let lies = subst (λ s. LiesWithin u (spot_of s)) c.in-Bit.is c.requires.lies in
    subst (λ s. CanHold (spot_of s) tree
    → IsPartNode c.bit_part.new.arena (edited_part (spot_of s) u x tree) c.bit_part.result)
    (sym c.in-Bit.is) (λ holds. bit_made c.bit_part.new.arena u c.in-Bit.at tree
    c.bit_part.result c.bit_part.ensures.node c.bit_part.ensures.due x c.given_flag.result
    (ap (λ s. given_value s c.args.given.now) lies.0 ∙ c.given_flag.ensures) holds
    c.bit_part.ensures.tree)
