use Rattle.std.proofs.Common.{sym, subst}
use Rattle.ssz_schema.specs.Unfolding.{type_of}
use Rattle.ssz_arena.specs.Content.{tree_of}
use Rattle.ssz_places.specs.Spots.{CanHold, LiesWithin}
use Rattle.ssz_tree.specs.Added.{IsPartNode}
use Rattle.ssz_walk.specs.Found.{spot_of}
use Rattle.ssz_edit.specs.Edited.{part_without}
use Rattle.ssz_tree.proofs.Adding.{Makes-none}
use Rattle.ssz_edit.proofs.Parting.{byte_emptied, bit_emptied}
use Rattle.ssz_edit.proofs.parts.emptied_node.Goals as goal

pub returns-in-Whole-clause-part : goal.returns-in-Whole-clause-part
returns-in-Whole-clause-part g c =
    let u = type_of c.args.schema.now c.args.id in
    let tree = tree_of c.args.arena.now c.args.old in
    let none = (Makes-none c.args.arena.now c.zero.result c.zero.ensures.node
    c.zero.ensures.tree c.zero.ensures.todo).is in
    subst (λ s. CanHold (spot_of s) tree
    → IsPartNode c.args.arena.now (part_without (spot_of s) u tree) c.zero.result)
    (sym c.in-Whole.is) (λ holds. record { node = none.node; tree = none.tree; todo = none.todo })

pub returns-in-Byte-clause-part : goal.returns-in-Byte-clause-part
returns-in-Byte-clause-part g c =
    let u = type_of c.args.schema.now c.args.id in
    let tree = tree_of c.args.arena.now c.args.old in
    subst (λ s. CanHold (spot_of s) tree
    → IsPartNode c.byte_part.new.arena (part_without (spot_of s) u tree) c.byte_part.result)
    (sym c.in-Byte.is) (λ holds. byte_emptied c.byte_part.new.arena u c.in-Byte.at tree
    c.byte_part.result c.byte_part.ensures.node c.byte_part.ensures.due
    (subst (λ s. LiesWithin u (spot_of s)) c.in-Byte.is c.requires.lies) holds
    c.byte_part.ensures.tree)

pub returns-in-Bit-clause-part : goal.returns-in-Bit-clause-part
returns-in-Bit-clause-part g c =
    let u = type_of c.args.schema.now c.args.id in
    let tree = tree_of c.args.arena.now c.args.old in
    subst (λ s. CanHold (spot_of s) tree
    → IsPartNode c.bit_part.new.arena (part_without (spot_of s) u tree) c.bit_part.result)
    (sym c.in-Bit.is) (λ holds. bit_emptied c.bit_part.new.arena u c.in-Bit.at tree
    c.bit_part.result c.bit_part.ensures.node c.bit_part.ensures.due holds
    c.bit_part.ensures.tree)
