use Rattle.std.proofs.Common.{◌∙◌, is_some, ap}
use Rattle.ssz_chunk.specs.Index.{levels}
use Rattle.ssz_value.specs.Trees.{number_chunk}
use Rattle.ssz_tree.proofs.Adding.{Adds-leaf, Adds-pair}
use Rattle.ssz_edit.proofs.Growing.{no_place, grown_made, adds_list}
use Rattle.ssz_edit.proofs.lists.put_list.Goals as goal

pub returns-in-Some-replace-clause-grown : goal.returns-in-Some-replace-clause-grown
returns-in-Some-replace-clause-grown g c part is =
    grown_made c.args.arena.now c.args.node c.args.list.now c.args.below c.requires.list
    c.in-Pair.content c.in-Pair.field-1 c.in-Pair.ensures c.replace.new.self c.leaf-len.new.self
    c.pair-pair.new.self c.args.element c.in-Some.grown c.leaf-len.result c.pair-pair.result
    c.args.count c.number_chunk.result.0 c.replace.ensures.keeps c.replace.ensures.same
    c.leaf-len.ensures.keeps c.leaf-len.ensures.same c.pair-pair.ensures.keeps
    c.pair-pair.ensures.same c.replace-2.new.self c.in-Some-replace.made part is
    c.in-Some.ensures.node c.in-Some.ensures.tree c.in-Some.ensures.todo c.leaf-len.ensures.tree
    c.leaf-len.ensures.todo (c.number_chunk.ensures ∙ ap number_chunk c.from.ensures)
    c.pair-pair.ensures.tree c.pair-pair.ensures.todo c.in-Some-replace.ensures.node
    c.in-Some-replace.ensures.tree c.in-Some-replace.ensures.saves

pub returns-in-Some-replace-clause-adds : goal.returns-in-Some-replace-clause-adds
returns-in-Some-replace-clause-adds g c =
    adds_list c.args.arena.now c.replace.new.self c.leaf-len.new.self c.pair-pair.new.self
    c.replace-2.new.self (levels c.args.below) (levels c.args.list.now.index)
    (record {
      keeps = c.replace.ensures.keeps;
      same = c.replace.ensures.same;
      count = c.replace.ensures.count;
      unhashed = c.replace.ensures.unhashed;
      spare = c.replace.ensures.spare;
      room = λ _. c.replace.ensures.room;
    })
    (Adds-leaf c.replace.new.self c.leaf-len.new.self c.leaf-len.ensures.keeps
    c.leaf-len.ensures.same c.leaf-len.ensures.unhashed c.leaf-len.ensures.count
    c.leaf-len.ensures.spare)
    (Adds-pair c.leaf-len.new.self c.pair-pair.new.self c.pair-pair.ensures.keeps
    c.pair-pair.ensures.same c.pair-pair.ensures.unhashed c.pair-pair.ensures.count
    c.pair-pair.ensures.spare)
    (record {
      keeps = c.replace-2.ensures.keeps;
      same = c.replace-2.ensures.same;
      count = c.replace-2.ensures.count;
      unhashed = c.replace-2.ensures.unhashed;
      spare = c.replace-2.ensures.spare;
      room = λ _. c.replace-2.ensures.room;
    })

pub returns-in-None-clause-grown : goal.returns-in-None-clause-grown
returns-in-None-clause-grown g c part is =
    no_place c.args.arena.now c.args.node c.args.list.now c.args.below c.requires.list
    c.in-Pair.content c.in-Pair.field-1 c.in-Pair.ensures c.replace.new.self c.leaf-len.new.self
    c.pair-pair.new.self c.args.element c.in-Some.grown c.leaf-len.result c.pair-pair.result
    c.args.count c.number_chunk.result.0 c.replace.ensures.keeps c.replace.ensures.same
    c.leaf-len.ensures.keeps c.leaf-len.ensures.same c.pair-pair.ensures.keeps
    c.pair-pair.ensures.same (c.replace-2.ensures.none.0 (ap is_some c.in-None.is))

pub returns-in-None-clause-adds : goal.returns-in-None-clause-adds
returns-in-None-clause-adds g c =
    no_place c.args.arena.now c.args.node c.args.list.now c.args.below c.requires.list
    c.in-Pair.content c.in-Pair.field-1 c.in-Pair.ensures c.replace.new.self c.leaf-len.new.self
    c.pair-pair.new.self c.args.element c.in-Some.grown c.leaf-len.result c.pair-pair.result
    c.args.count c.number_chunk.result.0 c.replace.ensures.keeps c.replace.ensures.same
    c.leaf-len.ensures.keeps c.leaf-len.ensures.same c.pair-pair.ensures.keeps
    c.pair-pair.ensures.same (c.replace-2.ensures.none.0 (ap is_some c.in-None.is))
