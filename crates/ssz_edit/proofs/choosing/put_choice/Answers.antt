use Rattle.std.proofs.Common.{◌∙◌, ◌+◌, ◌*◌, ap, subst, arith, ℕ}
use Rattle.ssz_chunk.specs.Index.{levels}
use Rattle.ssz_value.specs.Trees.{number_chunk}
use Rattle.ssz_arena.proofs.Keeping.{keeps_same, keeps_trans}
use Rattle.ssz_tree.specs.Added.{AddsNodes, MakesNode, TakesRoom}
use Rattle.ssz_making.specs.Parts.{joined_leaf}
use Rattle.ssz_tree.proofs.Adding.{Adds-then, Adds-within, Adds-after, Takes-after, makes_leaf, makes_pair}
use Rattle.ssz_edit.specs.Edited.{IsPut}
use Rattle.ssz_edit.specs.Given.{option_part, option_value}
use Rattle.ssz_edit.proofs.Replacing.{adds_nothing, put_made}
use Rattle.ssz_edit.proofs.ChoiceLanding.{choice_made, choose_made, few_in_option}
use Rattle.ssz_edit.proofs.choosing.put_choice.Goals as goal
use Rattle.ssz_edit.proofs.choosing.put_choice.Goals.{After-replace}

pub returns-in_err-reserve_option-clause-adds : goal.returns-in_err-reserve_option-clause-adds
returns-in_err-reserve_option-clause-adds g c =
    adds_nothing _ _ c.args.arena.now c.reserve_option.new.arena c.in_err-reserve_option.ensures.err

pub returns-in_err-reserve_option-clause-room : goal.returns-in_err-reserve_option-clause-room
returns-in_err-reserve_option-clause-room g c =
    omega (arith, c.reserve_option.ensures.most, c.levels-levels.ensures.exact)

-- the union was made
union_made : (g : _) (c : After-replace g)
    → (let option = c.args.choice.now.option in
    MakesNode c.reserve_option.new.arena c.pair-union.new.self
    (joined_leaf (option_part c.args.schema.now option
    (option_value c.args.schema.now option c.args.inner.now))
    (number_chunk c.args.choice.now.selector)) c.pair-union.result)
union_made g c =
    choice_made c.reserve_option.new.arena c.option_node-chosen.new.arena c.leaf-number.new.self
    c.pair-union.new.self _ c.args.choice.now.selector c.number_chunk.result.0
    c.option_node-chosen.result
    c.leaf-number.result c.pair-union.result (c.number_chunk.ensures ∙ ap number_chunk
    c.from.ensures)
    c.option_node-chosen.ensures.makes
    (makes_leaf c.option_node-chosen.new.arena c.leaf-number.new.self c.number_chunk.result.0
    c.leaf-number.result c.leaf-number.ensures.node c.leaf-number.ensures.tree
    c.leaf-number.ensures.todo c.leaf-number.ensures.keeps c.leaf-number.ensures.same
    c.leaf-number.ensures.unhashed c.leaf-number.ensures.count c.leaf-number.ensures.spare)
    (makes_pair c.leaf-number.new.self c.pair-union.new.self c.option_node-chosen.result
    c.leaf-number.result c.pair-union.result c.pair-union.ensures.node c.pair-union.ensures.tree
    c.pair-union.ensures.todo c.pair-union.ensures.keeps c.pair-union.ensures.same
    c.pair-union.ensures.unhashed c.pair-union.ensures.count c.pair-union.ensures.spare)

-- and the pairs above it, in the room that was taken
made : (g : _) (c : After-replace g)
    → (let option = c.args.choice.now.option in
    let part = option_part c.args.schema.now option
    (option_value c.args.schema.now option c.args.inner.now) in
    let more = levels c.args.choice.now.place.index in
    AddsNodes (2 * part.cost + 3 + more) (part.cost + 1 + more) c.reserve_option.new.arena
    c.replace.new.self)
made g c =
    let types = c.args.schema.now in
    let option = c.args.choice.now.option in
    let x = option_value types option c.args.inner.now in
    let more = levels c.args.choice.now.place.index in
    Adds-within _ _ _ _ c.reserve_option.new.arena c.replace.new.self
    (Adds-then _ _ more more c.reserve_option.new.arena c.pair-union.new.self c.replace.new.self
    (union_made g c).adds
    (record {
      keeps = c.replace.ensures.keeps;
      same = c.replace.ensures.same;
      count = c.replace.ensures.count;
      unhashed = c.replace.ensures.unhashed;
      spare = c.replace.ensures.spare;
      room = λ _. c.replace.ensures.room;
    }))
    (omega (arith, few_in_option types option x c.option_fitting.ensures)) (omega arith)

added : (g : _) (c : After-replace g)
    → (let option = c.args.choice.now.option in
    let part = option_part c.args.schema.now option
    (option_value c.args.schema.now option c.args.inner.now) in
    let more = levels c.args.choice.now.place.index in
    AddsNodes (2 * part.cost + 3 + more) (part.cost + 1 + more) c.args.arena.now c.replace.new.self)
added g c =
    Adds-after _ _ c.args.arena.now c.reserve_option.new.arena c.replace.new.self
    c.reserve_option.ensures.nodes c.reserve_option.ensures.more
    (λ enough. c.reserve_option.ensures.stays
    (omega (arith, enough, c.levels-levels.ensures.exact))) (made g c)

taken : (g : _) (c : After-replace g)
    → (let option = c.args.choice.now.option in
    let part = option_part c.args.schema.now option
    (option_value c.args.schema.now option c.args.inner.now) in
    TakesRoom (2 * part.cost + 3 + levels c.args.choice.now.place.index) c.args.arena.now
    c.replace.new.self)
taken g c =
    Takes-after _ _ _ c.args.arena.now c.reserve_option.new.arena c.replace.new.self
    c.reserve_option.ensures.most (omega (arith, c.levels-levels.ensures.exact))
    (omega (arith, c.in_ok-reserve_option.ensures.ok, c.levels-levels.ensures.exact)) (made g c)

pub returns-clause-edits : goal.returns-clause-edits
returns-clause-edits g c id path k v at of =
    let types = c.args.schema.now in
    let old = c.args.arena.now in
    let choice = c.args.choice.now in
    let option = choice.option in
    let x = option_value types option c.args.inner.now in
    let union = union_made g c.before in
    let is_put : IsPut old c.replace.new.self c.args.node choice.place.index
    (joined_leaf (option_part types option x) (number_chunk choice.selector)) c.in-Some.made =
    put_made old c.pair-union.new.self
    (keeps_trans (keeps_same old c.reserve_option.new.arena c.reserve_option.ensures.nodes)
    union.adds.keeps) c.args.node c.requires.choice.top
    choice.place.index _ c.pair-union.result c.in-Some.made union.is
    c.replace.new.self c.in-Some.ensures.node c.in-Some.ensures.tree c.in-Some.ensures.todo in
    choose_made types at.options k option at.option_there types.format old id c.args.node path
    choice.place at.legal at.found at.is x c.option_fitting.ensures v of c.replace.new.self
    c.in-Some.made
    (subst (λ (n : ℕ). IsPut old c.replace.new.self c.args.node choice.place.index
    (joined_leaf (option_part types option x) (number_chunk n)) c.in-Some.made) at.selects is_put)
    (added g c.before) (taken g c.before)

pub returns-clause-room : goal.returns-clause-room
returns-clause-room g c = taken g c.before

pub returns-clause-adds : goal.returns-clause-adds
returns-clause-adds g c = added g c.before
