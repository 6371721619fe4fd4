use Rattle.std.proofs.Common.{ap, arith}
use Rattle.std.proofs.lemmas.Result.{on_ok_weaker}
use Rattle.ssz_making.specs.Parts.{MadePart}
use Rattle.ssz_edit.specs.Given.{option_value}
use Rattle.ssz_edit.proofs.ChoiceLanding.{no_option_part, no_value_part, given_of_option, given_part}
use Rattle.ssz_edit.proofs.room.reserve_option.Goals as goal

pub returns-in_default-clause-ok : goal.returns-in_default-clause-ok
returns-in_default-clause-ok g c =
    let none = ap (λ (part : MadePart). part.cost)
    (no_option_part c.args.schema.now c.args.option
    (option_value c.args.schema.now c.args.option c.args.inner.now) c.in_default.is) in
    on_ok_weaker c.reserve.result (λ room. omega (arith, room, none)) c.reserve.ensures.ok

pub returns-in_default-clause-stays : goal.returns-in_default-clause-stays
returns-in_default-clause-stays g c enough =
    let none = ap (λ (part : MadePart). part.cost)
    (no_option_part c.args.schema.now c.args.option
    (option_value c.args.schema.now c.args.option c.args.inner.now) c.in_default.is) in
    c.reserve.ensures.stays (omega (arith, enough, none))

pub returns-in_default-clause-most : goal.returns-in_default-clause-most
returns-in_default-clause-most g c =
    let none = ap (λ (part : MadePart). part.cost)
    (no_option_part c.args.schema.now c.args.option
    (option_value c.args.schema.now c.args.option c.args.inner.now) c.in_default.is) in
    omega (arith, c.reserve.ensures.most, none)

pub returns-in_default-inner-clause-ok : goal.returns-in_default-inner-clause-ok
returns-in_default-inner-clause-ok g c =
    let none = ap (λ (part : MadePart). part.cost)
    (no_value_part c.args.schema.now c.args.option c.args.inner.now c.in_default-inner.is) in
    on_ok_weaker c.reserve-in_default-inner.result (λ room. omega (arith, room, none))
    c.reserve-in_default-inner.ensures.ok

pub returns-in_default-inner-clause-stays : goal.returns-in_default-inner-clause-stays
returns-in_default-inner-clause-stays g c enough =
    let none = ap (λ (part : MadePart). part.cost)
    (no_value_part c.args.schema.now c.args.option c.args.inner.now c.in_default-inner.is) in
    c.reserve-in_default-inner.ensures.stays (omega (arith, enough, none))

pub returns-in_default-inner-clause-most : goal.returns-in_default-inner-clause-most
returns-in_default-inner-clause-most g c =
    let none = ap (λ (part : MadePart). part.cost)
    (no_value_part c.args.schema.now c.args.option c.args.inner.now c.in_default-inner.is) in
    omega (arith, c.reserve-in_default-inner.ensures.most, none)

pub reserve_for-requires-clause-given : goal.reserve_for-requires-clause-given
reserve_for-requires-clause-given g c =
    given_of_option c.args.schema.now c.args.option c.args.inner.now c.in-Some.id
    c.in-Some-inner.given c.in-Some.is c.in-Some-inner.is c.requires.inner

pub returns-clause-ok : goal.returns-clause-ok
returns-clause-ok g c =
    let same = ap (λ (part : MadePart). part.cost)
    (given_part c.args.schema.now c.args.option c.args.inner.now c.in-Some.id
    c.in-Some-inner.given c.in-Some.is c.in-Some-inner.is) in
    on_ok_weaker c.reserve_for.result (λ room. omega (arith, room, same)) c.reserve_for.ensures.ok

pub returns-clause-stays : goal.returns-clause-stays
returns-clause-stays g c enough =
    let same = ap (λ (part : MadePart). part.cost)
    (given_part c.args.schema.now c.args.option c.args.inner.now c.in-Some.id
    c.in-Some-inner.given c.in-Some.is c.in-Some-inner.is) in
    c.reserve_for.ensures.stays (omega (arith, enough, same))

pub returns-clause-most : goal.returns-clause-most
returns-clause-most g c =
    let same = ap (λ (part : MadePart). part.cost)
    (given_part c.args.schema.now c.args.option c.args.inner.now c.in-Some.id
    c.in-Some-inner.given c.in-Some.is c.in-Some-inner.is) in
    omega (arith, c.reserve_for.ensures.most, same)
