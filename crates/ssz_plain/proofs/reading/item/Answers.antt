use Rattle.std.proofs.Common.{sym, ◌∙◌, ap, refl, subst, Some, ◌<◌, length, get_or}
use Rattle.std.proofs.lemmas.Option.{slice_get-get_or}
use Rattle.ssz_value.specs.Values.{number, truth, bits}
use Rattle.ssz_value.specs.Standing.{value_of, IsValue}
use Rattle.ssz_value.proofs.ValueLemmas.{seq_is, bytes_are, bits_are}
use Rattle.ssz_plain.proofs.Alike.{alike, item_alike}
use Rattle.ssz_plain.proofs.Steps.{part_of_seq}
use Rattle.ssz_plain.proofs.Parting.{part_there, part_past}
use Rattle.ssz_plain.proofs.reading.item.Goals as goal

pub returns-in-Some-clause-exact : goal.returns-in-Some-clause-exact
returns-in-Some-clause-exact c =
    part_there value_of (alike value_of) c.args.i c.in-Seq.parts.items c.deref.result.now
    c.in-Some.part.now (value_of c.args.value.now)
    (ap value_of c.in-Seq.is ∙ seq_is c.in-Seq.parts)
    (item_alike value_of c.in-Seq.parts.items c.args.i) c.deref.ensures.value
    c.in-Some.ensures.lookup.3.0 c.in-Some.ensures.lookup.1

pub returns-in-None-clause-exact : goal.returns-in-None-clause-exact
returns-in-None-clause-exact c =
    part_past value_of (alike value_of) c.args.i c.in-Seq.parts.items c.deref.result.now
    (value_of c.args.value.now) (ap value_of c.in-Seq.is ∙ seq_is c.in-Seq.parts)
    (item_alike value_of c.in-Seq.parts.items c.args.i) c.deref.ensures.value
    c.in-None.ensures.lookup.3

pub returns-in-Some-clause-fits : goal.returns-in-Some-clause-fits
returns-in-Some-clause-fits c = λ t u step typed at value.
    (let found = slice_get-get_or c.in-Seq.parts.items c.args.i c.in-Some.part.now
    (subst (λ xs. c.args.i < length xs) c.deref.ensures.value c.in-Some.ensures.lookup.3.0)
    ∙ ap (λ v. Some v) (sym (c.in-Some.ensures.lookup.1
    ∙ ap (λ xs. get_or xs c.args.i c.in-Some.part.now) c.deref.ensures.value)) in
    let of = part_of_seq t u step c.args.i c.in-Seq.parts typed at
    (subst (IsValue t) c.in-Seq.is value) in
    of.there c.in-Some.part.now found)

pub returns-in-Some-get-clause-exact : goal.returns-in-Some-get-clause-exact
returns-in-Some-get-clause-exact c =
    ap (λ n. Some (number n)) c.from.ensures
    ∙ part_there number (alike number) c.args.i c.in-Bytes.run' c.as_slice.result.now
    c.in-Some-get.byte.now (value_of c.args.value.now)
    (ap value_of c.in-Bytes.is ∙ bytes_are c.in-Bytes.run')
    (item_alike number c.in-Bytes.run' c.args.i) c.as_slice.ensures.value
    c.in-Some-get.ensures.lookup.3.0 c.in-Some-get.ensures.lookup.1

pub returns-in-None-get-clause-exact : goal.returns-in-None-get-clause-exact
returns-in-None-get-clause-exact c =
    part_past number (alike number) c.args.i c.in-Bytes.run' c.as_slice.result.now
    (value_of c.args.value.now) (ap value_of c.in-Bytes.is ∙ bytes_are c.in-Bytes.run')
    (item_alike number c.in-Bytes.run' c.args.i) c.as_slice.ensures.value
    c.in-None-get.ensures.lookup.3

pub returns-in-Some-get-2-clause-exact : goal.returns-in-Some-get-2-clause-exact
returns-in-Some-get-2-clause-exact c =
    part_there truth bits c.args.i c.in-Bits.run' c.as_slice-in-Bits.result.now
    c.in-Some-get-2.bit.now (value_of c.args.value.now)
    (ap value_of c.in-Bits.is ∙ bits_are c.in-Bits.run') refl c.as_slice-in-Bits.ensures
    c.in-Some-get-2.ensures.lookup.3.0 c.in-Some-get-2.ensures.lookup.1

pub returns-in-None-get-2-clause-exact : goal.returns-in-None-get-2-clause-exact
returns-in-None-get-2-clause-exact c =
    part_past truth bits c.args.i c.in-Bits.run' c.as_slice-in-Bits.result.now
    (value_of c.args.value.now) (ap value_of c.in-Bits.is ∙ bits_are c.in-Bits.run') refl
    c.as_slice-in-Bits.ensures c.in-None-get-2.ensures.lookup.3
