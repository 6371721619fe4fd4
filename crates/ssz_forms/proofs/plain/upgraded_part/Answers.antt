use Rattle.std.proofs.Common.{subst}
use Rattle.ssz_schema.specs.Unfolding.{type_of}
use Rattle.ssz_forms.specs.Taking.{IsFieldTaken}
use Rattle.ssz_forms.proofs.Upgrading.{copy_is, default_is}
use Rattle.ssz_forms.proofs.plain.upgraded_part.Goals as goal

pub returns-in-Some-clause-is : goal.returns-in-Some-clause-is
returns-in-Some-clause-is c =
    let t = type_of c.args.schema.now c.args.id in
    copy_is c.args.parts.now t c.in-Some.number c.index-parts-number.result
    (subst (IsFieldTaken c.args.parts.now t) c.in-Some.is c.requires.taken) c.index-parts-number.is
    c.copy.result c.copy.ensures

pub returns-in-None-clause-is : goal.returns-in-None-clause-is
returns-in-None-clause-is c =
    default_is c.args.schema.now (type_of c.args.schema.now c.args.id) c.ty-legal.ensures.legal
    c.default_of.result c.default_of.ensures
