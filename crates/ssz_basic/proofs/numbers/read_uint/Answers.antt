use Rattle.std.proofs.Common.{◌∙◌, ap}
use Rattle.ssz_schema.specs.Sizes.{byte_count}
use Rattle.ssz_basic.proofs.Endians.{little_number_is, one_number}
use Rattle.ssz_basic.proofs.numbers.read_uint.Goals as goal

pub returns-in-W8 : goal.returns-in-W8
returns-in-W8 c = c.from.ensures
    ∙ one_number c.args.bytes.now (c.requires.exact ∙ ap byte_count c.in-W8.is)

pub returns-in-W16 : goal.returns-in-W16
returns-in-W16 c = c.from-in-W16.ensures ∙ c.read_u16.ensures
    ∙ little_number_is 2 c.args.bytes.now (c.requires.exact ∙ ap byte_count c.in-W16.is)

pub returns-in-W32 : goal.returns-in-W32
returns-in-W32 c = c.from-in-W32.ensures ∙ c.read_u32.ensures
    ∙ little_number_is 4 c.args.bytes.now (c.requires.exact ∙ ap byte_count c.in-W32.is)

pub returns-in-W64 : goal.returns-in-W64
returns-in-W64 c = c.from-in-W64.ensures ∙ c.read_u64.ensures
    ∙ little_number_is 8 c.args.bytes.now (c.requires.exact ∙ ap byte_count c.in-W64.is)

pub returns-in-W128 : goal.returns-in-W128
returns-in-W128 c = c.read_u128.ensures
    ∙ little_number_is 16 c.args.bytes.now (c.requires.exact ∙ ap byte_count c.in-W128.is)
