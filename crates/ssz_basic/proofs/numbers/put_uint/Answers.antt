use Rattle.std.proofs.Common.{◌≡◌, ◌∙◌, ◌<◌, ◌^◌, ap, sym, arith}
use Rattle.ssz_schema.specs.Sizes.{byte_count}
use Rattle.ssz_bytes.specs.Bytes.{le_bytes}
use Rattle.ssz_basic.proofs.Endians.{fills, one_byte}
use Rattle.ssz_basic.proofs.numbers.put_uint.Goals as goal

pub returns-in-W8 : goal.returns-in-W8
returns-in-W8 c =
    let count : byte_count c.args.width ≡ 1 = ap byte_count c.in-W8.is in
    let small : c.args.number < 256 = omega (arith, c.requires.fits, ap (λ n. 256 ^ n) count) in
    one_byte c.args.bytes.now c.args.number (c.requires.exact ∙ count) small
    ∙ ap (λ n. le_bytes n c.args.number) (sym count)

pub returns-in-W16 : goal.returns-in-W16
returns-in-W16 c =
    let count : byte_count c.args.width ≡ 2 = ap byte_count c.in-W16.is in
    fills 2 c.args.number c.args.bytes.now c.write_u16.new.buf (c.requires.exact
    ∙ count) c.write_u16.ensures ∙ ap (λ n. le_bytes n c.args.number) (sym count)

pub returns-in-W32 : goal.returns-in-W32
returns-in-W32 c =
    let count : byte_count c.args.width ≡ 4 = ap byte_count c.in-W32.is in
    fills 4 c.args.number c.args.bytes.now c.write_u32.new.buf (c.requires.exact
    ∙ count) c.write_u32.ensures ∙ ap (λ n. le_bytes n c.args.number) (sym count)

pub returns-in-W64 : goal.returns-in-W64
returns-in-W64 c =
    let count : byte_count c.args.width ≡ 8 = ap byte_count c.in-W64.is in
    fills 8 c.args.number c.args.bytes.now c.write_u64.new.buf (c.requires.exact
    ∙ count) c.write_u64.ensures ∙ ap (λ n. le_bytes n c.args.number) (sym count)

pub returns-in-W128 : goal.returns-in-W128
returns-in-W128 c =
    let count : byte_count c.args.width ≡ 16 = ap byte_count c.in-W128.is in
    fills 16 c.args.number c.args.bytes.now c.write_u128.new.buf (c.requires.exact
    ∙ count) c.write_u128.ensures ∙ ap (λ n. le_bytes n c.args.number) (sym count)
