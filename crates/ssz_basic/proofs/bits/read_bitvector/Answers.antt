use Rattle.std.proofs.Common.{sym, arith}
use Rattle.ssz_basic.proofs.LastByte.{bitvector-padded, bitvector-clean}
use Rattle.ssz_basic.proofs.bits.read_bitvector.Goals as goal

pub returns-then-from-used : goal.returns-then-from-used
returns-then-from-used c =
    sym (bitvector-padded c.args.n c.args.position c.args.bytes.now c.requires.some c.requires.exact
    (λ i. omega (arith, c.type_inv.bytes i)) (omega (arith, c.if-from-used.true, c.from.ensures)))

pub returns : goal.returns
returns c = sym (bitvector-clean c.args.n c.args.position c.args.bytes.now c.requires.some
    c.requires.exact (λ i. omega (arith, c.type_inv.bytes i))
    (omega (arith, c.if-from-used.false, c.from.ensures)))
