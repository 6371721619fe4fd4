use Rattle.ssz_roots.proofs.Packing.{Packed}
use Rattle.ssz_roots.proofs.packed.packed_root.Given as goal

abbrev pub invariant-loop-i : goal.invariant-loop-i
invariant-loop-i g l = Packed g.H.PairHash.pair_of l.depth l.bytes l.i l.chunks
    (g.H.PairHash.pairs l.fn.hasher) (g.H.PairHash.pairs l.hasher)
