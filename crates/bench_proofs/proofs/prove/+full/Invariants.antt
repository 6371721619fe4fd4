use Rattle.bench_proofs.proofs.prove.+full.Given as goal

abbrev pub decreases-full : goal.decreases-full
decreases-full g l = l.depth
