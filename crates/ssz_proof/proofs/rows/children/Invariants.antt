use Rattle.std.proofs.Common.{◌≡◌, ◌*◌, take, length}
use Rattle.ssz_proof.specs.Rows.{children}
use Rattle.ssz_proof.proofs.rows.children.Given as goal

abbrev pub invariant-indices : goal.invariant-indices
invariant-indices l = record {
  long : length l.found ≡ 16;
  value : take (2 * l.i) l.found ≡ children (take l.i l.indices);
}
