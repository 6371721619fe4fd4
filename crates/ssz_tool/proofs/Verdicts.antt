-- Tasks that do the same.
use Rattle.std.proofs.Common.{◌≡◌, ℕ, ◌*◌, List, refl, sym, ap, Result, Ok, Err}
use Rattle.std.specs.Prelude.{IfOk}
use Rattle.ssz_clash.proofs.Given.{compared-given}
use Rattle.ssz_proof.specs.Multiproof.{Multiproof, IsProofOf}
use Rattle.ssz_proof.proofs.Judged.{calculated-given, levels-given}
use Rattle.ssz_tool.specs.Runs.{job_of_line}
use Rattle.ssz_tool.specs.Tasks.{DoesSame}
use Rattle.ssz_tool.specs.ToDo.{Task, verifies, compares, line_of_root}
use Rattle.ssz_tool.specs.declared.line.Line.TheVariants as line

pub DoesSame-equal : (meant made : Task) → meant ≡ made → DoesSame meant made
DoesSame-equal meant made same = rw same (record {
  jobs = λ pair_of numbers held reads. refl;
  turns = λ pair_of numbers held. refl;
  reached = λ pair_of held. refl;
  least = λ pair_of held. refl;
  scripts = refl;
  asks = λ pair_of held. refl;
  pairs = λ pair_of held. refl;
})

-- ---- tasks over proofs

-- a proof leads where the lists lead that it is made of
pub verifies-given : (root : List ℕ) (lists proof : Multiproof) → IsProofOf lists proof
    → DoesSame (verifies root lists) (verifies root proof)
verifies-given root lists proof is = record {
  jobs = λ pair_of numbers held reads.
      ap (λ made. job_of_line held reads (line_of_root root made))
      (calculated-given pair_of lists proof is 1);
  turns = λ pair_of numbers held. refl;
  reached = λ pair_of held. refl;
  least = λ pair_of held. refl;
  scripts = refl;
  asks = λ pair_of held. refl;
  pairs = λ pair_of held. sym (levels-given lists proof is);
}

-- and two proofs come to what the lists come to that they are made of
pub compares-given : (lists one others other : Multiproof) → IsProofOf lists one
    → IsProofOf others other → DoesSame (compares lists others) (compares one other)
compares-given lists one others other is also = record {
  jobs = λ pair_of numbers held reads.
      ap (λ result. job_of_line held reads (line.Compared result))
      (compared-given pair_of lists one others other is also);
  turns = λ pair_of numbers held. refl;
  reached = λ pair_of held. refl;
  least = λ pair_of held. refl;
  scripts = refl;
  asks = λ pair_of held. refl;
  pairs = λ pair_of held. ap (λ n. 2 * n) (sym (levels-given lists one is));
}

-- what is so of each value is so of the one that is there
pub IfOk-weaker : {T E : Type 0} (P Q : T → Type 0) → ((x : T) → P x → Q x) → (result : Result T E)
    → IfOk result P → IfOk result Q
IfOk-weaker P Q weaker (Ok x) is = weaker x is
IfOk-weaker P Q weaker (Err e) is = is
