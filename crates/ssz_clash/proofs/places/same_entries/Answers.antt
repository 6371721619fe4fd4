use Rattle.std.proofs.Common.{◌≡◌, ◌&&◌, eqb, Decides, ap, ap₂}
use Rattle.std.specs.Prelude.{bytes_eq}
use Rattle.std.proofs.lemmas.Bool.{and_from, and_parts, eq-eqb, eqb-true}
use Rattle.std.proofs.lemmas.Slice.Eq.{bytes_eq-Decides, slice_eq-Decides}
use Rattle.ssz_proof.specs.declared.entry.Entry.{Entry}
use Rattle.ssz_clash.proofs.Leaves.{entry_of}
use Rattle.ssz_clash.proofs.places.same_entries.Goals as goal

-- entries are told by their indices and their bytes
entries-decide : (a b : Entry)
    → Decides (eqb a.index b.index && bytes_eq a.chunk.0 b.chunk.0) (a ≡ b)
entries-decide a b = (
  λ yes.
      let parts = and_parts (eqb a.index b.index) (bytes_eq a.chunk.0 b.chunk.0) yes in
      ap₂ entry_of (eqb-true a.index b.index parts.0)
      ((bytes_eq-Decides a.chunk.0 b.chunk.0).0 parts.1),
  λ same. and_from (eqb a.index b.index) (bytes_eq a.chunk.0 b.chunk.0)
      (eq-eqb a.index b.index (ap (λ (entry : Entry). entry.index) same))
      ((bytes_eq-Decides a.chunk.0 b.chunk.0).1 (ap (λ (entry : Entry). entry.chunk.0) same)),
)

pub returns : goal.returns
returns c =
    slice_eq-Decides entries-decide c.args.first.now c.args.second.now c.eq.result c.eq.ensures
