use Rattle.std.proofs.Common.{Result, Ok, Err, refl}
use Rattle.std.specs.Result.{MatchResult, IsOk}
use Rattle.ssz_line.proofs.FileLemmas.{IsUtf8-file}
use Rattle.ssz_line.proofs.file_name.FileName.as_str.Goals as goal

-- there is a value where there can be no error
ok_unless : {T E : Type 0} (r : Result T E) (P : T → Type 0) (Q : E → Type 0) → MatchResult r P Q
    → ((e : E) → Q e → ⊥) → IsOk r
ok_unless (Ok x) P Q cases none = refl
ok_unless (Err e) P Q cases none = absurd (none e cases)

pub unwrap-requires : goal.unwrap-requires
unwrap-requires c =
    ok_unless c.from_utf8.result _ _ c.from_utf8.ensures.cases
    (λ e fault. fault.0 (rw c.as_bytes.ensures (IsUtf8-file _ c.self.invariant)))
