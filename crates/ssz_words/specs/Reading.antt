-- What a reader may answer.
use Rattle.std.specs.Prelude.{◌≡◌, ⊤, Bool, if◌then◌else◌, Option, Some, None, Result, Ok, Err}
pub use Rattle.ssz_bind.specs.Options.{◌>>=◌}
use Rattle.ssz_words.specs.declared.faults.WordsFault.{WordsFault}
use Rattle.ssz_words.specs.declared.faults.WordsFault.TheVariants.{NotTaken, Memory}

-- the value, if the test holds
abbrev pub some_if : {A : Type 0} → Bool → A → Option A
some_if test x = if test then Some x else None

-- the answer, as `view` shows it, is the value that there is to read: NotTaken where there is none.
-- Want of memory may come at any time.
abbrev pub ReadsBy : {A B : Type 0} → (A → B) → Result A WordsFault → Option B → Type 0
ReadsBy view (Ok x) read = read ≡ Some (view x)
ReadsBy view (Err NotTaken) read = read ≡ None
ReadsBy view (Err Memory) read = ⊤

-- the same of an answer that is seen as it is
abbrev pub ReadsWords : {A : Type 0} → Result A WordsFault → Option A → Type 0
ReadsWords result read = ReadsBy (λ x. x) result read
