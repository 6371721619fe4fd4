-- What the files of the system and a writer of std are seen as.
use Rattle.std.specs.Prelude.{ℕ, List, take, Ok, Err}
use Rattle.std.specs.declared.option.Option.{Option}
use Rattle.std.specs.declared.result.Result.{Result}
use Rattle.std.specs.Io.KnownBytes.{Appends}
use Rattle.ssz_outside.specs.declared.outside.PutFault.{PutFault}
use Rattle.ssz_outside.specs.declared.outside.PutFault.TheVariants.{Failed, Memory}

-- the files of the system: how many calls failed
pub record DirState : Type 0 where
  pub get_faults : ℕ
  pub put_faults : ℕ

-- a writer of std: the bytes that it holds, where it tells them, and how many calls failed
pub record OutState : Type 0 where
  pub written : Option (List ℕ)
  pub faults : ℕ

-- what a writer holds after a `put`: the piece behind what it held, or on a failure a prefix of it
abbrev pub WritesPiece : {T : Type 0} → Result T PutFault → List ℕ → Option (List ℕ)
    → Option (List ℕ) → Type 0
WritesPiece (Ok done) piece old new = Appends old new piece
WritesPiece (Err Failed) piece old new = (count : ℕ) × Appends old new (take count piece)
WritesPiece (Err Memory) piece old new = ⊥
