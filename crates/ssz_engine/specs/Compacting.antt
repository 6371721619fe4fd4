-- Where nodes are given up: by `compact`, and by no other statement.
use Rattle.std.specs.Prelude.{◌≡◌, Bool, true, false, List, Option, Some, None, Result, Ok, Err}
use Rattle.std.specs.List.{AllByRecursion}
use Rattle.ssz_script.specs.declared.statement.Statement.{Statement}
use Rattle.ssz_script.specs.declared.statement.Statement.TheVariants.{Compact}
use Rattle.ssz_machine.specs.Machine.{Line}
use Rattle.ssz_decisions.specs.declared.outcome.Outcome.{Outcome}
use Rattle.ssz_decisions.specs.declared.outcome.Outcome.TheVariants.{Accepted, Refused}
use Rattle.ssz_decisions.specs.declared.fault.EngineFault.{EngineFault}

-- whether a statement is `compact`
abbrev pub is_compact : Statement → Bool
is_compact Compact = true
is_compact _ = false

-- whether it was a `compact` that was done
abbrev pub compacted : Statement → Result Outcome EngineFault → Bool
compacted statement (Ok Accepted) = is_compact statement
compacted statement (Ok Refused) = false
compacted statement (Err fault) = false

-- whether a line is `compact`
abbrev pub compacts : Option Statement → Bool
compacts None = false
compacts (Some statement) = is_compact statement

-- no line of a script is `compact`
abbrev pub NoneCompacts : List Line → Type 0
NoneCompacts lines = AllByRecursion (λ line. compacts line.1 ≡ false) lines
