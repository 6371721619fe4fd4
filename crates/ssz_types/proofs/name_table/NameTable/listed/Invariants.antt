use Rattle.std.proofs.Common.{◌≡◌, ◌++◌}
use Rattle.ssz_types.proofs.NameLemmas.{named}
use Rattle.ssz_types.proofs.name_table.NameTable.listed.Given as goal

abbrev pub invariant-loop-name : goal.invariant-loop-name
invariant-loop-name l = l.names.items ++ named l.name-iterator ≡ l.self
