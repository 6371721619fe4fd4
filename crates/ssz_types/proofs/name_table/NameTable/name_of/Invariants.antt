use Rattle.std.proofs.Common.{◌≡◌}
use Rattle.ssz_types.specs.Lookup.{name_for}
use Rattle.ssz_types.proofs.NameLemmas.{named}
use Rattle.ssz_types.proofs.name_table.NameTable.name_of.Given as goal

abbrev pub invariant-loop-name : goal.invariant-loop-name
invariant-loop-name l = name_for l.self l.id ≡ name_for (named l.name-iterator) l.id
