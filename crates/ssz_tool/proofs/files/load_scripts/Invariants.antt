use Rattle.std.proofs.Common.{Ok, false, take}
use Rattle.std.specs.Option.{ForSome}
use Rattle.ssz_outside.specs.Asked.{AsksOf}
use Rattle.ssz_tool.specs.Commands.{script_files}
use Rattle.ssz_tool.specs.Follows.{LeavesFiles}
use Rattle.ssz_tool.specs.Plans.{asks_in}
use Rattle.ssz_tool.proofs.Reading.{AreRead}
use Rattle.ssz_tool.proofs.files.load_scripts.Given as goal

-- the scripts so far were read, and files stay as they are
abbrev pub invariant-loop-name : goal.invariant-loop-name
invariant-loop-name g l = record {
  read : AreRead (g.F.Files.content l.fn.files) (g.F.Files.readable l.fn.files)
      (take l.name-index l.names) l.scripts.items;
  asks : ForSome (g.F.Files.content l.fn.files) (λ held.
      AsksOf false (asks_in held (script_files (take l.name-index l.names)))
      (g.F.Files.asked l.fn.files) (g.F.Files.asked l.files));
  usable : g.F.Files.usable l.files;
  leaves : LeavesFiles {T = Unit {0}} g.F.Files (Ok tt) l.fn.files l.files;
}
