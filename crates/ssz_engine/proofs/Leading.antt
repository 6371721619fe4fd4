-- What two parts of a run keep, one behind the other.
use Rattle.std.proofs.Common.{◌∙◌}
use Rattle.ssz_outside.specs.declared.status.Status.{Status}
use Rattle.ssz_machine.specs.declared.place.Place.{Place}
use Rattle.ssz_machine.specs.State.{Name}
use Rattle.ssz_decisions.specs.Content.{EngineContent, KeepsEngine}
use Rattle.ssz_engine.specs.Scripts.{Scene, files_reached}
use Rattle.ssz_engine.specs.Points.{Course, IsCutShort, turns_of}
use Rattle.ssz_engine.proofs.Reaching.{all_names}

-- what could be read before can be read in the middle
abbrev pub StaysReadable : Scene → Scene → Type 0
StaysReadable before mid = (name : Name) → before.readable name → mid.readable name

-- a run that was cut short from the middle on was so from before
pub earlier : (place : Place) (course : Course) (ended : Status) (before mid after : Scene)
    → StaysReadable before mid → IsCutShort place course ended mid after
    → IsCutShort place course ended before after
earlier place course ended before mid after readable cut = record {
  numbers = cut.numbers;
  ends = cut.ends;
  now = cut.now;
  rest = cut.rest;
  pays = cut.pays;
  most = cut.most;
  least = cut.least;
  broken = cut.broken;
  reached = λ all. cut.reached
      (all_names before.readable mid.readable readable
      (files_reached course.rules (turns_of place course cut.numbers)) all);
  stopped = cut.stopped;
  asks = cut.asks;
}

-- what two parts keep
pub keeps_on : {old mid new : EngineContent} → KeepsEngine old mid → KeepsEngine mid new
    → KeepsEngine old new
keeps_on first then = record {
  types = then.types ∙ first.types;
  most = then.most ∙ first.most;
  base = then.base ∙ first.base;
}
