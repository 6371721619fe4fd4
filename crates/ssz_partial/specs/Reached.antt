-- What is reached, as it is defined.
use Rattle.std.specs.Prelude.{Result, Ok, Err}
use Rattle.ssz_partial.specs.declared.fault.PartialFault.{PartialFault}
use Rattle.ssz_partial.specs.declared.reaching.Reached.{Reached}
use Rattle.ssz_partial.specs.Partial.{FoundPart}
use Rattle.ssz_walk.specs.Found.{spot_of}

abbrev pub reached_as : Result Reached PartialFault → Result FoundPart PartialFault
reached_as (Ok part) =
    Ok (record { index = part.index; spot = spot_of part.spot; chunk = part.chunk.0 })
reached_as (Err fault) = Err fault
