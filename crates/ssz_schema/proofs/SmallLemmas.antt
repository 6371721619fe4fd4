-- What is small of every legal type.
use Rattle.std.proofs.Common.{◌≤◌, arith}
use Rattle.ssz_types.specs.declared.format.Format.{Format}
use Rattle.ssz_types.specs.declared.format.Format.TheVariants.{One, Two}
use Rattle.ssz_types.specs.declared.facts.Facts.{Facts}
use Rattle.ssz_types.specs.Types.{SszType, uint, boolean, container, vector, list, bitvector, bitlist, union}
use Rattle.ssz_types.specs.Legal.{IsLegal, IsWithinLimits, most_levels}
use Rattle.ssz_types.specs.Facts.{AreFactsOf}
use Rattle.ssz_schema.specs.Inside.{AreSmall}
use Rattle.ssz_types.proofs.WidthLemmas.{byte_count-small}
use Rattle.ssz_schema.proofs.CountLemmas.{chunk_count-small, depth-small}

pub most_levels-small : (format : Format) → most_levels format ≤ 126
most_levels-small One = omega arith
most_levels-small Two = omega arith

-- every legal type is within the limits, basic types too
pub legal_within : (format : Format) (t : SszType) → IsLegal format t → IsWithinLimits format t
legal_within format (uint w) legal =
    record {
      nesting = omega arith;
      levels = omega arith;
      default_length =
          omega (arith, byte_count-small w);
    }
legal_within format boolean legal =
    record { nesting = omega arith; levels = omega arith; default_length = omega arith }
legal_within format (container fs) legal = legal.3
legal_within format (vector elem n) legal = legal.2
legal_within format (list elem limit) legal = legal.2
legal_within format (bitvector n) legal = legal.1
legal_within format (bitlist limit) legal = legal.1
legal_within format (union os) legal = legal.4

pub small_facts : (format : Format) (t : SszType) (facts : Facts) → IsLegal format t
    → AreFactsOf facts t → AreSmall facts
small_facts format t facts legal are =
    let within = legal_within format t legal in
    record {
      nesting = omega (arith, are.nesting, within.nesting);
      levels = omega (arith, are.levels, within.levels, most_levels-small format);
      default_len = omega (arith, are.default_len, within.default_length);
      chunk_count = omega (arith, are.chunk_count, chunk_count-small format t legal);
      depth = omega (arith, are.depth, depth-small format t legal);
    }
