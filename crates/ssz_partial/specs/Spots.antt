-- Where in a chunk a part may lie.
use Rattle.std.specs.Prelude.{ℕ, ◌≡◌, ◌+◌, ◌≤◌, ◌<◌, Some}
use Rattle.ssz_schema.specs.Types.{SszType, boolean}
use Rattle.ssz_schema.specs.Sizes.{basic_size}
use Rattle.ssz_schema.specs.Indices.{Spot, whole, byte, bit}
use Rattle.ssz_walk.specs.declared.place.Spot.{Spot as Place}
use Rattle.ssz_walk.specs.declared.place.Spot.TheVariants.{Whole, Byte, Bit}

-- a part of this size at a spot lies within a chunk
abbrev pub IsWithinChunk : ℕ → Place → Type 0
IsWithinChunk size Whole = size ≤ 32
IsWithinChunk size (Byte at) = at + size ≤ 32
IsWithinChunk size (Bit at) = at < 256

-- a basic part of this type may lie at the spot: within the chunk, and a bit is a boolean
abbrev pub SpotSuits : SszType → Spot → Type 0
SpotSuits u whole = Unit {0}
SpotSuits u (byte at) = (z : ℕ) → basic_size u ≡ Some z → at + z ≤ 32
SpotSuits u (bit at) = (at < 256) × (u ≡ boolean)
