-- Bytes that are written into room for them.
use Rattle.std.specs.Prelude.{ℕ, ◌+◌, ◌≡◌, List, ◌++◌, length, take, Option}
use Rattle.ssz_schema.specs.Sizes.{head_size}
use Rattle.ssz_value.specs.Encoding.{heads, bodies}
use Rattle.ssz_parts.specs.Encoded.{head_of, body_of}

-- the room begins with the bytes, which are so many
pub record WritesEncoding (encoding : List ℕ) (n : ℕ) (room : List ℕ) : Type 0 where
  pub count : n ≡ length encoding
  pub bytes : take n room ≡ encoding

-- how far the fixed parts and the variable parts are written
abbrev pub Place : Type 0
Place = ℕ × ℕ

-- one part more is written
pub record PutsPart (size : Option ℕ) (bytes : List ℕ) (old new : Place)
    (old_front old_back front back : List ℕ) : Type 0 where
  pub place : new.0 ≡ old.0 + head_size size
  pub end : new.1 ≡ old.1 + length (body_of size bytes)
  pub fixed : take new.0 front
      ≡ take old.0 old_front ++ head_of size bytes (length old_front + old.1)
  pub variable : take new.1 back ≡ take old.1 old_back ++ body_of size bytes

-- all parts are written
pub record PutsAll (sizes : List (Option ℕ)) (parts : List (List ℕ)) (n : ℕ)
    (front back : List ℕ) : Type 0 where
  pub fixed : front ≡ heads sizes parts (length front)
  pub variable : take n back ≡ bodies sizes parts
  pub count : n ≡ length (bodies sizes parts)
