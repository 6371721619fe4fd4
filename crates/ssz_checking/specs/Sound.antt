-- Parts that stand at one place in each of many elements, and have no fault in any of them.
use Rattle.std.specs.Prelude.{ℕ, zero, suc, ◌+◌, ◌%◌, ◌==◌, ◌&&◌, nat_lt, List, slice_index, Bool, true, false}
use Rattle.ssz_schema.specs.Types.{SszType, Fields, uint, boolean, container, vector, bitvector, no_fields, field}
use Rattle.ssz_schema.specs.Sizes.{head_size, fixed_size}
use Rattle.ssz_checking.specs.Plain.{has_plain_encoding}

-- of n bytes, the first at this place and each of the others so many steps behind the one before,
-- all are below the bound
abbrev pub all_below : ℕ → ℕ → ℕ → ℕ → List ℕ → Bool
all_below bound step place zero b = true
all_below bound step place (suc n) b =
    nat_lt (slice_index b place) bound && all_below bound step (place + step) n b

-- in each of n elements of step bytes the byte at this place is below the bound
abbrev pub sound_in : ℕ → ℕ → List ℕ → ℕ → ℕ → Bool
sound_in step n b bound place = all_below bound step place n b

abbrev mutual
  -- no part of this type at this place has a fault, where the bytes that are told are below their
  -- bounds: a boolean is below 2, and all else is plain
  pub is_sound : (ℕ → ℕ → Bool) → SszType → ℕ → Bool
  is_sound below (uint w) place = true
  is_sound below boolean place = below 2 place
  is_sound below (container fs) place = are_sound below fs place
  is_sound below (vector elem n) place = has_plain_encoding elem
  is_sound below (bitvector n) place = n % 8 == 0
  is_sound below _ place = false

  -- the fields, the first of which stands at the place
  pub are_sound : (ℕ → ℕ → Bool) → Fields → ℕ → Bool
  are_sound below no_fields place = true
  are_sound below (field name t fs) place =
      is_sound below t place && are_sound below fs (place + head_size (fixed_size t))
