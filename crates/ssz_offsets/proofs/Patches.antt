-- An offset that is written at a place.
use Rattle.std.proofs.Common.{ℕ, ◌≡◌, ◌≤◌, ◌+◌, ◌-◌, List, ◌++◌, length, take, drop, append_assoc, sym, ap, ap₂, ◌∙◌, arith, length-take, length-drop}
use Rattle.std.proofs.lemmas.List.{drop-drop}
use Rattle.byteorder.specs.Endian.{little_bytes}
use Rattle.ssz_bytes.specs.Bytes.{le_bytes}
use Rattle.ssz_offsets.proofs.FourBytes.{four_written}

pub room_of_four : (bytes : List ℕ) (place : ℕ) → place + 4 ≤ length bytes
    → length (take (place + 4 - place) (drop place bytes)) ≡ 4
room_of_four bytes place room =
    omega (arith, length-take (place + 4 - place) (drop place bytes), length-drop place bytes)

-- what stands before and behind the place stays
pub offset_put : (place : ℕ) (bytes buf post : List ℕ) (offset : ℕ) (old : List ℕ) → length old ≡ 4
    → buf ≡ little_bytes 4 offset ++ drop 4 old
    → post ≡ drop (place + 4 - place) (drop place bytes)
    → take place bytes ++ (buf ++ post)
    ≡ take place bytes ++ le_bytes 4 offset ++ drop (place + 4) bytes
offset_put place bytes buf post offset old four is rest =
    let behind : place + (place + 4 - place) ≡ place + 4 = omega arith in
    ap₂ (λ bs end. take place bytes ++ (bs ++ end)) (four_written offset old buf four is)
    (rest ∙ drop-drop (place + 4 - place) place bytes ∙ ap (λ n. drop n bytes) behind)
    ∙ sym (append_assoc (take place bytes) (le_bytes 4 offset) (drop (place + 4) bytes))
