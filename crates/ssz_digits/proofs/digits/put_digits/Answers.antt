use Rattle.std.proofs.Common.{List, ℕ, length, drop, ap, ◌∙◌}
use Rattle.std.proofs.lemmas.List.{take_at}
use Rattle.hex.specs.Hex.{encode_lower}
use Rattle.ssz_digits.proofs.digits.put_digits.Goals as goal

pub returns : goal.returns
returns c =
    let bytes : List ℕ = c.args.bytes.now in
    let copied : List ℕ = c.copy_from_slice.new.self in
    let same = c.copy_from_slice.ensures.after in
    c.spread.ensures.digits
    ∙ ap encode_lower
    (take_at copied (drop (length bytes) c.args.room.now) (length bytes) (ap length same) ∙ same)
