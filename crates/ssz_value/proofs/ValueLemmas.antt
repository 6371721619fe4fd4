-- What the program's values stand for, by their variants.
use Rattle.std.proofs.Common.{ℕ, ◌≡◌, List, map, Vec, Global, Bool, Some, None, ap, sym, ◌∙◌}
use Rattle.std.specs.declared.boxed.Box.{Box}
use Rattle.ssz_chunk.specs.declared.Chunk.{Chunk}
use Rattle.ssz_value.specs.declared.value.Value.{Value}
use Rattle.ssz_value.specs.declared.value.Value.TheVariants.{Uint, Wide, Bool as Flag, Bytes, Seq, Bits, Union, rolls-Uint, rolls-Wide, rolls-Bool, rolls-Bytes, rolls-Seq, rolls-Bits, rolls-Union}
use Rattle.ssz_value.specs.declared.value.Value.TheFolds.{fold-roll-Value}
use Rattle.ssz_value.specs.Values.{SszValue, number, wide, truth, sequence, bits, chosen, chosen_none, values}
use Rattle.ssz_value.specs.Standing.{value_of, value_step}

pub uint_is : (n : ℕ) → value_of (Uint n) ≡ number n
uint_is n = ap value_of (sym (rolls-Uint n)) ∙ fold-roll-Value SszValue value_step _

pub wide_is : (chunk : Chunk) → value_of (Wide chunk) ≡ wide chunk.0
wide_is chunk = ap value_of (sym (rolls-Wide chunk)) ∙ fold-roll-Value SszValue value_step _

pub flag_is : (b : Bool) → value_of (Flag b) ≡ truth b
flag_is b = ap value_of (sym (rolls-Bool b)) ∙ fold-roll-Value SszValue value_step _

pub bits_are : (run : List Bool) → value_of (Bits run) ≡ bits run
bits_are run = ap value_of (sym (rolls-Bits run)) ∙ fold-roll-Value SszValue value_step _

pub seq_is : (parts : Vec Value Global)
    → value_of (Seq parts) ≡ sequence (values (map value_of parts.items))
seq_is parts = ap value_of (sym (rolls-Seq parts)) ∙ fold-roll-Value SszValue value_step _

pub bytes_are : (run : List ℕ) → value_of (Bytes run) ≡ sequence (values (map number run))
bytes_are run = ap value_of (sym (rolls-Bytes run)) ∙ fold-roll-Value SszValue value_step _

pub chosen_is : (k : ℕ) (inner : Box Value Global)
    → value_of (Union k (Some inner)) ≡ chosen k (value_of inner.value)
chosen_is k inner = ap value_of (sym (rolls-Union k (Some inner)))
    ∙ fold-roll-Value SszValue value_step _

pub chosen_none_is : (k : ℕ) → value_of (Union k None) ≡ chosen_none k
chosen_none_is k = ap value_of (sym (rolls-Union k None)) ∙ fold-roll-Value SszValue value_step _
