-- The bytes of a part that is held.
use Rattle.std.proofs.Common.{◌≡◌, ◌<◌, ◌^◌, ℕ, List, length, slice_range, Option, Some, None, refl, sym, ap, ◌∙◌, subst, arith}
use Rattle.std.specs.Prelude.{IsSome}
use Rattle.std.proofs.lemmas.Bool.{false≢true}
use Rattle.ssz_schema.specs.format.Format.{Format}
use Rattle.ssz_schema.specs.declared.path.PathStep.{PathStep}
use Rattle.ssz_schema.specs.Types.{SszType}
use Rattle.ssz_schema.specs.Legal.{IsLegal}
use Rattle.ssz_schema.specs.Paths.{step_type}
use Rattle.ssz_value.specs.Encoding.{serialize}
use Rattle.ssz_value.proofs.Agree.{IsInput, IsInput-range}
use Rattle.ssz_value.proofs.ExactLaw.{agrees}
use Rattle.ssz_slices.specs.declared.held.Held.{Held}
use Rattle.ssz_slices.specs.declared.held.Held.TheVariants.{Bytes, Bit, Count}
use Rattle.ssz_slices.specs.Held.{HeldHasType, HasRoom, IsStretch, held_value, held_at_step}
use Rattle.ssz_slices.proofs.Leading.{IsPart, IsAnswer}
use Rattle.ssz_slices.proofs.Leads.{leads}
use Rattle.ssz_slices.proofs.Spans.{length-stretch}

-- they are its encoding
pub stretch_encoded : (format : Format) (t : SszType) (b : List ℕ) (held : Held) (from to : ℕ)
    → IsLegal format t → IsInput b → HeldHasType t b held → held ≡ Bytes from to
    → slice_range b from to ≡ serialize t (held_value t b held)
stretch_encoded format t b held from to legal input holds is =
    let stretch : IsStretch t b from to = subst (HeldHasType t b) is holds in
    sym ((agrees format t legal).only 0 (slice_range b from to) (IsInput-range b from to input)
    stretch.faultless).bytes
    ∙ ap (λ h. serialize t (held_value t b h)) (sym is)

-- a part of a stretch has room in the input
pub has_room : (t u : SszType) (b : List ℕ) (from to : ℕ) (part : Held) → IsStretch t b from to
    → length b < 2 ^ 32 → HeldHasType u (slice_range b from to) part → HasRoom from part
has_room t u b from to (Bytes start end) stretch short holds =
    let long = length-stretch b from to stretch.up stretch.inside in
    let up = holds.up in
    let inside = holds.inside in
    (omega (arith, long), omega (arith, long))
has_room t u b from to (Bit bit) stretch short holds = tt
has_room t u b from to (Count n) stretch short holds = tt

-- the part to which a step that fits leads from a stretch has room
pub step_room : (format : Format) (t : SszType) (b : List ℕ) (step : PathStep) (from to : ℕ)
    (part : Held) → IsLegal format t → IsInput b → IsStretch t b from to
    → IsSome (step_type t step) → Some part ≡ held_at_step t (slice_range b from to) step
    → HasRoom from part
step_room format t b step from to part legal input stretch fits is = go (step_type t step) refl fits
  where
    go : (type : Option SszType) → step_type t step ≡ type → IsSome type → HasRoom from part
    go None typed some = absurd (false≢true some)
    go (Some u) typed some =
        let c = slice_range b from to in
        let led : IsPart t u c step part = subst (IsAnswer t u c step) (sym is)
        (leads format t u c step legal (IsInput-range b from to input) stretch.faultless typed) in
        has_room t u b from to part stretch input.short led.holds

pub stretch_at : (t : SszType) (b : List ℕ) (held : Held) (from to : ℕ) → HeldHasType t b held
    → held ≡ Bytes from to → IsStretch t b from to
stretch_at t b held from to holds is = subst (HeldHasType t b) is holds
