-- Bytes without a fault, and that their parts have none.
use Rattle.std.proofs.Common.{◌≡◌, ℕ, ◌^◌, ◌<◌, List, length, None, sym, ap, subst, ◌∙◌}
use Rattle.ssz_schema.specs.format.Format.{Format}
use Rattle.ssz_schema.specs.Types.{SszType, container}
use Rattle.ssz_schema.specs.Legal.{IsLegal}
use Rattle.ssz_schema.specs.Unfolding.{fields_over}
use Rattle.ssz_value.specs.Faults.{first_fault, head_fault, fields_fault, scopes}
use Rattle.ssz_value.specs.Reading.{value_in}
use Rattle.ssz_value.proofs.Agree.{IsInput, no_faults}
use Rattle.ssz_value.proofs.ExactLaw.{agrees}
use Rattle.ssz_value.proofs.PartLemmas.{Part, sizes_of}

-- bytes of the type without a fault
pub record IsFaultless (t : SszType) (b : List ℕ) : Type 0 where
  pub input : IsInput b
  pub none : first_fault t 0 b ≡ None

-- bytes that have no fault at one place have none at another
pub anywhere : (format : Format) (t : SszType) → IsLegal format t → (s u : ℕ) (b : List ℕ)
    → IsInput b → first_fault t s b ≡ None → first_fault t u b ≡ None
anywhere format t legal s u b input h =
    let written = (agrees format t legal).only s b input h in
    ap (first_fault t u) (sym written.bytes)
    ∙ ((agrees format t legal).known u (value_in t b) written.fits
    (subst (λ (c : List ℕ). length c < 2 ^ 32) (sym written.bytes) input.short)).faultless

-- what bytes without a fault tell of a container
pub record IsFaultlessContainer (trees : List SszType) (parts : List Part)
    (b : List ℕ) : Type 0 where
  pub head : head_fault (sizes_of trees parts) 0 b ≡ None
  pub fields : fields_fault (fields_over trees parts) 0 (scopes (sizes_of trees parts) 0 b) ≡ None

pub container_faultless : (trees : List SszType) (parts : List Part) (b : List ℕ)
    → first_fault (container (fields_over trees parts)) 0 b ≡ None
    → IsFaultlessContainer trees parts b
container_faultless trees parts b h =
    let both = no_faults (head_fault (sizes_of trees parts) 0 b)
    (fields_fault (fields_over trees parts) 0 (scopes (sizes_of trees parts) 0 b)) h in
    record { head = both.0; fields = both.1 }
