-- What the known chunks tell of a step: whether the part to which it leads is present.
use Rattle.std.proofs.Common.{◌≡◌, ℕ, ◌+◌, ◌*◌, ◌^◌, ◌<◌, Bool, true, false, cond, eqb, ltb, List, Option, Some, None, is_some, refl, sym, ap, ◌∙◌, arith}
use Rattle.std.specs.Prelude.{IsSome}
use Rattle.std.proofs.lemmas.Bool.{false≢true}
use Rattle.ssz_chunk.specs.Tree.{Tree}
use Rattle.ssz_schema.specs.format.Format.{Format}
use Rattle.ssz_schema.specs.declared.path.PathStep.{PathStep}
use Rattle.ssz_schema.specs.declared.path.PathStep.TheVariants.{Field, Index, Len, Selector, Option as Chosen}
use Rattle.ssz_schema.specs.Types.{SszType, uint, boolean, container, vector, list, bitvector, bitlist, union}
use Rattle.ssz_bytes.specs.Bytes.{le_number}
use Rattle.ssz_schema.specs.Legal.{IsLegal}
use Rattle.ssz_schema.specs.Paths.{step_type}
use Rattle.ssz_bytes.proofs.Numbers.{le_number-le_bytes}
use Rattle.ssz_value.specs.Values.{SszValue, Fits}
use Rattle.ssz_value.specs.Trees.{tree, mixed_in, number_chunk}
use Rattle.ssz_value.specs.Parts.{step_part}
use Rattle.ssz_proof.specs.Calculation.{Known, chunk_at}
use Rattle.ssz_partial.specs.declared.fault.PartialFault.{PartialFault}
use Rattle.ssz_partial.specs.declared.fault.PartialFault.TheVariants.{Absent}
use Rattle.ssz_partial.specs.Partial.{step_fault, known_length_fault, selector_fault}
use Rattle.ssz_walk.proofs.Presence.{Tests, index_counted, index_uncounted, option_selected, field_present, len_present, selector_present}

-- what a refusal of a step, or none, tells of the part
abbrev pub IsTold : SszType → SszValue → PathStep → Option PartialFault → Type 0
IsTold u w step None = is_some (step_part u w step) ≡ true
IsTold u w step (Some Absent) = step_part u w step ≡ None
IsTold u w step (Some _) = Unit {0}

-- a chunk that is known beside what a number is mixed in to is that number's
abbrev pub IsMixed : Option (List ℕ) → Tree → Type 0
IsMixed None whole = Unit {0}
IsMixed (Some chunk) whole =
    (n : ℕ) (content : Tree) → whole ≡ mixed_in n content → chunk ≡ number_chunk n

none_if : {X : Type 0} (o : Option X) → false ≡ is_some o → o ≡ None
none_if None e = refl
none_if (Some x) e = absurd (false≢true e)

number_is : (chunk : List ℕ) (n : ℕ) → chunk ≡ number_chunk n → n < 2 ^ 64 → le_number chunk ≡ n
number_is chunk n is small = ap le_number is ∙ le_number-le_bytes 32 n (omega arith)

told_length : (format : Format) (u : SszType) (w : SszValue) (g i : ℕ)
    (known : Option (List ℕ)) → IsMixed known (tree u w)
    → ((result : Bool) → Tests (tree u w) (ltb i) result
    → result ≡ is_some (step_part u w (Index i)))
    → IsTold u w (Index i) (known_length_fault known g i)
told_length format u w g i None mixed law = tt
told_length format u w g i (Some chunk) mixed law =
    go (ltb i (le_number chunk)) (law (ltb i (le_number chunk))
    (λ n content is small. ap (ltb i) (number_is chunk n (mixed n content is) small)))
  where
    go : (below : Bool) → below ≡ is_some (step_part u w (Index i))
        → IsTold u w (Index i) (cond below None (Some Absent))
    go true e = sym e
    go false e = none_if (step_part u w (Index i)) e

told_selector : (u : SszType) (w : SszValue) (g k : ℕ) (known : Option (List ℕ))
    → IsMixed known (tree u w)
    → ((result : Bool) → Tests (tree u w) (λ n. eqb n k) result
    → result ≡ is_some (step_part u w (Chosen k)))
    → IsTold u w (Chosen k) (selector_fault known g k)
told_selector u w g k None mixed law = tt
told_selector u w g k (Some chunk) mixed law =
    go (eqb (le_number chunk) k) (law (eqb (le_number chunk) k)
    (λ n content is small. ap (λ m. eqb m k) (number_is chunk n (mixed n content is) small)))
  where
    go : (same : Bool) → same ≡ is_some (step_part u w (Chosen k))
        → IsTold u w (Chosen k) (cond same None (Some Absent))
    go true e = sym e
    go false e = none_if (step_part u w (Chosen k)) e

pub told : (format : Format) (u : SszType) (w : SszValue) (step : PathStep) (known : Known) (k : ℕ)
    → IsLegal format u → Fits u w → IsSome (step_type u step)
    → IsMixed (chunk_at known (2 * k + 1)) (tree u w)
    → IsTold u w step (step_fault known k u step)
told format (list elem n) w (Index i) known k legal fit fits mixed =
    told_length format (list elem n) w (2 * k + 1) i (chunk_at known (2 * k + 1)) mixed
    (λ result tests. index_counted format (list elem n) w (tree (list elem n) w) i result legal
    (record { fits = fit; is = refl }) refl tests)
told format (bitlist n) w (Index i) known k legal fit fits mixed =
    told_length format (bitlist n) w (2 * k + 1) i (chunk_at known (2 * k + 1)) mixed
    (λ result tests. index_counted format (bitlist n) w (tree (bitlist n) w) i result legal
    (record { fits = fit; is = refl }) refl tests)
told format (union os) w (Chosen j) known k legal fit fits mixed =
    told_selector (union os) w (2 * k + 1) j (chunk_at known (2 * k + 1)) mixed
    (λ result tests. option_selected format (union os) w (tree (union os) w) j result legal
    (record { fits = fit; is = refl }) fits tests)
told format (vector elem n) w (Index i) known k legal fit fits mixed =
    sym (index_uncounted (vector elem n) w i fit refl fits)
told format (bitvector n) w (Index i) known k legal fit fits mixed =
    sym (index_uncounted (bitvector n) w i fit refl fits)
told format (container fs) w (Field name) known k legal fit fits mixed =
    sym (field_present (container fs) w name fit fits)
told format (list elem n) w Len known k legal fit fits mixed =
    sym (len_present (list elem n) w fit fits)
told format (bitlist n) w Len known k legal fit fits mixed =
    sym (len_present (bitlist n) w fit fits)
told format (union os) w Selector known k legal fit fits mixed =
    sym (selector_present (union os) w fit fits)
told format (uint width) w step known k legal fit fits mixed = absurd (false≢true fits)
told format boolean w step known k legal fit fits mixed = absurd (false≢true fits)
told format (container fs) w _ known k legal fit fits mixed = absurd (false≢true fits)
told format (vector elem n) w _ known k legal fit fits mixed = absurd (false≢true fits)
told format (list elem n) w _ known k legal fit fits mixed = absurd (false≢true fits)
told format (bitvector n) w _ known k legal fit fits mixed = absurd (false≢true fits)
told format (bitlist n) w _ known k legal fit fits mixed = absurd (false≢true fits)
told format (union os) w _ known k legal fit fits mixed = absurd (false≢true fits)
