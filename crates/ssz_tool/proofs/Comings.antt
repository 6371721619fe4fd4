-- What came of plans.
use Rattle.std.proofs.Common.{ℕ, List, Option, Result, Ok, Err}
use Rattle.ssz_outside.specs.Content.{Content}
use Rattle.ssz_tool.specs.declared.stop.Stop.{Stop}
use Rattle.ssz_tool.specs.declared.stop.Stop.TheVariants as stop
use Rattle.ssz_tool.specs.Plans.{Plan, gives, refuses, reads}
use Rattle.ssz_tool.specs.Follows.{AnswersPlan, ComesOf}

-- what was given stands for what the plan gave
unfoldable pub given : {A T : Type 0} (told : Option Content) (P : List ℕ → Type 0)
    (S : A → T → Type 0) (plan : Plan A) (made : T)
    → ComesOf told P S plan (Ok made) → (x : A) × S x made
given told P S (gives x) made comes = (x, comes)
given told P S (refuses meant) made comes = absurd comes
given told P S (reads name most long next) made (bytes, few, is, then) =
    given told P S (next bytes) made then

-- no plan says how the program is used
pub no_usage : {A T : Type 0} (told : Option Content) (P : List ℕ → Type 0) (S : A → T → Type 0)
    (plan : Plan A) → ComesOf told P S plan (Err stop.Usage) → ⊥
no_usage told P S (gives x) comes = comes
no_usage told P S (refuses meant) comes = comes
no_usage told P S (reads name most long next) comes = comes

-- an answer of a plan that reads no file
pub answered : {A T : Type 0} (told : Option Content) (P : List ℕ → Type 0) (S : A → T → Type 0)
    (plan : Plan A) (result : Result T Stop) → AnswersPlan S plan result
    → ComesOf told P S plan result
answered told P S plan (Err stop.Memory) is = tt
answered told P S (gives x) (Ok made) is = is
answered told P S (gives x) (Err stop.Usage) is = is
answered told P S (gives x) (Err (stop.Says said)) is = is
answered told P S (gives x) (Err stop.Read) is = is
answered told P S (refuses meant) (Ok made) is = is
answered told P S (refuses meant) (Err stop.Usage) is = is
answered told P S (refuses meant) (Err (stop.Says said)) is = is
answered told P S (refuses meant) (Err stop.Read) is = is
answered told P S (reads name most long next) (Ok made) is = absurd is
answered told P S (reads name most long next) (Err stop.Usage) is = is
answered told P S (reads name most long next) (Err (stop.Says said)) is = absurd is
answered told P S (reads name most long next) (Err stop.Read) is = absurd is
