-- What was found out of two types, and what is kept of it.
use Rattle.std.specs.Prelude.{ℕ, ◌≡◌, Bool, true, false, List, Option, Some, None, Result, IfOk}
use Rattle.std.specs.BTreeMap.{get}
use Rattle.std.specs.declared.cmp.Ordering.{Ordering}
use Rattle.std.specs.Ordering.{ordering_then, nat_cmp}
use Rattle.std.specs.declared.alloc.AllocError.{AllocError}
use Rattle.ssz_schema.specs.Types.{SszType}
use Rattle.ssz_schema.specs.Unfolding.{Types, type_of, type_tree_at}
use Rattle.ssz_forms.specs.declared.forms.Forms.{Forms}
use Rattle.ssz_forms.specs.SameType.{same_type}

-- pairs of types, by the first and then by the second
abbrev pub by_both : ℕ × ℕ → ℕ × ℕ → Ordering
by_both x y = ordering_then (nat_cmp x.0 y.0) (nat_cmp x.1 y.1)

-- each answer that is kept is right of the types of this schema
pub record AreRight (types : Types) (forms : Forms) : Type 0 where
  pub each : (first second : ℕ) (same : Bool)
      → get by_both forms.answers (first, second) ≡ Some same
      → same ≡ same_type (type_of types first) (type_of types second)

-- two options, each None or a type, are the same
abbrev pub same_option : List SszType → Option ℕ → Option ℕ → Bool
same_option trees None None = true
same_option trees (Some first) (Some second) =
    same_type (type_tree_at trees first) (type_tree_at trees second)
same_option trees _ _ = false

-- the answer, unless memory runs out; what is kept is right
pub record Compares (types : Types) (same : Bool) (result : Result Bool AllocError) (new : Forms)
    : Type 0 where
  pub answer : IfOk result (λ found. found ≡ same)
  pub right : AreRight types new
