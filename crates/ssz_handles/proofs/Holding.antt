-- What the proofs of all three handles share.
use mathlib.Core.Path.{◌≡◌, refl, sym}
use mathlib.Core.Bool.{true≢false}
use lib.Dec.{T, lit<}
use mir.Syntax.{w64}
use mir.Val.{Val, vint, vstruct, vcons, vnil, has_ty, WT}
use Rattle.std.proofs.alloc.Calls.{Fits, α}
use Rattle.std_alloc.proofs.BoxSteps.Form.{Bx, box_ty}
use Rattle.std_alloc.proofs.ResultValues.{and_tt}
use Rattle.std.specs.Prelude.{Option, Some, None, IsSome}

-- what is held, where something is
pub what : {A : Type 0} (held : Option A) → IsSome held → (x : A) × (held ≡ Some x)
what None some = absurd (true≢false (sym some))
what (Some x) some = (x, refl)

-- a null pointer and an allocator
abbrev pub word : Val → Val
word hv = vstruct (vcons (vint w64 0) (vcons hv vnil))

-- they are laid out as a box is
pub typed : (E : Bx) (hv : Val) → Fits E.al hv → T (has_ty (box_ty E) (word hv)) × WT (word hv)
typed E hv fa = (and_tt (has_ty (α E.al) hv) fa.0, (record { fits = lit< tt }, (fa.1, tt)))
