-- Steps that found no fault.
use Rattle.std.proofs.Common.{◌≡◌, ℕ, Bool, true, false, Option, Some, None, Ok, Err, refl, ap}
use Rattle.std.specs.Option.{ok_or}
use Rattle.ssz_value_json.specs.declared.fault.JsonFault.{JsonFault}
use Rattle.ssz_value_json.specs.Steps.{Found, Walked, ◌>>=◌, where_holds, leaf, next}

pub ok_same : {A : Type 0} (p q : A) (r : Found A) → r ≡ Ok p → r ≡ Ok q → p ≡ q
ok_same p q r e f = cc

pub bind_ok : {A B : Type 0} (r : Found A) (f : A → Found B) (y : B) → r >>= f ≡ Ok y
    → (x : A) × (r ≡ Ok x) × (f x ≡ Ok y)
bind_ok (Ok x) f y e = (x, refl, e)
bind_ok (Err g) f y e = absurd (cc)

pub or_ok : {A : Type 0} (o : Option A) (f : JsonFault) (x : A) → ok_or o f ≡ Ok x → o ≡ Some x
or_ok (Some y) f x e = cc
or_ok None f x e = absurd (cc)

pub where_ok : {A : Type 0} (b : Bool) (x y : A) (f : JsonFault) → where_holds b x f ≡ Ok y
    → (b ≡ true) × (x ≡ y)
where_ok true x y f e = (refl, cc)
where_ok false x y f e = absurd (cc)

pub leaf_ok : {A : Type 0} (n m : ℕ) (r : Found A) (x : A) → leaf n r ≡ Ok (x, m) → r ≡ Ok x
leaf_ok n m (Ok y) x e =
    ap (λ p. Ok p.0) (ok_same (y, next n) (x, m) (Ok (y, next n)) refl e)
leaf_ok n m (Err f) x e = absurd (cc)

-- what was walked, without the number behind it
pub first_ok : {A : Type 0} (x y : A) (n m : ℕ) (r : Walked A) → r ≡ Ok (x, n) → r ≡ Ok (y, m)
    → x ≡ y
first_ok x y n m r e f = ap (λ p. p.0) (ok_same (x, n) (y, m) r e f)
