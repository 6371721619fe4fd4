-- What is so of results.
use Rattle.std.proofs.Common.{Result, Ok, Err, IfOk, IfErr}
use Rattle.std.specs.Prelude.{Result, Ok, Err, IfOk, IfErr, OnOk}

-- what is so of one part of a result is so of it
pub ok-of : {A E : Type 0} (P Q : A → Type 0) (r : Result A E) → ((x : A) → P x → Q x)
    → IfOk r P → IfOk r Q
ok-of P Q (Ok x) f h = f x h
ok-of P Q (Err e) f h = h

pub err-of : {A E : Type 0} (P Q : E → Type 0) (r : Result A E) → ((e : E) → P e → Q e)
    → IfErr r P → IfErr r Q
err-of P Q (Ok x) f h = h
err-of P Q (Err e) f h = f e h

-- what is so whatever is answered
pub on_ok : {T E : Type 0} {P : Type 0} (result : Result T E) → P → OnOk result P
on_ok (Ok made) is = is
on_ok (Err fault) is = tt
