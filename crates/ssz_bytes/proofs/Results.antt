-- What an answer holds.
use Rattle.std.proofs.Common.{◌≡◌, Some, ap}
use Rattle.std.specs.Prelude.{Result, Ok, Err}
use Rattle.std.specs.Result.{result_ok}

-- an answer that gives this is Ok of it
pub ok_of : {A E : Type 0} (r : Result A E) (x : A) → result_ok r ≡ Some x → r ≡ Ok x
ok_of (Ok y) x e = let same : y ≡ x = cc in ap Ok same
ok_of (Err f) x e = absurd (cc)
