-- What is known where something is lent.
use Rattle.std.proofs.Common.{◌≡◌, Option, Some, None, MatchOption, option_map}
use Rattle.std.proofs.lemmas.Option.{none-some}
use Rattle.std.specs.Option.{OnSome}

module _ {A B : Type 0} (f : A → B) where
  -- what holds where something is lent holds
  pub lent_holds : (lent : Option A) (x : B) (P : Type 0) → option_map f lent ≡ Some x
      → OnSome lent P → P
  lent_holds None x P e h = absurd (none-some x e)
  lent_holds (Some a) x P e h = h

  -- nothing is asked of the case that nothing is lent
  pub not_none : (lent : Option A) (x : B) (P : Type 0) → option_map f lent ≡ Some x
      → MatchOption lent P (λ _. Unit {0})
  not_none None x P e = absurd (none-some x e)
  not_none (Some a) x P e = tt

  pub holds_where_lent : (lent : Option A) (P : Type 0) → P → OnSome lent P
  holds_where_lent None P h = tt
  holds_where_lent (Some a) P h = h
