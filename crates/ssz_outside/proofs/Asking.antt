-- What was asked, piece by piece and together.
use Rattle.std.proofs.Common.{◌≡◌, ℕ, zero, suc, ◌+◌, Bool, true, false, List, [], ◌∷◌, ◌++◌, length, take, Some, None, refl, sym, ap, append_assoc, ◌∙◌}
use Rattle.std.proofs.lemmas.List.{append-nil}
use Rattle.std.proofs.Math.Seq.{take-append-add, take-length}
use Rattle.ssz_outside.specs.Asked.{Ask, Asks, AsksOf, asks_append}

-- nothing more leaves what was asked
pub asks_append-none : (told : Asks) → asks_append told [] ≡ told
asks_append-none None = refl
asks_append-none (Some asked) = ap Some (append-nil asked)

pub asks_append-twice : (told : Asks) (first second : List Ask)
    → asks_append (asks_append told first) second ≡ asks_append told (first ++ second)
asks_append-twice None first second = refl
asks_append-twice (Some asked) first second = ap Some (append_assoc asked first second)

-- nothing was asked of what asks nothing
pub asks-nothing : (cut : Bool) (told : Asks) → AsksOf cut [] told told
asks-nothing false told = sym (asks_append-none told)
asks-nothing true told = (0, sym (asks_append-none told))

-- and of what was cut, perhaps nothing
pub asks-none_yet : (all : List Ask) (told : Asks) → AsksOf true all told told
asks-none_yet all told = (0, sym (asks_append-none told))

-- all of it is a front of it, too
pub asks-cut : (cut : Bool) (all : List Ask) (old new : Asks) → AsksOf false all old new
    → AsksOf cut all old new
asks-cut false all old new asks = asks
asks-cut true all old new asks =
    (length all, asks ∙ ap (λ (l : List Ask). asks_append old l) (sym (take-length all)))

-- what was asked behind other asks
pub asks-behind : (cut : Bool) (front more : List Ask) (old mid new : Asks)
    → AsksOf false front old mid → AsksOf cut more mid new → AsksOf cut (front ++ more) old new
asks-behind false front more old mid new first then =
    then ∙ ap (λ (a : Asks). asks_append a more) first ∙ asks_append-twice old front more
asks-behind true front more old mid new first (n, then) = (
  length front + n,
  then ∙ ap (λ (a : Asks). asks_append a (take n more)) first
      ∙ asks_append-twice old front (take n more)
      ∙ ap (λ (l : List Ask). asks_append old l) (sym (take-append-add front more n)),
)

-- the first so many of a front of them are the first of them
take-within : (front more : List Ask) (n : ℕ)
    → (m : ℕ) × (take n front ≡ take m (front ++ more))
take-within front more zero = (0, refl)
take-within [] more (suc n) = (0, refl)
take-within (x ∷ front) more (suc n) =
    let rest = take-within front more n in
    (suc rest.0, ap (λ (l : List Ask). x ∷ l) rest.1)

pub asks-within : (front more : List Ask) (old new : Asks) → AsksOf true front old new
    → AsksOf true (front ++ more) old new
asks-within front more old new (n, asks) =
    let within = take-within front more n in
    (within.0, asks ∙ ap (λ (l : List Ask). asks_append old l) within.1)
