-- What the files are asked for by plans, one behind another.
use Rattle.std.proofs.Common.{◌≡◌, inl, inr, ℕ, Bool, true, false, cond, List, [], ◌∷◌, ◌++◌, length, nat_lt, Some, Result, Ok, Err, refl, sym, ap, subst, ◌∙◌}
use Rattle.std.proofs.lemmas.Bool.{lt-ltb, le-ltb}
use Rattle.std.proofs.lemmas.List.{append-nil}
use Rattle.ssz_outside.specs.Asked.{Ask, Asks, AsksOf}
use Rattle.ssz_outside.specs.Content.{Content, contents}
use Rattle.ssz_outside.proofs.Asking.{asks-cut, asks-none_yet, asks-nothing, asks-within}
use Rattle.ssz_tool.specs.declared.line.Line.{Line}
use Rattle.ssz_tool.specs.declared.stop.Stop.{Stop}
use Rattle.ssz_tool.specs.declared.stop.Stop.TheVariants as stop
use Rattle.ssz_tool.specs.Plans.{Plan, asks_in, file, gives, reads, refuses, ◌>>=◌}
use Rattle.ssz_tool.specs.Follows.{AnswersPlan, ComesOf, is_cut_short}
use Rattle.ssz_tool.proofs.Comings.{given, no_usage}

-- a file is asked for once, with its limit
pub asks-file : (held : Content) (name : List ℕ) (most : ℕ) (long : Line)
    → asks_in held (file name most long) ≡ (name, most) ∷ []
unfolding file
asks-file held name most long =
    let ask : Ask = (name, most) in
    let one : List Ask = ask ∷ [] in
    elim (nat_lt most (length (contents held name))) as (λ t. (ask ∷ cond t [] []) ≡ one) [
      | true ↦ refl
      | false ↦ refl
    ]

-- a plan that reads no file asks for none
pub asks-answered : {A T : Type 0} (held : Content) (S : A → T → Type 0) (plan : Plan A)
    (result : Result T Stop) (told : Asks) → AnswersPlan S plan result
    → AsksOf (is_cut_short result) (asks_in held plan) told told
asks-answered held S plan (Err stop.Memory) told is = asks-none_yet (asks_in held plan) told
asks-answered held S (gives x) (Ok made) told is = asks-nothing false told
asks-answered held S (gives x) (Err stop.Usage) told is = absurd is
asks-answered held S (gives x) (Err (stop.Says said)) told is = absurd is
asks-answered held S (gives x) (Err stop.Read) told is = absurd is
asks-answered held S (refuses meant) (Ok made) told is = absurd is
asks-answered held S (refuses meant) (Err stop.Usage) told is = absurd is
asks-answered held S (refuses meant) (Err (stop.Says said)) told is = asks-nothing false told
asks-answered held S (refuses meant) (Err stop.Read) told is = absurd is
asks-answered held S (reads name most long next) (Ok made) told is = absurd is
asks-answered held S (reads name most long next) (Err stop.Usage) told is = absurd is
asks-answered held S (reads name most long next) (Err (stop.Says said)) told is = absurd is
asks-answered held S (reads name most long next) (Err stop.Read) told is = absurd is

-- what a plan asks for stands first in what it asks for with another behind it
pub asks-front : {A B : Type 0} (held : Content) (plan : Plan A) (next : A → Plan B)
    → (more : List Ask) × (asks_in held (plan >>= next) ≡ asks_in held plan ++ more)
unfolding ◌>>=◌
asks-front held (gives x) next = (asks_in held (next x), refl)
asks-front held (refuses said) next = ([], refl)
asks-front held (reads name most long first) next =
    let bytes = contents held name in
    let rest = asks-front held (first bytes) next in
    elim (nat_lt most (length bytes)) as
    (λ t. (more : List Ask) × (((name, most) ∷ cond t [] (asks_in held (first bytes >>= next)))
    ≡ ((name, most) ∷ cond t [] (asks_in held (first bytes))) ++ more)) [
      | true ↦ ([], refl)
      | false ↦ (rest.0, ap (λ (l : List Ask). (name, most) ∷ l) rest.1)
    ]

-- and what only makes another thing of it asks for no more
pub asks-gives : {A B : Type 0} (held : Content) (plan : Plan A) (f : A → B)
    → asks_in held (plan >>= (λ x. gives (f x))) ≡ asks_in held plan
unfolding ◌>>=◌
asks-gives held (gives x) f = refl
asks-gives held (refuses said) f = refl
asks-gives held (reads name most long first) f =
    let bytes = contents held name in
    ap (λ (l : List Ask). (name, most) ∷ cond (nat_lt most (length bytes)) [] l)
    (asks-gives held (first bytes) f)

module _ (held : Content) (P : List ℕ → Type 0) where
  -- a plan behind one that refused asks for no more
  asks-said : {A B T : Type 0} (S : A → T → Type 0) (plan : Plan A) (next : A → Plan B)
      (said : Line) → ComesOf {T = T} (Some held) P S plan (Err (stop.Says said))
      → asks_in held (plan >>= next) ≡ asks_in held plan
  unfolding ◌>>=◌
  asks-said S (gives x) next said comes = absurd comes
  asks-said S (refuses meant) next said comes = refl
  asks-said S (reads name most long first) next said (inl (is, many)) =
      rw (lt-ltb most (length (contents held name)) (many held refl)) refl
  asks-said S (reads name most long first) next said (inr (bytes, few, is, then)) =
      subst (λ (b : List ℕ).
      ((name, most) ∷ cond (nat_lt most (length b)) [] (asks_in held (first b >>= next)))
      ≡ (name, most) ∷ cond (nat_lt most (length b)) [] (asks_in held (first b)))
      (sym (is held refl))
      (rw (le-ltb most (length bytes) few)
      (ap (λ (l : List Ask). (name, most) ∷ l) (asks-said S (first bytes) next said then)))

  -- so it is where it was stopped, or cut short
  pub asks-stopped : (T U : Type 0) {A B : Type 0} (S : A → T → Type 0) (plan : Plan A)
      (next : A → Plan B) (why : Stop) (old new : Asks)
      → ComesOf {T = T} (Some held) P S plan (Err why)
      → AsksOf (is_cut_short {T = T} (Err why)) (asks_in held plan) old new
      → AsksOf (is_cut_short {T = U} (Err why)) (asks_in held (plan >>= next)) old new
  asks-stopped T U S plan next stop.Usage old new comes asks =
      absurd (no_usage (Some held) P S plan comes)
  asks-stopped T U S plan next (stop.Says said) old new comes asks =
      rw (asks-said S plan next said comes) asks
  asks-stopped T U S plan next stop.Read old new comes asks =
      let front = asks-front held plan next in
      rw front.1 (asks-within (asks_in held plan) front.0 old new asks)
  asks-stopped T U S plan next stop.Memory old new comes asks =
      let front = asks-front held plan next in
      rw front.1 (asks-within (asks_in held plan) front.0 old new asks)

  -- what a plan asks for whose second part stands behind a first that gave something
  pub asks-then : {A B T : Type 0} (S : A → T → Type 0) (plan : Plan A) (next : A → Plan B)
      (made : T) (comes : ComesOf (Some held) P S plan (Ok made))
      → asks_in held (plan >>= next)
      ≡ asks_in held plan ++ asks_in held (next (given (Some held) P S plan made comes).0)
  unfolding ◌>>=◌ given
  asks-then S (gives x) next made comes = refl
  asks-then S (refuses said) next made comes = absurd comes
  asks-then S (reads name most long first) next made (bytes, few, is, then) =
      let last = (given (Some held) P S (first bytes) made then).0 in
      subst (λ (b : List ℕ).
      ((name, most) ∷ cond (nat_lt most (length b)) [] (asks_in held (first b >>= next)))
      ≡ ((name, most) ∷ cond (nat_lt most (length b)) [] (asks_in held (first b)))
      ++ asks_in held (next last))
      (sym (is held refl))
      (rw (le-ltb most (length bytes) few)
      (ap (λ (l : List Ask). (name, most) ∷ l) (asks-then S (first bytes) next made then)))

-- nothing is asked for behind it
pub asks-alone : (cut : Bool) (all more : List Ask) (old new : Asks) → more ≡ []
    → AsksOf false all old new → AsksOf cut (all ++ more) old new
asks-alone cut all more old new none asks =
    asks-cut cut (all ++ more) old new (subst (λ (l : List Ask). AsksOf false l old new)
    (sym (ap (λ (l : List Ask). all ++ l) none ∙ append-nil all)) asks)
