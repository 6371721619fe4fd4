-- Changes of runs of elements, bytes and bits, as changes of the values that they stand for.
use Rattle.std.proofs.Common.{ℕ, zero, suc, ◌≡◌, ◌-◌, Bool, true, false, cond, ltb, eqb, List, [], ◌∷◌, ◌++◌, length, map, set, take, slice_get, Some, None, option_map, Result, Ok, Err, refl, sym, ap, ◌∙◌, arith, le-ltb, ltb-false}
use Rattle.std.proofs.lemmas.Bool.{lt-ltb, ltb-true}
use Rattle.std.specs.Prelude.{OnErr}
use Rattle.std.specs.List.{AllByRecursion}
use Rattle.std.proofs.lemmas.List.{length-map, map-append, map-set}
use Rattle.std.proofs.lemmas.Option.{slice_get-map}
use Rattle.ssz_schema.specs.declared.path.PathStep.TheVariants.{Index}
use Rattle.ssz_schema.specs.Types.{SszType, list, bitlist}
use Rattle.ssz_value.specs.declared.edit_fault.EditFault.{EditFault}
use Rattle.ssz_value.specs.declared.edit_fault.EditFault.TheVariants.{BadPath, Absent, NotThat, Full, Empty, BadSelector, Memory}
use Rattle.ssz_value.specs.Values.{SszValue, truth, sequence, bits, items, values}
use Rattle.ssz_value.specs.Parts.{part_at}
use Rattle.ssz_value.specs.Edits.{Edited, with_more, with_less, given, replaced_at, replaced_in}
use Rattle.ssz_value.proofs.Sequences.{items-values}
use Rattle.ssz_plain.specs.Making.{ChangeTells, ChangeLeaves, one_more, one_less, put_in, put_at}

-- a result with its value turned
abbrev pub turned : {X Y : Type 0} → (X → Y) → Result X EditFault → Result Y EditFault
turned f (Ok x) = Ok (f x)
turned f (Err fault) = Err fault

-- an answer of an edit
abbrev made : {X : Type 0} → X → Result X EditFault
made x = Ok x

turned_cond : {X Y : Type 0} (f : X → Y) (test : Bool) (x : X) (fault : EditFault)
    → turned f (cond test (Ok x) (Err fault)) ≡ cond test (Ok (f x)) (Err fault)
turned_cond f true x fault = refl
turned_cond f false x fault = refl

turned_cond_not : {X Y : Type 0} (f : X → Y) (test : Bool) (x : X) (fault : EditFault)
    → turned f (cond test (Err fault) (Ok x)) ≡ cond test (Err fault) (Ok (f x))
turned_cond_not f true x fault = refl
turned_cond_not f false x fault = refl

-- what an answer tells of one change it tells of another that comes out alike
pub tells_alike : {X Y : Type 0} (may : Bool) (answer : Result Unit EditFault) (now : X) (after : Y)
    (changed : Result X EditFault) (other : Result Y EditFault)
    → (changed ≡ Ok now → other ≡ Ok after)
    → ((fault : EditFault) → changed ≡ Err fault → other ≡ Err fault)
    → ChangeTells may answer now changed → ChangeTells may answer after other
tells_alike true (Ok done) now after changed other ok err h = ok h
tells_alike false (Ok done) now after changed other ok err h = ok h
tells_alike false (Err fault) now after changed other ok err h = err fault h
tells_alike true (Err Memory) now after changed other ok err h = tt
tells_alike true (Err BadPath) now after changed other ok err h = err BadPath h
tells_alike true (Err Absent) now after changed other ok err h = err Absent h
tells_alike true (Err NotThat) now after changed other ok err h = err NotThat h
tells_alike true (Err Full) now after changed other ok err h = err Full h
tells_alike true (Err Empty) now after changed other ok err h = err Empty h
tells_alike true (Err BadSelector) now after changed other ok err h = err BadSelector h

on_err_turned : {X Y : Type 0} (f : X → Y) (answer : Result Unit EditFault) (old now : X)
    → OnErr answer (now ≡ old) → OnErr answer (f now ≡ f old)
on_err_turned f (Ok done) old now h = tt
on_err_turned f (Err fault) old now h = ap f h

-- a change of what a value is made of is one of the value
pub leaves_turned : {X Y : Type 0} (f : X → Y) (may : Bool) (changed : Result X EditFault)
    (old now : X) (answer : Result Unit EditFault) → ChangeLeaves may changed old now answer
    → ChangeLeaves may (turned f changed) (f old) (f now) answer
leaves_turned f may changed old now answer h = record {
  tells = tells_alike may answer now (f now) changed (turned f changed) (λ e. ap (turned f) e)
      (λ fault e. ap (turned f) e) h.tells;
  kept = on_err_turned f answer old now h.kept;
}

-- what wants no memory may want some
pub may_want : {X : Type 0} (may : Bool) (changed : Result X EditFault) (old now : X)
    (answer : Result Unit EditFault) → ChangeLeaves false changed old now answer
    → ChangeLeaves may changed old now answer
may_want false changed old now answer h = h
may_want true changed old now answer h =
    record { tells = go answer h.tells; kept = h.kept }
  where
    go : (answer : Result Unit EditFault) → ChangeTells false answer now changed
        → ChangeTells true answer now changed
    go (Ok done) t = t
    go (Err Memory) t = tt
    go (Err BadPath) t = t
    go (Err Absent) t = t
    go (Err NotThat) t = t
    go (Err Full) t = t
    go (Err Empty) t = t
    go (Err BadSelector) t = t

-- the value of elements, each of which stands for one
abbrev pub alike : {X : Type 0} → (X → SszValue) → List X → SszValue
alike to xs = sequence (values (map to xs))

pub items_alike : {X : Type 0} (to : X → SszValue) (xs : List X)
    → items (values (map to xs)) ≡ map to xs
items_alike to xs = items-values (map to xs)

more_one : {X : Type 0} (to : X → SszValue) (limit : ℕ) (x : X) (xs : List X)
    → cond (ltb (length (items (values (map to xs)))) limit)
    (made (sequence (values (items (values (map to xs)) ++ to x ∷ [])))) (Err Full)
    ≡ cond (ltb (length xs) limit) (Ok (alike to (xs ++ x ∷ []))) (Err Full)
more_one to limit x xs =
    ap (λ (vs : List SszValue). cond (ltb (length vs) limit)
    (made (sequence (values (vs ++ to x ∷ [])))) (Err Full)) (items_alike to xs)
    ∙ ap (λ (n : ℕ). cond (ltb n limit)
    (made (sequence (values (map to xs ++ to x ∷ [])))) (Err Full))
    (length-map xs to)
    ∙ ap (λ (vs : List SszValue). cond (ltb (length xs) limit)
    (made (sequence (values vs))) (Err Full)) (sym (map-append to xs (x ∷ [])))

-- one element more
pub more_alike : {X : Type 0} (to : X → SszValue) (elem : SszType) (limit : ℕ) (x : X)
    (xs : List X)
    → turned (alike to) (one_more limit x xs) ≡ with_more (to x) (list elem limit) (alike to xs)
more_alike to elem limit x xs =
    turned_cond (alike to) (ltb (length xs) limit) (xs ++ x ∷ []) Full
    ∙ sym (more_one to limit x xs)

-- one bit more
pub more_bits : (limit : ℕ) (b : Bool) (bs : List Bool)
    → turned bits (one_more limit b bs) ≡ with_more (truth b) (bitlist limit) (bits bs)
more_bits limit b bs = turned_cond bits (ltb (length bs) limit) (bs ++ b ∷ []) Full

map_less : {X : Type 0} (to : X → SszValue) (n : ℕ) (xs : List X)
    → take n (map to xs) ≡ map to (take n xs)
map_less to zero xs = refl
map_less to (suc n) [] = refl
map_less to (suc n) (x ∷ xs) = ap (λ vs. to x ∷ vs) (map_less to n xs)

-- one element less
pub less_alike : {X : Type 0} (to : X → SszValue) (elem : SszType) (limit : ℕ) (xs : List X)
    → turned (alike to) (one_less xs) ≡ with_less (list elem limit) (alike to xs)
less_alike to elem limit xs =
    turned_cond_not (alike to) (eqb (length xs) 0) (take (length xs - 1) xs) Empty
    ∙ sym (ap (λ (vs : List SszValue). cond (eqb (length vs) 0) (Err Empty)
    (made (sequence (values (take (length vs - 1) vs))))) (items_alike to xs)
    ∙ ap (λ (n : ℕ). cond (eqb n 0) (Err Empty)
    (made (sequence (values (take (n - 1) (map to xs)))))) (length-map xs to)
    ∙ ap (λ (vs : List SszValue). cond (eqb (length xs) 0) (Err Empty)
    (made (sequence (values vs)))) (map_less to (length xs - 1) xs))

-- element i of a sequence
pub item_alike : {X : Type 0} (to : X → SszValue) (xs : List X) (i : ℕ)
    → part_at (Index i) (alike to xs) ≡ option_map to (slice_get xs i)
item_alike to xs i =
    ap (λ (vs : List SszValue). slice_get vs i) (items_alike to xs) ∙ slice_get-map to xs i

-- another element i
pub replaced_alike : {X : Type 0} (to : X → SszValue) (xs : List X) (i : ℕ) (x : X)
    → replaced_at (Index i) (alike to xs) (to x) ≡ Ok (alike to (set xs i x))
replaced_alike to xs i x =
    ap (λ (vs : List SszValue). made (sequence (values (set vs i (to x)))))
    (items_alike to xs)
    ∙ ap (λ (vs : List SszValue). made (sequence (values vs)))
    (sym (map-set to xs i x))

-- inside a run, or past its end
data Within {X : Type 0} (xs : List X) (i : ℕ) : Type 0 where
  within : (x : X) → slice_get xs i ≡ Some x → ltb i (length xs) ≡ true → Within xs i
  past : slice_get xs i ≡ None → ltb i (length xs) ≡ false → Within xs i

within_or_past : {X : Type 0} (xs : List X) (i : ℕ) → Within xs i
within_or_past [] i = past refl (le-ltb i 0 (omega arith))
within_or_past (x ∷ xs) zero = within x refl (lt-ltb 0 (suc (length xs)) (omega arith))
within_or_past (x ∷ xs) (suc i) = elim (within_or_past xs i) [
  | within y e h ↦ within y e
      (lt-ltb (suc i) (suc (length xs)) (omega (arith, ltb-true i (length xs) h)))
  | past e h ↦ past e (le-ltb (suc i) (suc (length xs)) (omega (arith, ltb-false i (length xs) h)))
]

put_turned : {X : Type 0} (f : List X → SszValue) (to : X → SszValue) (xs : List X) (i : ℕ)
    (new : Result X EditFault) (edited : SszValue → Edited)
    → ((x : X) → replaced_at (Index i) (f xs) (to x) ≡ Ok (f (set xs i x)))
    → (w : SszValue) → turned to new ≡ edited w
    → turned f (put_in i xs new) ≡ replaced_in (Index i) (f xs) (edited w)
put_turned f to xs i (Ok x) edited replaced w e =
    sym (replaced x) ∙ ap (replaced_in (Index i) (f xs)) e
put_turned f to xs i (Err fault) edited replaced w e =
    ap (replaced_in (Index i) (f xs)) e

-- an edit of element i that gives the same of each element
pub put_alike : {X : Type 0} (f : List X → SszValue) (to : X → SszValue) (xs : List X) (i : ℕ)
    (new : Result X EditFault) (edited : SszValue → Edited)
    → part_at (Index i) (f xs) ≡ option_map to (slice_get xs i)
    → ((x : X) → replaced_at (Index i) (f xs) (to x) ≡ Ok (f (set xs i x)))
    → ((x : X) → turned to new ≡ edited (to x))
    → turned f (put_at i new xs)
    ≡ given (part_at (Index i) (f xs)) Absent (λ w. replaced_in (Index i) (f xs) (edited w))
put_alike f to xs i new edited item replaced e = elim (within_or_past xs i) [
  | within x found h ↦
      ap (λ b. turned f (cond b (put_in i xs new) (Err Absent))) h
      ∙ put_turned f to xs i new edited replaced (to x) (e x)
      ∙ sym (ap (λ o. given o Absent (λ w. replaced_in (Index i) (f xs) (edited w)))
      (item ∙ ap (option_map to) found))
  | past none h ↦
      ap (λ b. turned f (cond b (put_in i xs new) (Err Absent))) h
      ∙ sym (ap (λ o. given o Absent (λ w. replaced_in (Index i) (f xs) (edited w)))
      (item ∙ ap (option_map to) none))
]

-- what holds of each element of a run holds when one is put in

pub set_all : {X : Type 0} (P : X → Type 0) (i : ℕ) (xs : List X) (x : X) → AllByRecursion P xs
    → P x → AllByRecursion P (set xs i x)
set_all P i [] x all h = tt
set_all P zero (y ∷ xs) x all h = (h, all.1)
set_all P (suc i) (y ∷ xs) x all h = (all.0, set_all P i xs x all.1 h)
