-- Values that stay values of their type when their elements, bytes, bits or inner value change.
use Rattle.std.proofs.Common.{ℕ, zero, suc, ◌≡◌, ◌-◌, ◌<◌, ◌≤◌, Bool, true, false, cond, ltb, List, [], ◌∷◌, ◌++◌, length, map, set, take, Vec, Global, Result, Ok, Err, refl, sym, ap, subst, ◌∙◌, arith, ltb-true}
use Rattle.std.specs.List.{AllByRecursion}
use Rattle.std.proofs.lemmas.List.{length-map, length-append, length-take, length-set}
use Rattle.ssz_schema.specs.width.Width.TheVariants.{W8}
use Rattle.ssz_schema.specs.Types.{SszType, uint, list, bitlist}
use Rattle.ssz_bytes.specs.Bytes.{IsBytes}
use Rattle.ssz_value.specs.declared.value.Value.{Value}
use Rattle.ssz_value.specs.declared.value.Value.TheVariants.{Bytes, Seq, Bits}
use Rattle.ssz_value.specs.declared.edit_fault.EditFault.{EditFault}
use Rattle.ssz_value.specs.declared.edit_fault.EditFault.TheVariants.{Absent, Full, Empty}
use Rattle.ssz_value.specs.Values.{number, Fits}
use Rattle.ssz_value.specs.Standing.{value_of, is_byte, IsValue}
use Rattle.ssz_value.specs.Shapes.{part_count_of, ElementsFit, IsSequence}
use Rattle.ssz_value.proofs.ValueLemmas.{seq_is, bytes_are, bits_are}
use Rattle.ssz_value.proofs.Sequences.{items-values}
use Rattle.ssz_value.proofs.FormLemmas.{list_sequence, seq_elements, bytes_elements}
use Rattle.ssz_value.proofs.FitLemmas.{list_value, list_parts, seq_sequence, seq_no_byte, bytes_sequence}
use Rattle.ssz_plain.specs.Making.{ChangeLeaves, one_more, one_less, put_in, put_at}
use Rattle.ssz_plain.proofs.Alike.{set_all}

-- the parts of elements and of bytes are counted

pub seq_count : (parts : Vec Value Global)
    → part_count_of (value_of (Seq parts)) ≡ length parts.items
seq_count parts = ap part_count_of (seq_is parts)
    ∙ ap length (items-values (map value_of parts.items)) ∙ length-map parts.items value_of

pub bytes_count : (run : List ℕ) → part_count_of (value_of (Bytes run)) ≡ length run
bytes_count run = ap part_count_of (bytes_are run)
    ∙ ap length (items-values (map number run)) ∙ length-map run number

-- elements that stand one by one are of another type than uint8
other_than_byte : (elem : SszType) (parts : Vec Value Global) → IsSequence elem (Seq parts)
    → is_byte elem ≡ false
other_than_byte elem parts h = go (is_byte elem) refl
  where
    go : (byte : Bool) → is_byte elem ≡ byte → is_byte elem ≡ false
    go true e = absurd (seq_no_byte elem parts e h)
    go false e = e

-- other elements of the type stand one by one as the old ones did
pub seq_again : (elem : SszType) (old new : Vec Value Global) → IsSequence elem (Seq old)
    → AllByRecursion (IsValue elem) new.items → IsSequence elem (Seq new)
seq_again elem old new h all = seq_sequence elem new (other_than_byte elem old h) all

-- each is a byte
abbrev pub AllBytes : List ℕ → Type 0
AllBytes run = AllByRecursion (λ b. b < 256) run

all_bytes : (run : List ℕ) → AllByRecursion (Fits (uint W8)) (map number run) → AllBytes run
all_bytes [] h = tt
all_bytes (b ∷ run) h = (h.0, all_bytes run h.1)

is_bytes : (run : List ℕ) → AllBytes run → IsBytes run
is_bytes [] h i = omega arith
is_bytes (b ∷ run) h zero = h.0
is_bytes (b ∷ run) h (suc i) = is_bytes run h.1 i

pub bytes_within : (elem : SszType) (run : List ℕ) → IsSequence elem (Bytes run) → AllBytes run
bytes_within elem run h =
    let fit : ElementsFit (uint W8) (value_of (Bytes run)) =
    subst (λ (t : SszType). ElementsFit t (value_of (Bytes run)))
    (bytes_elements elem run h) h.fit in
    all_bytes run
    (subst (AllByRecursion (Fits (uint W8))) (items-values (map number run))
    (subst (ElementsFit (uint W8)) (bytes_are run) fit))

pub bytes_again : (elem : SszType) (old new : List ℕ) → IsSequence elem (Bytes old)
    → AllBytes new → IsSequence elem (Bytes new)
bytes_again elem old new h all =
    bytes_sequence elem new (ap is_byte (bytes_elements elem old h)) (is_bytes new all)

-- lists

pub list_seq : (elem : SszType) (limit : ℕ) (old new : Vec Value Global)
    → IsValue (list elem limit) (Seq old)
    → AllByRecursion (IsValue elem) new.items → length new.items ≤ limit
    → IsValue (list elem limit) (Seq new)
list_seq elem limit old new h all few =
    list_value elem limit (Seq new) (omega (arith, seq_count new))
    (seq_again elem old new (list_sequence elem limit (Seq old) h) all)

pub list_bytes : (elem : SszType) (limit : ℕ) (old new : List ℕ)
    → IsValue (list elem limit) (Bytes old) → AllBytes new → length new ≤ limit
    → IsValue (list elem limit) (Bytes new)
list_bytes elem limit old new h all few =
    list_value elem limit (Bytes new) (omega (arith, bytes_count new))
    (bytes_again elem old new (list_sequence elem limit (Bytes old) h) all)

pub list_bits : (limit : ℕ) (new : List Bool) → length new ≤ limit
    → IsValue (bitlist limit) (Bits new)
list_bits limit new few =
    record { fits = subst (Fits (bitlist limit)) (sym (bits_are new)) few; formed = tt }

-- the elements of a list, and how many

pub list_seq_parts : (elem : SszType) (limit : ℕ) (parts : Vec Value Global)
    → IsValue (list elem limit) (Seq parts)
    → AllByRecursion (IsValue elem) parts.items × (length parts.items ≤ limit)
list_seq_parts elem limit parts h = (
  seq_elements elem parts (list_sequence elem limit (Seq parts) h),
  omega (arith, seq_count parts, list_parts elem limit (Seq parts) h),
)

pub list_bytes_parts : (elem : SszType) (limit : ℕ) (run : List ℕ)
    → IsValue (list elem limit) (Bytes run) → AllBytes run × (length run ≤ limit)
list_bytes_parts elem limit run h = (
  bytes_within elem run (list_sequence elem limit (Bytes run) h),
  omega (arith, bytes_count run, list_parts elem limit (Bytes run) h),
)

pub bitlist_few : (limit : ℕ) (run : List Bool) → IsValue (bitlist limit) (Bits run)
    → length run ≤ limit
bitlist_few limit run h = subst (Fits (bitlist limit)) (bits_are run) h.fits

-- What one more and one less leave of elements that are all P, as many as the limit at most.

ok_of_cond : {X : Type 0} (test : Bool) (x y : X) (fault : EditFault)
    → cond test (Ok x) (Err fault) ≡ Ok y → (test ≡ true) × (x ≡ y)
ok_of_cond true x y fault e = (refl, cc)
ok_of_cond false x y fault e = absurd cc

ok_of_cond_not : {X : Type 0} (test : Bool) (x y : X) (fault : EditFault)
    → cond test (Err fault) (Ok x) ≡ Ok y → x ≡ y
ok_of_cond_not true x y fault e = absurd cc
ok_of_cond_not false x y fault e = cc

-- nothing is asked of a bit
pub each_bit : (run : List Bool) → AllByRecursion (λ _. Unit {0}) run
each_bit [] = tt
each_bit (b ∷ run) = (tt, each_bit run)

-- what is P in two runs is P in both together
both_all : {X : Type 0} (P : X → Type 0) (xs ys : List X) → AllByRecursion P xs
    → AllByRecursion P ys → AllByRecursion P (xs ++ ys)
both_all P [] ys left right = right
both_all P (x ∷ xs) ys left right = (left.0, both_all P xs ys left.1 right)

less_all : {X : Type 0} (P : X → Type 0) (n : ℕ) (xs : List X) → AllByRecursion P xs
    → AllByRecursion P (take n xs)
less_all P zero xs all = tt
less_all P (suc n) [] all = tt
less_all P (suc n) (x ∷ xs) all = (all.0, less_all P n xs all.1)

pub left_more : {X : Type 0} (P : X → Type 0) (limit : ℕ) (x : X) (xs new : List X)
    (answer : Result Unit EditFault) → AllByRecursion P xs × (length xs ≤ limit) → P x
    → ChangeLeaves true (one_more limit x xs) xs new answer
    → AllByRecursion P new × (length new ≤ limit)
left_more P limit x xs new (Ok done) held h leaves =
    let both = ok_of_cond _ (xs ++ x ∷ []) new Full leaves.tells in
    let room : length xs < limit = ltb-true (length xs) limit both.0 in
    subst (λ (ys : List _). AllByRecursion P ys × (length ys ≤ limit)) both.1
    (both_all P xs (x ∷ []) held.0 (h, tt), omega (arith, length-append xs (x ∷ [])))
left_more P limit x xs new (Err fault) held h leaves =
    subst (λ (ys : List _). AllByRecursion P ys × (length ys ≤ limit)) (sym leaves.kept) held

pub left_less : {X : Type 0} (P : X → Type 0) (limit : ℕ) (xs new : List X)
    (answer : Result Unit EditFault) → AllByRecursion P xs × (length xs ≤ limit)
    → ChangeLeaves false (one_less xs) xs new answer
    → AllByRecursion P new × (length new ≤ limit)
left_less P limit xs new (Ok done) held leaves =
    let is = ok_of_cond_not _ (take (length xs - 1) xs) new Empty leaves.tells in
    subst (λ (ys : List _). AllByRecursion P ys × (length ys ≤ limit)) is
    (less_all P (length xs - 1) xs held.0, omega (arith, length-take (length xs - 1) xs, held.1))
left_less P limit xs new (Err fault) held leaves =
    subst (λ (ys : List _). AllByRecursion P ys × (length ys ≤ limit)) (sym leaves.kept) held

ok_of_put : {X : Type 0} (test : Bool) (i : ℕ) (xs : List X) (x : Result X EditFault) (new : List X)
    → cond test (put_in i xs x) (Err Absent) ≡ Ok new
    → (y : X) × (x ≡ Ok y) × (set xs i y ≡ new)
ok_of_put true i xs (Ok y) new e = (y, refl, cc)
ok_of_put true i xs (Err fault) new e = absurd cc
ok_of_put false i xs x new e = absurd cc

-- what another element i leaves: each is P, and they are as many
pub left_put : {X : Type 0} (P : X → Type 0) (i : ℕ) (x : Result X EditFault) (xs new : List X)
    (answer : Result Unit EditFault) → AllByRecursion P xs → ((y : X) → x ≡ Ok y → P y)
    → ChangeLeaves false (put_at i x xs) xs new answer
    → AllByRecursion P new × (length new ≡ length xs)
left_put P i x xs new (Ok done) all fits leaves =
    let of = ok_of_put (ltb i (length xs)) i xs x new leaves.tells in
    subst (λ (ys : List _). AllByRecursion P ys × (length ys ≡ length xs)) of.2
    (set_all P i xs of.0 all (fits of.0 of.1), length-set xs i of.0)
left_put P i x xs new (Err fault) all fits leaves =
    subst (λ (ys : List _). AllByRecursion P ys × (length ys ≡ length xs)) (sym leaves.kept)
    (all, refl)
