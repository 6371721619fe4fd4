-- The marks of a weave tell its writers apart.
use Rattle.std.proofs.Common.{ℕ, ◌≡◌, ◌<◌, ◌≤◌, ◌==◌, true, false, cond, List, [], ◌∷◌, ◌++◌, length, drop, refl, sym, ap, ◌∙◌, subst, arith, append_assoc}
use Rattle.std.specs.Prelude.{codes, decimal, nat_eq}
use Rattle.std.specs.Char.{digit_value}
use Rattle.std.specs.List.{starts_with}
use Rattle.std.specs.Str.Parse.{AllDigits}
use Rattle.std.proofs.lemmas.Bool.{true≢false}
use Rattle.std.proofs.lemmas.Bool.Decides.{nat_tests, Decides-eqb}
use Rattle.std.proofs.lemmas.Fmt.{decimal_injective, decimal_is_IsNumeral}
use Rattle.std.proofs.lemmas.Slice.Eq.{starts_is}
use Rattle.std.proofs.lemmas.Str.Parse.{digit_from_value}
use Rattle.ssz_machine.specs.Plays.{base_writer, mark}

-- what stands before the first colon
abbrev before_colon : List ℕ → List ℕ
before_colon [] = []
before_colon (b ∷ text) = cond (b == 58) [] (b ∷ before_colon text)

no_colon : (b : ℕ) → digit_value b < 10 → (b == 58) ≡ false
no_colon b digit = let range = digit_from_value b digit in grind (arith, nat_tests)

before_digits : (digits rest : List ℕ) → AllDigits 10 digits
    → before_colon (digits ++ 58 ∷ rest) ≡ digits
before_digits [] rest all = refl
before_digits (b ∷ digits) rest all =
    rw (no_colon b all.0) (ap (λ text. b ∷ text) (before_digits digits rest all.1))

are_digits : (n : ℕ) → n ≤ base_writer → AllDigits 10 (decimal n)
are_digits n few = (decimal_is_IsNumeral n (omega arith)).0.1

-- a mark without its colon
abbrev name_of : ℕ → List ℕ
name_of writer = cond (writer == base_writer) (codes "base") (decimal writer)

marks_name : (writer : ℕ) (rest : List ℕ) → writer ≤ base_writer
    → before_colon (mark writer ++ rest) ≡ name_of writer
marks_name writer rest few =
    elim (writer == base_writer) as
    (λ b. before_colon (cond b (codes "base: ") (decimal writer ++ codes ": ") ++ rest)
    ≡ cond b (codes "base") (decimal writer)) [
      | true ↦ refl
      | false ↦ ap before_colon (append_assoc (decimal writer) (codes ": ") rest)
          ∙ before_digits (decimal writer) (32 ∷ rest) (are_digits writer few)
    ]

no_digits : (n : ℕ) → n ≤ base_writer → codes "base" ≡ decimal n → ⊥
no_digits n few same =
    let digits = subst (AllDigits 10) (sym same) (are_digits n few) in
    let range = digit_from_value 98 digits.0 in
    absurd (omega arith)

names_differ : (v w : ℕ) → v ≤ base_writer → w ≤ base_writer → name_of v ≡ name_of w → v ≡ w
names_differ v w few less =
    elim (v == base_writer) as (λ a. (v == base_writer) ≡ a
    → cond a (codes "base") (decimal v) ≡ name_of w → v ≡ w) [
      | true ↦ λ first. elim (w == base_writer) as (λ b. (w == base_writer) ≡ b
          → codes "base" ≡ cond b (codes "base") (decimal w) → v ≡ w) [
            | true ↦ λ second same.
                (Decides-eqb v base_writer).0 first ∙ sym ((Decides-eqb w base_writer).0 second)
            | false ↦ λ second same. absurd (no_digits w less same)
          ] refl
      | false ↦ λ first. elim (w == base_writer) as (λ b. (w == base_writer) ≡ b
          → decimal v ≡ cond b (codes "base") (decimal w) → v ≡ w) [
            | true ↦ λ second same. absurd (no_digits v few (sym same))
            | false ↦ λ second same.
                decimal_injective v w (omega arith) (omega arith) same
          ] refl
    ] refl

-- a line of one writer begins with the mark of that writer, and with no other
pub marks_tell : (v w : ℕ) (rest : List ℕ) → v ≤ base_writer → w ≤ base_writer
    → starts_with nat_eq (mark v ++ rest) (mark w) ≡ (w == v)
marks_tell v w rest few less =
    elim (w == v) as
    (λ b. (w == v) ≡ b → starts_with nat_eq (mark v ++ rest) (mark w) ≡ b) [
      | true ↦ λ is. (begins w (mark v ++ rest)).1 rest
          (ap (λ writer. mark writer ++ rest) (sym ((Decides-eqb w v).0 is)))
      | false ↦ λ apart. elim (starts_with nat_eq (mark v ++ rest) (mark w)) as
          (λ b. starts_with nat_eq (mark v ++ rest) (mark w) ≡ b → b ≡ false) [
            | true ↦ λ starts. absurd (true≢false (sym ((Decides-eqb w v).1
                (sym (names_differ v w few less (same_name starts)))) ∙ apart))
            | false ↦ λ starts. refl
          ] refl
    ] refl
  where
    begins : (writer : ℕ) (line : List ℕ)
        → (starts_with nat_eq line (mark writer) ≡ true
        → line ≡ mark writer ++ drop (length (mark writer)) line)
        × ((more : List ℕ) → line ≡ mark writer ++ more
        → starts_with nat_eq line (mark writer) ≡ true)
    begins writer line = starts_is Decides-eqb line (mark writer)
        (starts_with nat_eq line (mark writer)) refl

    same_name : starts_with nat_eq (mark v ++ rest) (mark w) ≡ true → name_of v ≡ name_of w
    same_name starts =
        sym (marks_name v rest few)
        ∙ ap before_colon ((begins w (mark v ++ rest)).0 starts)
        ∙ marks_name w (drop (length (mark w)) (mark v ++ rest)) less
