-- In a weave a writer's own lines are those of its script, in order.
use Rattle.std.proofs.Common.{ℕ, zero, suc, ◌+◌, ◌<◌, ◌≡◌, ◌==◌, true, false, List, [], ◌∷◌, ◌++◌, set, drop, get_or, refl, sym, ap, ap₂, ◌∙◌, arith}
use Rattle.std.proofs.lemmas.Bool.Decides.{nat_tests, Decides-eqb}
use Rattle.std.proofs.lemmas.Bool.{true≢false}
use Rattle.std.proofs.lemmas.List.{append-nil, get_or-set_other}
use Rattle.std.proofs.lemmas.List.Elements.{filter-append}
use Rattle.ssz_machine.specs.Machine.{Line}
use Rattle.ssz_machine.specs.Plays.{says, all_of, is_own, next_of, own, rest_from, woven}
use Rattle.ssz_machine.proofs.Alone.{itself}

own_all : (writer : ℕ) (script : List Line)
    → own writer (all_of writer script) ≡ all_of writer script
own_all writer [] = refl
own_all writer (line ∷ script) =
    rw (itself writer) (ap (λ rest. says writer line ∷ rest) (own_all writer script))

own_none : (writer other : ℕ) (script : List Line) → (writer == other) ≡ false
    → own writer (all_of other script) ≡ []
own_none writer other [] apart = refl
own_none writer other (line ∷ script) apart = rw apart (own_none writer other script apart)

differs : (writer n k : ℕ) → writer ≡ n + suc k → (writer == n) ≡ false
differs writer n k is = grind (arith, nat_tests)

below : (writer n : ℕ) → writer < n → (writer == n) ≡ false
below writer n less = grind (arith, nat_tests)

-- the rest has none of a writer before its first
rest_below : (writer n : ℕ) (scripts : List (List Line)) → writer < n
    → own writer (rest_from n scripts) ≡ []
rest_below writer n [] less = refl
rest_below writer n (script ∷ scripts) less =
    filter-append (is_own writer) (all_of n script) (rest_from (n + 1) scripts)
    ∙ ap₂ ◌++◌ (own_none writer n script (below writer n less))
    (rest_below writer (n + 1) scripts (omega arith))

-- and of any other those that are left of its script
rest_own : (writer n k : ℕ) (scripts : List (List Line)) → writer ≡ n + k
    → own writer (rest_from n scripts) ≡ all_of writer (get_or scripts k [])
rest_own writer n k [] is = refl
rest_own writer n zero (script ∷ scripts) is =
    let same : writer ≡ n = omega arith in
    filter-append (is_own writer) (all_of n script) (rest_from (n + 1) scripts)
    ∙ ap₂ ◌++◌
    (ap (λ other. own writer (all_of other script)) (sym same) ∙ own_all writer script)
    (rest_below writer (n + 1) scripts (omega arith))
    ∙ append-nil (all_of writer script)
rest_own writer n (suc k) (script ∷ scripts) is =
    filter-append (is_own writer) (all_of n script) (rest_from (n + 1) scripts)
    ∙ ap₂ ◌++◌ (own_none writer n script (differs writer n k is))
    (rest_own writer (n + 1) k scripts (omega arith))

-- a writer's line, and what is left of its script
next_own : (writer : ℕ) (script : List Line)
    → own writer (next_of writer script) ++ all_of writer (drop 1 script) ≡ all_of writer script
next_own writer [] = refl
next_own writer (line ∷ script) = rw (itself writer) refl

next_none : (writer other : ℕ) (script : List Line) → (writer == other) ≡ false
    → own writer (next_of other script) ≡ []
next_none writer other [] apart = refl
next_none writer other (line ∷ script) apart = rw apart refl

set_drop : (scripts : List (List Line)) (i : ℕ)
    → get_or (set scripts i (drop 1 (get_or scripts i []))) i [] ≡ drop 1 (get_or scripts i [])
set_drop [] i = refl
set_drop (script ∷ scripts) zero = refl
set_drop (script ∷ scripts) (suc i) = set_drop scripts i

pub own_script : (writer : ℕ) (order : List ℕ) (scripts : List (List Line))
    → own writer (woven order scripts) ≡ all_of writer (get_or scripts writer [])
own_script writer [] scripts = rest_own writer 0 writer scripts (omega arith)
own_script writer (other ∷ order) scripts =
    filter-append (is_own writer) (next_of other script) (woven order left)
    ∙ ap (λ rest. own writer (next_of other script) ++ rest) (own_script writer order left)
    ∙ (elim (writer == other) as (λ b. (writer == other) ≡ b
    → own writer (next_of other script) ++ all_of writer (get_or left writer [])
    ≡ all_of writer (get_or scripts writer [])) [
      | true ↦ λ is. mine ((Decides-eqb writer other).0 is)
      | false ↦ λ apart. ap₂ ◌++◌ (next_none writer other script apart)
          (ap (all_of writer) (get_or-set_other scripts other writer (drop 1 script) []
          (λ same. true≢false (sym ((Decides-eqb writer other).1 same) ∙ apart))))
    ] refl)
  where
    script : List Line
    script = get_or scripts other []

    left : List (List Line)
    left = set scripts other (drop 1 script)

    mine : writer ≡ other
        → own writer (next_of other script) ++ all_of writer (get_or left writer [])
        ≡ all_of writer (get_or scripts writer [])
    mine same =
        ap (λ who. own writer (next_of who (get_or scripts who []))
        ++ all_of writer (get_or (set scripts who (drop 1 (get_or scripts who []))) writer []))
        (sym same)
        ∙ ap (λ lines. own writer (next_of writer (get_or scripts writer []))
        ++ all_of writer lines) (set_drop scripts writer)
        ∙ next_own writer (get_or scripts writer [])
