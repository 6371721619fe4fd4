-- Numbers in ascending order, each once, are told by which they are.
use Rattle.std.proofs.Common.{ℕ, zero, suc, ◌<◌, ◌≤◌, ◌≡◌, ◌==◌, true, false, cond, List, [], ◌∷◌, refl, sym, subst, ap₂, arith}
use Rattle.std.specs.Prelude.{nat_lt, Contains}
use Rattle.std.specs.List.{AllByRecursion}
use Rattle.std.proofs.lemmas.Bool.{eqb-true}
use Rattle.ssz_proof.specs.Descent.{IsAscending}
use Rattle.ssz_proof.proofs.Searching.{IsAscending-from}
use Rattle.ssz_prove.specs.Proved.{SameNumbers}
use Rattle.ssz_machine.specs.Asking.{with_number, ascending}
use Rattle.ssz_machine.proofs.Ascents.{all-at, ascends, ascending-has}

has-first : (n : ℕ) (ns : List ℕ) → Contains (n ∷ ns) n
has-first n ns = (0, omega arith, refl)

has-later : (m n : ℕ) (ns : List ℕ) → Contains ns n → Contains (m ∷ ns) n
has-later m n ns has = (suc has.0, omega (arith, has.1), has.2)

-- behind the same first number
behind-first : (m g : ℕ) (ms ns : List ℕ) → (Contains ms g → Contains ns g)
    → Contains (m ∷ ms) g → Contains (m ∷ ns) g
behind-first m g ms ns so (zero, below, is) = (0, omega arith, is)
behind-first m g ms ns so (suc k, below, is) = has-later m g ns (so (k, omega arith, is))

-- each number of a list is among them

has-with : (n : ℕ) (ns : List ℕ) → Contains (with_number n ns) n
has-with n [] = has-first n []
has-with n (m ∷ ms) =
    elim (n == m) as (λ same. (n == m) ≡ same → Contains
    (cond same (m ∷ ms) (cond (nat_lt n m) (n ∷ m ∷ ms) (m ∷ with_number n ms))) n) [
      | true ↦ λ same. (0, omega arith, sym (eqb-true n m same))
      | false ↦ λ _. elim (nat_lt n m) as
          (λ less. Contains (cond less (n ∷ m ∷ ms) (m ∷ with_number n ms)) n) [
            | true ↦ has-first n (m ∷ ms)
            | false ↦ has-later m n (with_number n ms) (has-with n ms)
          ]
    ] refl

keeps-with : (n g : ℕ) (ns : List ℕ) → Contains ns g → Contains (with_number n ns) g
keeps-with n g [] has = has-later n g [] has
keeps-with n g (m ∷ ms) has =
    elim (n == m) as (λ same. Contains
    (cond same (m ∷ ms) (cond (nat_lt n m) (n ∷ m ∷ ms) (m ∷ with_number n ms))) g) [
      | true ↦ has
      | false ↦ elim (nat_lt n m) as
          (λ less. Contains (cond less (n ∷ m ∷ ms) (m ∷ with_number n ms)) g) [
            | true ↦ has-later n g (m ∷ ms) has
            | false ↦ behind-first m g ms (with_number n ms) (keeps-with n g ms) has
          ]
    ]

has-ascending : (ns : List ℕ) (g : ℕ) → Contains ns g → Contains (ascending ns) g
has-ascending [] g has = has
has-ascending (n ∷ ns) g (zero, below, is) =
    subst (λ (k : ℕ). Contains (with_number n (ascending ns)) k) is (has-with n (ascending ns))
has-ascending (n ∷ ns) g (suc k, below, is) =
    keeps-with n g (ascending ns) (has-ascending ns g (k, omega arith, is))

-- what holds of each number that is there
pub all-there : (P : ℕ → Type 0) (ns : List ℕ) → ((g : ℕ) → Contains ns g → P g)
    → AllByRecursion P ns
all-there P [] each = tt
all-there P (n ∷ ns) each =
    (each n (has-first n ns), all-there P ns (λ g has. each g (has-later n g ns has)))

-- the first of numbers that ascend is the least
least : (n : ℕ) (ns : List ℕ) (g : ℕ) → IsAscending (n ∷ ns) → Contains (n ∷ ns) g → n ≤ g
least n ns g up (zero, below, is) = let e : n ≡ g = is in omega arith
least n ns g up (suc k, below, is) =
    let above = all-at (λ later. n < later) ns g up.0 (k, omega arith, is) in omega arith

beyond : (n : ℕ) (ns : List ℕ) (g : ℕ) → n < g → Contains (n ∷ ns) g → Contains ns g
beyond n ns g above (zero, below, is) = let e : n ≡ g = is in absurd (omega arith)
beyond n ns g above (suc k, below, is) = (k, omega arith, is)

into-tail : (n m : ℕ) (ns ms : List ℕ) → n ≡ m → IsAscending (n ∷ ns)
    → ((g : ℕ) → Contains (n ∷ ns) g → Contains (m ∷ ms) g) → (g : ℕ) → Contains ns g
    → Contains ms g
into-tail n m ns ms same up into g has =
    let above : n < g = all-at (λ later. n < later) ns g up.0 has in
    beyond m ms g (omega arith) (into g (has-later n g ns has))

-- two ascending lists with the same numbers
same-ascending : (ns ms : List ℕ) → IsAscending ns → IsAscending ms → SameNumbers ns ms → ns ≡ ms
same-ascending [] [] up also same = refl
same-ascending [] (m ∷ ms) up also same =
    let none = same.back m (has-first m ms) in absurd (omega (arith, none.1))
same-ascending (n ∷ ns) [] up also same =
    let none = same.into n (has-first n ns) in absurd (omega (arith, none.1))
same-ascending (n ∷ ns) (m ∷ ms) up also same =
    let first : n ≡ m = omega (
      arith,
      least m ms n also (same.into n (has-first n ns)),
      least n ns m up (same.back m (has-first m ms)),
    ) in
    ap₂ (λ k ks. k ∷ ks) first (same-ascending ns ms up.1 also.1 (record {
      into = into-tail n m ns ms first up same.into;
      back = into-tail m n ms ns (sym first) also same.back;
    }))

-- such a list of the numbers of another is the one of the machine
pub ascending-once : (ns asked : List ℕ) → IsAscending ns → AllByRecursion (λ n. 0 < n) asked
    → SameNumbers ns asked → ns ≡ ascending asked
ascending-once ns asked up positive same =
    same-ascending ns (ascending asked) up
    (IsAscending-from 0 (ascending asked) (ascends asked positive)) (record {
      into = λ g has. has-ascending asked g (same.into g has);
      back = λ g has. same.back g (ascending-has asked g has);
    })
