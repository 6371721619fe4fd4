-- What a walk has found is the front of the helper indices.
use Rattle.std.proofs.Common.{◌≡◌, ◌≢◌, ℕ, suc, ◌+◌, ◌<◌, ◌≤◌, Bool, true, false, ◌||◌, eqb, List, [], ◌∷◌, ◌++◌, length, take, drop, get_or, refl, sym, ap, ap₂, ◌∙◌, arith}
use Rattle.std.specs.Prelude.{IsTrue, ◌↔◌, IfOk, Result, Ok, Err}
use Rattle.std.specs.declared.alloc.AllocError.{AllocError}
use Rattle.std.proofs.Math.Seq.{drop-cons, take-suc}
use Rattle.std.proofs.lemmas.Bool.{or_right, ne_eqb, false≢true}
use Rattle.std.proofs.lemmas.List.{length-append, append_assoc, take-append-drop}
use Rattle.ssz_gindex.specs.Helpers.{helpers}
use Rattle.ssz_gindex.specs.Laws.{IsDescending, contains}
use Rattle.ssz_gindex.specs.Faults.{AreHelpers}
use Rattle.ssz_gindex.specs.Walk.{IsUpper, WalksHelpers, Met}
use Rattle.ssz_gindex.proofs.HelperLists.{lacks, at_most_first, has_first, contains-helpers, IsDescending-helpers}

-- a descending list begins with another one that has just those of its numbers that are not below
-- a bound
front_of : (bound : ℕ) (xs ys : List ℕ) → IsDescending xs → IsDescending ys
    → ((k : ℕ) → contains xs k ≡ true → (bound ≤ k) × (contains ys k ≡ true))
    → ((k : ℕ) → contains ys k ≡ true → bound ≤ k → contains xs k ≡ true)
    → (more : List ℕ) × (ys ≡ xs ++ more)
front_of bound [] ys down all there back = (ys, refl)
front_of bound (x ∷ xs) [] down all there back = absurd (false≢true (there x (has_first x xs)).1)
front_of bound (x ∷ xs) (y ∷ ys) down all there back =
    let first = there x (has_first x xs) in
    let above : x ≤ y = at_most_first y ys x all first.1 in
    let below : y ≤ x = at_most_first x xs y down
    (back y (has_first y ys) (omega (arith, above, first.0))) in
    let same : x ≡ y = omega arith in
    let rest = front_of bound xs ys down.1 all.1
    (λ k e. (let is = there k (or_right (eqb x k) (contains xs k) e) in (
      is.0,
      later (eqb y k) (contains ys k) is.1
          (ne_eqb y k (λ f. false≢true
          (sym (lacks x xs down.0) ∙ ap (contains xs) (same ∙ f) ∙ e))),
    )))
    (λ k e low. later (eqb x k) (contains xs k)
    (back k (or_right (eqb y k) (contains ys k) e) low)
    (ne_eqb x k (λ f. false≢true
    (sym (lacks y ys all.0) ∙ ap (contains ys) (sym same ∙ f) ∙ e)))) in
    (rest.0, ap₂ (λ n ns. n ∷ ns) (sym same) rest.1)
  where
    later : (a b : Bool) → (a || b) ≡ true → a ≡ false → b ≡ true
    later a b e none = sym (ap (λ c. c || b) none) ∙ e

pub front-helpers : (indices waiting parents found : List ℕ) (bound : ℕ)
    → Met indices waiting parents found bound
    → (more : List ℕ) × (helpers indices ≡ found ++ more)
front-helpers indices waiting parents found bound met =
    front_of bound found (helpers indices) met.down
    (IsDescending-helpers indices)
    (λ k e. (let is = met.helper k e in (is.0, contains-helpers indices k ∙ is.1)))
    (λ k e low. met.all k (sym (contains-helpers indices k) ∙ e) low)

-- two lists with one front go on with the same number
same_next : (xs : List ℕ) (a b : ℕ) (front rest : List ℕ) → xs ++ a ∷ front ≡ xs ++ b ∷ rest
    → a ≡ b
same_next [] a b front rest e = ap (λ ns. get_or ns 0 a) e
same_next (x ∷ xs) a b front rest e = same_next xs a b front rest (ap (λ ns. drop 1 ns) e)

longer : (xs : List ℕ) (a : ℕ) (more : List ℕ) → xs ≡ xs ++ a ∷ more → ⊥
longer xs a more e = absurd (omega (arith, ap (λ ns. length ns) e, length-append xs (a ∷ more)))

-- another helper comes next
pub other-helper : (indices waiting parents found : List ℕ) (helper node : ℕ)
    → WalksHelpers indices waiting parents (found ++ helper ∷ [])
    → helper ≢ node → (rest : List ℕ) → AreHelpers indices (found ++ node ∷ rest) → ⊥
other-helper indices waiting parents found helper node walks other rest are =
    let front = front-helpers indices waiting parents (found ++ helper ∷ []) walks.0 walks.1 in
    other (same_next found helper node front.0 rest
    (sym (append_assoc found (helper ∷ []) front.0) ∙ sym front.1 ∙ sym are.are))

-- a helper is left
pub more-helpers : (indices waiting parents found : List ℕ) (helper : ℕ)
    → WalksHelpers indices waiting parents (found ++ helper ∷ [])
    → AreHelpers indices found → ⊥
more-helpers indices waiting parents found helper walks are =
    let front = front-helpers indices waiting parents (found ++ helper ∷ []) walks.0 walks.1 in
    longer found helper front.0 (are.are ∙ front.1 ∙ append_assoc found (helper ∷ []) front.0)

-- no helper is left
pub no-helpers : (indices found : List ℕ) (node : ℕ) → found ≡ helpers indices → (rest : List ℕ)
    → AreHelpers indices (found ++ node ∷ rest) → ⊥
no-helpers indices found node all rest are = longer found node rest (all ∙ sym are.are)

pub not-flat : (indices nodes : List ℕ) (a : ℕ) → IsUpper indices a → AreHelpers indices nodes → ⊥
not-flat indices nodes a upper are = are.flat a upper.nested.0 upper.nested.1

-- nodes of which i are taken go on with the next one
pub nodes-from : (nodes : List ℕ) (i node : ℕ) → i < length nodes → node ≡ get_or nodes i node
    → nodes ≡ take i nodes ++ node ∷ drop (suc i) nodes
nodes-from nodes i node below is =
    sym (take-append-drop i nodes)
    ∙ ap (λ rest. take i nodes ++ rest)
    (drop-cons nodes i node below ∙ ap (λ n. n ∷ drop (suc i) nodes) (sym is))

pub take-next : (nodes : List ℕ) (i node : ℕ) → i < length nodes → node ≡ get_or nodes i node
    → take (i + 1) nodes ≡ take i nodes ++ node ∷ []
take-next nodes i node below is =
    ap (λ n. take n nodes) (let e : i + 1 ≡ suc i = omega arith in e) ∙ take-suc nodes i node below
    ∙ ap (λ n. take i nodes ++ n ∷ []) (sym is)

-- what the end of a walk tells of all nodes
pub ends-all : (indices nodes waiting parents : List ℕ) (answer : Result Bool AllocError)
    → WalksHelpers indices waiting parents nodes
    → IfOk answer (λ same. (others found : List ℕ) → WalksHelpers others waiting parents found
    → (IsTrue same ↔ AreHelpers others found))
    → IfOk answer (λ same. IsTrue same ↔ AreHelpers indices nodes)
ends-all indices nodes waiting parents (Ok same) walks tells = tells indices nodes walks
ends-all indices nodes waiting parents (Err e) walks tells = tt
