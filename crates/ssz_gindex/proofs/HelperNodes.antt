-- The helper indices as places in a tree.
use Rattle.std.proofs.Common.{◌≡◌, ℕ, suc, ◌+◌, ◌*◌, ◌/◌, ◌%◌, ◌^◌, ◌<◌, ◌≤◌, Bool, true, false, not, ◌&&◌, eqb, leb, List, [], ◌∷◌, ◌++◌, refl, sym, ap, ◌∙◌, subst, Option, Some, None, is_some, arith, inl, inr}
use Rattle.std.specs.Prelude.{IsSome}
use Rattle.std.specs.List.{list_any, AllByRecursion}
use Rattle.std.proofs.lemmas.Option.{none-some}
use Rattle.std.proofs.lemmas.Bool.{or_cases, and_parts, leb-true, false≢true, cases_eq}
use Rattle.ssz_chunk.specs.Tree.{Tree, leaf, pair}
use Rattle.ssz_chunk.specs.Index.{way, digits, at, at_way}
use Rattle.ssz_chunk.proofs.Digits.{way-left, way-right}
use Rattle.ssz_chunk.proofs.Ways.{at-way, at_way-append_some}
use Rattle.ssz_gindex.specs.Helpers.{sibling, is_within, is_on_paths}
use Rattle.ssz_gindex.specs.Laws.{IsIn, LawOfHelperNodes}
use Rattle.ssz_gindex.proofs.Within.{below_from, way_below, halves_once, sibling-even, sibling-odd}

some_at : {X : Type 0} (o : Option X) (x : X) → o ≡ Some x → IsSome o
some_at o x e = ap is_some e

pub some_from : {X : Type 0} (o : Option X) → is_some o ≡ true → (x : X) × (o ≡ Some x)
some_from None e = absurd (false≢true e)
some_from (Some x) e = (x, refl)

-- a tree that has a node below its root is a pair
pub is_pair : (node x : Tree) (step : Bool) (steps : List Bool)
    → at_way node (step ∷ steps) ≡ Some x
    → (left : Tree) × (right : Tree) × (node ≡ pair left right)
is_pair (leaf chunk) x step steps e = absurd (none-some x e)
is_pair (pair left right) x step steps e = (left, right, refl)

pub first_digit : (n k : ℕ)
    → (step : Bool) × (steps : List Bool) × (digits (suc n) k ≡ step ∷ steps)
unfolding digits
first_digit n k = (eqb (k / 2 ^ n % 2) 1, digits n k, refl)

-- both children of a pair are in the tree
children_at : (tree node x : Tree) (g k n : ℕ) → 0 < g → at_way tree (way g) ≡ Some node
    → at_way node (digits (suc n) k) ≡ Some x
    → IsSome (at tree (2 * g)) × IsSome (at tree (2 * g + 1))
children_at tree node x g k n positive found inside =
    let digit = first_digit n k in
    let is = is_pair node x digit.0 digit.1 (ap (at_way node) (sym digit.2) ∙ inside) in (
      some_at (at tree (2 * g)) is.0
          (at-way tree (2 * g) (omega arith) ∙ ap (at_way tree) (way-left g positive)
          ∙ at_way-append_some tree node (way g) (false ∷ []) found
          ∙ ap (λ t. at_way t (false ∷ [])) is.2),
      some_at (at tree (2 * g + 1)) is.1
          (at-way tree (2 * g + 1) (omega arith) ∙ ap (at_way tree) (way-right g positive)
          ∙ at_way-append_some tree node (way g) (true ∷ []) found
          ∙ ap (λ t. at_way t (true ∷ [])) is.2),
    )

any_parts : (p : ℕ → Bool) (P : ℕ → Type 0) (xs : List ℕ) → list_any p xs ≡ true
    → AllByRecursion P xs → (x : ℕ) × (p x ≡ true) × P x
any_parts p P [] e all = absurd (false≢true e)
any_parts p P (x ∷ xs) e all = elim (or_cases (p x) (list_any p xs) e) [
  | inl here ↦ (x, here, all.0)
  | inr later ↦ any_parts p P xs later all.1
]

at-front : (tree x : Tree) (steps more : List Bool) → at_way tree (steps ++ more) ≡ Some x
    → (node : Tree) × (at_way tree steps ≡ Some node)
at-front tree x [] more e = (tree, refl)
at-front (leaf chunk) x (step ∷ steps) more e = absurd (none-some x e)
at-front (pair left right) x (false ∷ steps) more e = at-front left x steps more e
at-front (pair left right) x (true ∷ steps) more e = at-front right x steps more e

-- where an index n + 1 levels below h is in the tree, so are both children of h
beside_way : (tree : Tree) (i h n : ℕ) → 0 < h → 0 < i → IsSome (at tree i) → i / 2 ^ suc n ≡ h
    → IsSome (at tree (2 * h)) × IsSome (at tree (2 * h + 1))
beside_way tree i h n positive there some e =
    let x = some_from (at tree i) some in
    let whole : at_way tree (way h ++ digits (suc n) (i % 2 ^ suc n)) ≡ Some x.0 =
    ap (at_way tree) (sym (way_below h i (suc n) positive e)) ∙ sym (at-way tree i there) ∙ x.1 in
    let node = at-front tree x.0 (way h) (digits (suc n) (i % 2 ^ suc n)) whole in
    children_at tree node.0 x.0 h (i % 2 ^ suc n) n positive node.1
    (sym (at_way-append_some tree node.0 (way h) (digits (suc n) (i % 2 ^ suc n)) node.1) ∙ whole)

pub half_sibling : (g : ℕ) → 2 ≤ g → sibling g / 2 ≡ g / 2
half_sibling g large = elim (cases_eq (g % 2) 0) [
  | inl even ↦ omega (arith, sibling-even g even)
  | inr odd ↦ omega (arith, sibling-odd g (omega arith))
]

pub law_of_helper_nodes : LawOfHelperNodes
law_of_helper_nodes tree indices g all e =
    let both = and_parts (leb 2 g && not (is_on_paths indices g))
    (is_on_paths indices (sibling g)) e in
    let large : 2 ≤ g = leb-true 2 g
    (and_parts (leb 2 g) (not (is_on_paths indices g)) both.0).0 in
    let index = any_parts (is_within (sibling g)) (IsIn tree) indices both.1 all in
    let below = below_from (sibling g) index.0 index.1 in
    let halved : index.0 / 2 ^ suc below.n ≡ g / 2 =
    sym (halves_once index.0 below.n) ∙ ap (λ k. k / 2 ^ 1) below.high ∙ half_sibling g large in
    let there : 0 < index.0 = omega (arith, index.2.some) in
    let children = beside_way tree index.0 (g / 2) below.n
    (omega arith) there index.2.node halved in
    elim (cases_eq (g % 2) 0) [
      | inl even ↦ subst (λ (k : ℕ). IsSome (at tree k)) (omega arith) children.0
      | inr odd ↦ subst (λ (k : ℕ). IsSome (at tree k)) (omega arith) children.1
    ]
