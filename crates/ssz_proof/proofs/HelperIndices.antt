-- The helper indices are known, and stand in descending order.
use Rattle.std.proofs.Common.{◌≡◌, ℕ, zero, suc, ◌+◌, ◌*◌, ◌<◌, ◌≤◌, Bool, true, not, ◌&&◌, ◌||◌, eqb, leb, List, [], ◌∷◌, ◌++◌, sym, ap, ◌∙◌, arith, inl, inr}
use Rattle.std.specs.Prelude.{is_some, None}
use Rattle.std.specs.List.{list_any}
use Rattle.std.proofs.lemmas.Bool.{cases_Bool, or_cases, and_from, false≢true, or_left, or_right, le-leb, not_from_false}
use Rattle.ssz_gindex.specs.Helpers.{sibling, is_on_paths, is_helper, helpers}
use Rattle.ssz_gindex.specs.Laws.{IsDescending as Descends}
use Rattle.ssz_gindex.proofs.Within.{sibling-even, sibling-odd}
use Rattle.ssz_gindex.proofs.HelperLists.{contains-helpers, IsDescending-helpers as helpers_descend}
use Rattle.ssz_proof.specs.Calculation.{Known, indices_of, chunk_at}
use Rattle.ssz_proof.specs.Descent.{IsDescending}
use Rattle.ssz_proof.proofs.KnownChunks.{known_from, known-right}

-- a helper is known
helper_known : (leaves nodes : Known) (g : ℕ) → indices_of nodes ≡ helpers (indices_of leaves)
    → is_helper (indices_of leaves) g ≡ true → is_some (chunk_at (leaves ++ nodes) g) ≡ true
helper_known leaves nodes g e helper =
    known-right leaves nodes g (known_from nodes g
    (ap (list_any (λ k. eqb k g)) e ∙ contains-helpers (indices_of leaves) g ∙ helper))

-- the children are siblings
sibling-left : (g : ℕ) → sibling (g * 2 + 0) ≡ g * 2 + 1
sibling-left g = sibling-even (g * 2 + 0) (omega arith) ∙ omega arith

sibling-right : (g : ℕ) → sibling (g * 2 + 1) ≡ g * 2 + 0
sibling-right g = sibling-odd (g * 2 + 1) (omega arith) ∙ omega arith

-- Leaves, and nodes at their helper indices.
module _ (leaves nodes : Known) (complete : indices_of nodes ≡ helpers (indices_of leaves)) where
  abbrev pub on_paths : ℕ → Bool
  on_paths g = is_on_paths (indices_of leaves) g

  -- on the way to a leaf, or known
  abbrev pub reached : ℕ → Bool
  reached g = on_paths g || is_some (chunk_at (leaves ++ nodes) g)

  pub reached-on : (g : ℕ) → on_paths g ≡ true → reached g ≡ true
  reached-on g e = or_left (on_paths g) (is_some (chunk_at (leaves ++ nodes) g)) e

  -- beside an index on the paths
  beside : (g : ℕ) → 2 ≤ g → on_paths (sibling g) ≡ true → reached g ≡ true
  beside g large e = elim (cases_Bool (on_paths g)) [
    | inl here ↦ reached-on g here
    | inr other ↦
        or_right (on_paths g) (is_some (chunk_at (leaves ++ nodes) g))
        (helper_known leaves nodes g complete
        (and_from (leb 2 g && not (on_paths g)) (on_paths (sibling g))
        (and_from (leb 2 g) (not (on_paths g)) (le-leb 2 g large)
        (not_from_false (on_paths g) other)) e))
  ]

  -- the children of an index, one of which is on the paths
  pub both_children : (g : ℕ) → 0 < g → (b : ℕ) → b < 2 → on_paths (g * 2 + b) ≡ true
      → (reached (g * 2 + 0) ≡ true) × (reached (g * 2 + 1) ≡ true)
  both_children g positive zero small e = (
    reached-on (g * 2 + 0) e,
    beside (g * 2 + 1) (omega arith) (ap on_paths (sibling-right g) ∙ e),
  )
  both_children g positive (suc zero) small e = (
    beside (g * 2 + 0) (omega arith) (ap on_paths (sibling-left g) ∙ e),
    reached-on (g * 2 + 1) e,
  )
  both_children g positive (suc (suc b)) small e = absurd (omega arith)

  pub on_if_unknown : (g : ℕ) → reached g ≡ true → chunk_at (leaves ++ nodes) g ≡ None
      → on_paths g ≡ true
  on_if_unknown g e unknown =
      elim (or_cases (on_paths g) (is_some (chunk_at (leaves ++ nodes) g)) e) [
        | inl on ↦ on
        | inr is_known ↦ absurd (false≢true (sym (ap is_some unknown) ∙ is_known))
      ]

-- what descends, descends as the search wants it
in_order : (indices : List ℕ) → Descends indices → IsDescending indices
in_order [] down = tt
in_order (g ∷ indices) down = (down.0, in_order indices down.1)

pub IsDescending-helpers : (indices : List ℕ) → IsDescending (helpers indices)
IsDescending-helpers indices = in_order (helpers indices) (helpers_descend indices)
