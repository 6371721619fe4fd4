-- The judgement of lists and of texts: what is a multiproof, as a test.
use Rattle.std.specs.Prelude.{◌≡◌, ◌↔◌, ℕ, nat_eq, nat_lt, ◌&&◌, not, bytes_eq, if◌then◌else◌, Bool, true, false, List, [], ◌∷◌, Option, Some, None}
use Rattle.std.specs.List.{list_any, list_all}
use Rattle.std.specs.Option.{option_and_then}
use Rattle.ssz_gindex.specs.Helpers.{is_within, helpers}
use Rattle.ssz_proof.specs.Calculation.{Known, indices_of}
use Rattle.ssz_proof.specs.Multiproof.{Multiproof, IsMultiproof}
use Rattle.ssz_proof.specs.Text.{read_text}

abbrev pub is_some_known : Known → Bool
is_some_known [] = false
is_some_known (entry ∷ known) = true

-- no number equals a later one
abbrev pub are_distinct : List ℕ → Bool
are_distinct [] = true
are_distinct (index ∷ indices) = not (list_any (nat_eq index) indices) && are_distinct indices

-- below one of the indices
abbrev pub is_below_one : List ℕ → ℕ → Bool
is_below_one indices b = list_any (λ a. is_within a b && not (nat_eq a b)) indices

-- none of the indices is below another
abbrev pub are_flat : List ℕ → Bool
are_flat indices = not (list_any (is_below_one indices) indices)

-- whether lists are a multiproof
unfoldable pub is_multiproof : Multiproof → Bool
is_multiproof lists =
    is_some_known lists.leaves && list_all (nat_lt 0) (indices_of lists.leaves)
    && are_distinct (indices_of lists.leaves) && are_flat (indices_of lists.leaves)
    && bytes_eq (indices_of lists.nodes) (helpers (indices_of lists.leaves))

abbrev pub LawOfJudgement : Type 0
LawOfJudgement = (lists : Multiproof) → (is_multiproof lists ≡ true) ↔ IsMultiproof lists

-- lists, if they are a multiproof
abbrev pub judged : Multiproof → Option Multiproof
judged lists = if is_multiproof lists then Some lists else None

-- the multiproof that a text says: none where it says no lists, or lists that are none
unfoldable pub multiproof_of : List ℕ → Option Multiproof
multiproof_of text = option_and_then judged (read_text text)
