-- What changes of the entries say of the versions for which they stand.
use Rattle.std.proofs.Common.{◌≡◌, ◌≢◌, ℕ, Bool, true, false, cond, not, List, Option, Some, None, refl, sym, ap, ◌∙◌, arith}
use Rattle.std.specs.Prelude.{bytes_eq, IsTrue}
use Rattle.std.proofs.lemmas.Bool.{false≢true}
use lib.Dec.{T}
use Rattle.std.specs.Ordering.{nat_cmp}
use Rattle.std.proofs.lemmas.Cmp.{nat_list_cmp_total, eq_by_cmp_equiv}
use Rattle.std.specs.Cmp.Lexicographic.{slice_cmp}
use Rattle.std.specs.FinMap.Entries.{is_sorted-put, is_sorted-where_key, find-put, find-where_key}
use Rattle.std.proofs.lemmas.Map.Lookups.{exact_bytes}
use Rattle.std.proofs.lemmas.Map.Text.{is_eq-slice_cmp}
use Rattle.ssz_schema.specs.Unfolding.{Types}
use Rattle.ssz_arena.specs.Content.{ArenaContent as Nodes, KeepsNodes}
use Rattle.ssz_versions.specs.Content.{Entries, Held, held_at, with_held, without_held}
use Rattle.ssz_machine.specs.State.{Name, Version, Versions, version_of, with_version, without_version}
use Rattle.ssz_decisions.specs.Standing.{IsVersion, Match, StandsForVersions}
use Rattle.ssz_decisions.proofs.Keys.{same_writer, other_writer}
use Rattle.ssz_decisions.proofs.Entries.{held_at-with, held_at-without}

pub of_test : (b : Bool) → IsTrue b → T b
of_test true e = tt
of_test false e = absurd (false≢true e)

pub to_test : (b : Bool) → T b → IsTrue b
to_test true h = refl
to_test false h = absurd h

-- of a node that is kept
pub version-kept : (types : Types) (old new : Nodes) (held : Held) (version : Version)
    → KeepsNodes old new → IsVersion types old held version → IsVersion types new held version
version-kept types old new held version keeps is = record {
  known = is.known;
  node = let h = is.node in let k = keeps.count in omega arith;
  type = is.type;
  fits = is.fits;
  tree = keeps.trees held.1 is.node ∙ is.tree;
}

pub match-kept : (types : Types) (old new : Nodes) (held : Option Held) (version : Option Version)
    → KeepsNodes old new → Match types old held version → Match types new held version
match-kept types old new None None keeps is = tt
match-kept types old new (Some held) (Some version) keeps is =
    version-kept types old new held version keeps is
match-kept types old new None (Some version) keeps is = absurd is
match-kept types old new (Some held) None keeps is = absurd is

symmetric : (xs ys : List ℕ) → bytes_eq xs ys ≡ bytes_eq ys xs
symmetric xs ys = sym (is_eq-slice_cmp xs ys)
    ∙ (eq_by_cmp_equiv nat_list_cmp_total).symm xs ys ∙ is_eq-slice_cmp ys xs

-- a version put in, on both sides
pub match-put : (types : Types) (arena : Nodes) (test : Bool) (held : Held) (version : Version)
    (old : Option Held) (before : Option Version) → IsVersion types arena held version
    → Match types arena old before
    → Match types arena (cond test (Some held) old) (cond test (Some version) before)
match-put types arena true held version old before new rest = new
match-put types arena false held version old before new rest = rest

-- a version taken away, on both sides
pub match-gone : (types : Types) (arena : Nodes) (test : Bool)
    (old : Option Held) (before : Option Version) → Match types arena old before
    → Match types arena (cond test None old) (cond (not test) before None)
match-gone types arena true old before rest = tt
match-gone types arena false old before rest = rest

module _ (types : Types) (arena : Nodes) (entries : Entries) (writer : ℕ) (versions : Versions)
    (stand : StandsForVersions types arena entries writer versions) where
  pub stand-kept : (new : Nodes) → KeepsNodes arena new
      → StandsForVersions types new entries writer versions
  stand-kept new keeps = record {
    sorted = stand.sorted;
    each = λ name. match-kept types arena new _ _ keeps (stand.each name);
  }

  pub stand-put : (name : Name) (held : Held) (version : Version)
      → IsVersion types arena held version
      → StandsForVersions types arena (with_held entries writer name held) writer
      (with_version name version versions)
  stand-put name held version new = record {
    sorted = to_test _ (is_sorted-put (slice_cmp nat_cmp) nat_list_cmp_total name version versions
        (of_test _ stand.sorted));
    each = λ n.
        let left = held_at-with entries writer name held writer n
        ∙ ap (λ b. cond b (Some held) (held_at entries writer n)) (same_writer writer n name) in
        let right = find-put (slice_cmp nat_cmp) nat_list_cmp_total n name version versions
        ∙ ap (λ b. cond b (Some version) (version_of n versions)) (is_eq-slice_cmp n name) in
        rw (left, right) (match-put types arena (bytes_eq n name) held version _ _ new
        (stand.each n));
  }

  pub stand-gone : (name : Name)
      → StandsForVersions types arena (without_held entries writer name) writer
      (without_version name versions)
  stand-gone name = record {
    sorted = to_test _ (is_sorted-where_key (slice_cmp nat_cmp)
        (λ other. not (bytes_eq name other)) versions (of_test _ stand.sorted));
    each = λ n.
        let left = held_at-without entries writer name writer n
        ∙ ap (λ b. cond b None (held_at entries writer n)) (same_writer writer n name) in
        let right = find-where_key (slice_cmp nat_cmp) (λ other. not (bytes_eq name other)) n
        (λ x tie. ap (λ m. not (bytes_eq name m)) (sym (exact_bytes n x tie))) versions
        ∙ ap (λ b. cond (not b) (version_of n versions) None) (symmetric name n) in
        rw (left, right) (match-gone types arena (bytes_eq n name) _ _ (stand.each n));
  }

  -- what another writer's change leaves
  pub stand-beside : (other : ℕ) (name : Name) (held : Held) → writer ≢ other
      → StandsForVersions types arena (with_held entries other name held) writer versions
  stand-beside other name held apart = record {
    sorted = stand.sorted;
    each = λ n. rw (
      held_at-with entries other name held writer n,
      other_writer writer other n name apart,
    ) (stand.each n);
  }

  pub stand-beside-gone : (other : ℕ) (name : Name) → writer ≢ other
      → StandsForVersions types arena (without_held entries other name) writer versions
  stand-beside-gone other name apart = record {
    sorted = stand.sorted;
    each = λ n. rw (
      held_at-without entries other name writer n,
      other_writer writer other n name apart,
    ) (stand.each n);
  }
