-- A store stands for some versions: of each entry the one that it is known to have.
use Rattle.std.proofs.Common.{◌≡◌, ◌==◌, ℕ, Bool, true, false, cond, List, [], ◌∷◌, Option, Some, None, option_map, refl, sym, ap, subst, ◌∙◌}
use Rattle.std.proofs.lemmas.Cmp.{nat_list_cmp_total}
use Rattle.std.proofs.lemmas.Map.Text.{is_eq-slice_cmp}
use Rattle.std.proofs.lemmas.Slice.Eq.{bytes_eq-Decides}
use Rattle.std.specs.Prelude.{bytes_eq}
use Rattle.std.specs.FinMap as finite
use Rattle.std.specs.FinMap.Entries.{find, find-put, is_sorted, is_sorted-put}
use Rattle.std.specs.Ordering.{nat_cmp, eq_by_cmp}
use Rattle.std.specs.Cmp.Lexicographic.{slice_cmp}
use lib.Dec.{T}
use Rattle.ssz_schema.specs.Types.{boolean}
use Rattle.ssz_schema.specs.Unfolding.{Types}
use Rattle.ssz_value.specs.Values.{chosen_none}
use Rattle.ssz_arena.specs.Content.{ArenaContent as Nodes}
use Rattle.ssz_versions.specs.Content.{Entries, Held, held_at}
use Rattle.ssz_versions.specs.Keys.{Key, key_cmp}
use Rattle.ssz_machine.specs.State.{Name, Version, Versions, version_of, with_version}
use Rattle.ssz_decisions.specs.Content.{EngineContent}
use Rattle.ssz_decisions.specs.Standing.{StandsForSome, AreVersions, Match, StandsForVersions}
use Rattle.ssz_decisions.proofs.Keys.{same_writer, other_writer}
use Rattle.ssz_decisions.proofs.Names.{by_writer}
use Rattle.ssz_decisions.proofs.Standing.{to_test}

module _ (types : Types) (arena : Nodes) (entries : Entries)
    (all : AreVersions types arena entries) (writer : ℕ) where
  -- the version of an entry; where there is none, no matter which
  known : (name : Name) (held : Option Held) → held_at entries writer name ≡ held → Version
  known name None e = record { type = boolean; value = chosen_none 0 }
  known name (Some held) e = (all.each writer name held e).0

  abbrev pick : Name → Version
  pick name = known name (held_at entries writer name) refl

  is-known : (name : Name) (held : Option Held) (e : held_at entries writer name ≡ held)
      → Match types arena held (option_map (λ (h : Held). known name held e) held)
  unfolding known
  is-known name None e = tt
  is-known name (Some held) e = (all.each writer name held e).1

  -- those of the writer's entries, in the order of their names
  build : List (Key × Held) → Versions
  build [] = []
  build (e ∷ es) = cond (e.0.0 == writer) (with_version e.0.1 (pick e.0.1) (build es)) (build es)

  sorted : (es : List (Key × Held)) → T (is_sorted (slice_cmp nat_cmp) (build es))
  unfolding build
  sorted [] = tt
  sorted (e ∷ es) =
      let rest = sorted es in
      elim (e.0.0 == writer) as (λ b. T (is_sorted (slice_cmp nat_cmp)
      (cond b (with_version e.0.1 (pick e.0.1) (build es)) (build es)))) [
        | true ↦ is_sorted-put (slice_cmp nat_cmp) nat_list_cmp_total e.0.1 (pick e.0.1) (build es)
            rest
        | false ↦ rest
      ]

  -- the version of a name, by the test of an entry's own
  at-name : (n name : Name) (held : Held) (es : List (Key × Held)) (test : Bool)
      → bytes_eq n name ≡ test
      → version_of n (build es) ≡ option_map (λ (h : Held). pick n) (find key_cmp (writer, n) es)
      → cond test (Some (pick name)) (version_of n (build es))
      ≡ option_map (λ (h : Held). pick n) (cond test (Some held) (find key_cmp (writer, n) es))
  at-name n name held es true is rest =
      ap (λ (m : Name). Some (pick m)) (sym ((bytes_eq-Decides n name).0 is))
  at-name n name held es false is rest = rest

  found : (n : Name) (es : List (Key × Held))
      → version_of n (build es) ≡ option_map (λ (h : Held). pick n) (find key_cmp (writer, n) es)
  unfolding build
  found n [] = refl
  found n (e ∷ es) =
      let rest = found n es in
      by_writer (λ b. version_of n
      (cond b (with_version e.0.1 (pick e.0.1) (build es)) (build es))
      ≡ option_map (λ (h : Held). pick n) (cond (eq_by_cmp key_cmp (writer, n) e.0) (Some e.1)
      (find key_cmp (writer, n) es))) e.0.0 writer
      (λ same. find-put (slice_cmp nat_cmp) nat_list_cmp_total n e.0.1 (pick e.0.1) (build es)
      ∙ ap (λ b. cond b (Some (pick e.0.1)) (version_of n (build es))) (is_eq-slice_cmp n e.0.1)
      ∙ at-name n e.0.1 e.1 es (bytes_eq n e.0.1) refl rest
      ∙ ap (λ b. option_map (λ (h : Held). pick n) (cond b (Some e.1)
      (find key_cmp (writer, n) es)))
      (sym (ap (λ w. eq_by_cmp key_cmp (writer, n) (w, e.0.1)) same
      ∙ same_writer writer n e.0.1)))
      (λ other. rest ∙ ap (λ b. option_map (λ (h : Held). pick n) (cond b (Some e.1)
      (find key_cmp (writer, n) es)))
      (sym (other_writer writer e.0.0 n e.0.1 (λ is. other (sym is)))))

  stands : StandsForVersions types arena entries writer (build (finite.entries entries))
  stands = record {
    sorted = to_test _ (sorted (finite.entries entries));
    each = λ name.
        subst (Match types arena (held_at entries writer name))
        (sym (found name (finite.entries entries)
        ∙ ap (option_map (λ (h : Held). pick name))
        (sym (finite.get-entries entries (writer, name)))))
        (is-known name (held_at entries writer name) refl);
  }

pub stands-for-some : (store : EngineContent) → AreVersions store.types store.arena store.entries
    → StandsForSome store
stands-for-some store all = (
  λ writer. build store.types store.arena store.entries all writer
      (finite.entries store.entries),
  record {
    each = λ writer. stands store.types store.arena store.entries all writer;
  },
)
