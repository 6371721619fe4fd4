-- The number of elements or bits of a part.
use Rattle.std.proofs.Common.{◌≡◌, ◌∙◌, ℕ, Option, Some, Err, refl, sym, ap, subst, arith}
use Rattle.ssz_schema.specs.Types.{SszType}
use Rattle.ssz_schema.specs.Paths.{Path, path_type}
use Rattle.ssz_schema.specs.Indices.{whole}
use Rattle.ssz_schema.specs.Unfolding.{type_of}
use Rattle.ssz_script.specs.declared.reply.Reply.TheVariants.{Len}
use Rattle.ssz_script.specs.declared.reply.TheConstants.Reply.{NO_VERSION}
use Rattle.ssz_value.specs.Values.{Fits}
use Rattle.ssz_value.specs.Parts.{part}
use Rattle.ssz_value.specs.Trees.{tree}
use Rattle.ssz_arena.specs.Content.{tree_of}
use Rattle.ssz_proof.specs.Calculation.{PairOf}
use Rattle.ssz_views.specs.Looking.{Looking, ViewStandsFor, ForPart}
use Rattle.ssz_versions.specs.Content.{Held, held_at}
use Rattle.ssz_machine.specs.State.{Name, Version, Versions}
use Rattle.ssz_machine.specs.Rules.{Row, ◌>>=◌, coded, need, says_reply}
use Rattle.ssz_machine.specs.Asking.{len}
use Rattle.ssz_machine.specs.Changes.{nothing}
use Rattle.ssz_decisions.specs.Content.{EngineContent}
use Rattle.ssz_decisions.specs.Counted.{counted, HasCount, HasNoCount}
use Rattle.ssz_decisions.specs.Decisions.{AnswersWith}
use Rattle.ssz_decisions.specs.Standing.{StandsForWriter}
use Rattle.ssz_decisions.specs.declared.decision.Decision.TheVariants.{Said, Refused}
use Rattle.ssz_decisions.proofs.Brought.{refused-answers}
use Rattle.ssz_decisions.proofs.Showing.{held-there}

-- the row of a version that is held, from what its node shows
abbrev pub seen_of : EngineContent → Held → Looking
seen_of store held = record {
  arena = store.arena;
  types = store.types;
  id = held.0;
  node = held.1;
  lies = whole;
}

pub len-row : (store : EngineContent) (writer : ℕ) (v : Name) (path : Path) (held : Held)
    (row : Versions → Row)
    → held_at store.entries writer v ≡ Some held
    → ForPart (seen_of store held) (λ x. (versions : Versions)
    → counted versions (path_type (type_of store.types held.0) path)
    (part (type_of store.types held.0) x path) ≡ row versions)
    → (versions : Versions) → StandsForWriter store writer versions
    → len versions v path ≡ row versions
len-row store writer v path held row there is versions stand =
    let h = held-there store.types store.arena held _ _ there (stand.each v) in
    let seen : ViewStandsFor (seen_of store held) h.version.value = record {
      fits = subst (λ (t : SszType). Fits t h.version.value) (sym h.stands.type) h.stands.fits;
      has = subst (λ (t : SszType). tree_of store.arena held.1 ≡ tree t h.version.value)
          (sym h.stands.type) h.stands.tree;
    } in
    ap (λ (o : Option Version). need NO_VERSION o
    >>= (λ version. counted versions (path_type version.type path)
    (part version.type version.value path))) h.is
    ∙ ap (λ (t : SszType). counted versions (path_type t path) (part t h.version.value path))
    (sym h.stands.type)
    ∙ is h.version.value seen versions

module _ (pair_of : PairOf) (store : EngineContent) (writer : ℕ) (v : Name) (path : Path)
    (held : Held)
    (there : held_at store.entries writer v ≡ Some held) where
  pub len-said : (n : ℕ)
      → ForPart (seen_of store held) (HasCount (type_of store.types held.0) path n)
      → AnswersWith pair_of (λ rules versions. len versions v path) nothing writer store store
      (Said (Len n))
  len-said n is = λ count. record {
    can = tt;
    of = refl;
    comes = λ versions stand. len-row store writer v path held
        (λ versions. says_reply versions (Len n)) there is versions stand;
    spends = λ versions stand. omega arith;
    few = λ versions stand. refl;
  }

  pub len-refused : (code : ℕ)
      → ForPart (seen_of store held) (HasNoCount (type_of store.types held.0) path code)
      → AnswersWith pair_of (λ rules versions. len versions v path) nothing writer store store
      (Refused code)
  len-refused code is = refused-answers pair_of (λ rules versions. len versions v path) nothing
      writer store code
      (λ versions stand. len-row store writer v path held
      (λ versions. Err (coded code)) there is versions stand)
