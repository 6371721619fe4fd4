-- A name or a path that leads nowhere: the rows that begin with both tests are refused.
use Rattle.std.proofs.Common.{inl, inr, ◌≡◌, ◌∙◌, ℕ, not, Option, Err, sym, ap}
use Rattle.std.specs.Prelude.{nat_lt, length, Ok}
use Rattle.ssz_schema.specs.Types.{SszType}
use Rattle.ssz_schema.specs.Paths.{Path, path_type}
use Rattle.ssz_value.specs.Parts.{part}
use Rattle.ssz_places.specs.EditLaws.{count_of}
use Rattle.ssz_proof.specs.Calculation.{PairOf}
use Rattle.ssz_script.specs.declared.reply.Reply.TheVariants.{Len}
use Rattle.ssz_script.specs.declared.reply.TheConstants.Reply.{NO_VERSION, BAD_PATH, ABSENT, NOT_THAT, TOO_LONG}
use Rattle.ssz_machine.specs.State.{Name, Version, Versions, version_of}
use Rattle.ssz_machine.specs.Rules.{Outcome, ◌>>=◌, ◌>>◌, coded, need, refuse, says_reply}
use Rattle.ssz_machine.specs.Asking.{has_length, len}
use Rattle.ssz_machine.specs.Changes.{nothing}
use Rattle.ssz_decisions.specs.Content.{EngineContent}
use Rattle.ssz_decisions.specs.Decisions.{AnswersWith}
use Rattle.ssz_decisions.specs.Shown.{TextOf, PartIsShown}
use Rattle.ssz_decisions.specs.Standing.{StandsForWriter}
use Rattle.ssz_decisions.specs.Ways.{IsAstray}
use Rattle.ssz_decisions.specs.declared.decision.Decision.TheVariants.{Refused}
use Rattle.ssz_decisions.proofs.Brought.{free-there, refused-answers}
use Rattle.ssz_decisions.proofs.Showing.{held-there}

-- the tests of a version's name and of a path, and what comes behind them
abbrev pub along : {X : Type 0} → Option Version → Path → (Version → SszType → Outcome X)
    → Outcome X
along version path rest = need NO_VERSION version
    >>= (λ version. need BAD_PATH (path_type version.type path) >>= rest version)

pub astray : {X : Type 0} (store : EngineContent) (writer : ℕ) (v : Name) (path : Path) (code : ℕ)
    (rest : Version → SszType → Outcome X) → IsAstray store writer v path code
    → (versions : Versions) → StandsForWriter store writer versions
    → along (version_of v versions) path rest ≡ Err (coded code)
astray store writer v path code rest (inl (is, none)) versions stand =
    ap (λ (o : Option Version). along o path rest)
    (free-there store.types store.arena _ _ none (stand.each v))
    ∙ ap (λ c. Err (coded c)) (sym is)
astray store writer v path code rest (inr (is, bad)) versions stand =
    let h = held-there store.types store.arena bad.held _ _ bad.there (stand.each v) in
    ap (λ (o : Option Version). along o path rest) h.is
    ∙ ap (λ (t : SszType). need BAD_PATH (path_type t path) >>= rest h.version)
    (sym h.stands.type)
    ∙ ap (λ (o : Option SszType). need BAD_PATH o >>= rest h.version) bad.unfit
    ∙ ap (λ c. Err (coded c)) (sym is)

module _ (pair_of : PairOf) (store : EngineContent) (writer : ℕ) (v : Name) (path : Path) (code : ℕ)
    (leads : IsAstray store writer v path code) where
  pub len-astray : AnswersWith pair_of (λ rules versions. len versions v path) nothing writer
      store store (Refused code)
  len-astray = refused-answers pair_of (λ rules versions. len versions v path) nothing writer
      store code (λ versions stand. astray store writer v path code
      (λ version type. need ABSENT (part version.type version.value path)
      >>= (λ value. refuse NOT_THAT (not (has_length type))
      >> says_reply versions (Len (count_of value))))
      leads versions stand)

  pub shows-astray : (text : TextOf) → PartIsShown text store writer v path (Err (coded code))
  shows-astray text = λ versions stand. astray store writer v path code
      (λ version type. need ABSENT (part version.type version.value path)
      >>= (λ value. refuse TOO_LONG (nat_lt store.most (length (text type value)))
      >> Ok (text type value)))
      leads versions stand
