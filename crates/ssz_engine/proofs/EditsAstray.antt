-- A name or a path that leads nowhere: the rows of edits are refused.
use Rattle.std.proofs.Common.{ℕ, List, Option, is_none}
use Rattle.std.specs.Prelude.{nat_le}
use Rattle.ssz_schema.specs.Paths.{Path}
use Rattle.ssz_value.specs.Parts.{part}
use Rattle.ssz_value.specs.Edits.{pop_at}
use Rattle.ssz_places.specs.Charges.{pop_charge}
use Rattle.ssz_places.specs.EditLaws.{count_of}
use Rattle.ssz_proof.specs.Calculation.{PairOf}
use Rattle.ssz_script.specs.declared.reply.TheConstants.Reply.{ABSENT, NOT_THAT, FULL, BAD_SELECTOR}
use Rattle.ssz_schema.specs.Sizes.{option_count}
use Rattle.ssz_machine.specs.State.{Name}
use Rattle.ssz_machine.specs.Rules.{◌>>=◌, ◌>>◌, need, refuse, edits}
use Rattle.ssz_machine.specs.Editing.{element_of, ends_beside, limit_of, options_of, set, append, pop, choose}
use Rattle.ssz_machine.specs.Changes.{puts}
use Rattle.ssz_decisions.specs.Content.{EngineContent}
use Rattle.ssz_decisions.specs.Decisions.{AnswersWith}
use Rattle.ssz_decisions.specs.Ways.{IsAstray}
use Rattle.ssz_decisions.specs.declared.decision.Decision.TheVariants.{Refused}
use Rattle.ssz_decisions.proofs.Brought.{refused-answers}
use Rattle.ssz_engine.proofs.EditRows.{append_end, choose_end, popped, set_end}
use Rattle.ssz_decisions.proofs.Straying.{astray}

module _ (pair_of : PairOf) (store : EngineContent) (writer : ℕ) (v : Name) (path : Path) (code : ℕ)
    (leads : IsAstray store writer v path code) where
  pub set-astray : (literal : List ℕ)
      → AnswersWith pair_of (λ rules versions. set versions v path literal) (puts v) writer store
      store (Refused code)
  set-astray literal = refused-answers pair_of (λ rules versions. set versions v path literal)
      (puts v) writer store code (λ versions stand. astray store writer v path code
      (λ version type. refuse ABSENT (is_none (part version.type version.value path))
      >> (refuse NOT_THAT (ends_beside path) >> set_end versions v version path literal type))
      leads versions stand)

  pub append-astray : (literal : List ℕ)
      → AnswersWith pair_of (λ rules versions. append versions v path literal) (puts v) writer
      store store (Refused code)
  append-astray literal = refused-answers pair_of
      (λ rules versions. append versions v path literal) (puts v) writer store code
      (λ versions stand. astray store writer v path code
      (λ version type. need ABSENT (part version.type version.value path)
      >>= (λ present. need NOT_THAT (element_of type)
      >>= (λ element. refuse FULL (nat_le (limit_of type) (count_of present))
      >> append_end versions v version path literal element)))
      leads versions stand)

  pub pop-astray : AnswersWith pair_of (λ rules versions. pop versions v path) (puts v) writer
      store store (Refused code)
  pop-astray = refused-answers pair_of (λ rules versions. pop versions v path) (puts v) writer
      store code (λ versions stand. astray store writer v path code
      (λ version type. need ABSENT (part version.type version.value path)
      >>= (λ present. popped type present (edits versions v version.type
      (pop_at version.type version.value path) (pop_charge version.type version.value path))))
      leads versions stand)

  pub choose-astray : (k : ℕ) (literal : Option (List ℕ))
      → AnswersWith pair_of (λ rules versions. choose versions v path k literal) (puts v) writer
      store store (Refused code)
  choose-astray k literal = refused-answers pair_of
      (λ rules versions. choose versions v path k literal) (puts v) writer store code
      (λ versions stand. astray store writer v path code
      (λ version type. refuse ABSENT (is_none (part version.type version.value path))
      >> (need NOT_THAT (options_of type)
      >>= (λ os. refuse BAD_SELECTOR (nat_le (option_count os) k)
      >> choose_end versions v version path k literal os)))
      leads versions stand)
