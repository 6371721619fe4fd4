use Rattle.std.proofs.Common.{ap, sym, subst, map, inl, inr, string_bytes, ◌∙◌, ◌≡◌, []}
use Rattle.clap.specs.Words.{App, HasKind, Kinds, app_of, fault_of, is_simple, is_simple_and_free}
use Rattle.clap.specs.Words.{subcommand_of}
use Rattle.ssz_words.specs.declared.faults.WordsFault.TheVariants.{NotTaken}
use Rattle.ssz_words.proofs.FoundLemmas.{found_with_fault, found_without_fault}
use Rattle.ssz_words.proofs.ProgramLemmas.{program_simple, program_simple_and_free}
use Rattle.ssz_words.proofs.reading.matches_of.Goals as goal

pub returns-in-Ok-clause-taken : goal.returns-in-Ok-clause-taken
returns-in-Ok-clause-taken c =
    let is = c.in_ok-program.ensures in
    let words = map string_bytes c.args.words.now in
    let faults : fault_of (app_of c.in_ok-program.field-0) words ≡ [] =
    c.in-Ok.ensures.kinds (ap is_simple_and_free is ∙ program_simple_and_free) in
    found_without_fault words (sym (ap (λ (a : App). fault_of a words) is) ∙ faults)
    ∙ sym ((c.in-Ok.ensures.matches (ap is_simple is ∙ program_simple)).1
    ∙ ap (λ (a : App). subcommand_of a words) is)

pub returns-in-Err-clause-refused : goal.returns-in-Err-clause-refused
returns-in-Err-clause-refused c not_taken =
    let is = c.in_ok-program.ensures in
    let words = map string_bytes c.args.words.now in
    let kinds : HasKind (fault_of (app_of c.in_ok-program.field-0) words) c.in-Err.error =
    c.in-Err.ensures.kinds (ap is_simple_and_free is ∙ program_simple_and_free) in
    found_with_fault words (λ none.
    let at_none : HasKind [] c.in-Err.error =
    subst (λ (ks : Kinds). HasKind ks c.in-Err.error) (ap (λ (a : App). fault_of a words) is
    ∙ none) kinds in
    let fault : c.fault_for.result ≡ NotTaken = cc in
    elim at_none
    [ inl memory ↦ c.fault_for.ensures fault (c.kind.ensures ∙ memory) | inr among ↦ among ])
