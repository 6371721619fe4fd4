use Rattle.std.proofs.Common.{ℕ, List, [], ◌∷◌, ◌==◌, ap, ap₂, sym, ◌∙◌, Bor, Option, option_map, unwrap_or}
use Rattle.ssz_proof.specs.Text.{words_of_line}
use Rattle.ssz_proof.proofs.TextSteps.{words-none, words-first}
use Rattle.ssz_proof.proofs.words.Words.next.Goals as goal

-- the words of what is left
abbrev rest_words : Option (Bor (List ℕ)) → List (List ℕ)
rest_words rest = unwrap_or (option_map (λ line. words_of_line line.now) rest) []

pub returns-in-Some : goal.returns-in-Some
returns-in-Some c =
    let split = c.in-Some.ensures in
    sym c.self.view_is ∙ ap rest_words c.in_ok-line.was
    ∙ words-first (λ byte. byte == 32) c.in_ok-line.line.now split.some
    ∙ ap₂ (λ word rest. word ∷ words_of_line rest) (sym split.before) (sym split.behind)

pub returns-in-None : goal.returns-in-None
returns-in-None c =
    sym c.self.view_is ∙ ap rest_words c.in_ok-line.was
    ∙ words-none (λ byte. byte == 32) c.in_ok-line.line.now c.in-None.ensures
