-- Lines that begin with `#` say nothing.
use Rattle.std.proofs.Common.{◌≡◌, ℕ, Bool, true, false, List, [], ◌∷◌, if◌then◌else◌, refl, sym, ap, ◌∙◌, arith}
use Rattle.std.specs.Prelude.{Some, None, filter}
use Rattle.std.specs.List.{onto_first, slice_split}
use Rattle.std.proofs.lemmas.List.Splits.{slice_split-cons_no}
use Rattle.ssz_line.specs.Lines.{begins_comment, past_comments}
use Rattle.ssz_line.specs.Words.{is_blank, is_nonempty}
use Rattle.ssz_script.specs.Grammar.{Word, Form, line_of, said_by}
use Rattle.ssz_script.specs.Lines.{before, lines_said}

-- nor do words of which the first begins so
first_word : {S : Type 0} (rows : List (Word × Form S)) (parts : List Word)
    → said_by rows (filter is_nonempty (onto_first 35 parts)) ≡ Some None
first_word rows [] = refl
first_word rows (part ∷ parts) = refl

sharp : (b : ℕ) (bytes : List ℕ) → begins_comment (b ∷ bytes) ≡ true → b ≡ 35
sharp b bytes is = grind (arith)

comment_says : {S : Type 0} (rows : List (Word × Form S)) (line : List ℕ)
    → begins_comment line ≡ true → line_of rows line ≡ Some None
comment_says rows [] is = cc
comment_says rows (b ∷ bytes) is =
    let said : line_of rows (35 ∷ bytes) ≡ Some None =
    ap (λ parts. said_by rows (filter is_nonempty parts))
    (slice_split-cons_no is_blank 35 bytes refl)
    ∙ first_word rows (slice_split is_blank bytes) in
    rw (sharp b bytes is) said

said_step : {S : Type 0} (rows : List (Word × Form S)) (line : ℕ × List ℕ)
    (more past : List (ℕ × List ℕ)) (is : Bool) → begins_comment line.1 ≡ is
    → lines_said rows past ≡ lines_said rows more
    → lines_said rows (if is then past else line ∷ more)
    ≡ before line.0 (line_of rows line.1) (lines_said rows more)
said_step rows line more past true is rest =
    rest
    ∙ sym (ap (λ said. before line.0 said (lines_said rows more)) (comment_says rows line.1 is))
said_step rows line more past false is rest = refl

said_past : {S : Type 0} (rows : List (Word × Form S)) (ls : List (ℕ × List ℕ))
    → lines_said rows (past_comments ls) ≡ lines_said rows ls
said_past rows [] = refl
said_past rows (line ∷ more) =
    said_step rows line more (past_comments more) (begins_comment line.1) refl (said_past rows more)

-- lines say the same where comments in front of them are passed over
pub comments_passed : {S : Type 0} (rows : List (Word × Form S)) (old new : List (ℕ × List ℕ))
    → new ≡ past_comments old → lines_said rows new ≡ lines_said rows old
comments_passed rows old new passed = ap (lines_said rows) passed ∙ said_past rows old
