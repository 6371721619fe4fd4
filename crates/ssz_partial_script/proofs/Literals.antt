-- The literals of a script are bytes, by the grammar.
use Rattle.std.proofs.Common.{ℕ, ◌≡◌, Bool, true, false, cond, List, [], ◌∷◌, drop, Option, Some, None, option_map, refl, ◌∙◌, subst}
use Rattle.std.specs.Prelude.{bytes_eq, codes, nat_eq}
use Rattle.std.specs.List.{AllByRecursion, starts_with}
use Rattle.std.specs.Result.{result_ok}
use Rattle.hex.specs.Hex.{decode_of}
use Rattle.hex.proofs.HexLemmas.{decode_of-ok}
use Rattle.ssz_bytes.specs.Bytes.{IsBytes}
use Rattle.ssz_bytes.proofs.Results.{ok_of}
use Rattle.ssz_schema.specs.Paths.{Path}
use Rattle.ssz_line.specs.Words.{words_of}
use Rattle.ssz_line.specs.Single.{literal}
use Rattle.ssz_line.specs.Paths.{◌>>=◌, path}
use Rattle.ssz_script.specs.declared.partial.PartialStatement.{PartialStatement}
use Rattle.ssz_script.specs.declared.partial.PartialStatement.TheVariants.{Get, Set, Root}
use Rattle.ssz_script.specs.Grammar.{Word, Form, alone, one, two, partial_statements, grammar_form, statement_of, is_comment, said_by, line_of}
use Rattle.ssz_line.specs.Lines.{numbered_lines}
use Rattle.ssz_script.specs.Lines.{before, lines_said, partial_statements_in}
use Rattle.ssz_partial_script.specs.Plays.{PartialScriptLine}

-- a literal holds bytes
abbrev pub HasBytes : Option PartialStatement → Type 0
HasBytes (Some (Set place bytes)) = IsBytes bytes
HasBytes other = Unit {0}

abbrev pub HaveBytes : List PartialScriptLine → Type 0
HaveBytes lines = AllByRecursion (λ (line : PartialScriptLine). HasBytes line.1) lines

-- what a word spells as a literal is bytes
literal_bytes : (word bytes : List ℕ) → literal word ≡ Some bytes → IsBytes bytes
unfolding literal
literal_bytes word bytes e =
    by (starts_with nat_eq word (codes "0x")) (result_ok (decode_of (drop 2 word))) refl e
  where
    by : (marked : Bool) (o : Option (List ℕ)) → result_ok (decode_of (drop 2 word)) ≡ o
        → cond marked o None ≡ Some bytes → IsBytes bytes
    by true o is same =
        (decode_of-ok (drop 2 word) bytes (ok_of (decode_of (drop 2 word)) bytes (is ∙ same))).3
    by false o is same = absurd (cc)

-- a form gives statements whose literals are bytes
abbrev GivesBytes : Form PartialStatement → Type 0
GivesBytes form = (words : List Word) → HasBytes (form words)

get_bytes : GivesBytes (one Get path)
unfolding one
get_bytes [] = tt
get_bytes (w ∷ []) = by (path w)
  where
    by : (o : Option Path) → HasBytes (option_map Get o)
    by None = tt
    by (Some steps) = tt
get_bytes (w ∷ v ∷ words) = tt

set_bytes : GivesBytes (two Set path literal)
unfolding two
set_bytes [] = tt
set_bytes (w ∷ []) = tt
set_bytes (w ∷ v ∷ []) = by (path w) (literal v) refl
  where
    by : (o : Option Path) (p : Option (List ℕ)) → literal v ≡ p
        → HasBytes (o >>= (λ x. p >>= (λ y. Some (Set x y))))
    by None p read = tt
    by (Some steps) None read = tt
    by (Some steps) (Some bytes) read = literal_bytes v bytes read
set_bytes (w ∷ v ∷ u ∷ words) = tt

root_bytes : GivesBytes (alone Root)
unfolding alone
root_bytes [] = tt
root_bytes (w ∷ words) = tt

-- whichever row a first word has
form_bytes : (rows : List (Word × Form PartialStatement))
    → AllByRecursion (λ (row : Word × Form PartialStatement). GivesBytes row.1) rows
    → (word : Word) (words : List Word) → HasBytes (grammar_form rows word >>= (λ form. form words))
form_bytes [] all word words = tt
form_bytes (row ∷ rows) all word words =
    by (bytes_eq word row.0) refl (form_bytes rows all.1 word words)
  where
    by : (same : Bool) → bytes_eq word row.0 ≡ same
        → HasBytes (grammar_form rows word >>= (λ form. form words))
        → HasBytes (grammar_form (row ∷ rows) word >>= (λ form. form words))
    by true same rest = rw same (all.0 words)
    by false same rest = rw same rest

-- what a line says
abbrev SaysBytes : Option (Option PartialStatement) → Type 0
SaysBytes None = Unit {0}
SaysBytes (Some said) = HasBytes said

words_bytes : (words : List Word) → SaysBytes (said_by partial_statements words)
words_bytes [] = tt
words_bytes (word ∷ words) =
    by (is_comment word) refl (statement_of partial_statements (word ∷ words)) refl
    (form_bytes partial_statements (get_bytes, (set_bytes, (root_bytes, tt))) word words)
  where
    by : (comment : Bool) → is_comment word ≡ comment → (s : Option PartialStatement)
        → statement_of partial_statements (word ∷ words) ≡ s
        → HasBytes (statement_of partial_statements (word ∷ words))
        → SaysBytes (said_by partial_statements (word ∷ words))
    by true is s same bytes = rw is tt
    by false is None same bytes = rw (is, same) tt
    by false is (Some s) same bytes =
        rw (is, same) (subst (λ (o : Option PartialStatement). HasBytes o) same bytes)

before_bytes : (n : ℕ) (said : Option (Option PartialStatement)) (rest : List PartialScriptLine)
    → SaysBytes said → HaveBytes rest → HaveBytes (before n said rest)
before_bytes n None rest is all = (tt, all)
before_bytes n (Some None) rest is all = all
before_bytes n (Some (Some s)) rest is all = (is, all)

lines_bytes : (numbered : List (ℕ × List ℕ)) → HaveBytes (lines_said partial_statements numbered)
lines_bytes [] = tt
lines_bytes (line ∷ more) =
    before_bytes line.0 (line_of partial_statements line.1) (lines_said partial_statements more)
    (words_bytes (words_of line.1)) (lines_bytes more)

pub literals_are_bytes : (script : List ℕ) → HaveBytes (partial_statements_in script)
literals_are_bytes script = lines_bytes (numbered_lines script)
