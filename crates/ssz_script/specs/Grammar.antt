-- Which words are a statement (this project's).
use Rattle.std.specs.Prelude.{ℕ, nat_eq, if◌then◌else◌, Bool, List, [], ◌∷◌, Option, Some, None, option_map, codes, bytes_eq}
use Rattle.std.specs.List.{starts_with}
use Rattle.ssz_line.specs.Words.{words_of}
use Rattle.ssz_line.specs.Single.{Reader, name, file, literal, selector}
use Rattle.ssz_line.specs.Paths.{◌>>=◌, read_all, path, index}
use Rattle.ssz_script.specs.declared.statement.Statement.{Statement}
use Rattle.ssz_script.specs.declared.statement.Statement.TheVariants.{New, Lit, Load, Fork, Drop, List as ListNames, Set, Append, Pop, Choose, Root, Bytes, Len, Save, Gindex, Prove, Hashes, Upgrade, Json, LoadJson, Compact}
use Rattle.ssz_script.specs.declared.partial.PartialStatement.{PartialStatement}
use Rattle.ssz_script.specs.declared.partial.PartialStatement.TheVariants.{Get, Set as SetPart, Root as RootNow}

abbrev pub Word : Type 0
Word = List ℕ

-- What the words after the first are, if they are anything.
abbrev pub Form : Type 0 → Type 0
Form S = List Word → Option S

-- no words
unfoldable pub alone : {S : Type 0} → S → Form S
alone statement [] = Some statement
alone statement _ = None

-- one word, read by its reader
unfoldable pub one : {A S : Type 0} → (A → S) → Reader A → Form S
one make a (w ∷ []) = option_map make (a w)
one make a _ = None

-- two words, each read by its reader
unfoldable pub two : {A B S : Type 0} → (A → B → S) → Reader A → Reader B → Form S
two make a b (w ∷ v ∷ []) = do
  x ← a w
  y ← b v
  Some (make x y)
two make a b _ = None

-- three words
unfoldable pub three : {A B C S : Type 0} → (A → B → C → S) → Reader A → Reader B → Reader C
    → Form S
three make a b c (w ∷ v ∷ u ∷ []) = do
  x ← a w
  y ← b v
  z ← c u
  Some (make x y z)
three make a b c _ = None

-- three words, and perhaps a fourth
unfoldable pub three_or_four : {A B C D S : Type 0} → (A → B → C → Option D → S)
    → Reader A → Reader B → Reader C → Reader D → Form S
three_or_four make a b c d (w ∷ v ∷ u ∷ []) = do
  x ← a w
  y ← b v
  z ← c u
  Some (make x y z None)
three_or_four make a b c d (w ∷ v ∷ u ∷ t ∷ []) = do
  x ← a w
  y ← b v
  z ← c u
  last ← d t
  Some (make x y z (Some last))
three_or_four make a b c d _ = None

-- one word, and one or more of another kind
unfoldable pub one_and_more : {A B S : Type 0} → (A → List B → S) → Reader A → Reader B → Form S
one_and_more make a b (w ∷ v ∷ words) = do
  x ← a w
  ys ← read_all b (v ∷ words)
  Some (make x ys)
one_and_more make a b _ = None

-- the statements of a script: the first word, and what the words after it are
abbrev pub statements : List (Word × Form Statement)
statements =
    (codes "new", two New name name)
    ∷ (codes "lit", three Lit name name literal)
    ∷ (codes "load", three Load name name file)
    ∷ (codes "fork", two Fork name name)
    ∷ (codes "drop", one Drop name)
    ∷ (codes "list", alone ListNames)
    ∷ (codes "set", three Set name path literal)
    ∷ (codes "append", three Append name path literal)
    ∷ (codes "pop", two Pop name path)
    ∷ (codes "choose", three_or_four Choose name path selector literal)
    ∷ (codes "root", one Root name)
    ∷ (codes "bytes", two Bytes name path)
    ∷ (codes "len", two Len name path)
    ∷ (codes "save", two Save name file)
    ∷ (codes "gindex", two Gindex name path)
    ∷ (codes "prove", one_and_more Prove name index)
    ∷ (codes "hashes", alone Hashes)
    ∷ (codes "upgrade", three Upgrade name name name)
    ∷ (codes "json", two Json name path)
    ∷ (codes "loadjson", three LoadJson name name file)
    ∷ (codes "compact", alone Compact)
    ∷ []

-- the statements of a script for a partial tree
abbrev pub partial_statements : List (Word × Form PartialStatement)
partial_statements =
    (codes "get", one Get path)
    ∷ (codes "set", two SetPart path literal)
    ∷ (codes "root", alone RootNow)
    ∷ []

-- the form whose first word is this one
abbrev pub grammar_form : {S : Type 0} → List (Word × Form S) → Word → Option (Form S)
grammar_form [] word = None
grammar_form (row ∷ rows) word = if bytes_eq word row.0 then Some row.1 else grammar_form rows word

-- the statement that the words are
abbrev pub statement_of : {S : Type 0} → List (Word × Form S) → Form S
statement_of rows [] = None
statement_of rows (word ∷ words) = do
  form ← grammar_form rows word
  form words

abbrev pub is_comment : Word → Bool
is_comment word = starts_with nat_eq word (codes "#")

-- nothing where there are no words, or the first begins with `#`; else a statement
abbrev pub said_by : {S : Type 0} → List (Word × Form S) → Form (Option S)
said_by rows [] = Some None
said_by rows (word ∷ words) =
    if is_comment word then Some None else option_map Some (statement_of rows (word ∷ words))

-- What a line says: nothing, or a statement; or it is not of the grammar.
abbrev pub line_of : {S : Type 0} → List (Word × Form S) → List ℕ → Option (Option S)
line_of rows line = said_by rows (words_of line)
