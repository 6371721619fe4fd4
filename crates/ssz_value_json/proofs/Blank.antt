-- White space behind what is written changes nothing that is read of it.
use Rattle.std.proofs.Common.{◌≡◌, ◌⊎◌, ℕ, ◌==◌, ◌&&◌, Bool, true, false, cond, Some, List, [], ◌∷◌, ◌++◌, option_and_then, refl, sym, ap, ap₂, subst, ◌∙◌, append_assoc, append-nil, inl, inr}
use Rattle.std.specs.List.{list_all}
use Rattle.std.specs.Str.{IsUtf8}
use Rattle.std.proofs.lemmas.Bool.{and_parts, or_cases, eqb-true}
use Rattle.std.proofs.lemmas.Str.{IsUtf8-append}
use Rattle.json.specs.Token.{Token, begin_object, end_object, begin_array, end_array, key, string, number, boolean, null, bad}
use Rattle.json.specs.Word.{is_space, ends_word, word}
use Rattle.json.specs.Lex.{token, comma, colon, string_token, lex, between, fresh, punctuate, tokens}
use Rattle.json.specs.Print.{escape, quoted, token_text, begins, ends, print_from, IsPrintable, ArePrintable}
use Rattle.json.specs.Json as json
use Rattle.json.specs.Tree as tree
use Rattle.json.proofs.Printed.Numbers.{lex-number, in_word-ended}
use Rattle.json.proofs.Printed.Strings.{content-escape, lex-escape}
use Rattle.json.proofs.Printed.Tokens.{tokens-print}
use Rattle.json.proofs.Printed.Trees.{value-json_tokens, ArePrintable-json_tokens}
use Rattle.json.proofs.Printed.Utf8.{are_ascii, IsUtf8-are_ascii}
use Rattle.serde_json.specs.Data.{Data}
use Rattle.serde_json.specs.Read.{of_json, read, max_depth}
use Rattle.serde_json.specs.Written.{outline, compact_text}
use Rattle.serde_json.proofs.Texts.{print-outline}
use Rattle.ssz_value_json.proofs.ReadBack.{ReadsBack}

-- each of the four bytes of white space has what all four have
or_last : (P : ℕ → Type 0) (x c : ℕ) (b : Bool) → P c → (b ≡ true → P x)
    → (b ≡ true) ⊎ ((x == c) ≡ true) → P x
or_last P x c b here others (inl e) = others e
or_last P x c b here others (inr e) = subst P (sym (eqb-true x c e)) here

blank_byte : (P : ℕ → Type 0) → P 32 → P 9 → P 10 → P 13 → (x : ℕ) → is_space x ≡ true → P x
blank_byte P space tab feed turn x is =
    or_last P x 13 _ turn (λ h. or_last P x 10 _ feed (λ i. or_last P x 9 _ tab
    (λ j. subst P (sym (eqb-true x 32 j)) space) (or_cases _ _ i)) (or_cases _ _ h))
    (or_cases _ _ is)

pub blank_ascii : (ws : List ℕ) → list_all is_space ws ≡ true → are_ascii ws ≡ true
blank_ascii [] h = refl
blank_ascii (w ∷ ws) h =
    let both = and_parts (is_space w) (list_all is_space ws) h in
    blank_byte (λ x. are_ascii (x ∷ ws) ≡ true) (blank_ascii ws both.1) (blank_ascii ws both.1)
    (blank_ascii ws both.1) (blank_ascii ws both.1) w both.0

blank_ends : (ws : List ℕ) → list_all is_space ws ≡ true → ends_word ws ≡ true
blank_ends [] h = refl
blank_ends (w ∷ ws) h =
    blank_byte (λ x. ends_word (x ∷ ws) ≡ true) refl refl refl refl w
    (and_parts (is_space w) (list_all is_space ws) h).0

lex_blank : (ws : List ℕ) → list_all is_space ws ≡ true → lex between ws ≡ []
unfolding lex
lex_blank [] h = refl
lex_blank (w ∷ ws) h =
    let both = and_parts (is_space w) (list_all is_space ws) h in
    let rest = lex_blank ws both.1 in
    blank_byte (λ x. lex between (x ∷ ws) ≡ []) rest rest rest rest w both.0

-- a value that was printed ends its word
value_ends : (ts : List Token) (ws : List ℕ) → list_all is_space ws ≡ true
    → ends_word (print_from true ts ++ ws) ≡ true
unfolding print_from
value_ends [] ws h = blank_ends ws h
value_ends (begin_object ∷ ts) ws h = refl
value_ends (end_object ∷ ts) ws h = refl
value_ends (begin_array ∷ ts) ws h = refl
value_ends (end_array ∷ ts) ws h = refl
value_ends (key s ∷ ts) ws h = refl
value_ends (string s ∷ ts) ws h = refl
value_ends (number s ∷ ts) ws h = refl
value_ends (boolean b ∷ ts) ws h = refl
value_ends (null ∷ ts) ws h = refl
value_ends (bad ∷ ts) ws h = refl

-- Two texts that are the same to the lexer stay so behind the same token.

-- both end a word
abbrev BothEnd : List ℕ → List ℕ → Type 0
BothEnd r s = (ends_word r ≡ true) × (ends_word s ≡ true)

lex_quoted : (text r : List ℕ)
    → lex between (quoted text ++ r) ≡ token (string text) ∷ lex between r
unfolding lex
lex_quoted text r =
    ap (λ l. lex between (34 ∷ l)) (append_assoc (escape text) (34 ∷ []) r)
    ∙ ap₂ (λ o l. token (string_token o) ∷ l) (content-escape text r) (lex-escape text r)

lex_colon : (r s : List ℕ) → lex between r ≡ lex between s
    → lex between (58 ∷ r) ≡ lex between (58 ∷ s)
unfolding lex
lex_colon r s same = ap (λ l. colon ∷ l) same

lex_text : (text r s : List ℕ) → lex between r ≡ lex between s
    → lex between (quoted text ++ r) ≡ lex between (quoted text ++ s)
lex_text text r s same =
    lex_quoted text r ∙ ap (λ l. token (string text) ∷ l) same ∙ sym (lex_quoted text s)

lex_token : (t : Token) (r s : List ℕ) → IsPrintable t → (ends t ≡ true → BothEnd r s)
    → lex between r ≡ lex between s
    → lex between (token_text t ++ r) ≡ lex between (token_text t ++ s)
unfolding lex word
lex_token begin_object r s h ended same = ap (λ l. token begin_object ∷ l) same
lex_token end_object r s h ended same = ap (λ l. token end_object ∷ l) same
lex_token begin_array r s h ended same = ap (λ l. token begin_array ∷ l) same
lex_token end_array r s h ended same = ap (λ l. token end_array ∷ l) same
lex_token (key text) r s h ended same =
    ap (lex between) (append_assoc (quoted text) (58 ∷ []) r)
    ∙ lex_text text (58 ∷ r) (58 ∷ s) (lex_colon r s same)
    ∙ ap (lex between) (sym (append_assoc (quoted text) (58 ∷ []) s))
lex_token (string text) r s h ended same = lex_text text r s same
lex_token (number text) r s h ended same =
    lex-number text r h (ended refl).0 ∙ ap (λ l. token (number text) ∷ l) same
    ∙ sym (lex-number text s h (ended refl).1)
lex_token (boolean true) r s h ended same =
    let both = ended refl in
    ap₂ (λ b l. token (cond b (boolean true) bad) ∷ l) (both.0 ∙ sym both.1)
    (in_word-ended r both.0 ∙ same ∙ sym (in_word-ended s both.1))
lex_token (boolean false) r s h ended same =
    let both = ended refl in
    ap₂ (λ b l. token (cond b (boolean false) bad) ∷ l) (both.0 ∙ sym both.1)
    (in_word-ended r both.0 ∙ same ∙ sym (in_word-ended s both.1))
lex_token null r s h ended same =
    let both = ended refl in
    ap₂ (λ b l. token (cond b null bad) ∷ l) (both.0 ∙ sym both.1)
    (in_word-ended r both.0 ∙ same ∙ sym (in_word-ended s both.1))
lex_token bad r s h ended same = absurd h

lex_separator : (b : Bool) (r s : List ℕ) → lex between r ≡ lex between s
    → lex between (cond b (44 ∷ []) [] ++ r) ≡ lex between (cond b (44 ∷ []) [] ++ s)
unfolding lex
lex_separator true r s same = ap (λ l. comma ∷ l) same
lex_separator false r s same = same

lex_behind : (c : Bool) (ts : List Token) (ws : List ℕ) → ArePrintable ts
    → list_all is_space ws ≡ true
    → lex between (print_from c ts ++ ws) ≡ lex between (print_from c ts)
unfolding print_from ArePrintable
lex_behind c [] ws h blank = lex_blank ws blank ∙ sym (lex_blank [] refl)
lex_behind c (t ∷ ts) ws h blank =
    let before = cond (c && begins t) (44 ∷ []) [] in
    let text = token_text t in
    let more = print_from (ends t) ts in
    let both : ends t ≡ true → BothEnd (more ++ ws) more = λ e. (
      ap (λ b. ends_word (print_from b ts ++ ws)) e ∙ value_ends ts ws blank,
      ap ends_word (sym (append-nil more))
          ∙ ap (λ b. ends_word (print_from b ts ++ [])) e ∙ value_ends ts [] refl,
    ) in
    ap (lex between) (append_assoc before (text ++ more) ws
    ∙ ap (λ l. before ++ l) (append_assoc text more ws))
    ∙ lex_separator (c && begins t) (text ++ (more ++ ws)) (text ++ more)
    (lex_token t (more ++ ws) more h.0 both (lex_behind (ends t) ts ws h.1 blank))

-- what is written is read, with white space behind it, too
pub blank_back : (d : Data) (ws : List ℕ) → ReadsBack max_depth d → list_all is_space ws ≡ true
    → read (compact_text d ++ ws) ≡ Some d
blank_back d ws h blank =
    let j = outline d in
    let ts = tree.json_tokens j in
    let printable = ArePrintable-json_tokens j h.numbers in
    let same : tokens (compact_text d ++ ws) ≡ ts =
    ap (λ text. tokens (text ++ ws)) (sym (print-outline d))
    ∙ ap (punctuate fresh) (lex_behind false ts ws printable blank) ∙ tokens-print ts printable in
    ap (λ o. option_and_then of_json (option_and_then (λ p. json.if_last p.0 p.1) o))
    (ap (json.value max_depth) (same ∙ sym (append-nil ts))
    ∙ value-json_tokens j max_depth [] h.shallow)
    ∙ h.back

-- it is text
pub blank_utf8 : (d : Data) (ws : List ℕ) → ReadsBack max_depth d → list_all is_space ws ≡ true
    → IsUtf8 (compact_text d ++ ws)
blank_utf8 d ws h blank =
    IsUtf8-append (compact_text d) ws h.utf8 (IsUtf8-are_ascii ws (blank_ascii ws blank))
