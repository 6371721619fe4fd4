-- Each reply is one line.
use Rattle.std.proofs.Common.{ℕ, zero, suc, ◌+◌, ◌/◌, ◌%◌, ◌<◌, ◌≡◌, ◌==◌, ◌&&◌, Bool, true, false, cond, List, [], ◌∷◌, ◌++◌, get_or, refl, ◌∙◌, arith, Some, None}
use Rattle.std.specs.Prelude.{decimal, codes, nat_lt, Option}
use Rattle.std.specs.List.{list_all, join_with_byte}
use Rattle.std.specs.Fmt.{digits, digits_onto, digit_glyph}
use Rattle.std.proofs.lemmas.Bool.Decides.{nat_tests}
use Rattle.std.proofs.lemmas.List.Folds.{list_all-append}
use Rattle.hex.specs.Hex.{encode_with, encode_lower, lower_digits}
use Rattle.ssz_schema.specs.Names.{is_letter, is_name_byte, is_name}
use Rattle.ssz_bytes.specs.declared.fault.Fault.{Fault}
use Rattle.ssz_line.proofs.FileLemmas.{first_of_both, second_of_both}
use Rattle.ssz_script.specs.declared.reply.Reply.TheVariants.{Done, List as Listed, Root, Bytes, Len, Gindex, Proof, Hashes, Refused, Blind, Json, BadJson}
use Rattle.ssz_script.specs.Texts.{line, hexadecimal, refusals, refusal_name, refused_line, lettered, fault_words}
use Rattle.ssz_script.specs.OneLine.{is_empty, is_line, is_no_feed, RepliesAreLines}

-- no line feed is among the bytes
abbrev pub no_feed : List ℕ → Bool
no_feed text = list_all is_no_feed text

is_empty-feed : (text : List ℕ) → is_empty (text ++ 10 ∷ []) ≡ false
is_empty-feed [] = refl
is_empty-feed (b ∷ text) = refl

-- a text and a line feed are a line exactly where the text has no line feed
pub is_line-feed : (text : List ℕ) → is_line (text ++ 10 ∷ []) ≡ no_feed text
is_line-feed [] = refl
is_line-feed (b ∷ text) =
    elim (b == 10) as (λ t. cond t (is_empty (text ++ 10 ∷ [])) (is_line (text ++ 10 ∷ []))
    ≡ (cond t false true && no_feed text)) [
      | true ↦ is_empty-feed text
      | false ↦ is_line-feed text
    ]

pub both : (a b : Bool) → a ≡ true → b ≡ true → (a && b) ≡ true
both a b first second = rw (first, second) refl

pub no_feed-append : (xs ys : List ℕ) → no_feed xs ≡ true → no_feed ys ≡ true
    → no_feed (xs ++ ys) ≡ true
no_feed-append xs ys first second = list_all-append is_no_feed xs ys ∙ both _ _ first second

-- words without line feeds, spaces between them
no_feed-joined : (words : List (List ℕ)) → list_all no_feed words ≡ true
    → no_feed (join_with_byte 32 words) ≡ true
no_feed-joined [] each = refl
no_feed-joined (w ∷ []) each = first_of_both _ _ each
no_feed-joined (w ∷ v ∷ words) each =
    no_feed-append w (32 ∷ join_with_byte 32 (v ∷ words)) (first_of_both _ _ each)
    (no_feed-joined (v ∷ words) (second_of_both _ _ each))

is_line-line : (words : List (List ℕ)) → list_all no_feed words ≡ true → is_line (line words) ≡ true
is_line-line words each = is_line-feed (join_with_byte 32 words) ∙ no_feed-joined words each

plain-above : (b : ℕ) → 10 < b → is_no_feed b ≡ true
plain-above b above = grind (arith, nat_tests)

plain-digit : (n : ℕ) → is_no_feed (digit_glyph false n) ≡ true
plain-digit n =
    elim (nat_lt n 10) as (λ t. is_no_feed (cond t (48 + n) (87 + n)) ≡ true) [
      | true ↦ plain-above (48 + n) (omega arith)
      | false ↦ plain-above (87 + n) (omega arith)
    ]

no_feed-cons : (b : ℕ) (text : List ℕ) → is_no_feed b ≡ true → no_feed text ≡ true
    → no_feed (b ∷ text) ≡ true
no_feed-cons b text first rest = both (is_no_feed b) (no_feed text) first rest

no_feed-digits_onto : (k n : ℕ) (text : List ℕ) → no_feed text ≡ true
    → no_feed (digits_onto k 10 false n text) ≡ true
no_feed-digits_onto zero n text rest = rest
no_feed-digits_onto (suc k) n text rest =
    let more = no_feed-cons (digit_glyph false (n % 10)) text (plain-digit (n % 10)) rest in
    elim (n / 10 == 0) as (λ t. no_feed (cond t (digit_glyph false (n % 10) ∷ text)
    (digits_onto k 10 false (n / 10) (digit_glyph false (n % 10) ∷ text))) ≡ true) [
      | true ↦ more
      | false ↦ no_feed-digits_onto k (n / 10) (digit_glyph false (n % 10) ∷ text) more
    ]

-- This text has no line feed.
pub record NoFeed (text : List ℕ) : Type 0 where
  pub plain : no_feed text ≡ true

-- None of these words has a line feed.
record EachNoFeed (words : List (List ℕ)) : Type 0 where
  pub each : list_all no_feed words ≡ true

pub NoFeed-decimal : (n : ℕ) → NoFeed (decimal n)
unfolding digits
NoFeed-decimal n = record { plain = no_feed-digits_onto 64 n [] refl }

-- what holds of each element holds of the one at any place, if it holds of the default
each-at : {A : Type 0} (p : A → Bool) (xs : List A) (i : ℕ) (d : A) → list_all p xs ≡ true
    → p d ≡ true → p (get_or xs i d) ≡ true
each-at p [] i d each default = default
each-at p (x ∷ xs) zero d each default = first_of_both _ _ each
each-at p (x ∷ xs) (suc i) d each default = each-at p xs i d (second_of_both _ _ each) default

plain-lower : (i : ℕ) → is_no_feed (get_or lower_digits i 0) ≡ true
plain-lower i = each-at is_no_feed lower_digits i 0 refl refl

pub no_feed-encode : (bytes : List ℕ) → no_feed (encode_lower bytes) ≡ true
unfolding encode_with
no_feed-encode [] = refl
no_feed-encode (b ∷ bytes) =
    let low = get_or lower_digits (b % 16) 0 in
    no_feed-cons (get_or lower_digits (b / 16) 0) (low ∷ encode_lower bytes) (plain-lower (b / 16))
    (no_feed-cons low (encode_lower bytes) (plain-lower (b % 16)) (no_feed-encode bytes))

NoFeed-refusal_name : (code : ℕ) → NoFeed (refusal_name code)
NoFeed-refusal_name zero = record { plain = refl }
NoFeed-refusal_name (suc n) = record { plain = each-at no_feed refusals n [] refl refl }

-- a byte of a name is no line feed
plain-name : (b : ℕ) → is_name_byte b ≡ true → is_no_feed b ≡ true
plain-name b is_byte = grind (arith, nat_tests)

plain-letter : (b : ℕ) → is_letter b ≡ true → is_no_feed b ≡ true
plain-letter b is_byte = grind (arith, nat_tests)

each-weaker : {A : Type 0} (p q : A → Bool) (xs : List A) → ((x : A) → p x ≡ true → q x ≡ true)
    → list_all p xs ≡ true → list_all q xs ≡ true
each-weaker p q [] weaker each = refl
each-weaker p q (x ∷ xs) weaker each =
    both _ _ (weaker x (first_of_both _ _ each))
    (each-weaker p q xs weaker (second_of_both _ _ each))

no_feed-name : (name : List ℕ) → is_name name ≡ true → no_feed name ≡ true
no_feed-name [] is_one = cc
no_feed-name (b ∷ bytes) is_one =
    let front = first_of_both _ _ is_one in
    no_feed-cons b bytes (plain-letter b (second_of_both _ _ front))
    (each-weaker is_name_byte is_no_feed bytes plain-name (second_of_both _ _ is_one))

NoFeed-hexadecimal : (bytes : List ℕ) → NoFeed (hexadecimal bytes)
NoFeed-hexadecimal bytes = record { plain = no_feed-encode bytes }

no_words : EachNoFeed []
no_words = record { each = refl }

-- one word more
also : {w : List ℕ} {words : List (List ℕ)} → NoFeed w → EachNoFeed words → EachNoFeed (w ∷ words)
also {w} {words} first rest =
    record { each = both (no_feed w) (list_all no_feed words) first.plain rest.each }

EachNoFeed-refused : (number code : ℕ) {more : List (List ℕ)} → EachNoFeed more
    → EachNoFeed (refused_line number code ++ more)
EachNoFeed-refused number code rest =
    also (record { plain = refl })
    (also (NoFeed-decimal number)
    (also (NoFeed-decimal code) (also (NoFeed-refusal_name code) rest)))

NoFeed-lettered : (letter : List ℕ) (code : ℕ) → NoFeed letter → NoFeed (lettered letter code)
NoFeed-lettered letter code first =
    record { plain = no_feed-append letter (decimal code) first.plain (NoFeed-decimal code).plain }

EachNoFeed-fault_words : (fault : Option Fault) → EachNoFeed (fault_words fault)
EachNoFeed-fault_words None = no_words
EachNoFeed-fault_words (Some fault) =
    also (NoFeed-lettered (codes "F") fault.code (record { plain = refl }))
    (also (NoFeed-decimal fault.position) no_words)

-- a line of a word and others
is_line-words : (words : List (List ℕ)) → EachNoFeed words → is_line (line words) ≡ true
is_line-words words each = is_line-line words each.each

-- a line of two words, the first without line feeds as it stands
two_words : (w v : List ℕ) → NoFeed w → NoFeed v → is_line (line (w ∷ v ∷ [])) ≡ true
two_words w v first second = is_line-words (w ∷ v ∷ []) (also first (also second no_words))

pub replies_are_lines_lem : RepliesAreLines
replies_are_lines_lem Done fits = refl
replies_are_lines_lem (Listed names) fits =
    is_line-line (codes "list" ∷ names) (each-weaker is_name no_feed names no_feed-name fits)
replies_are_lines_lem (Root chunk) fits =
    two_words (codes "root") (hexadecimal chunk.0) (record { plain = refl })
    (NoFeed-hexadecimal chunk.0)
replies_are_lines_lem (Bytes bytes) fits =
    two_words (codes "bytes") (hexadecimal bytes) (record { plain = refl })
    (NoFeed-hexadecimal bytes)
replies_are_lines_lem (Len n) fits =
    two_words (codes "len") (decimal n) (record { plain = refl }) (NoFeed-decimal n)
replies_are_lines_lem (Gindex n) fits =
    two_words (codes "gindex") (decimal n) (record { plain = refl }) (NoFeed-decimal n)
replies_are_lines_lem (Proof text) fits = fits
replies_are_lines_lem (Hashes n) fits =
    two_words (codes "hashes") (decimal n) (record { plain = refl }) (NoFeed-decimal n)
replies_are_lines_lem (Refused number code fault) fits =
    is_line-words (refused_line number code ++ fault_words fault)
    (EachNoFeed-refused number code (EachNoFeed-fault_words fault))
replies_are_lines_lem (Blind number index) fits =
    is_line-words (refused_line number 17 ++ decimal index ∷ [])
    (EachNoFeed-refused number 17 (also (NoFeed-decimal index) no_words))
replies_are_lines_lem (Json text) fits =
    two_words (codes "json") text (record { plain = refl }) (record { plain = fits })
replies_are_lines_lem (BadJson number code place) fits =
    is_line-words (refused_line number 18 ++ lettered (codes "J") code ∷ decimal place ∷ [])
    (EachNoFeed-refused number 18
    (also (NoFeed-lettered (codes "J") code (record { plain = refl }))
    (also (NoFeed-decimal place) no_words)))
