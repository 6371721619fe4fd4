-- The text of an entry is read as that entry, and has no space.
use Rattle.std.proofs.Common.{◌≡◌, ℕ, zero, suc, ◌+◌, ◌-◌, ◌*◌, ◌/◌, ◌%◌, ◌^◌, ◌<◌, ◌≤◌, true, false, eqb, leb, ltb, ◌&&◌, List, [], ◌∷◌, ◌++◌, length, get_or, take, drop, refl, sym, ap, ap₂, ◌∙◌, subst, Option, Some, None, Ok, arith, lit<, lit≤, codes}
use Rattle.std.specs.Prelude.{decimal, slice_index, bytes_eq}
use Rattle.std.specs.List.{AllByRecursion, list_all, before_first, after_first, position_or_len}
use Rattle.std.specs.Result.{result_ok}
use Rattle.std.proofs.Math.Seq.{take-append_seam, drop-append-add, get_or-append_seam}
use Rattle.std.proofs.lemmas.Bool.{and_parts, and_from, cond-true, cond-false, leb-true, le-leb, ltb-true, ne_eqb, eq-eqb}
use Rattle.std.proofs.lemmas.Fmt.{decimal_by_steps_wide}
use Rattle.std.proofs.lemmas.List.{get_or_append_left, length-append}
use Rattle.std.proofs.lemmas.List.Elements.{All-from_recursion}
use Rattle.std.proofs.lemmas.List.Sums.{position_or_len_is}
use Rattle.hex.specs.Hex.{decode_pairs, decode_sized, encode_lower, encode_with, lower_digits}
use Rattle.hex.proofs.HexLemmas.{decode_of-even, decode_of-encode_lower, length-encode_with}
use Rattle.ssz_decimal.specs.Decimal.{is_digit, number_after, digits_below, number_below}
use Rattle.ssz_decimal.proofs.NumbersLemmas.{digits_below-some}
use Rattle.ssz_chunk.specs.Chunk.{IsChunk}
use Rattle.ssz_proof.specs.declared.entry.Entry.{Entry}
use Rattle.ssz_proof.specs.Laws.{IsProofEntry}
use Rattle.ssz_proof.specs.Text.{◌>>=◌, not_zero, index_of, chunk_of_hex, is_equals, entry_of}

-- lists of bytes

pub all-append : (P : ℕ → Type 0) (xs ys : List ℕ) → AllByRecursion P xs → AllByRecursion P ys
    → AllByRecursion P (xs ++ ys)
all-append P [] ys all others = others
all-append P (x ∷ xs) ys all others = (all.0, all-append P xs ys all.1 others)

pub all-weaker : (P Q : ℕ → Type 0) → ((b : ℕ) → P b → Q b) → (xs : List ℕ)
    → AllByRecursion P xs → AllByRecursion Q xs
all-weaker P Q f [] all = tt
all-weaker P Q f (x ∷ xs) all = (f x all.0, all-weaker P Q f xs all.1)

-- decimal digits

-- some digits that make a number, the first of them no 0
record Writes (n : ℕ) (ds : List ℕ) : Type 0 where
  pub digits : list_all is_digit ds ≡ true
  pub value : number_after 0 ds ≡ n
  pub some : 0 < length ds
  pub first : 0 < n → 48 < get_or ds 0 0

digit : (d : ℕ) → d < 10 → is_digit (48 + d) ≡ true
digit d small =
    and_from (leb 48 (48 + d)) (leb (48 + d) 57)
    (le-leb 48 (48 + d) (omega arith)) (le-leb (48 + d) 57 (omega arith))

list_all-last : (ds : List ℕ) (d : ℕ) → list_all is_digit ds ≡ true → is_digit d ≡ true
    → list_all is_digit (ds ++ d ∷ []) ≡ true
list_all-last [] d all is = and_from (is_digit d) true is refl
list_all-last (b ∷ ds) d all is =
    let both = and_parts (is_digit b) (list_all is_digit ds) all in
    and_from (is_digit b) (list_all is_digit (ds ++ d ∷ [])) both.0 (list_all-last ds d both.1 is)

number_after-last : (n : ℕ) (ds : List ℕ) (d : ℕ)
    → number_after n (ds ++ d ∷ []) ≡ number_after n ds * 10 + (d - 48)
number_after-last n [] d = refl
number_after-last n (b ∷ ds) d = number_after-last (n * 10 + (b - 48)) ds d

writes-one : (n : ℕ) → n < 10 → Writes n ((48 + n) ∷ [])
writes-one n small = record {
  digits = and_from (is_digit (48 + n)) true (digit n small) refl;
  value = omega arith;
  some = lit< tt;
  first = λ positive. omega arith;
}

writes-more : (n : ℕ) (ds : List ℕ) → 10 ≤ n → Writes (n / 10) ds
    → Writes n (ds ++ ((48 + n % 10) ∷ []))
writes-more n ds large front = record {
  digits = list_all-last ds (48 + n % 10) front.digits (digit (n % 10) (omega arith));
  value = omega (arith, number_after-last 0 ds (48 + n % 10), front.value);
  some = omega (arith, length-append ds ((48 + n % 10) ∷ []));
  first = λ positive.
      subst (λ (b : ℕ). 48 < b)
      (sym (get_or_append_left ds ((48 + n % 10) ∷ []) 0 0 front.some))
      (front.first (omega arith));
}

writes-decimal : (n : ℕ) → n < 2 ^ 128 → Writes n (decimal n)
writes-decimal n small =
    let fits : 2 ^ 128 ≤ 10 ^ 64 = lit≤ tt in
    decimal_by_steps_wide Writes writes-one writes-more n (omega arith)

number_is : (n : ℕ) (ds : List ℕ) → 0 < n → n < 2 ^ 128 → Writes n ds
    → number_below (2 ^ 128) ds ≡ Some n
number_is n [] positive small writes = absurd (let some = writes.some in omega arith)
number_is n (b ∷ []) positive small writes =
    sym (digits_below-some n (2 ^ 128) (b ∷ []) writes.digits (sym writes.value) small)
number_is n (b ∷ c ∷ ds) positive small writes =
    let first : 48 < b = writes.first positive in
    cond-false (eqb b 48) None (digits_below (2 ^ 128) (b ∷ c ∷ ds))
    (ne_eqb b 48 (λ e. omega arith))
    ∙ sym (digits_below-some n (2 ^ 128) (b ∷ c ∷ ds) writes.digits (sym writes.value) small)

not_zero-positive : (n : ℕ) → 0 < n → not_zero n ≡ Some n
not_zero-positive zero positive = absurd (omega arith)
not_zero-positive (suc n) positive = refl

pub index_of-decimal : (n : ℕ) → 0 < n → n < 2 ^ 128 → index_of (decimal n) ≡ Some n
index_of-decimal n positive small =
    ap (λ o. o >>= not_zero) (number_is n (decimal n) positive small (writes-decimal n small))
    ∙ not_zero-positive n positive

-- a byte of the text of an index or of a chunk
abbrev pub IsDigitByte : ℕ → Type 0
IsDigitByte b = (47 < b) × (b < 58)

digit_bytes : (ds : List ℕ) → list_all is_digit ds ≡ true → AllByRecursion IsDigitByte ds
digit_bytes [] all = tt
digit_bytes (b ∷ ds) all =
    let both = and_parts (is_digit b) (list_all is_digit ds) all in
    let bounds = and_parts (leb 48 b) (leb b 57) both.0 in
    let low : 48 ≤ b = leb-true 48 b bounds.0 in
    let high : b ≤ 57 = leb-true b 57 bounds.1 in
    ((omega arith, omega arith), digit_bytes ds both.1)

pub decimal_bytes : (n : ℕ) → n < 2 ^ 128 → AllByRecursion IsDigitByte (decimal n)
decimal_bytes n small = digit_bytes (decimal n) (writes-decimal n small).digits

-- hexadecimal digits

above_slash : (xs : List ℕ) → list_all (λ b. ltb 47 b) xs ≡ true
    → AllByRecursion (λ b. 47 < b) xs
above_slash [] e = tt
above_slash (b ∷ xs) e =
    let both = and_parts (ltb 47 b) (list_all (λ c. ltb 47 c) xs) e in
    (ltb-true 47 b both.0, above_slash xs both.1)

hex_digit : (d : ℕ) → d < 16 → 47 < slice_index lower_digits d
hex_digit d small =
    All-from_recursion (λ b. 47 < b) lower_digits (above_slash lower_digits refl) d 0 small

pub hex_bytes : (bytes : List ℕ) → ((i : ℕ) → slice_index bytes i < 256)
    → AllByRecursion (λ b. 47 < b) (encode_lower bytes)
unfolding encode_with
hex_bytes [] small = tt
hex_bytes (b ∷ bytes) small =
    let byte : b < 256 = small 0 in (
      hex_digit (b / 16) (omega arith),
      (hex_digit (b % 16) (omega arith), hex_bytes bytes (λ i. small (suc i))),
    )

decode_sized-lower : (bytes : List ℕ) → IsChunk bytes
    → decode_sized (encode_lower bytes) 32 ≡ Ok bytes
decode_sized-lower bytes chunk =
    let text : List ℕ = encode_lower bytes in
    let long : length text ≡ 64 =
    omega (arith, length-encode_with lower_digits bytes, chunk.count) in
    cond-false (eqb (length text % 2) 1) _ _ (ne_eqb (length text % 2) 1 (λ e. omega arith))
    ∙ cond-true (eqb (length text / 2) 32) (decode_pairs 0 text) _
    (eq-eqb (length text / 2) 32 (omega arith))
    ∙ sym (decode_of-even text (omega arith)) ∙ decode_of-encode_lower bytes chunk.bytes

pub chunk_of-lower : (bytes : List ℕ) → IsChunk bytes
    → chunk_of_hex (48 ∷ 120 ∷ encode_lower bytes) ≡ Some bytes
chunk_of-lower bytes chunk = ap result_ok (decode_sized-lower bytes chunk)

-- what stands around the first `=`

unlike_bytes : (ds : List ℕ) (k : ℕ) → AllByRecursion IsDigitByte ds → k < length ds
    → is_equals (get_or ds k 0) ≡ false
unlike_bytes [] k all within = absurd (omega arith)
unlike_bytes (b ∷ ds) zero all within =
    let high : b < 58 = all.0.1 in
    ne_eqb b 61 (λ e. omega arith)
unlike_bytes (b ∷ ds) (suc k) all within = unlike_bytes ds k all.1 (omega arith)

place_of-equals : (ds rest : List ℕ) → AllByRecursion IsDigitByte ds
    → position_or_len is_equals (ds ++ 61 ∷ rest) ≡ length ds
place_of-equals ds rest all =
    position_or_len_is is_equals (ds ++ 61 ∷ rest) (length ds) 0
    (omega (arith, length-append ds (61 ∷ rest)))
    (λ k within. ap is_equals (get_or_append_left ds (61 ∷ rest) 0 k within)
    ∙ unlike_bytes ds k all within)
    (λ within. ap is_equals (get_or-append_seam ds 61 rest 0))

before_equals : (ds rest : List ℕ) → AllByRecursion IsDigitByte ds
    → before_first is_equals (ds ++ 61 ∷ rest) ≡ ds
before_equals ds rest all =
    ap (λ n. take n (ds ++ 61 ∷ rest)) (place_of-equals ds rest all)
    ∙ take-append_seam ds (61 ∷ rest)

after_equals : (ds rest : List ℕ) → AllByRecursion IsDigitByte ds
    → after_first is_equals (ds ++ 61 ∷ rest) ≡ rest
after_equals ds rest all =
    ap (λ n. drop (n + 1) (ds ++ 61 ∷ rest)) (place_of-equals ds rest all)
    ∙ drop-append-add ds (61 ∷ rest) 1

-- the word of an entry
abbrev pub word_of : Entry → List ℕ
word_of entry = decimal entry.index ++ (61 ∷ 48 ∷ 120 ∷ encode_lower entry.chunk.0)

pub entry_of-word : (entry : Entry) → IsProofEntry entry → entry_of (word_of entry) ≡ Some entry
entry_of-word entry is =
    let digits = decimal_bytes entry.index is.fits in
    let rest : List ℕ = 48 ∷ 120 ∷ encode_lower entry.chunk.0 in
    let made : Option ℕ → Option (List ℕ) → Option Entry = λ index bytes.
    index >>= (λ i. bytes >>= (λ b. Some (record { index = i; chunk = record { 0 = b } }))) in
    ap₂ made
    (ap index_of (before_equals (decimal entry.index) rest digits)
    ∙ index_of-decimal entry.index is.positive is.fits)
    (ap chunk_of_hex (after_equals (decimal entry.index) rest digits)
    ∙ chunk_of-lower entry.chunk.0 is.chunk)

-- no byte of it is a space
pub word_bytes : (entry : Entry) → IsProofEntry entry → AllByRecursion (λ b. 47 < b) (word_of entry)
word_bytes entry is =
    all-append (λ b. 47 < b) (decimal entry.index) (61 ∷ 48 ∷ 120 ∷ encode_lower entry.chunk.0)
    (all-weaker IsDigitByte (λ b. 47 < b) (λ b h. h.0) (decimal entry.index)
    (decimal_bytes entry.index is.fits))
    (lit< tt, (lit< tt, (lit< tt, hex_bytes entry.chunk.0 is.chunk.bytes)))

not_slash : (word : List ℕ) → AllByRecursion (λ b. 47 < b) word
    → bytes_eq word (codes "/") ≡ false
not_slash [] all = refl
not_slash (b ∷ word) all =
    let high : 47 < b = all.0 in
    ap (λ t. t && bytes_eq word []) (ne_eqb b 47 (λ e. omega arith))

-- it is not the word `/`
pub word_not_slash : (entry : Entry) → IsProofEntry entry
    → bytes_eq (word_of entry) (codes "/") ≡ false
word_not_slash entry is = not_slash (word_of entry) (word_bytes entry is)
