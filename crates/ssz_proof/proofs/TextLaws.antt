-- The text of a proof is read as that proof.
use Rattle.std.proofs.Common.{◌≡◌, ℕ, zero, suc, ◌<◌, false, List, [], ◌∷◌, ◌++◌, length, get_or, map, refl, sym, ap, ap₂, ◌∙◌, subst, Option, Some, option_map, arith, append_assoc, ◌⊎◌, inl, inr}
use Rattle.std.specs.Prelude.{codes, decimal, bytes_eq, Contains, ◌==◌}
use Rattle.std.specs.List.{AllByRecursion}
use Rattle.std.specs.List.Sorted.{IsPermutation}
use Rattle.std.proofs.lemmas.Bool.{cond-false, ne_eqb}
use Rattle.std.proofs.lemmas.List.{append-nil}
use Rattle.std.proofs.lemmas.List.Elements.{All-from_recursion}
use Rattle.std.proofs.lemmas.List.Sorted.{IsPermutation-refl, IsPermutation-sym, Contains-permutation}
use Rattle.std.proofs.lemmas.List.Splits.{slice_split_at, slice_split_none}
use Rattle.std.proofs.lemmas.Option.{same_Some}
use Rattle.hex.specs.Hex.{encode_lower}
use Rattle.ssz_proof.specs.declared.entry.Entry.{Entry}
use Rattle.ssz_proof.specs.Calculation.{Known, indices_of}
use Rattle.ssz_proof.specs.Multiproof.{Multiproof, known_of, IsOrdered, IsProofOf, AscendFrom}
use Rattle.ssz_proof.specs.Laws.{IsProofEntry, LawOfTexts}
use Rattle.ssz_proof.specs.Text.{◌>>=◌, entry_of, entries_of_words, lists_of, with_leaf, line_without_feed, words_of_line, proof_of_lists, read_text, entry_text, entries_text, multiproof_text}
use Rattle.ssz_proof.proofs.EntryTexts.{word_of, entry_of-word, word_bytes, word_not_slash, all-weaker}
use Rattle.ssz_proof.proofs.TextSteps.{line_of-end}

-- a word without spaces
abbrev Free : List ℕ → Type 0
Free word = AllByRecursion (λ byte. (byte == 32) ≡ false) word

split_word : (word rest : List ℕ) → Free word
    → words_of_line (word ++ 32 ∷ rest) ≡ word ∷ words_of_line rest
split_word word rest free =
    slice_split_at (λ byte. byte == 32) word 32 rest
    (All-from_recursion (λ byte. (byte == 32) ≡ false) word free) refl

last_word : (word : List ℕ) → Free word → words_of_line word ≡ word ∷ []
last_word word free =
    slice_split_none (λ byte. byte == 32) word
    (All-from_recursion (λ byte. (byte == 32) ≡ false) word free)

entry_free : (entry : Entry) → IsProofEntry entry → Free (word_of entry)
entry_free entry is =
    all-weaker (λ b. 47 < b) (λ byte. (byte == 32) ≡ false)
    (λ b high. ne_eqb b 32 (λ e. omega arith)) (word_of entry) (word_bytes entry is)

-- the text of an entry and of those behind it, before more bytes
entries_text-first : (entry : Entry) (known : Known) (more : List ℕ)
    → entries_text (entry ∷ known) ++ more
    ≡ 32 ∷ (word_of entry ++ (entries_text known ++ more))
entries_text-first entry known more =
    ap (λ text. (text ++ entries_text known) ++ more) (entry_text_is entry)
    ∙ ap (λ text. 32 ∷ text) (append_assoc (word_of entry) (entries_text known) more)
  where
    entry_text_is : (entry : Entry) → entry_text entry ≡ 32 ∷ word_of entry
    entry_text_is entry =
        ap (λ text. 32 ∷ text)
        (append_assoc (decimal entry.index) (codes "=0x") (encode_lower entry.chunk.0))

-- a word, entries, and what stands behind a space
words-before : (word : List ℕ) (known : Known) (rest : List ℕ) → Free word
    → AllByRecursion IsProofEntry known
    → words_of_line (word ++ (entries_text known ++ 32 ∷ rest))
    ≡ word ∷ (map word_of known ++ words_of_line rest)
words-before word [] rest free all = split_word word rest free
words-before word (entry ∷ known) rest free all =
    ap (λ text. words_of_line (word ++ text)) (entries_text-first entry known (32 ∷ rest))
    ∙ split_word word (word_of entry ++ (entries_text known ++ 32 ∷ rest)) free
    ∙ ap (λ words. word ∷ words)
    (words-before (word_of entry) known rest (entry_free entry all.0) all.1)

-- a word and entries
words-end : (word : List ℕ) (known : Known) → Free word → AllByRecursion IsProofEntry known
    → words_of_line (word ++ entries_text known) ≡ word ∷ map word_of known
words-end word [] free all = ap words_of_line (append-nil word) ∙ last_word word free
words-end word (entry ∷ known) free all =
    ap (λ text. words_of_line (word ++ text))
    (sym (append-nil (entries_text (entry ∷ known))) ∙ entries_text-first entry known []
    ∙ ap (λ text. 32 ∷ (word_of entry ++ text)) (append-nil (entries_text known)))
    ∙ split_word word (word_of entry ++ entries_text known) free
    ∙ ap (λ words. word ∷ words) (words-end (word_of entry) known (entry_free entry all.0) all.1)

-- the words of the whole text
words_of-text : (leaves nodes : Known) → AllByRecursion IsProofEntry leaves
    → AllByRecursion IsProofEntry nodes
    → words_of_line (line_without_feed
    (multiproof_text (record { leaves = leaves; nodes = nodes })))
    ≡ codes "proof" ∷ (map word_of leaves ++ (codes "/" ∷ map word_of nodes))
words_of-text leaves nodes all_leaves all_nodes =
    let first : List ℕ = entries_text leaves in
    let second : List ℕ = entries_text nodes in
    let line : List ℕ = ((codes "proof" ++ first) ++ codes " /") ++ second in
    ap words_of_line (line_of-end line
    ∙ append_assoc (codes "proof" ++ first) (codes " /") second
    ∙ append_assoc (codes "proof") first (codes " /" ++ second))
    ∙ words-before (codes "proof") leaves (codes "/" ++ second)
    (refl, (refl, (refl, (refl, (refl, tt))))) all_leaves
    ∙ ap (λ words. codes "proof" ∷ (map word_of leaves ++ words))
    (words-end (codes "/") nodes (refl, tt) all_nodes)

entries-read : (known : Known) → AllByRecursion IsProofEntry known
    → entries_of_words (map word_of known) ≡ Some known
entries-read [] all = refl
entries-read (entry ∷ known) all =
    ap₂ (λ one more. one >>= (λ found. more >>= (λ rest. Some (found ∷ rest))))
    (entry_of-word entry all.0) (entries-read known all.1)

lists-read : (leaves nodes : Known) → AllByRecursion IsProofEntry leaves
    → AllByRecursion IsProofEntry nodes
    → lists_of (map word_of leaves ++ (codes "/" ∷ map word_of nodes))
    ≡ Some (record { leaves = leaves; nodes = nodes })
lists-read [] nodes all_leaves all_nodes =
    ap (option_map (λ known. record { leaves = []; nodes = known })) (entries-read nodes all_nodes)
lists-read (entry ∷ leaves) nodes all_leaves all_nodes =
    let rest : List (List ℕ) = map word_of leaves ++ (codes "/" ∷ map word_of nodes) in
    let made : Option Entry → Option Multiproof → Option Multiproof = λ one more.
    one >>= (λ found. more >>= (λ lists. Some (with_leaf found lists))) in
    cond-false (bytes_eq (word_of entry) (codes "/"))
    (option_map (λ known. record { leaves = []; nodes = known }) (entries_of_words rest))
    (made (entry_of (word_of entry)) (lists_of rest)) (word_not_slash entry all_leaves.0)
    ∙ ap₂ made (entry_of-word entry all_leaves.0) (lists-read leaves nodes all_leaves.1 all_nodes)

all-front : (xs ys : Known) → AllByRecursion IsProofEntry (xs ++ ys)
    → AllByRecursion IsProofEntry xs
all-front [] ys all = tt
all-front (x ∷ xs) ys all = (all.0, all-front xs ys all.1)

all-back : (xs ys : Known) → AllByRecursion IsProofEntry (xs ++ ys) → AllByRecursion IsProofEntry ys
all-back [] ys all = all
all-back (x ∷ xs) ys all = all-back xs ys all.1

says : (proof : Multiproof) → AllByRecursion IsProofEntry (known_of proof)
    → read_text (multiproof_text proof) ≡ Some proof
says proof all =
    let all_leaves = all-front proof.leaves proof.nodes all in
    let all_nodes = all-back proof.leaves proof.nodes all in
    ap proof_of_lists (words_of-text proof.leaves proof.nodes all_leaves all_nodes)
    ∙ lists-read proof.leaves proof.nodes all_leaves all_nodes

-- one list in ascending order

abbrev IsIn : Entry → Known → Type 0
IsIn entry [] = ⊥
IsIn entry (x ∷ known) = (x ≡ entry) ⊎ IsIn entry known

in_from : (known : Known) (entry : Entry) (k : ℕ) → k < length known
    → get_or known k entry ≡ entry → IsIn entry known
in_from [] entry k within e = absurd (omega arith)
in_from (x ∷ known) entry zero within e = inl e
in_from (x ∷ known) entry (suc k) within e = inr (in_from known entry k (omega arith) e)

contains_from : (known : Known) (entry : Entry) → IsIn entry known → Contains known entry
contains_from [] entry is = absurd is
contains_from (x ∷ known) entry (inl e) = (0, omega arith, e)
contains_from (x ∷ known) entry (inr later) =
    let place = contains_from known entry later in
    (suc place.0, omega (arith, place.1), place.2)

above_low : (low : ℕ) (known : Known) (entry : Entry) → AscendFrom low (indices_of known)
    → IsIn entry known → low < entry.index
above_low low [] entry ascends is = absurd is
above_low low (x ∷ known) entry ascends (inl e) =
    let same : x.index ≡ entry.index = ap (λ (y : Entry). y.index) e in
    omega (arith, ascends.0)
above_low low (x ∷ known) entry ascends (inr later) =
    let above = above_low x.index known entry ascends.1 later in
    omega (arith, ascends.0)

head_same : (x y : Entry) (xs ys : Known) → AscendFrom x.index (indices_of xs)
    → AscendFrom y.index (indices_of ys) → IsIn x (y ∷ ys) → IsIn y (x ∷ xs) → x ≡ y
head_same x y xs ys one two (inl e) there = sym e
head_same x y xs ys one two (inr later) (inl e) = e
head_same x y xs ys one two (inr later) (inr other) =
    absurd (let above = above_low y.index ys x two later in
    let below = above_low x.index xs y one other in omega arith)

tail_in : (x y entry : Entry) (xs ys : Known) → x ≡ y → AscendFrom x.index (indices_of xs)
    → IsIn entry xs → IsIn entry (y ∷ ys) → IsIn entry ys
tail_in x y entry xs ys same ascends is (inr later) = later
tail_in x y entry xs ys same ascends is (inl e) =
    absurd (let above = above_low x.index xs entry ascends is in
    let equal : x.index ≡ entry.index = ap (λ (z : Entry). z.index) (same ∙ e) in omega arith)

same_ascending : (low high : ℕ) (xs ys : Known) → AscendFrom low (indices_of xs)
    → AscendFrom high (indices_of ys) → ((entry : Entry) → IsIn entry xs → IsIn entry ys)
    → ((entry : Entry) → IsIn entry ys → IsIn entry xs) → ys ≡ xs
same_ascending low high [] [] one two to from = refl
same_ascending low high [] (y ∷ ys) one two to from = absurd (from y (inl refl))
same_ascending low high (x ∷ xs) [] one two to from = absurd (to x (inl refl))
same_ascending low high (x ∷ xs) (y ∷ ys) one two to from =
    let head : x ≡ y =
    head_same x y xs ys one.1 two.1 (to x (inl refl)) (from y (inl refl)) in
    ap₂ (λ e rest. e ∷ rest) (sym head)
    (same_ascending x.index y.index xs ys one.1 two.1
    (λ entry is. tail_in x y entry xs ys head one.1 is (to entry (inr is)))
    (λ entry is. tail_in y x entry ys xs (sym head) two.1 is (from entry (inr is))))

in_permuted : (xs ys : Known) → IsPermutation xs ys → (entry : Entry) → IsIn entry xs
    → IsIn entry ys
in_permuted xs ys same entry is =
    let place = Contains-permutation xs ys entry same (contains_from xs entry is) in
    in_from ys entry place.0 place.1 place.2

only : (proof other : Multiproof) → IsOrdered proof → IsProofOf proof other → other ≡ proof
only proof other ordered is =
    ap₂ (λ leaves nodes. record { leaves = leaves; nodes = nodes })
    (same_ascending 0 0 proof.leaves other.leaves ordered.ascends is.ordered.ascends
    (in_permuted proof.leaves other.leaves is.leaves)
    (in_permuted other.leaves proof.leaves
    (IsPermutation-sym proof.leaves other.leaves is.leaves)))
    is.nodes

pub law_of_texts : LawOfTexts
law_of_texts proof ordered all =
    let read = says proof all in
    record {
      says = read;
      is = record {
        lists = proof;
        says = read;
        is = record {
          given = ordered.is;
          ordered = ordered;
          leaves = IsPermutation-refl proof.leaves;
          nodes = refl;
        };
      };
      only = λ other h.
          only proof other ordered
          (subst (λ (lists : Multiproof). IsProofOf lists other)
          (same_Some h.lists proof (sym h.says ∙ read)) h.is);
    }
