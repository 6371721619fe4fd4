-- The text of a multiproof: a line of words with one space between them, `proof`, the leaves, `/`
-- and the nodes. A leaf or a node is `INDEX=0xHEX`.
use Rattle.std.specs.Prelude.{◌≡◌, ℕ, ◌^◌, ◌<◌, ◌==◌, nat_eq, bytes_eq, zero, suc, Bool, if◌then◌else◌, List, [], ◌∷◌, ◌++◌, Option, Some, None, drop, length, decimal, codes, flat_map}
use Rattle.std.specs.List.{slice_split, starts_with, before_first, after_first, position_or_len}
use Rattle.std.specs.Option.{option_map}
use Rattle.std.specs.Result.{result_ok}
use Rattle.hex.specs.Hex.{decode_sized, encode_lower}
pub use Rattle.ssz_bind.specs.Options.{◌>>=◌}
use Rattle.ssz_decimal.specs.Decimal.{number_below}
use Rattle.ssz_proof.specs.declared.entry.Entry.{Entry}
use Rattle.ssz_proof.specs.Calculation.{Known}
use Rattle.ssz_proof.specs.Multiproof.{Multiproof, IsMultiproof, IsProofOf}

abbrev pub not_zero : ℕ → Option ℕ
not_zero zero = None
not_zero (suc n) = Some (suc n)

-- an index: a decimal number from 1 to 2^128 - 1, without leading zeros
abbrev pub index_of : List ℕ → Option ℕ
index_of word = number_below (2 ^ 128) word >>= not_zero

-- a chunk: `0x`, and 64 hexadecimal digits in either case
abbrev pub chunk_of_hex : List ℕ → Option (List ℕ)
chunk_of_hex word =
    if starts_with nat_eq word (codes "0x") then result_ok (decode_sized (drop 2 word) 32) else None

abbrev pub is_equals : ℕ → Bool
is_equals byte = byte == 61

-- a chunk at an index: `INDEX=0xHEX`
abbrev pub entry_of : List ℕ → Option Entry
entry_of word = do
  index ← index_of (before_first is_equals word)
  bytes ← chunk_of_hex (after_first is_equals word)
  Some (record { index = index; chunk = record { 0 = bytes } })

-- each of the words is an entry
abbrev pub entries_of_words : List (List ℕ) → Option Known
entries_of_words [] = Some []
entries_of_words (word ∷ words) = do
  entry ← entry_of word
  known ← entries_of_words words
  Some (entry ∷ known)

abbrev pub with_leaf : Entry → Multiproof → Multiproof
with_leaf entry lists = record { leaves = entry ∷ lists.leaves; nodes = lists.nodes }

-- the leaves are the words before the first `/`, and the nodes those after it
abbrev pub lists_of : List (List ℕ) → Option Multiproof
lists_of [] = None
lists_of (word ∷ words) =
    if bytes_eq word (codes "/")
    then option_map (λ nodes. record { leaves = []; nodes = nodes }) (entries_of_words words)
    else (do
      entry ← entry_of word
      lists ← lists_of words
      Some (with_leaf entry lists))

-- the text without one line feed at its end
abbrev pub line_without_feed : List ℕ → List ℕ
line_without_feed [] = []
line_without_feed (byte ∷ []) = if byte == 10 then [] else byte ∷ []
line_without_feed (byte ∷ next ∷ bytes) = byte ∷ line_without_feed (next ∷ bytes)

-- what stands between single spaces
abbrev pub words_of_line : List ℕ → List (List ℕ)
words_of_line line = slice_split (λ byte. byte == 32) line

-- after the word `proof`
abbrev pub proof_of_lists : List (List ℕ) → Option Multiproof
proof_of_lists [] = None
proof_of_lists (word ∷ words) = if bytes_eq word (codes "proof") then lists_of words else None

-- the leaves and nodes that a text says, with a line feed at its end or without
abbrev pub read_text : List ℕ → Option Multiproof
read_text text = proof_of_lists (words_of_line (line_without_feed text))

-- the text that is printed of an entry, behind a space
abbrev pub entry_text : Entry → List ℕ
entry_text entry =
    codes " " ++ decimal entry.index ++ codes "=0x" ++ encode_lower entry.chunk.0

abbrev pub entries_text : Known → List ℕ
entries_text known = flat_map entry_text known

-- the text that is printed: the lists in their order, lower case, and a line feed
abbrev pub multiproof_text : Multiproof → List ℕ
multiproof_text proof =
    codes "proof" ++ entries_text proof.leaves ++ codes " /" ++ entries_text proof.nodes
    ++ codes "\n"

-- the proof that a text says
pub record IsReadAs (text : List ℕ) (proof : Multiproof) : Type 0 where
  pub lists : Multiproof
  pub says : read_text text ≡ Some lists
  pub is : IsProofOf lists proof

-- a text that says no lists, or lists that are no multiproof
abbrev pub IsRefused : List ℕ → Type 0
IsRefused text = (lists : Multiproof) → read_text text ≡ Some lists → ¬ IsMultiproof lists

-- the bytes before the first that is the wanted one, and those behind it: for contracts of private
-- functions
pub record IsSplitOnce (wanted : ℕ) (text front back : List ℕ) : Type 0 where
  pub some : position_or_len (λ byte. byte == wanted) text < length text
  pub before : front ≡ before_first (λ byte. byte == wanted) text
  pub behind : back ≡ after_first (λ byte. byte == wanted) text
