-- The lines of replies (this project's).
use Rattle.std.specs.Prelude.{ℕ, zero, suc, List, [], ◌∷◌, ◌++◌, Option, Some, None, decimal, codes, get_or}
use Rattle.std.specs.List.{join_with_byte}
use Rattle.hex.specs.Hex.{encode_lower}
use Rattle.ssz_bytes.specs.declared.fault.Fault.{Fault}
use Rattle.ssz_script.specs.declared.reply.Reply.{Reply}
use Rattle.ssz_script.specs.declared.reply.Reply.TheVariants.{Done, List as Listed, Root, Bytes, Len, Gindex, Proof, Hashes, Refused, Blind, Json, BadJson}

-- words, a space between two, and a line feed
abbrev pub line : List (List ℕ) → List ℕ
line words = join_with_byte 32 words ++ 10 ∷ []

-- `0x` and two digits a byte, in lower case
abbrev pub hexadecimal : List ℕ → List ℕ
hexadecimal bytes = codes "0x" ++ encode_lower bytes

-- the names of the codes of refusal, from 1 on
abbrev pub refusals : List (List ℕ)
refusals =
    codes "Syntax" ∷ codes "NoType" ∷ codes "NoVersion" ∷ codes "NameTaken" ∷ codes "BadPath"
    ∷ codes "Absent" ∷ codes "NotThat" ∷ codes "Full" ∷ codes "Empty" ∷ codes "BadSelector"
    ∷ codes "BadLiteral" ∷ codes "TooLong" ∷ codes "NoNode" ∷ codes "Nested" ∷ codes "NotHere"
    ∷ codes "NotContainer" ∷ codes "Blind" ∷ codes "BadJson" ∷ []

-- the name of a code; no other code is printed
abbrev pub refusal_name : ℕ → List ℕ
refusal_name zero = []
refusal_name (suc n) = get_or refusals n []

-- the words of a refusal: the line's number, the code and its name
abbrev pub refused_line : ℕ → ℕ → List (List ℕ)
refused_line number code = codes "refused" ∷ decimal number ∷ decimal code ∷ refusal_name code ∷ []

-- a letter and the number of a code
abbrev pub lettered : List ℕ → ℕ → List ℕ
lettered letter code = letter ++ decimal code

-- the words of the first fault of bytes: F and its code, and where it is
abbrev pub fault_words : Option Fault → List (List ℕ)
fault_words None = []
fault_words (Some fault) = lettered (codes "F") fault.code ∷ decimal fault.position ∷ []

-- the line of a reply
abbrev pub reply_line : Reply → List ℕ
reply_line Done = line (codes "ok" ∷ [])
reply_line (Listed names) = line (codes "list" ∷ names)
reply_line (Root chunk) = line (codes "root" ∷ hexadecimal chunk.0 ∷ [])
reply_line (Bytes bytes) = line (codes "bytes" ∷ hexadecimal bytes ∷ [])
reply_line (Len n) = line (codes "len" ∷ decimal n ∷ [])
reply_line (Gindex n) = line (codes "gindex" ∷ decimal n ∷ [])
-- a proof's text is a line already
reply_line (Proof text) = text
reply_line (Hashes n) = line (codes "hashes" ∷ decimal n ∷ [])
reply_line (Refused number code fault) = line (refused_line number code ++ fault_words fault)
reply_line (Blind number index) = line (refused_line number 17 ++ decimal index ∷ [])
reply_line (Json text) = line (codes "json" ∷ text ∷ [])
reply_line (BadJson number code place) =
    line (refused_line number 18 ++ lettered (codes "J") code ∷ decimal place ∷ [])
