-- That each reply is one line.
use Rattle.std.specs.Prelude.{ℕ, Bool, true, false, ◌==◌, if◌then◌else◌, List, [], ◌∷◌, IsTrue}
use Rattle.std.specs.List.{list_all}
use Rattle.ssz_schema.specs.Names.{is_name}
use Rattle.ssz_script.specs.declared.reply.Reply.{Reply}
use Rattle.ssz_script.specs.declared.reply.Reply.TheVariants.{List as Listed, Proof, Json}
use Rattle.ssz_script.specs.Texts.{reply_line}

abbrev pub is_empty : List ℕ → Bool
is_empty [] = true
is_empty (b ∷ bytes) = false

-- a line feed stands at the end, and nowhere else
abbrev pub is_line : List ℕ → Bool
is_line [] = false
is_line (b ∷ bytes) = if b == 10 then is_empty bytes else is_line bytes

-- any byte but a line feed
abbrev pub is_no_feed : ℕ → Bool
is_no_feed b = if b == 10 then false else true

-- What a reply says as text fits into one line: its names are names, a proof's text is one line,
-- and JSON has no line feed.
abbrev pub FitsLine : Reply → Type 0
FitsLine (Listed names) = IsTrue (list_all is_name names)
FitsLine (Proof text) = IsTrue (is_line text)
FitsLine (Json text) = IsTrue (list_all is_no_feed text)
FitsLine other = Unit {0}

-- Each reply is one line.
abbrev pub RepliesAreLines : Type 0
RepliesAreLines = (reply : Reply) → FitsLine reply → IsTrue (is_line (reply_line reply))
