-- What a reply says to C.
use Rattle.std.specs.Prelude.{ℕ, List, Some, None, Ok, Err}
use Rattle.ssz_script.specs.declared.reply.Reply.{Reply}
use Rattle.ssz_script.specs.declared.reply.Reply.TheVariants as reply
use Rattle.ssz_script.specs.declared.reply.TheConstants.Reply.{BAD_JSON, BLIND}
use Rattle.ssz_said.specs.declared.entries.SszIndex.{SszIndex}
use Rattle.ssz_said.specs.declared.fault.SszFault.{SszFault}
use Rattle.ssz_said.specs.declared.status.TheConstants.{REFUSED}
use Rattle.ssz_said.specs.Entries.{index_parts}
use Rattle.ssz_said.specs.Outcome.{CallOutcome, invalid, refused}

-- a refusal with the number of its code
abbrev pub coded : ℕ → SszFault
coded code = record { status = REFUSED; code = code; position = 0 }

-- a reply, or the fault of a refusal: of bytes their first fault, else the code
abbrev pub reply_taken : Reply → CallOutcome Reply
reply_taken (reply.Refused line code None) = Err (coded code)
reply_taken (reply.Refused line code (Some fault)) = Err (invalid fault)
reply_taken (reply.Blind line index) = Err (coded BLIND)
reply_taken (reply.BadJson line code number) = Err (coded BAD_JSON)
reply_taken other = Ok other

-- a root, where there is one; no other reply is that of `root`
abbrev pub reply_root : CallOutcome Reply → CallOutcome (List ℕ)
reply_root (Err why) = Err why
reply_root (Ok (reply.Root chunk)) = Ok chunk.0
reply_root (Ok other) = Err (refused REFUSED)

-- an encoding, where there is one; no other reply is that of `bytes`
abbrev pub encoding_of : CallOutcome Reply → CallOutcome (List ℕ)
encoding_of (Err why) = Err why
encoding_of (Ok (reply.Bytes bytes)) = Ok bytes
encoding_of (Ok other) = Err (refused REFUSED)

-- a length, where there is one; no other reply is that of `len`
abbrev pub reply_len : CallOutcome Reply → CallOutcome ℕ
reply_len (Err why) = Err why
reply_len (Ok (reply.Len count)) = Ok count
reply_len (Ok other) = Err (refused REFUSED)

-- an index, where there is one; no other reply is that of `gindex`
abbrev pub gindex_of : CallOutcome Reply → CallOutcome SszIndex
gindex_of (Err why) = Err why
gindex_of (Ok (reply.Gindex index)) = Ok (index_parts index)
gindex_of (Ok other) = Err (refused REFUSED)

-- a text, where there is one; no other reply is that of `json`
abbrev pub reply_text : CallOutcome Reply → CallOutcome (List ℕ)
reply_text (Err why) = Err why
reply_text (Ok (reply.Json text)) = Ok text
reply_text (Ok other) = Err (refused REFUSED)
