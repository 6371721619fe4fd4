-- The texts of the printed lines, and their statuses (this project's).
use Rattle.std.specs.Prelude.{ℕ, List, [], ◌∷◌, ◌++◌, codes, decimal, Result, Ok, Err}
use Rattle.hex.specs.Hex.{encode_lower}
use Rattle.ssz_chunk.specs.declared.Chunk.{Chunk}
use Rattle.ssz_clash.specs.declared.finding.Clash.{Clash}
use Rattle.ssz_clash.specs.declared.finding.Clash.TheVariants.{Same, Unlike}
use Rattle.ssz_clash.specs.declared.fault.ClashFault.{ClashFault}
use Rattle.ssz_clash.specs.declared.fault.ClashFault.TheVariants.{OtherIndices, OtherRoot}
use Rattle.ssz_outside.specs.declared.status.Status.{Status}
use Rattle.ssz_outside.specs.declared.status.Status.TheVariants as status
use Rattle.ssz_schema.specs.FaultCodes.{schema_code}
use Rattle.ssz_bytes.specs.declared.fault.Fault.{Fault}
use Rattle.ssz_schema.specs.schema_fault.SchemaFault.{SchemaFault}
use Rattle.ssz_tool.specs.declared.line.Line.{Line}
use Rattle.ssz_tool.specs.declared.line.Line.TheVariants as line

-- a line feed after a text
abbrev pub ended : List ℕ → List ℕ
ended text = text ++ 10 ∷ []

-- the line of the first fault of a definition, and of which
abbrev pub definition_text : ℕ → SchemaFault → List ℕ
definition_text number fault =
    codes "schema S" ++ (decimal (schema_code fault) ++ (codes " " ++ ended (decimal number)))

-- the line of the first fault of bytes, and where it is
abbrev pub fault_text : Fault → List ℕ
fault_text fault =
    codes "invalid F" ++ (decimal fault.code ++ (codes " " ++ ended (decimal fault.position)))

-- the line of a root
abbrev pub root_text : List ℕ → List ℕ
root_text chunk = ended (codes "root 0x" ++ encode_lower chunk)

-- the line of a root that a proof leads to in place of the one wanted
abbrev pub unlike_text : List ℕ → List ℕ
unlike_text chunk = ended (codes "unlike 0x" ++ encode_lower chunk)

-- the line of an encoding
abbrev pub bytes_text : List ℕ → List ℕ
bytes_text bytes = ended (codes "bytes 0x" ++ encode_lower bytes)

-- a space and a chunk
abbrev pub chunk_word : Chunk → List ℕ
chunk_word chunk = codes " 0x" ++ encode_lower chunk.0

-- the line of what two proofs come to: of a clash its index, and the pairs below it of the first
-- proof and of the second
abbrev pub comparison_text : Result Clash ClashFault → List ℕ
comparison_text (Ok Same) = ended (codes "same")
comparison_text (Ok (Unlike index first second)) =
    codes "clash " ++ (decimal index ++ (chunk_word first.0 ++ (chunk_word first.1
    ++ (chunk_word second.0 ++ ended (chunk_word second.1)))))
comparison_text (Err OtherIndices) = ended (codes "otherindices")
comparison_text (Err (OtherRoot a b)) =
    codes "otherroot" ++ (chunk_word a ++ ended (chunk_word b))

-- the line that says how the program is used
abbrev pub usage_text : List ℕ
usage_text =
    codes "usage: ssz root SCHEMA TYPE FILE | run SCHEMA SCRIPT | weave SCHEMA BASE ORDER SCRIPT.."
    ++ (codes " | verify ROOT FILE | work SCHEMA TYPE SEED EDITS | part SCHEMA TYPE FILE PATH"
    ++ ended (codes " | partial SCHEMA TYPE PROOF SCRIPT | clash FILE FILE"))

abbrev pub line_text : Line → List ℕ
line_text line.SchemaTooLong = ended (codes "schema S15")
line_text line.NotJson = ended (codes "schema S1")
line_text line.Shape = ended (codes "schema S2")
line_text (line.Definition number fault) = definition_text number fault
line_text line.NoType = ended (codes "refused 0 2 NoType")
line_text line.TooLong = ended (codes "refused 0 12 TooLong")
line_text (line.Invalid fault) = fault_text fault
line_text (line.Root chunk) = root_text chunk.0
line_text line.BadProof = ended (codes "badproof")
line_text line.Valid = ended (codes "valid")
line_text (line.Unlike chunk) = unlike_text chunk.0
line_text line.BadPath = ended (codes "refused 0 5 BadPath")
line_text line.Absent = ended (codes "refused 0 6 Absent")
line_text line.FirstBadProof = ended (codes "badproof 1")
line_text line.SecondBadProof = ended (codes "badproof 2")
line_text (line.Compared result) = comparison_text result

-- what two proofs come to is accepted where they can be compared
abbrev pub comparison_status : Result Clash ClashFault → Status
comparison_status (Ok clash) = status.Accepted
comparison_status (Err fault) = status.Refused

-- the status after a line was printed
abbrev pub line_status : Line → Status
line_status line.SchemaTooLong = status.SchemaFault
line_status line.NotJson = status.SchemaFault
line_status line.Shape = status.SchemaFault
line_status (line.Definition number fault) = status.SchemaFault
line_status line.NoType = status.Refused
line_status line.TooLong = status.Refused
line_status (line.Invalid fault) = status.Refused
line_status (line.Root chunk) = status.Accepted
line_status line.BadProof = status.Refused
line_status line.Valid = status.Accepted
line_status (line.Unlike chunk) = status.Refused
line_status line.BadPath = status.Refused
line_status line.Absent = status.Refused
line_status line.FirstBadProof = status.Refused
line_status line.SecondBadProof = status.Refused
line_status (line.Compared result) = comparison_status result
