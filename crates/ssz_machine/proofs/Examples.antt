-- Scripts and what they print, from text to text, by computing.
use Rattle.std.specs.Prelude.{ℕ, ◌≡◌, ◌++◌, false, List, [], ◌∷◌, map, replicate, refl, codes, Some, None}
use Rattle.std.specs.List.{concat}
use Rattle.std.specs.Fmt.{digits as decimal_digits}
use Rattle.hex.specs.Hex.{encode_with, decode_pairs}
use Rattle.ssz_chunk.specs.Chunk.{xor_pair}
use Rattle.ssz_chunk.specs.Tree.{merkle_tree, merkle_pairs}
use Rattle.ssz_chunk.specs.Index.{levels_within, digits}
use Rattle.ssz_gindex.specs.Helpers.{descending}
use Rattle.ssz_line.specs.Single.{literal}
use Rattle.ssz_outside.specs.Content.{Content, contents, may_fail, with_bytes}
use Rattle.ssz_outside.specs.Job.{Job}
use Rattle.ssz_schema.specs.width.Width.TheVariants.{W8, W16, W64}
use Rattle.ssz_schema.specs.Types.{SszType, uint, container, list, bitlist, union, no_fields, field, no_options, none_option, option}
use Rattle.ssz_schema.specs.Sizes.{exponent, depth_of}
use Rattle.ssz_schema.specs.Lookup.{lookup_name}
use Rattle.ssz_script.specs.Grammar.{alone, one, two, three, three_or_four, one_and_more}
use Rattle.ssz_value.specs.Values.{chosen, number}
use Rattle.ssz_value_json.specs.Faults.{first_json_fault, value_spelled}
use Rattle.ssz_json_text.proofs.OneLine.{text_computes}
use Rattle.ssz_machine.specs.declared.place.Place.TheVariants.{Run, Weave}
use Rattle.ssz_machine.specs.State.{Name, fresh}
use Rattle.ssz_machine.specs.Rules.{Rules}
use Rattle.ssz_machine.specs.Machine.{Turn, charge_of}
use Rattle.ssz_machine.specs.Plays.{shown_all}
use Rattle.ssz_machine.specs.Jobs.{turns_of_script, turns_of_weave, script_job}
use Rattle.ssz_machine.specs.Work.{work_of, work_lines}

-- what computes where a script runs
texts_compute : ℕ
unfolding decimal_digits encode_with decode_pairs text_computes
texts_compute = 0

grammar_computes : ℕ
unfolding literal alone one two three three_or_four one_and_more
grammar_computes = 0

trees_compute : ℕ
unfolding exponent depth_of merkle_tree merkle_pairs levels_within digits descending xor_pair
trees_compute = 0

computes : ℕ
unfolding texts_compute grammar_computes trees_compute
computes = 0

abbrev Types : Type 0
Types = List (Name × SszType)

abbrev rules : Types → Rules
rules types = record {
  type_named = lookup_name types;
  max_bytes = 268435456;
  pair_of = xor_pair;
}

-- what a script prints, whatever the files hold
abbrev turns : Types → Content → List ℕ → List Turn
turns types held script = turns_of_script (rules types) [] (fresh held) script

abbrev run : Types → Content → List ℕ → List ℕ
run types held script = concat (shown_all Run (turns types held script))

abbrev weave : Types → Content → List ℕ → List ℕ → List (List ℕ) → List ℕ
weave types held base order scripts =
    concat (shown_all Weave (turns_of_weave (rules types) (fresh held) base order scripts))

abbrev types_P : Types
types_P =
    (codes "P", container (field (codes "a") (uint W64) (field (codes "b") (uint W64) no_fields)))
    ∷ []

abbrev types_Q : Types
types_Q =
    (codes "Q", container (field (codes "a") (uint W8) (field (codes "b") (uint W8) no_fields)))
    ∷ []

abbrev types_M : Types
types_M = (
  codes "M",
  container (field (codes "a") (uint W16)
      (field (codes "b") (list (uint W8) 4) no_fields)),
)
    ∷ []

abbrev type_U : SszType
type_U = union (none_option (option (uint W64) no_options))

-- a container with one field of P, one of another type, and one more; and a union
abbrev types_PN : Types
types_PN = (
  codes "P",
  container (field (codes "a") (uint W64) (field (codes "b") (uint W64) no_fields)),
)
    ∷ (
      codes "N",
      container (field (codes "b") (uint W64)
          (field (codes "a") (uint W8) (field (codes "c") (uint W64) no_fields))),
    )
    ∷ (codes "U", type_U)
    ∷ []

-- a line that is no statement
pub no_statement : (held : Content)
    → run [] held (codes "frob\n")
    ≡ codes "refused 1 1 Syntax\n"
unfolding computes
no_statement held = refl

-- no line at all
pub empty_script : (held : Content)
    → run [] held []
    ≡ []
unfolding computes
empty_script held = refl

-- a field of an equal type is taken, one of another type is its default, and so is one that is new
pub upgraded_fields_kept : (held : Content)
    → run types_PN held
    (codes "lit V P 0x01000000000000000200000000000000\nupgrade V W N\nbytes W /\nroot W\n"
    ++ codes "upgrade V X U\nupgrade V W N\nroot V\n")
    ≡ codes "ok\nok\nbytes 0x0200000000000000000000000000000000\n"
    ++ codes "root 0x0000000000000000000000000000000000000000000000000000000000000200\n"
    ++ codes "refused 5 16 NotContainer\nrefused 6 4 NameTaken\n"
    ++ codes "root 0x0200000000000000000000000000000000000000000000000000000000000001\n"
unfolding computes
upgraded_fields_kept held = refl

-- the type is tested first, then the version, then the new name, and the two types last
pub upgrade_refusals : (held : Content)
    → run types_PN held
    (codes "new V P\nnew X U\nupgrade V V N\nupgrade V V Z\nupgrade Y V Z\nupgrade Y V N\n"
    ++ codes "upgrade X V P\nupgrade X W P\nupgrade V W U\nupgrade V W P\nlist\n")
    ≡ codes "ok\nok\nrefused 3 4 NameTaken\nrefused 4 2 NoType\nrefused 5 2 NoType\n"
    ++ codes "refused 6 3 NoVersion\nrefused 7 4 NameTaken\nrefused 8 16 NotContainer\n"
    ++ codes "refused 9 16 NotContainer\nok\nlist V W X\n"
unfolding computes
upgrade_refusals held = refl

-- no version changes where memory is given up
pub compacted : (held : Content)
    → run types_Q held (codes "new V Q\nset V /a 0x05\nroot V\ncompact\nroot V\nlist\ncompact V\n")
    ≡ codes "ok\nok\n"
    ++ codes "root 0x0000000000000000000000000000000000000000000000000000000000000005\nok\n"
    ++ codes "root 0x0000000000000000000000000000000000000000000000000000000000000005\n"
    ++ codes "list V\nrefused 7 1 Syntax\n"
unfolding computes
compacted held = refl

-- comments and blank lines are no statements
pub blank_lines : (held : Content)
    → run [] held (codes "# note\n\nlist\n")
    ≡ codes "list\n"
unfolding computes
blank_lines held = refl

-- carriage returns before line feeds, blanks of both kinds, capital digits, and a last line with no
-- line feed
pub blanks_of_all_kinds : (held : Content)
    → run types_Q held (codes "\t lit  V\tQ 0xFf0A \r\n#\r\n\r\nbytes V /\nbytes V /\r")
    ≡ codes "ok\nbytes 0xff0a\nrefused 5 1 Syntax\n"
unfolding computes
blanks_of_all_kinds held = refl

-- a fork keeps its own value
pub forks_stand_alone : (held : Content)
    → run types_P held
    (codes "new A P\nfork A B\nroot A\nset B /a 0x0100000000000000\nroot A\nroot B\n"
    ++ codes "drop B\nroot A\nroot B\n")
    ≡ codes "ok\nok\n"
    ++ codes "root 0x0000000000000000000000000000000000000000000000000000000000000000\nok\n"
    ++ codes "root 0x0000000000000000000000000000000000000000000000000000000000000000\n"
    ++ codes "root 0x0000000000000000000000000000000000000000000000000000000000000001\nok\n"
    ++ codes "root 0x0000000000000000000000000000000000000000000000000000000000000000\n"
    ++ codes "refused 9 3 NoVersion\n"
unfolding computes
forks_stand_alone held = refl

-- what is popped leaves nothing
pub pops_leave_nothing : (held : Content)
    → run ((codes "T", list (uint W64) 8) ∷ []) held
    (codes "new V T\nroot V\nappend V / 0x0100000000000000\n"
    ++ codes "append V / 0x0100000000000000\nappend V / 0x0100000000000000\n"
    ++ codes "append V / 0x0100000000000000\nappend V / 0x0100000000000000\npop V /\n"
    ++ codes "pop V /\npop V /\npop V /\npop V /\nroot V\n")
    ≡ codes "ok\nroot 0x0000000000000000000000000000000000000000000000000000000000000000\n"
    ++ codes "ok\nok\nok\nok\nok\nok\nok\nok\nok\nok\n"
    ++ codes "root 0x0000000000000000000000000000000000000000000000000000000000000000\n"
unfolding computes
pops_leave_nothing held = refl

-- the only field is the whole
pub whole_is_proved : (held : Content)
    → run ((codes "O", container (field (codes "a") (uint W64) no_fields)) ∷ []) held
    (codes "new V O\nset V /a 0x0100000000000000\nprove V / /a\nprove V /a\n")
    ≡ codes "ok\nok\n"
    ++ codes "proof 1=0x0100000000000000000000000000000000000000000000000000000000000000 /\n"
    ++ codes "proof 1=0x0100000000000000000000000000000000000000000000000000000000000000 /\n"
unfolding computes
whole_is_proved held = refl

-- a proof of one field
pub field_is_proved : (held : Content)
    → run types_Q held (codes "lit V Q 0x0102\nroot V\nprove V /a\n")
    ≡ codes "ok\nroot 0x0200000000000000000000000000000000000000000000000000000000000001\n"
    ++ codes "proof 2=0x0100000000000000000000000000000000000000000000000000000000000000 /"
    ++ codes " 3=0x0200000000000000000000000000000000000000000000000000000000000000\n"
unfolding computes
field_is_proved held = refl

-- proofs that are refused, and repeats
pub refused_proofs : (held : Content)
    → run types_P held
    (codes "new V P\nprove V 1 2\nprove V 4\nprove V 0\nprove V 4 1\nprove V 3 2 2\n")
    ≡ codes "ok\nrefused 2 14 Nested\nrefused 3 13 NoNode\nrefused 4 13 NoNode\n"
    ++ codes "refused 5 13 NoNode\n"
    ++ codes "proof 2=0x0000000000000000000000000000000000000000000000000000000000000000"
    ++ codes " 3=0x0000000000000000000000000000000000000000000000000000000000000000 /\n"
unfolding computes
refused_proofs held = refl

-- indices of bits and options
pub bits_and_options : (held : Content)
    → run ((codes "T", bitlist 512) ∷ (codes "U", type_U) ∷ []) held
    (codes "gindex T /300\ngindex U /#1\ngindex U /#sel\ngindex U /#0\n")
    ≡ codes "gindex 5\ngindex 2\ngindex 3\nrefused 4 5 BadPath\n"
unfolding computes
bits_and_options held = refl

-- refusals of edits
pub refused_edits : (held : Content)
    → run ((codes "L", list (uint W8) 1) ∷ []) held
    (codes "new V L\nappend V / 0x05\nappend V / 0x06\npop V /\npop V /\nset V /0 0x07\n"
    ++ codes "set V /1 0x07\nset V /#len 0x0000000000000000\n")
    ≡ codes "ok\nok\nrefused 3 8 Full\nok\nrefused 5 9 Empty\nrefused 6 6 Absent\n"
    ++ codes "refused 7 5 BadPath\nrefused 8 7 NotThat\n"
unfolding computes
refused_edits held = refl

-- options chosen
pub options_chosen : (held : Content)
    → run ((codes "U", type_U) ∷ []) held
    (codes "new V U\nchoose V / 0 0x00\nchoose V / 2\nchoose V / 1 0x05\n"
    ++ codes "choose V / 1 0x0500000000000000\nroot V\n")
    ≡ codes "ok\nrefused 2 11 BadLiteral F2 0\nrefused 3 10 BadSelector\n"
    ++ codes "refused 4 11 BadLiteral F1 0\nok\n"
    ++ codes "root 0x0100000000000000000000000000000000000000000000000000000000000005\n"
unfolding computes
options_chosen held = refl

-- bytes, files and names
pub bytes_and_names : (held : Content)
    → run types_M held
    (codes "lit V M 0xaabb060000000102\nbytes V /\nbytes V /b\nlen V /b\nsave V f\nlist\n")
    ≡ codes "ok\nbytes 0xaabb060000000102\nbytes 0x0102\nlen 2\nok\nlist V\n"
unfolding computes
bytes_and_names held = refl

pub file_is_loaded : (held : Content)
    → contents held (codes "f") ≡ 170 ∷ 187 ∷ 6 ∷ 0 ∷ 0 ∷ 0 ∷ 1 ∷ 2 ∷ []
    → run types_M held (codes "load W M f\nbytes W /\nlist\n")
    ≡ codes "ok\nbytes 0xaabb060000000102\nlist W\n"
unfolding computes
file_is_loaded held is = rw is refl

-- the JSON texts of a value and of its parts
pub json_texts : (held : Content)
    → run types_M held
    (codes "lit V M 0xaabb060000000102\njson V /\njson V /b\njson V /b/1\njson V /b/#len\n"
    ++ codes "json V /b/2\njson V /b/4\njson W /\n")
    ≡ codes "ok\njson {\"a\":\"48042\",\"b\":\"0x0102\"}\njson \"0x0102\"\njson \"2\"\njson \"2\"\n"
    ++ codes "refused 6 6 Absent\nrefused 7 5 BadPath\nrefused 8 3 NoVersion\n"
unfolding computes
json_texts held = refl

-- of an option chosen, and of None
pub json_options : (held : Content)
    → run ((codes "U", type_U) ∷ []) held
    (codes "new V U\njson V /\nchoose V / 1 0x0500000000000000\njson V /\njson V /#sel\n")
    ≡ codes "ok\njson [0,null]\nok\njson [1,\"5\"]\njson \"1\"\n"
unfolding computes
json_options held = refl

-- the value that a file's text spells
pub json_is_loaded : (held : Content)
    → contents held (codes "f") ≡ codes "[1,\"5\"]"
    → first_json_fault type_U (codes "[1,\"5\"]") ≡ None
    → value_spelled type_U (codes "[1,\"5\"]") ≡ chosen 1 (number 5)
    → run ((codes "U", type_U) ∷ []) held
    (codes "loadjson V U f\nbytes V /\nloadjson V U f\nloadjson V X f\n")
    ≡ codes "ok\nbytes 0x010500000000000000\nrefused 3 4 NameTaken\nrefused 4 2 NoType\n"
unfolding computes
json_is_loaded held text none is = rw (text, none, is) refl

-- the first fault of a file's text
pub json_is_refused : (held : Content)
    → contents held (codes "f") ≡ codes "[2,null]"
    → first_json_fault type_U (codes "[2,null]") ≡ Some (record { code = 7; number = 0 })
    → run ((codes "U", type_U) ∷ []) held (codes "loadjson V U f\nlist\n")
    ≡ codes "refused 1 18 BadJson J7 0\nlist\n"
unfolding computes
json_is_refused held text is = rw (text, is) refl

-- two scripts, one after the other
pub two_in_order : (held : Content)
    → weave types_P held (codes "new S P\n") (0 ∷ 0 ∷ 1 ∷ 1 ∷ [])
    (codes "set S /a 0x0100000000000000\nroot S\n"
    ∷ codes "set S /b 0x0200000000000000\nhashes\n"
    ∷ [])
    ≡ codes "base: ok\n0: ok\n"
    ++ codes "0: root 0x0000000000000000000000000000000000000000000000000000000000000001\n"
    ++ codes "1: ok\n1: refused 2 15 NotHere\n"
unfolding computes
two_in_order held = refl

-- two scripts in turn
pub two_in_turn : (held : Content)
    → weave types_P held (codes "new S P\n") (0 ∷ 1 ∷ 0 ∷ 1 ∷ [])
    (codes "set S /a 0x0100000000000000\nroot S\n"
    ∷ codes "set S /b 0x0200000000000000\nhashes\n"
    ∷ [])
    ≡ codes "base: ok\n0: ok\n1: ok\n"
    ++ codes "0: root 0x0000000000000000000000000000000000000000000000000000000000000001\n"
    ++ codes "1: refused 2 15 NotHere\n"
unfolding computes
two_in_turn held = refl

-- a base with no statement in it
pub base_alone : (held : Content)
    → weave [] held (codes "frob\n") ([])
    ([])
    ≡ codes "base: refused 1 1 Syntax\n"
unfolding computes
base_alone held = refl

-- digits beyond a script's end do nothing
pub digits_beyond_the_end : (held : Content)
    → weave types_P held (codes "new S P\n") (0 ∷ 0 ∷ 0 ∷ [])
    (codes "root S\n"
    ∷ codes "list\n"
    ∷ [])
    ≡ codes "base: ok\n"
    ++ codes "0: root 0x0000000000000000000000000000000000000000000000000000000000000000\n"
    ++ codes "1: list S\n"
unfolding computes
digits_beyond_the_end held = refl

-- what `work` prints
abbrev work : Types → Content → Name → ℕ → ℕ → List ℕ
work types held type_name seed count =
    let all = work_of (rules types) (fresh held) type_name seed count in
    concat (work_lines (rules types) count all)

pub one_edit : (held : Content) → work types_Q held (codes "Q") 0 1
    ≡ codes "work 1 1\n"
    ++ codes "root 0x0800000000000000000000000000000000000000000000000000000000000000\n"
unfolding computes
one_edit held = refl

pub no_edits : (held : Content) → work types_Q held (codes "Q") 0 0
    ≡ codes "work 0 0\n"
    ++ codes "root 0x0000000000000000000000000000000000000000000000000000000000000000\n"
unfolding computes
no_edits held = refl

-- an edit of a list makes its top anew, and one of a number has no pair there
pub one_top : (held : Content) → (work_of (rules types_Q) (fresh held) (codes "Q") 0 1).tops ≡ 1
unfolding computes
one_top held = refl

pub no_top : (held : Content)
    → (work_of (rules ((codes "T", uint W64) ∷ [])) (fresh held) (codes "T") 0 1).tops ≡ 0
unfolding computes
no_top held = refl

-- a list that can hold nothing
pub no_room : (held : Content) → work ((codes "T", list (uint W64) 0) ∷ []) held (codes "T") 7 5
    ≡ codes "work 5 0\n"
    ++ codes "root 0x0000000000000000000000000000000000000000000000000000000000000000\n"
unfolding computes
no_room held = refl

-- the job of a script that saves and loads: what is read, saved and printed at its steps
abbrev saving : Content → Job
saving held =
    script_job (rules types_P) [] (fresh held) (codes "new V P\nsave V f\nroot V\nload W P g\n")

pub saving_reads : (held : Content) → map (saving held).reads (0 ∷ 1 ∷ 2 ∷ 3 ∷ [])
    ≡ false ∷ false ∷ false
    ∷ may_fail (with_bytes (codes "f") (replicate 16 0) held) (codes "g") ∷ []
unfolding computes
saving_reads held = refl

pub saving_saves : (held : Content) → (saving held).saves 1
    ≡ Some (record { name = codes "f"; bytes = replicate 16 0 })
unfolding computes
saving_saves held = refl

pub saving_prints : (held : Content) → concat ((saving held).at 3).lines
    ≡ codes "ok\nok\n"
    ++ codes "root 0x0000000000000000000000000000000000000000000000000000000000000000\n"
unfolding computes
saving_prints held = refl

pub saving_holds : (held : Content) → ((saving held).at 3).files
    ≡ with_bytes (codes "f") (replicate 16 0) held
unfolding computes
saving_holds held = refl

-- the charges of the lines of a script, one after another
abbrev charges : Types → Content → List ℕ → List ℕ
charges types held script = map charge_of (turns types held script)

pub charges_of_sets : (held : Content)
    → charges types_P held (codes "new V P\nset V /a 0x0100000000000000\nset V /c 0x00\nroot V\n")
    ≡ 1 ∷ 1 ∷ 0 ∷ 0 ∷ []
unfolding computes
charges_of_sets held = refl

pub charges_of_texts : (held : Content)
    → contents held (codes "f") ≡ codes "[1,\"5\"]"
    → first_json_fault type_U (codes "[1,\"5\"]") ≡ None
    → value_spelled type_U (codes "[1,\"5\"]") ≡ chosen 1 (number 5)
    → charges ((codes "U", type_U) ∷ []) held (codes "loadjson V U f\njson V /\njson V /#1\n")
    ≡ 1 ∷ 0 ∷ 0 ∷ []
unfolding computes
charges_of_texts held text none is = rw (text, none, is) refl

pub charges_of_compact : (held : Content)
    → charges types_Q held (codes "new V Q\ncompact\ncompact\n") ≡ 1 ∷ 0 ∷ 0 ∷ []
unfolding computes
charges_of_compact held = refl

pub charges_of_lists : (held : Content)
    → charges ((codes "T", list (uint W64) 8) ∷ []) held
    (codes "new V T\nappend V / 0x0100000000000000\npop V /\npop V /\n")
    ≡ 1 ∷ 2 ∷ 2 ∷ 0 ∷ []
unfolding computes
charges_of_lists held = refl

pub charges_of_choices : (held : Content)
    → charges ((codes "U", type_U) ∷ []) held
    (codes "new V U\nchoose V / 1 0x0500000000000000\nchoose V / 0\n")
    ≡ 1 ∷ 1 ∷ 1 ∷ []
unfolding computes
charges_of_choices held = refl
