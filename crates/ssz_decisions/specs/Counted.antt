-- How many elements or bits a part has, by the row of `len`.
use Rattle.std.specs.Prelude.{◌≡◌, ℕ, not, Option, Err}
use Rattle.ssz_schema.specs.Types.{SszType}
use Rattle.ssz_schema.specs.Paths.{Path, path_type}
use Rattle.ssz_script.specs.declared.reply.Reply.TheVariants.{Len}
use Rattle.ssz_script.specs.declared.reply.TheConstants.Reply.{BAD_PATH, ABSENT, NOT_THAT}
use Rattle.ssz_value.specs.Values.{SszValue}
use Rattle.ssz_value.specs.Parts.{part}
use Rattle.ssz_machine.specs.State.{Versions}
use Rattle.ssz_machine.specs.Rules.{Row, ◌>>=◌, ◌>>◌, coded, need, refuse, says_reply}
use Rattle.ssz_places.specs.EditLaws.{count_of}
use Rattle.ssz_machine.specs.Asking.{has_length}

-- what `len` says of a part, from its type and its value
abbrev pub counted : Versions → Option SszType → Option SszValue → Row
counted versions type value = need BAD_PATH type
    >>= (λ type. need ABSENT value
    >>= (λ value. refuse NOT_THAT (not (has_length type))
    >> says_reply versions (Len (count_of value))))

abbrev pub HasCount : SszType → Path → ℕ → SszValue → Type 0
HasCount t path n v = (versions : Versions)
    → counted versions (path_type t path) (part t v path) ≡ says_reply versions (Len n)

abbrev pub HasNoCount : SszType → Path → ℕ → SszValue → Type 0
HasNoCount t path code v = (versions : Versions)
    → counted versions (path_type t path) (part t v path) ≡ Err (coded code)
