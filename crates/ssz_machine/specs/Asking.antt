-- Statements that ask and change no version. Each is a list of tests in order, and then the reply.
use Rattle.std.specs.Prelude.{ℕ, nat_lt, ◌==◌, not, is_none, Bool, true, false, if◌then◌else◌, List, [], ◌∷◌, length, map, unwrap_or, option_map, Some, Ok}
use Rattle.std.specs.List.{list_any}
use Rattle.ssz_chunk.specs.Chunk.{zero_chunk}
use Rattle.ssz_chunk.specs.Tree.{Tree, root}
use Rattle.ssz_chunk.specs.Index.{at}
use Rattle.ssz_gindex.specs.Helpers.{helpers}
use Rattle.ssz_line.specs.declared.index.Index.{Index}
use Rattle.ssz_line.specs.declared.index.Index.TheVariants.{Number, Path as ByPath}
use Rattle.ssz_places.specs.EditLaws.{count_of}
use Rattle.ssz_proof.specs.Calculation.{PairOf}
use Rattle.ssz_proof.specs.Judgement.{are_flat}
use Rattle.ssz_proof.specs.Multiproof.{Multiproof}
use Rattle.ssz_proof.specs.Text.{multiproof_text}
use Rattle.ssz_proof.specs.declared.entry.Entry.{Entry}
use Rattle.ssz_schema.specs.Types.{SszType, vector, list, bitvector, bitlist}
use Rattle.ssz_schema.specs.Paths.{Path, path_type}
use Rattle.ssz_schema.specs.Indices.{generalized_index}
use Rattle.ssz_script.specs.declared.reply.Reply.TheVariants.{Done, Root, Bytes, Len, Gindex, Proof, Hashes, Json}
use Rattle.ssz_script.specs.declared.reply.TheConstants.Reply.{NO_TYPE, NO_VERSION, BAD_PATH, ABSENT, NOT_THAT, TOO_LONG, NO_NODE, NESTED, NOT_HERE}
use Rattle.ssz_value.specs.Encoding.{serialize}
use Rattle.ssz_value.specs.Parts.{part}
use Rattle.ssz_value.specs.Trees.{tree, hash_tree_root}
use Rattle.ssz_json_text.specs.Text.{json}
use Rattle.ssz_machine.specs.declared.place.Place.{Place}
use Rattle.ssz_machine.specs.declared.place.Place.TheVariants.{Run, Weave}
use Rattle.ssz_machine.specs.State.{Name, Versions, version_of}
use Rattle.ssz_machine.specs.Rules.{Rules, Outcome, ◌>>=◌, ◌>>◌, need, refuse, Row, says_reply}

abbrev pub is_weave : Place → Bool
is_weave Run = false
is_weave Weave = true

-- whether a type has elements or bits
abbrev pub has_length : SszType → Bool
has_length (vector elem n) = true
has_length (list elem limit) = true
has_length (bitvector n) = true
has_length (bitlist limit) = true
has_length other = false

-- `root V`: hash_tree_root
abbrev pub root_row : Rules → Versions → Name → Row
root_row rules versions v = do
  version ← need NO_VERSION (version_of v versions)
  says_reply versions (Root
      (record { 0 = hash_tree_root rules.pair_of version.type version.value }))

-- `bytes V P`: the encoding of the part at P
abbrev pub bytes : Rules → Versions → Name → Path → Row
bytes rules versions v path = do
  version ← need NO_VERSION (version_of v versions)
  type ← need BAD_PATH (path_type version.type path)
  value ← need ABSENT (part version.type version.value path)
  refuse TOO_LONG (nat_lt rules.max_bytes (length (serialize type value)))
  says_reply versions (Bytes (serialize type value))

-- `json V P`: the JSON text of the part at P
abbrev pub json_row : Rules → Versions → Name → Path → Row
json_row rules versions v path = do
  version ← need NO_VERSION (version_of v versions)
  type ← need BAD_PATH (path_type version.type path)
  value ← need ABSENT (part version.type version.value path)
  refuse TOO_LONG (nat_lt rules.max_bytes (length (json type value)))
  says_reply versions (Json (json type value))

-- `len V P`: how many elements or bits the part at P has
abbrev pub len : Versions → Name → Path → Row
len versions v path = do
  version ← need NO_VERSION (version_of v versions)
  type ← need BAD_PATH (path_type version.type path)
  value ← need ABSENT (part version.type version.value path)
  refuse NOT_THAT (not (has_length type))
  says_reply versions (Len (count_of value))

-- `save V FILE`: the file holds the encoding
abbrev pub save : Rules → Place → Versions → Name → Name → Row
save rules place versions v file = do
  refuse NOT_HERE (is_weave place)
  version ← need NO_VERSION (version_of v versions)
  refuse TOO_LONG (nat_lt rules.max_bytes (length (serialize version.type version.value)))
  Ok (record {
    reply = Done;
    versions = versions;
    save = Some (record { name = file; bytes = serialize version.type version.value });
    charge = 0;
  })

-- `gindex T P`: the generalized index of P by the type T
abbrev pub gindex : Rules → Versions → Name → Path → Row
gindex rules versions t path = do
  type ← need NO_TYPE (rules.type_named t)
  index ← need BAD_PATH (generalized_index type path)
  says_reply versions (Gindex index)

-- an index as it is asked: a number, or that of a path by the type alone
abbrev pub asked_index : SszType → Index → Outcome ℕ
asked_index type (Number index) = Ok index
asked_index type (ByPath path) = need BAD_PATH (generalized_index type path)

abbrev pub asked_indices : SszType → List Index → Outcome (List ℕ)
asked_indices type [] = Ok []
asked_indices type (index ∷ indices) = do
  first ← asked_index type index
  more ← asked_indices type indices
  Ok (first ∷ more)

-- the numbers in ascending order, each once
abbrev pub with_number : ℕ → List ℕ → List ℕ
with_number n [] = n ∷ []
with_number n (m ∷ ms) =
    if n == m then m ∷ ms else if nat_lt n m then n ∷ m ∷ ms else m ∷ with_number n ms

abbrev pub ascending : List ℕ → List ℕ
ascending [] = []
ascending (n ∷ ns) = with_number n (ascending ns)

-- the root of what a tree has at an index, with the index
abbrev pub entry_at : PairOf → Tree → ℕ → Entry
entry_at pair_of t g = record {
  index = g;
  chunk = record { 0 = unwrap_or (option_map (root pair_of) (at t g)) zero_chunk };
}

-- the multiproof of these indices of a tree: its leaves there, and its nodes at the helper indices
abbrev pub proof_of : PairOf → Tree → List ℕ → Multiproof
proof_of pair_of t indices = record {
  leaves = map (entry_at pair_of t) indices;
  nodes = map (entry_at pair_of t) (helpers indices);
}

-- `prove V I ..`: the line of a multiproof
abbrev pub prove : Rules → Versions → Name → List Index → Row
prove rules versions v indices = do
  version ← need NO_VERSION (version_of v versions)
  asked ← asked_indices version.type indices
  refuse NO_NODE (list_any (λ g. is_none (at (tree version.type version.value) g)) asked)
  refuse NESTED (not (are_flat asked))
  says_reply versions
      (Proof (multiproof_text
      (proof_of rules.pair_of (tree version.type version.value) (ascending asked))))

-- `hashes`: how many pairs were hashed, which is given
abbrev pub hashes : Place → ℕ → Versions → Row
hashes place number versions = do
  refuse NOT_HERE (is_weave place)
  says_reply versions (Hashes number)
