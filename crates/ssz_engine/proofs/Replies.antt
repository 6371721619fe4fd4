-- The number that a line prints for `hashes` is the one that it is given.
use Rattle.std.proofs.Common.{ℕ, ◌≡◌, List, Option, Some, None}
use Rattle.std.specs.Prelude.{Ok, Err, IfOk}
use Rattle.ssz_chunk.specs.declared.Chunk.{Chunk}
use Rattle.ssz_schema.specs.Types.{SszType}
use Rattle.ssz_script.specs.declared.reply.Reply.TheVariants.{Done, List as Listed, Root as RootIs, Bytes as BytesAre, Len as LenIs, Gindex as GindexIs, Proof as ProofIs, Hashes as Hashed, Json as JsonIs}
use Rattle.ssz_script.specs.declared.statement.Statement.{Statement}
use Rattle.ssz_script.specs.declared.statement.Statement.TheVariants.{New, Lit, Load, Fork, Drop, List as ListNames, Set, Append, Pop, Choose, Root, Bytes, Len, Save, Gindex, Prove, Hashes, Upgrade, Json, LoadJson, Compact}
use Rattle.ssz_value.specs.Values.{SszValue}
use Rattle.ssz_machine.specs.declared.place.Place.{Place}
use Rattle.ssz_machine.specs.State.{Name, Versions, State, View, view_of}
use Rattle.ssz_machine.specs.Rules.{Rules, Effect, Row, coded, bad_bytes, bad_json, makes, says_reply}
use Rattle.ssz_machine.specs.Machine.{Line, effect, step, reply_in, reply_of, row_said}
use Rattle.ssz_machine.specs.Counts.{number_said}
use Rattle.ssz_machine.proofs.Rowwise.{Does, given, passed, edited}

-- the reply says no number but this one
abbrev Says : ℕ → Effect → Type 0
Says number effect = (n : ℕ) → number_said effect.reply ≡ Some n → n ≡ number

made_says : {number : ℕ} (versions : Versions) (name : Name) (type : SszType) (value : SszValue)
    (charge : ℕ) → Does (Says number) (makes versions name type value charge)
made_says versions name type value charge = record { is = λ n says. cc }

done_says : {number : ℕ} (versions : Versions) → Does (Says number) (says_reply versions Done)
done_says versions = record { is = λ n says. cc }

listed_says : {number : ℕ} (versions : Versions) (names : List Name)
    → Does (Says number) (says_reply versions (Listed names))
listed_says versions names = record { is = λ n says. cc }

root_says : {number : ℕ} (versions : Versions) (chunk : Chunk)
    → Does (Says number) (says_reply versions (RootIs chunk))
root_says versions chunk = record { is = λ n says. cc }

bytes_say : {number : ℕ} (versions : Versions) (bytes : List ℕ)
    → Does (Says number) (says_reply versions (BytesAre bytes))
bytes_say versions bytes = record { is = λ n says. cc }

json_says : {number : ℕ} (versions : Versions) (text : List ℕ)
    → Does (Says number) (says_reply versions (JsonIs text))
json_says versions text = record { is = λ n says. cc }

len_says : {number : ℕ} (versions : Versions) (count : ℕ)
    → Does (Says number) (says_reply versions (LenIs count))
len_says versions count = record { is = λ n says. cc }

gindex_says : {number : ℕ} (versions : Versions) (index : ℕ)
    → Does (Says number) (says_reply versions (GindexIs index))
gindex_says versions index = record { is = λ n says. cc }

proof_says : {number : ℕ} (versions : Versions) (text : List ℕ)
    → Does (Says number) (says_reply versions (ProofIs text))
proof_says versions text = record { is = λ n says. cc }

hashes_say : (number : ℕ) (versions : Versions)
    → Does (Says number) (says_reply versions (Hashed number))
hashes_say number versions = record { is = λ n says. cc }

save_says : {number : ℕ} (file : Name) (versions : Versions) (bytes : List ℕ)
    → Does (Says number) (Ok (record {
      reply = Done;
      versions = versions;
      save = Some (record { name = file; bytes = bytes });
      charge = 0;
    }))
save_says file versions bytes = record { is = λ n says. cc }

row_says : (rules : Rules) (place : Place) (number : ℕ) (view : View) (statement : Statement)
    → Does (Says number) (effect rules place number view statement)
row_says rules place number view (New v t) = search (given, passed, made_says) depth 12
row_says rules place number view (Lit v t x) = search (given, passed, made_says) depth 12
row_says rules place number view (Load v t x) = search (given, passed, made_says) depth 12
row_says rules place number view (Fork v w) = search (given, passed, made_says) depth 12
row_says rules place number view (Drop v) = search (given, done_says) depth 12
row_says rules place number view ListNames = listed_says _ _
row_says rules place number view (Set v path x) =
    search (given, passed, edited, made_says) depth 12
row_says rules place number view (Append v path x) =
    search (given, passed, edited, made_says) depth 12
row_says rules place number view (Pop v path) =
    search (given, passed, edited, made_says) depth 12
row_says rules place number view (Choose v path k x) =
    search (given, passed, edited, made_says) depth 12
row_says rules place number view (Root v) = search (given, root_says) depth 12
row_says rules place number view (Bytes v path) = search (given, passed, bytes_say) depth 12
row_says rules place number view (Len v path) = search (given, passed, len_says) depth 12
row_says rules place number view (Save v file) = search (given, passed, save_says) depth 12
row_says rules place number view (Gindex t path) = search (given, gindex_says) depth 12
row_says rules place number view (Prove v indices) = search (given, passed, proof_says) depth 12
row_says rules place number view Hashes = search (passed, hashes_say) depth 12
row_says rules place number view (Json v path) = search (given, passed, json_says) depth 12
row_says rules place number view (LoadJson v t x) = search (given, passed, made_says) depth 12
row_says rules place number view Compact = done_says _
row_says rules place number view (Upgrade v w t) =
    search (given, passed, made_says) depth 12

by_row : (number line : ℕ) (row : Row) → IfOk row (Says number) → (n : ℕ)
    → number_said (reply_in line row) ≡ Some n → n ≡ number
by_row number line (Ok effect) is n says = is n says
by_row number line (Err (coded code)) is n says = cc
by_row number line (Err (bad_bytes fault)) is n says = cc
by_row number line (Err (bad_json fault)) is n says = cc

by_line : (rules : Rules) (place : Place) (number line : ℕ) (view : View)
    (statement : Option Statement) (n : ℕ)
    → number_said (reply_in line (row_said rules place number view statement)) ≡ Some n → n ≡ number
by_line rules place number line view None n says = cc
by_line rules place number line view (Some statement) n says =
    by_row number line (effect rules place number view statement)
    (row_says rules place number view statement).is n says

pub said_number : (rules : Rules) (place : Place) (number : ℕ) (state : State) (writer : ℕ)
    (line : Line) (n : ℕ)
    → number_said (reply_of (step rules place number state writer line)) ≡ Some n → n ≡ number
said_number rules place number state writer line n says =
    by_line rules place number line.0 (view_of writer state) line.1 n says
