-- What files and sinks in memory are seen as.
use Rattle.std.specs.Prelude.{◌≡◌, ℕ, ◌/◌, ◌==◌, Bool, true, false, IsTrue, IsSome, Ok, Err, refl}
use Rattle.std.specs.Prelude.{List, [], ◌∷◌, ◌++◌, length, take, drop}
use Rattle.std.specs.declared.result.Result.{Result}
use Rattle.ssz_outside.specs.declared.outside.PutFault.{PutFault}
use Rattle.ssz_outside.specs.declared.outside.PutFault.TheVariants.{Failed, Memory}
use Rattle.ssz_outside.specs.Content.{Content, NamedBytes, absent}
use Rattle.ssz_outside.specs.Asked.{Ask}
use Rattle.ssz_outside.specs.Outcome.{next_count}
use Rattle.std.specs.List.{list_any}
use Rattle.std.specs.FinMap as map
use Rattle.std.specs.Coded.{Coded, code_by, coded×, coded_ℕ, coded_list}

-- whether a number is in a list
abbrev pub is_listed : List ℕ → ℕ → Bool
is_listed numbers number = list_any (λ n. n == number) numbers

-- the first half of some bytes
abbrev pub first_half : List ℕ → List ℕ
first_half bytes = take (length bytes / 2) bytes

-- Files in memory: the names with their bytes, the numbers of the calls that are to fail (`get`s
-- and `put`s together, from 1), how many calls there were, how many of them failed, and what was
-- asked for.
pub record FilesState : Type 0 where
  pub named : NamedBytes
  pub failing : List ℕ
  pub calls : ℕ
  pub get_faults : ℕ
  pub put_faults : ℕ
  pub asked : List Ask

-- the next call is one that is to fail
abbrev pub IsListed : FilesState → Type 0
IsListed files = IsTrue (is_listed files.failing (next_count files.calls))

-- whether no call is to fail
abbrev pub is_quiet : List ℕ → Bool
is_quiet [] = true
is_quiet (n ∷ failing) = false

-- what they tell: where no call is to fail, a read fails of an absent name alone
abbrev pub content_of : FilesState → Content
content_of files =
    record { named = files.named; missing = absent; steady = is_quiet files.failing }

-- no call is to fail, and the name is there
pub record IsReadable (files : FilesState) (name : List ℕ) : Type 0 where
  pub quiet : files.failing ≡ []
  pub there : IsSome (map.get files.named name)

-- what the names hold after a `put`: on a failure the name holds the first half of the bytes
abbrev pub PutsHalf : {T : Type 0} → Result T PutFault → List ℕ → List ℕ → NamedBytes → NamedBytes
    → Type 0
PutsHalf (Ok done) name bytes old new = new ≡ map.insert old name bytes
PutsHalf (Err Failed) name bytes old new = new ≡ map.insert old name (first_half bytes)
PutsHalf (Err Memory) name bytes old new = new ≡ old

-- A sink in memory: the pieces taken, the numbers of the calls that are to fail (from 1), how many
-- calls there were, and how many of them failed.
pub record SinkState : Type 0 where
  pub pieces : List (List ℕ)
  pub failing : List ℕ
  pub calls : ℕ
  pub faults : ℕ

-- the next call is one that is to fail
abbrev pub IsListedPut : SinkState → Type 0
IsListedPut sink = IsTrue (is_listed sink.failing (next_count sink.calls))

-- the pieces after a `put`: on a failure the last one is the first half of the piece
abbrev pub TakesHalf : {T : Type 0} → Result T PutFault → List ℕ → List (List ℕ)
    → List (List ℕ) → Type 0
TakesHalf (Ok done) piece old new = new ≡ old ++ piece ∷ []
TakesHalf (Err Failed) piece old new = new ≡ old ++ first_half piece ∷ []
TakesHalf (Err Memory) piece old new = new ≡ old

-- a text cut into pieces of these lengths
abbrev pub cut : List ℕ → List ℕ → List (List ℕ)
cut [] text = []
cut (n ∷ lengths) text = take n text ∷ cut lengths (drop n text)

-- how a map from names to bytes, and the files' record, are stored as values of contracts
abbrev pub named_code : Coded NamedBytes
named_code = map.code (coded_list coded_ℕ) (coded_list coded_ℕ)

abbrev pub files_code : Coded FilesState
files_code =
    code_by (NamedBytes × (List ℕ × (ℕ × (ℕ × (ℕ × List (List ℕ × ℕ))))))
    (coded× named_code (coded× (coded_list coded_ℕ) (coded× coded_ℕ (coded× coded_ℕ
    (coded× coded_ℕ (coded_list (coded× (coded_list coded_ℕ) coded_ℕ)))))))
    (λ f. (f.named, (f.failing, (f.calls, (f.get_faults, (f.put_faults, f.asked))))))
    (λ p. record {
      named = p.0;
      failing = p.1.0;
      calls = p.1.1.0;
      get_faults = p.1.1.1.0;
      put_faults = p.1.1.1.1.0;
      asked = p.1.1.1.1.1;
    })
    (λ _. refl)
