-- What an answer says of a plan that was followed.
use Rattle.std.specs.Prelude.{◌≡◌, ◌≤◌, ◌<◌, ◌⊎◌, ⊤, ℕ, List, [], length, Bool, true, false, Option, Some, None, Result, Ok, Err, OnOk}
use Rattle.std.specs.Option.{ForSome}
use Rattle.ssz_outside.specs.Asked.{Ask, AsksOf}
use Rattle.ssz_outside.specs.Content.{Content, contents}
use Rattle.ssz_outside.specs.Outcome.{RoseOnce}
use Rattle.ssz_outside.specs.declared.outside.Files.{Ghosts}
use Rattle.ssz_tool.specs.Plans.{Plan, asks_in, gives, refuses, reads}
use Rattle.ssz_tool.specs.declared.stop.Stop.{Stop}
use Rattle.ssz_tool.specs.declared.stop.Stop.TheVariants as stop

-- a failed read is counted once, and nothing else is
abbrev pub CountsStop : {T : Type 0} → Result T Stop → ℕ → ℕ → Type 0
CountsStop (Ok done) before now = now ≡ before
CountsStop (Err stop.Usage) before now = now ≡ before
CountsStop (Err (stop.Says said)) before now = now ≡ before
CountsStop (Err stop.Read) before now = RoseOnce before now
CountsStop (Err stop.Memory) before now = now ≡ before

-- whether a plan was cut short: a file of it was not read, or memory was wanting
abbrev pub is_cut_short : {T : Type 0} → Result T Stop → Bool
is_cut_short (Ok done) = false
is_cut_short (Err stop.Usage) = false
is_cut_short (Err (stop.Says said)) = false
is_cut_short (Err stop.Read) = true
is_cut_short (Err stop.Memory) = true

-- files stay as they are, and what can be read stays so
pub record LeavesFiles {Self T : Type 0} (F : Ghosts Self) (result : Result T Stop)
    (old new : Self) : Type 0 where
  pub content : F.content new ≡ F.content old
  pub readable : (name : List ℕ) → F.readable old name → F.readable new name
  pub get_faults : CountsStop result (F.get_faults old) (F.get_faults new)
  pub put_faults : F.put_faults new ≡ F.put_faults old

-- what is so of bytes that were read of a name: those that it holds, where that is told
abbrev pub ReadsFile : Option Content → List ℕ → ℕ → (List ℕ → Type 0) → Type 0
ReadsFile told name most Then =
    (bytes : List ℕ) × (length bytes ≤ most)
    × ForSome told (λ held. contents held name ≡ bytes) × Then bytes

-- An answer came of a plan, where what is made stands for what the plan gives: at each file bytes
-- were read, or the file was too long, or the read failed, where it is not known to be readable.
-- Want of memory may come at any time.
abbrev pub ComesOf : {A T : Type 0} → Option Content → (List ℕ → Type 0) → (A → T → Type 0)
    → Plan A → Result T Stop → Type 0
ComesOf told readable Stands plan (Err stop.Memory) = ⊤
ComesOf told readable Stands (gives x) (Ok made) = Stands x made
ComesOf told readable Stands (refuses meant) (Err (stop.Says said)) = said ≡ meant
ComesOf told readable Stands (reads name most long next) (Ok made) =
    ReadsFile told name most (λ bytes. ComesOf told readable Stands (next bytes) (Ok made))
ComesOf told readable Stands (reads name most long next) (Err stop.Read) =
    (readable name → ⊥)
    ⊎ ReadsFile told name most (λ bytes. ComesOf told readable Stands (next bytes) (Err stop.Read))
ComesOf told readable Stands (reads name most long next) (Err (stop.Says said)) =
    ((said ≡ long) × ForSome told (λ held. most < length (contents held name)))
    ⊎ ReadsFile told name most
    (λ bytes. ComesOf told readable Stands (next bytes) (Err (stop.Says said)))
ComesOf told readable Stands plan result = ⊥

-- the same of a plan that reads no file
abbrev pub AnswersPlan : {A T : Type 0} → (A → T → Type 0) → Plan A → Result T Stop → Type 0
AnswersPlan Stands plan (Err stop.Memory) = ⊤
AnswersPlan Stands (gives x) (Ok made) = Stands x made
AnswersPlan Stands (refuses meant) (Err (stop.Says said)) = said ≡ meant
AnswersPlan Stands plan result = ⊥

-- The answer came of the plan, and files stay as they are. Where they tell what they hold, they
-- were asked for the files of the plan, each once, in its order and with its limit, and for nothing
-- else: for all of them, or, where it was cut short, for the first so many. They are usable where
-- nothing stopped it.
pub record Follows {Self A T : Type 0} (F : Ghosts Self) (Stands : A → T → Type 0) (plan : Plan A)
    (result : Result T Stop) (old new : Self) : Type 0 where
  pub comes : ComesOf (F.content old) (F.readable old) Stands plan result
  pub asks : ForSome (F.content old) (λ held.
      AsksOf (is_cut_short result) (asks_in held plan) (F.asked old) (F.asked new))
  pub usable : F.usable old → OnOk result (F.usable new)
  pub leaves : LeavesFiles F result old new

-- words that are not taken are said to be so
abbrev pub ComesOfWords : {A T : Type 0} → Option Content → (List ℕ → Type 0) → (A → T → Type 0)
    → Option (Plan A) → Result T Stop → Type 0
ComesOfWords told readable Stands (Some plan) result = ComesOf told readable Stands plan result
ComesOfWords told readable Stands None (Err stop.Usage) = ⊤
ComesOfWords told readable Stands None (Err stop.Memory) = ⊤
ComesOfWords told readable Stands None result = ⊥

-- what the files are asked for by a plan, if there is one
abbrev pub asks_by : {A : Type 0} → Content → Option (Plan A) → List Ask
asks_by held None = []
asks_by held (Some plan) = asks_in held plan

-- the plan of words was followed, if they have one
pub record FollowsWords {Self A T : Type 0} (F : Ghosts Self) (Stands : A → T → Type 0)
    (plan : Option (Plan A)) (result : Result T Stop) (old new : Self) : Type 0 where
  pub comes : ComesOfWords (F.content old) (F.readable old) Stands plan result
  pub asks : ForSome (F.content old) (λ held.
      AsksOf (is_cut_short result) (asks_by held plan) (F.asked old) (F.asked new))
  pub usable : F.usable old → OnOk result (F.usable new)
  pub leaves : LeavesFiles F result old new
