-- A plan: which file is read next, and what is done with what it holds.
use Rattle.std.specs.Prelude.{◌≡◌, ⊤, ℕ, nat_lt, List, [], ◌∷◌, length, Bool, true, Option, Some, None, if◌then◌else◌}
use Rattle.ssz_outside.specs.Asked.{Ask}
use Rattle.ssz_outside.specs.Content.{Content, contents}
use Rattle.ssz_bytes.specs.declared.fault.Fault.{Fault}
use Rattle.ssz_tool.specs.ToDo.{Task, is_script, prints_line}
use Rattle.ssz_tool.specs.declared.line.Line.{Line}
use Rattle.ssz_tool.specs.declared.line.Line.TheVariants as line

-- Something; the line that refuses; or a file that is read next, of at most so many bytes, with the
-- line that refuses a longer one, and what is done with its bytes.
pub data Plan (A : Type 0) : Type 0 where
  gives : A → Plan A
  refuses : Line → Plan A
  reads : List ℕ → ℕ → Line → (List ℕ → Plan A) → Plan A

infixl 10 ◌>>=◌
-- a second plan, with what the first gives
unfoldable pub ◌>>=◌ : {A B : Type 0} → Plan A → (A → Plan B) → Plan B
(gives x) >>= next = next x
(refuses said) >>= next = refuses said
(reads name most long first) >>= next = reads name most long (λ bytes. first bytes >>= next)

infixl 10 ◌>>◌
-- a second plan, where the first refuses nothing
abbrev pub ◌>>◌ : {B : Type 0} → Plan (Unit {0}) → Plan B → Plan B
test >> next = test >>= (λ done. next)

-- ---- steps

-- what a file holds, of at most so many bytes
unfoldable pub file : List ℕ → ℕ → Line → Plan (List ℕ)
file name most long = reads name most long gives

-- what is there; refused with the line where nothing is
abbrev pub need : {A : Type 0} → Line → Option A → Plan A
need said None = refuses said
need said (Some x) = gives x

-- refused with the line where the test holds
abbrev pub refuse : Line → Bool → Plan (Unit {0})
refuse said test = if test then refuses said else gives tt

-- refused where the bytes have a fault
abbrev pub faultless : Option Fault → Plan (Unit {0})
faultless None = gives tt
faultless (Some fault) = refuses (line.Invalid fault)

-- ---- what a plan comes to

-- the task, over what the files hold: a refusal is printed
abbrev pub task_in : Content → Plan Task → Task
task_in held (gives task) = task
task_in held (refuses said) = prints_line said
task_in held (reads name most long next) =
    let bytes = contents held name in
    if nat_lt most (length bytes) then prints_line long else task_in held (next bytes)

-- the files that it reaches, in their order
abbrev pub files_in : Content → Plan Task → List (List ℕ)
files_in held (gives task) = []
files_in held (refuses said) = []
files_in held (reads name most long next) =
    let bytes = contents held name in
    name ∷ (if nat_lt most (length bytes) then [] else files_in held (next bytes))

-- what the files are asked for, in its order: each file that it reaches, with the most bytes of it
abbrev pub asks_in : {A : Type 0} → Content → Plan A → List Ask
asks_in held (gives x) = []
asks_in held (refuses said) = []
asks_in held (reads name most long next) =
    let bytes = contents held name in
    (name, most) ∷ (if nat_lt most (length bytes) then [] else asks_in held (next bytes))

-- Each file that it may come to is readable, whatever the files hold. Scripts may read any, by the
-- names in them.
abbrev pub AreReadable : (List ℕ → Type 0) → Plan Task → Type 0
AreReadable readable (gives task) = is_script task ≡ true → (name : List ℕ) → readable name
AreReadable readable (refuses said) = ⊤
AreReadable readable (reads name most long next) =
    readable name × ((bytes : List ℕ) → AreReadable readable (next bytes))
