-- What a command asks for, where the values of its arguments are there.
use Rattle.std.proofs.Common.{◌≡◌, ◌<◌, ◌-◌, ℕ, Bool, true, false, List, [], ◌∷◌, length, map}
use Rattle.std.proofs.Common.{Option, Some, None, Result, Ok, Err, codes, refl, subst, arith}
use Rattle.std.specs.Prelude.{◌↔◌, All, IfSome, IsOk, IsSome, nat_le}
use Rattle.std.specs.List.{list_all}
use Rattle.std.specs.Result.{result_ok}
use Rattle.std.proofs.lemmas.List.Elements.{All-map, All-weaker}
use Rattle.std.proofs.lemmas.List.Sums.{AllPass-from_list_all, list_all-from_AllPass}
use Rattle.clap.specs.Walk.{Row, Text, all_of, first_of}
use Rattle.hex.specs.Hex.{decode_sized}
use Rattle.hex.proofs.HexLemmas.{IsOk-decode_sized}
use Rattle.ssz_words.specs.Laws.{IsOrder, IsRoot}
use Rattle.ssz_words.specs.Reading.{◌>>=◌, ReadsWords, some_if}
use Rattle.ssz_words.specs.Values.{is_digit_below, number_at, order_value, root_value, without_mark}
use Rattle.ssz_words.specs.Words.{named_args}
use Rattle.ssz_words.specs.declared.commands.Command.{Command}
use Rattle.ssz_words.specs.declared.commands.Command.TheVariants.{Root, Run, Weave, Verify, Work}
use Rattle.ssz_words.specs.declared.commands.Command.TheVariants.{Part, Partial, Clash}
use Rattle.ssz_words.specs.declared.faults.WordsFault.{WordsFault}
use Rattle.ssz_words.specs.declared.faults.WordsFault.TheVariants.{NotTaken, Memory}

abbrev failed : {A : Type 0} → WordsFault → Result A WordsFault
failed fault = Err fault

-- what is missing for a part of the arguments is missing for all
pub missing_reads : {A B : Type 0} (fault : WordsFault) (read : Option B)
    → (failed {A = A} fault ≡ failed NotTaken → read ≡ None) → ReadsWords (failed fault) read
missing_reads NotTaken read missing = missing refl
missing_reads Memory read missing = tt

pub root_args_are : (rows : List Row) (schema type_name file : Text) (n : ℕ)
    → first_of (codes "schema") rows ≡ Some schema → first_of (codes "type") rows ≡ Some type_name
    → first_of (codes "file") rows ≡ Some file → number_at 32 (codes "max-bytes") rows ≡ Some n
    → named_args (codes "root") rows
    ≡ Some (Root (record { schema = schema; type_name = type_name; file = file; max_bytes = n }))
root_args_are rows schema type_name file n a b c d = rw (a, b, c, d) refl

pub run_args_are : (rows : List Row) (schema script : Text) (n : ℕ)
    → first_of (codes "schema") rows ≡ Some schema → first_of (codes "script") rows ≡ Some script
    → number_at 32 (codes "max-bytes") rows ≡ Some n
    → named_args (codes "run") rows
    ≡ Some (Run (record { schema = schema; script = script; max_bytes = n }))
run_args_are rows schema script n a b c = rw (a, b, c) refl

pub work_args_are : (rows : List Row) (schema type_name : Text) (seed edits : ℕ)
    → first_of (codes "schema") rows ≡ Some schema → first_of (codes "type") rows ≡ Some type_name
    → number_at 64 (codes "seed") rows ≡ Some seed
    → number_at 32 (codes "edits") rows ≡ Some edits
    → named_args (codes "work") rows
    ≡ Some (Work (record { schema = schema; type_name = type_name; seed = seed; edits = edits }))
work_args_are rows schema type_name seed edits a b c d = rw (a, b, c, d) refl

pub part_args_are : (rows : List Row) (schema type_name file path : Text) (n : ℕ)
    → first_of (codes "schema") rows ≡ Some schema → first_of (codes "type") rows ≡ Some type_name
    → first_of (codes "file") rows ≡ Some file → first_of (codes "path") rows ≡ Some path
    → number_at 32 (codes "max-bytes") rows ≡ Some n
    → named_args (codes "part") rows ≡ Some (Part (record {
      schema = schema;
      type_name = type_name;
      file = file;
      path = path;
      max_bytes = n;
    }))
part_args_are rows schema type_name file path n a b c d e = rw (a, b, c, d, e) refl

pub partial_args_are : (rows : List Row) (schema type_name proof script : Text)
    → first_of (codes "schema") rows ≡ Some schema → first_of (codes "type") rows ≡ Some type_name
    → first_of (codes "proof") rows ≡ Some proof → first_of (codes "script") rows ≡ Some script
    → named_args (codes "partial") rows ≡ Some (Partial (record {
      schema = schema;
      type_name = type_name;
      proof = proof;
      script = script;
    }))
partial_args_are rows schema type_name proof script a b c d = rw (a, b, c, d) refl

pub clash_args_are : (rows : List Row) (first second : Text)
    → first_of (codes "first") rows ≡ Some first → first_of (codes "second") rows ≡ Some second
    → named_args (codes "clash") rows ≡ Some (Clash (record { first = first; second = second }))
clash_args_are rows first second a b = rw (a, b) refl

pub verify_args_are : (rows : List Row) (text file : Text)
    → first_of (codes "root") rows ≡ Some text → first_of (codes "file") rows ≡ Some file
    → named_args (codes "verify") rows
    ≡ (root_value text >>= λ root. Some (Verify (record { root = root; file = file })))
verify_args_are rows text file a b = rw (a, b) refl

-- what a weave of these arguments asks for
abbrev pub weave_of : Text → Text → Text → List Text → ℕ → Option Command
weave_of schema base digits scripts n = do
  order ← order_value (length scripts) digits
  some_if (nat_le (length scripts) 10) (Weave (record {
    schema = schema;
    base = base;
    order = order;
    scripts = scripts;
    max_bytes = n;
  }))

pub weave_args_are : (rows : List Row) (schema base digits : Text) (scripts : List Text) (n : ℕ)
    → first_of (codes "schema") rows ≡ Some schema → first_of (codes "base") rows ≡ Some base
    → first_of (codes "order") rows ≡ Some digits → all_of (codes "scripts") rows ≡ Some scripts
    → number_at 32 (codes "max-bytes") rows ≡ Some n
    → named_args (codes "weave") rows ≡ weave_of schema base digits scripts n
weave_args_are rows schema base digits scripts n a b c d e = rw (a, b, c, d, e) refl

-- ---- a value and a test

tested : {A : Type 0} (x : A) (b : Bool) → IsSome (some_if b x) → b ≡ true
tested x true e = refl
tested x false e = cc

-- what is made of a value that passes a test is there exactly where the value is and passes
pub made_from : {A B : Type 0} (o : Option A) (b : Bool) (f : A → B)
    → IsSome (o >>= λ x. some_if b (f x)) ↔ (IsSome o × (b ≡ true))
made_from None b f = (λ e. cc, λ e. e.0)
made_from (Some x) b f = (λ e. (refl, tested (f x) b e), λ e. rw e.1 refl)

-- and keeps what holds of each that is so made
pub made_keeps : {A B : Type 0} (P : B → Type 0) (o : Option A) (b : Bool) (f : A → B)
    → ((x : A) → o ≡ Some x → b ≡ true → P (f x)) → IfSome (o >>= λ x. some_if b (f x)) P
made_keeps P None b f keeps = tt
made_keeps P (Some x) true f keeps = keeps x refl refl
made_keeps P (Some x) false f keeps = tt

-- ---- orders and roots

-- an order is read exactly where it is one
pub order_value-IsOrder : (n : ℕ) (text : Text) → IsSome (order_value n text) ↔ IsOrder n text
order_value-IsOrder n [] = (λ e. cc, λ is. absurd (omega (arith, is.0)))
order_value-IsOrder n (byte ∷ text) = (
  λ some. (
    omega arith,
    AllPass-from_list_all (is_digit_below n) (byte ∷ text) (tested _ _ some),
  ),
  λ is. rw (list_all-from_AllPass (is_digit_below n) (byte ∷ text) is.1) refl,
)

digit_is_below : (n byte : ℕ) → is_digit_below n byte ≡ true → byte - 48 < n
digit_is_below n byte is = grind arith

-- an order that is read has a turn or more, each of a writer below n
pub order_value-below : (n : ℕ) (text : Text) (order : List ℕ) → order_value n text ≡ Some order
    → (0 < length order) × All (λ writer. writer < n) order
order_value-below n [] order is = cc
order_value-below n (byte ∷ text) order is =
    let passes = tested (map (λ b. b - 48) (byte ∷ text))
    (list_all (is_digit_below n) (byte ∷ text))
    (rw is refl) in
    let read : order_value n (byte ∷ text)
    ≡ Some (map (λ b. b - 48) (byte ∷ text)) = rw passes refl in
    let same : map (λ b. b - 48) (byte ∷ text) ≡ order = cc in
    let each = All-map (λ writer. writer < n) (λ b. b - 48) (byte ∷ text)
    (All-weaker (λ b. is_digit_below n b ≡ true) (λ b. b - 48 < n) (digit_is_below n)
    (byte ∷ text)
    (AllPass-from_list_all (is_digit_below n) (byte ∷ text) passes)) in
    subst (λ (xs : List ℕ). (0 < length xs)
    × All (λ writer. writer < n) xs) same (omega arith, each)

-- a root is read exactly where it is one
pub root_value-IsRoot : (text : Text) → IsSome (root_value text) ↔ IsRoot text
root_value-IsRoot text =
    let digits = IsOk-decode_sized (without_mark text) 32 in (
      λ some. digits.0 (is_ok_of (decode_sized (without_mark text) 32) some),
      λ is. some_of (decode_sized (without_mark text) 32) (digits.1 is),
    )
  where
    is_ok_of : {A E : Type 0} (r : Result A E) → IsSome (result_ok r) → IsOk r
    is_ok_of (Ok x) e = refl
    is_ok_of (Err x) e = cc

    some_of : {A E : Type 0} (r : Result A E) → IsOk r → IsSome (result_ok r)
    some_of (Ok x) e = refl
    some_of (Err x) e = cc
