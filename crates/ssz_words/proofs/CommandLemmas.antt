-- Where a command has no fault to find in its words, it has what it asks for.
use Rattle.std.proofs.Common.{true≢false, ◌≡◌, ◌<◌, ◌≤◌, ◌-◌, ◌^◌, ◌∙◌, ℕ, true, false, List, []}
use Rattle.std.proofs.Common.{◌∷◌, length, Some, ◌⊎◌, codes, inl, inr, refl, sym, arith}
use Rattle.std.specs.Prelude.{⊤, ◌↔◌, IfSome, IsSome, nat_le, pos}
use Rattle.std.specs.List.{AllByRecursion}
use Rattle.std.specs.Str.{bytes_eq}
use Rattle.std.specs.Str.Parse.{ParsesUnsigned, digits_value, without_leading_plus}
use Rattle.std.proofs.lemmas.Bool.{le-leb, leb-true}
use Rattle.std.proofs.lemmas.Slice.Eq.{bytes_eq-Decides}
use Rattle.clap.specs.Faults.{level_fault}
use Rattle.clap.specs.Lexer.{without_minus}
use Rattle.clap.specs.Simple.{Shape, built_leaf, filled, inherited}
use Rattle.clap.specs.ValueTests.{accepts}
use Rattle.clap.specs.Walk.{Row, Text, all_of, first_of, is_empty, nothing_held, rows_after}
use Rattle.clap.specs.declared.builder.value_parser.ValueParser.TheVariants.{Signed, Unsigned}
use Rattle.clap.proofs.CallerReads.{signed_reads}
use Rattle.clap.proofs.ValueTestLemmas.{accepts-Accepts}
use Rattle.ssz_words.specs.CommandSet.{max_bytes_option, program_shape, root_command, run_command}
use Rattle.ssz_words.specs.CommandSet.{verify_command, weave_command, work_command, part_command}
use Rattle.ssz_words.specs.CommandSet.{partial_command, clash_command}
use Rattle.ssz_words.specs.Laws.{KeepsRules}
use Rattle.ssz_words.specs.Limits.{CommandIsWithinLimits}
use Rattle.ssz_words.specs.Values.{number_at, text_number_below, order_value, root_value}
use Rattle.ssz_words.specs.Words.{named_args}
use Rattle.ssz_words.specs.declared.commands.Command.{Command}
use Rattle.ssz_words.specs.declared.commands.Command.TheVariants.{Verify, Weave}
use Rattle.ssz_words.proofs.ArgsLemmas.{made_from, made_keeps, order_value-IsOrder}
use Rattle.ssz_words.proofs.ArgsLemmas.{order_value-below, root_args_are, root_value-IsRoot}
use Rattle.ssz_words.proofs.ArgsLemmas.{run_args_are, verify_args_are, weave_args_are}
use Rattle.ssz_words.proofs.ArgsLemmas.{work_args_are, part_args_are, partial_args_are}
use Rattle.ssz_words.proofs.ArgsLemmas.{clash_args_are}
use Rattle.ssz_words.proofs.GetterLemmas.{IsWidth, number_reads}
use Rattle.ssz_words.proofs.PresentLemmas.{HasValue, all_present}

-- a command of the program as `clap` builds it
abbrev pub built_command : Shape → Shape
built_command s = built_leaf (inherited program_shape s)

-- a text that a parser of numbers from 0 takes writes a number of k bits, at most the highest one
signed_number : (k high : ℕ) (v : Text) → IsWidth k → high < 2 ^ k
    → accepts false (Signed (pos 0) (pos high)) v ≡ true
    → (n : ℕ) × (text_number_below k (without_minus v) ≡ Some n) × (n ≤ high)
signed_number k high v width fits passes =
    let got = signed_reads ⊤ (λ u x. ParsesUnsigned k 10 u x) k 0 high v
    (text_number_below k (without_minus v)) (number_reads k (without_minus v) width)
    (λ u x g. g) fits (accepts-Accepts false (Signed (pos 0) (pos high)) v passes) in
    (got.0, got.1, got.3)

-- a text that a parser of numbers of k bits takes writes one
unsigned_number : (k : ℕ) (v : Text) → accepts false (Unsigned 0 (2 ^ k - 1)) v ≡ true
    → (n : ℕ) × (text_number_below k v ≡ Some n)
unsigned_number k v passes = (digits_value 10 (without_leading_plus v), rw passes refl)

-- `--max-bytes` has a number, which may be its default
max_bytes_read : (rows : List Row) → HasValue (filled max_bytes_option) rows
    → (n : ℕ) × (number_at 32 (codes "max-bytes") rows ≡ Some n)
max_bytes_read rows limit =
    let n = signed_number 32 4294967295 limit.value_of (omega arith, omega arith) (omega arith)
    limit.passes in
    (n.0, rw limit.one n.1)

-- ---- the rules that a command keeps

differ : (a b : Text) → bytes_eq a b ≡ false → a ≡ b → ⊥
differ a b e is = true≢false (sym ((bytes_eq-Decides a b).1 is) ∙ e)

-- a command has something to ask for exactly where it keeps its rules, and what it asks for is
-- within its limits
pub record HasAnswer (name : Text) (rows : List Row) : Type 0 where
  pub exact : IsSome (named_args name rows) ↔ KeepsRules name rows
  pub limits : IfSome (named_args name rows) CommandIsWithinLimits

-- a command that has no rules
always_asks : (name : Text) (rows : List Row) (command : Command)
    → named_args name rows ≡ Some command
    → bytes_eq name (codes "weave") ≡ false → bytes_eq name (codes "verify") ≡ false
    → CommandIsWithinLimits command → HasAnswer name rows
always_asks name rows command is weave verify within = record {
  exact = (
    λ _. (
      λ e. absurd (differ name (codes "weave") weave e),
      λ e. absurd (differ name (codes "verify") verify e),
    ),
    λ _. rw is refl,
  );
  limits = rw is within;
}

-- ---- the commands

-- each argument that is required or has a default has a value
abbrev pub HasValues : Shape → List Row → Type 0
HasValues s rows = AllByRecursion
    (λ a. (a.required ≡ true) ⊎ (is_empty a.defaults ≡ false) → HasValue a rows)
    (built_command s).rules

root_asks : (rows : List Row) → HasValues root_command rows → HasAnswer (codes "root") rows
root_asks rows all =
    let schema = all.0 (inl refl) in
    let type_name = all.1.0 (inl refl) in
    let file = all.1.1.0 (inl refl) in
    let n = max_bytes_read rows (all.1.1.1.0 (inr refl)) in
    always_asks (codes "root") rows _
    (root_args_are rows _ _ _ n.0 schema.first type_name.first file.first n.1) refl refl tt

run_asks : (rows : List Row) → HasValues run_command rows → HasAnswer (codes "run") rows
run_asks rows all =
    let schema = all.0 (inl refl) in
    let script = all.1.0 (inl refl) in
    let n = max_bytes_read rows (all.1.1.0 (inr refl)) in
    always_asks (codes "run") rows _ (run_args_are rows _ _ n.0 schema.first script.first n.1)
    refl refl tt

work_asks : (rows : List Row) → HasValues work_command rows → HasAnswer (codes "work") rows
work_asks rows all =
    let schema = all.0 (inl refl) in
    let type_name = all.1.0 (inl refl) in
    let seed = all.1.1.0 (inl refl) in
    let edits = all.1.1.1.0 (inl refl) in
    let s = unsigned_number 64 seed.value_of seed.passes in
    let n = signed_number 32 1000000 edits.value_of (omega arith, omega arith) (omega arith)
    edits.passes in
    let seed_is : number_at 64 (codes "seed") rows ≡ Some s.0 = rw seed.one s.1 in
    let edits_are : number_at 32 (codes "edits") rows ≡ Some n.0 = rw edits.one n.1 in
    always_asks (codes "work") rows _
    (work_args_are rows _ _ s.0 n.0 schema.first type_name.first seed_is edits_are) refl refl n.2

part_asks : (rows : List Row) → HasValues part_command rows → HasAnswer (codes "part") rows
part_asks rows all =
    let schema = all.0 (inl refl) in
    let type_name = all.1.0 (inl refl) in
    let file = all.1.1.0 (inl refl) in
    let path = all.1.1.1.0 (inl refl) in
    let n = max_bytes_read rows (all.1.1.1.1.0 (inr refl)) in
    always_asks (codes "part") rows _
    (part_args_are rows _ _ _ _ n.0 schema.first type_name.first file.first path.first n.1)
    refl refl tt

partial_asks : (rows : List Row) → HasValues partial_command rows
    → HasAnswer (codes "partial") rows
partial_asks rows all =
    let schema = all.0 (inl refl) in
    let type_name = all.1.0 (inl refl) in
    let proof = all.1.1.0 (inl refl) in
    let script = all.1.1.1.0 (inl refl) in
    always_asks (codes "partial") rows _
    (partial_args_are rows _ _ _ _ schema.first type_name.first proof.first script.first)
    refl refl tt

clash_asks : (rows : List Row) → HasValues clash_command rows → HasAnswer (codes "clash") rows
clash_asks rows all =
    let first = all.0 (inl refl) in
    let second = all.1.0 (inl refl) in
    always_asks (codes "clash") rows _ (clash_args_are rows _ _ first.first second.first)
    refl refl tt

verify_asks_by : (rows : List Row) (text file : Text) → first_of (codes "root") rows ≡ Some text
    → first_of (codes "file") rows ≡ Some file → HasAnswer (codes "verify") rows
verify_asks_by rows text file a b =
    let is = verify_args_are rows text file a b in
    let root = root_value-IsRoot text in
    let made = made_from (root_value text) true
    (λ r. Verify (record { root = r; file = file })) in
    record {
      exact = (
        λ some. (
          λ e. absurd (differ (codes "verify") (codes "weave") refl e),
          λ _. rw a (root.0 (made.0 (rw is at some)).0),
        ),
        λ keeps. rw is (made.1 (root.1 (rw a at (keeps.1 refl)), refl)),
      );
      limits = rw is (made_keeps CommandIsWithinLimits (root_value text) true
          (λ r. Verify (record { root = r; file = file })) (λ x _ _. tt));
    }

verify_asks : (rows : List Row) → HasValues verify_command rows → HasAnswer (codes "verify") rows
verify_asks rows all =
    let text = all.0 (inl refl) in
    let file = all.1.0 (inl refl) in
    verify_asks_by rows text.value_of file.value_of text.first file.first

weave_asks_by : (rows : List Row) (schema base digits : Text) (scripts : List Text) (n : ℕ)
    → first_of (codes "schema") rows ≡ Some schema → first_of (codes "base") rows ≡ Some base
    → first_of (codes "order") rows ≡ Some digits → all_of (codes "scripts") rows ≡ Some scripts
    → number_at 32 (codes "max-bytes") rows ≡ Some n → HasAnswer (codes "weave") rows
weave_asks_by rows schema base digits scripts n a b c d e =
    let is = weave_args_are rows schema base digits scripts n a b c d e in
    let order = order_value-IsOrder (length scripts) digits in
    let make : List ℕ → Command = λ o. Weave (record {
      schema = schema;
      base = base;
      order = o;
      scripts = scripts;
      max_bytes = n;
    }) in
    let made = made_from (order_value (length scripts) digits) (nat_le (length scripts) 10)
    make in
    record {
      exact = (
        λ some. (
          λ _.
              let parts = made.0 (rw is at some) in
              rw (d, c) (leb-true _ _ parts.1, order.0 parts.0),
          λ e. absurd (differ (codes "weave") (codes "verify") refl e),
        ),
        λ keeps.
            let kept = rw (d, c) at (keeps.0 refl) in
            rw is (made.1 (order.1 kept.1, le-leb _ _ kept.0)),
      );
      limits = rw is (made_keeps CommandIsWithinLimits (order_value (length scripts) digits)
          (nat_le (length scripts) 10) make (λ o read few.
          let turns = order_value-below (length scripts) digits o read in
          (omega (arith, turns.1 0 0 turns.0), leb-true _ _ few, turns.0, turns.1)));
    }

weave_asks : (rows : List Row) → HasValues weave_command rows → HasAnswer (codes "weave") rows
weave_asks rows all =
    let schema = all.0 (inl refl) in
    let base = all.1.0 (inl refl) in
    let digits = all.1.1.0 (inl refl) in
    let scripts = all.1.1.1.0 (inl refl) in
    let n = max_bytes_read rows (all.1.1.1.1.0 (inr refl)) in
    weave_asks_by rows schema.value_of base.value_of digits.value_of (scripts.value_of
    ∷ scripts.others)
    n.0 schema.first base.first digits.first scripts.all n.1

-- where its words have no fault, a command has something to ask for, by its rules
abbrev pub Answers : Shape → Type 0
Answers s = (words : List Text) → level_fault s [] nothing_held words false [] ≡ []
    → HasAnswer s.name (rows_after s.rules [] words)

pub root_answers : Answers (built_command root_command)
root_answers words none = root_asks _ (all_present (built_command root_command) (
  record { least = omega arith; action = inl refl; own = refl },
  (
    record { least = omega arith; action = inl refl; own = refl },
    (
      record { least = omega arith; action = inl refl; own = refl },
      (record { least = omega arith; action = inl refl; own = refl }, tt),
    ),
  ),
) (λ x. refl) [] words none)

pub run_answers : Answers (built_command run_command)
run_answers words none = run_asks _ (all_present (built_command run_command) (
  record { least = omega arith; action = inl refl; own = refl },
  (
    record { least = omega arith; action = inl refl; own = refl },
    (record { least = omega arith; action = inl refl; own = refl }, tt),
  ),
) (λ x. refl) [] words none)

pub weave_answers : Answers (built_command weave_command)
weave_answers words none = weave_asks _ (all_present (built_command weave_command) (
  record { least = omega arith; action = inl refl; own = refl },
  (
    record { least = omega arith; action = inl refl; own = refl },
    (
      record { least = omega arith; action = inl refl; own = refl },
      (
        record { least = omega arith; action = inr refl; own = refl },
        (record { least = omega arith; action = inl refl; own = refl }, tt),
      ),
    ),
  ),
) (λ x. refl) [] words none)

pub verify_answers : Answers (built_command verify_command)
verify_answers words none = verify_asks _ (all_present (built_command verify_command) (
  record { least = omega arith; action = inl refl; own = refl },
  (record { least = omega arith; action = inl refl; own = refl }, tt),
) (λ x. refl) [] words none)

pub work_answers : Answers (built_command work_command)
work_answers words none = work_asks _ (all_present (built_command work_command) (
  record { least = omega arith; action = inl refl; own = refl },
  (
    record { least = omega arith; action = inl refl; own = refl },
    (
      record { least = omega arith; action = inl refl; own = refl },
      (record { least = omega arith; action = inl refl; own = refl }, tt),
    ),
  ),
) (λ x. refl) [] words none)

pub part_answers : Answers (built_command part_command)
part_answers words none = part_asks _ (all_present (built_command part_command) (
  record { least = omega arith; action = inl refl; own = refl },
  (
    record { least = omega arith; action = inl refl; own = refl },
    (
      record { least = omega arith; action = inl refl; own = refl },
      (
        record { least = omega arith; action = inl refl; own = refl },
        (record { least = omega arith; action = inl refl; own = refl }, tt),
      ),
    ),
  ),
) (λ x. refl) [] words none)

pub partial_answers : Answers (built_command partial_command)
partial_answers words none = partial_asks _ (all_present (built_command partial_command) (
  record { least = omega arith; action = inl refl; own = refl },
  (
    record { least = omega arith; action = inl refl; own = refl },
    (
      record { least = omega arith; action = inl refl; own = refl },
      (record { least = omega arith; action = inl refl; own = refl }, tt),
    ),
  ),
) (λ x. refl) [] words none)

pub clash_answers : Answers (built_command clash_command)
clash_answers words none = clash_asks _ (all_present (built_command clash_command) (
  record { least = omega arith; action = inl refl; own = refl },
  (record { least = omega arith; action = inl refl; own = refl }, tt),
) (λ x. refl) [] words none)
