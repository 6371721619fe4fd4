-- When words are taken, in the terms of a command line.
use Rattle.std.specs.Prelude.{Some, ◌≡◌, ◌↔◌, ◌<◌, ◌≤◌, ◌==◌, ◌-◌, ◌^◌, ℕ, Bool, true, false, List}
use Rattle.std.specs.Prelude.{[], ◌∷◌, length, map, IfSome, IsSome, codes, if◌then◌else◌}
use Rattle.std.specs.List.{AllPass}
use Rattle.std.specs.Str.Parse.{digits_value}
use Rattle.clap.specs.Words.{Row, Text, all_of, fault_of, first_of, subcommand_of}
use Rattle.hex.specs.Hex.{is_hex_digit}
use Rattle.ssz_words.specs.CommandSet.{program}
use Rattle.ssz_words.specs.Values.{is_digit_below, root_value, without_mark}
use Rattle.ssz_words.specs.Words.{command_of}
use Rattle.ssz_words.specs.declared.commands.Command.TheVariants.{Root, Run, Weave, Verify, Work}
use Rattle.ssz_words.specs.declared.commands.Command.TheVariants.{Part, Partial, Clash}

-- one or more decimal digits, each below n
abbrev pub IsOrder : ℕ → Text → Type 0
IsOrder n text = (0 < length text) × AllPass (is_digit_below n) text

-- 64 hexadecimal digits in either case, with or without `0x`
abbrev pub IsRoot : Text → Type 0
IsRoot text = (length (without_mark text) ≡ 64) × AllPass is_hex_digit (without_mark text)

-- the scripts of a `weave` are at most ten, and its order is one of as many writers
abbrev pub KeepsWeave : List Row → Type 0
KeepsWeave rows = IfSome (all_of (codes "scripts") rows) (λ scripts. (length scripts ≤ 10)
    × IfSome (first_of (codes "order") rows) (IsOrder (length scripts)))

-- the root of a `verify` is one
abbrev pub KeepsVerify : List Row → Type 0
KeepsVerify rows = IfSome (first_of (codes "root") rows) IsRoot

-- the rules that a command has beside those of `clap`
abbrev pub KeepsRules : Text → List Row → Type 0
KeepsRules name rows =
    (name ≡ codes "weave" → KeepsWeave rows) × (name ≡ codes "verify" → KeepsVerify rows)

-- Words are taken exactly where `clap` finds no fault in them and the command that it enters keeps
-- these rules. So a command is always entered, and no value that it asks for is missing.
abbrev pub TakesExactly : Type 0
TakesExactly = (words : List Text) → IsSome (command_of words)
    ↔ ((fault_of program words ≡ [])
    × IfSome (subcommand_of program words) (λ entered. KeepsRules entered.0 entered.1))

-- the word does not begin with a hyphen (45)
abbrev pub is_plain_text : Text → Bool
is_plain_text [] = true
is_plain_text (x ∷ xs) = if x == 45 then false else true

-- one or more decimal digits
abbrev pub IsDigits : Text → Type 0
IsDigits text = (0 < length text) × AllPass (is_digit_below 10) text

-- Plain words after the name of a command are its arguments, in order, and max-bytes is 2 ^ 28.
pub record TakesPlainWords : Type 0 where
  pub root : (program schema type_name file : Text)
      → is_plain_text schema ≡ true → is_plain_text type_name ≡ true → is_plain_text file ≡ true
      → command_of (program ∷ codes "root" ∷ schema ∷ type_name ∷ file ∷ [])
      ≡ Some (Root (record {
        schema = schema;
        type_name = type_name;
        file = file;
        max_bytes = 2 ^ 28;
      }))
  pub run : (program schema script : Text) → is_plain_text schema ≡ true
      → is_plain_text script ≡ true
      → command_of (program ∷ codes "run" ∷ schema ∷ script ∷ [])
      ≡ Some (Run (record { schema = schema; script = script; max_bytes = 2 ^ 28 }))
  pub weave : (program schema base order : Text) (scripts : List Text)
      → is_plain_text schema ≡ true → is_plain_text base ≡ true → IsOrder (length scripts) order
      → AllPass is_plain_text scripts → length scripts ≤ 10
      → command_of (program ∷ codes "weave" ∷ schema ∷ base ∷ order ∷ scripts)
      ≡ Some (Weave (record {
        schema = schema;
        base = base;
        order = map (λ digit. digit - 48) order;
        scripts = scripts;
        max_bytes = 2 ^ 28;
      }))
  pub verify : (program text file : Text) (bytes : List ℕ)
      → is_plain_text text ≡ true → is_plain_text file ≡ true → root_value text ≡ Some bytes
      → command_of (program ∷ codes "verify" ∷ text ∷ file ∷ [])
      ≡ Some (Verify (record { root = bytes; file = file }))
  pub work : (program schema type_name seed edits : Text)
      → is_plain_text schema ≡ true → is_plain_text type_name ≡ true → IsDigits seed
      → IsDigits edits
      → digits_value 10 seed < 2 ^ 64 → digits_value 10 edits ≤ 1000000
      → command_of (program ∷ codes "work" ∷ schema ∷ type_name ∷ seed ∷ edits ∷ [])
      ≡ Some (Work (record {
        schema = schema;
        type_name = type_name;
        seed = digits_value 10 seed;
        edits = digits_value 10 edits;
      }))
  pub part : (program schema type_name file path : Text)
      → is_plain_text schema ≡ true → is_plain_text type_name ≡ true → is_plain_text file ≡ true
      → is_plain_text path ≡ true
      → command_of (program ∷ codes "part" ∷ schema ∷ type_name ∷ file ∷ path ∷ [])
      ≡ Some (Part (record {
        schema = schema;
        type_name = type_name;
        file = file;
        path = path;
        max_bytes = 2 ^ 28;
      }))
  pub partial : (program schema type_name proof script : Text)
      → is_plain_text schema ≡ true → is_plain_text type_name ≡ true → is_plain_text proof ≡ true
      → is_plain_text script ≡ true
      → command_of (program ∷ codes "partial" ∷ schema ∷ type_name ∷ proof ∷ script ∷ [])
      ≡ Some (Partial (record {
        schema = schema;
        type_name = type_name;
        proof = proof;
        script = script;
      }))
  pub clash : (program first second : Text) → is_plain_text first ≡ true
      → is_plain_text second ≡ true
      → command_of (program ∷ codes "clash" ∷ first ∷ second ∷ [])
      ≡ Some (Clash (record { first = first; second = second }))
