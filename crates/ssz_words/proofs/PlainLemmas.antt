-- Plain words after the name of a command are its arguments, in order.
use Rattle.std.proofs.Common.{◌≡◌, ◌<◌, ◌≤◌, ◌-◌, ◌^◌, ℕ, false, true, List, [], ◌∷◌, Some, codes}
use Rattle.std.proofs.Common.{length, map, refl, ◌∙◌, ap, arith}
use Rattle.std.specs.List.{AllPass}
use Rattle.std.specs.Str.Parse.{digits_value}
use Rattle.std.proofs.lemmas.Bool.{le-leb}
use Rattle.std.proofs.lemmas.List.Sums.{list_all-from_AllPass}
use Rattle.clap.specs.Faults.{defaults_fault}
use Rattle.clap.specs.Kinds.{range_kinds, values_kinds}
use Rattle.clap.specs.Lexer.{usize_max}
use Rattle.clap.specs.Walk.{Text, walked}
use Rattle.clap.specs.declared.builder.value_parser.ValueParser.TheVariants.{String}
use Rattle.ssz_words.specs.CommandSet.{root_command, run_command, weave_command, verify_command}
use Rattle.ssz_words.specs.CommandSet.{work_command, part_command, partial_command, clash_command}
use Rattle.ssz_words.specs.Laws.{IsDigits, IsOrder, TakesPlainWords, is_plain_text}
use Rattle.ssz_words.specs.Values.{root_value}
use Rattle.ssz_words.specs.Words.{command_of, named_args}
use Rattle.ssz_words.specs.declared.commands.Command.TheVariants.{Root, Run, Weave, Verify, Work}
use Rattle.ssz_words.specs.declared.commands.Command.TheVariants.{Part, Partial, Clash}
use Rattle.ssz_words.proofs.CommandLemmas.{built_command}
use Rattle.ssz_words.proofs.DigitLemmas.{edits_read, order_of_none, order_plain, order_read}
use Rattle.ssz_words.proofs.DigitLemmas.{seed_read, takes_edits, takes_seed}
use Rattle.ssz_words.proofs.EnterLemmas.{IsEntered, enter}
use Rattle.ssz_words.proofs.PlainWalks.{leads_none, leads_nowhere, leads_on, leads_rest}
use Rattle.ssz_words.proofs.PlainWalks.{takes_next, takes_rest}

root_entered : IsEntered (built_command root_command)
unfolding walked
root_entered = record { met = refl; none = refl; found = refl }

takes_root : (program schema type_name file : Text)
    → is_plain_text schema ≡ true → is_plain_text type_name ≡ true → is_plain_text file ≡ true
    → command_of (program ∷ codes "root" ∷ schema ∷ type_name ∷ file ∷ [])
    ≡ Some (Root (record {
      schema = schema;
      type_name = type_name;
      file = file;
      max_bytes = 2 ^ 28;
    }))
unfolding defaults_fault
takes_root program schema type_name file a b c =
    let s = built_command root_command in
    let leads = leads_on s _ 1 schema (type_name ∷ file ∷ []) _
    (takes_next s _ 1 schema _ a refl refl refl refl)
    (leads_on s _ 2 type_name (file ∷ []) _
    (takes_next s _ 2 type_name _ b refl refl refl refl)
    (leads_on s _ 3 file [] _
    (takes_next s _ 3 file _ c refl refl refl refl)
    (leads_nowhere s _ 4))) in
    let ends = leads_none s (schema ∷ type_name ∷ file ∷ []) _ leads refl refl refl in
    enter s root_entered program (schema ∷ type_name ∷ file ∷ []) ends.0
    ∙ ap (named_args (codes "root")) ends.1

run_entered : IsEntered (built_command run_command)
unfolding walked
run_entered = record { met = refl; none = refl; found = refl }

takes_run : (program schema script : Text) → is_plain_text schema ≡ true
    → is_plain_text script ≡ true
    → command_of (program ∷ codes "run" ∷ schema ∷ script ∷ [])
    ≡ Some (Run (record { schema = schema; script = script; max_bytes = 2 ^ 28 }))
unfolding defaults_fault
takes_run program schema script a b =
    let s = built_command run_command in
    let leads = leads_on s _ 1 schema (script ∷ []) _
    (takes_next s _ 1 schema _ a refl refl refl refl)
    (leads_on s _ 2 script [] _
    (takes_next s _ 2 script _ b refl refl refl refl)
    (leads_nowhere s _ 3)) in
    let ends = leads_none s (schema ∷ script ∷ []) _ leads refl refl refl in
    enter s run_entered program (schema ∷ script ∷ []) ends.0
    ∙ ap (named_args (codes "run")) ends.1

weave_entered : IsEntered (built_command weave_command)
unfolding walked
weave_entered = record { met = refl; none = refl; found = refl }

-- any texts are taken, of any number from one to ten
any_texts : (texts : List Text) → values_kinds false String texts ≡ []
any_texts [] = refl
any_texts (text ∷ texts) = any_texts texts

one_or_more : (n : ℕ) → 1 ≤ n → n ≤ 10 → range_kinds 1 usize_max n ≡ []
one_or_more n some few = grind arith

-- a weave that has a script
takes_scripts : (program schema base order first : Text) (others : List Text)
    → is_plain_text schema ≡ true → is_plain_text base ≡ true
    → IsOrder (length (first ∷ others)) order → AllPass is_plain_text (first ∷ others)
    → length (first ∷ others) ≤ 10
    → command_of (program ∷ codes "weave" ∷ schema ∷ base ∷ order ∷ first ∷ others)
    ≡ Some (Weave (record {
      schema = schema;
      base = base;
      order = map (λ digit. digit - 48) order;
      scripts = first ∷ others;
      max_bytes = 2 ^ 28;
    }))
unfolding defaults_fault
takes_scripts program schema base order first others a b c d few =
    let s = built_command weave_command in
    let scripts = first ∷ others in
    let leads = leads_on s _ 1 schema (base ∷ order ∷ scripts) _
    (takes_next s _ 1 schema _ a refl refl refl refl)
    (leads_on s _ 2 base (order ∷ scripts) _
    (takes_next s _ 2 base _ b refl refl refl refl)
    (leads_on s _ 3 order scripts _
    (takes_next s _ 3 order _ (order_plain (length scripts) order c) refl refl refl refl)
    (leads_rest s _ 4 first others (takes_rest s _ 4 _ refl refl refl refl refl)
    (list_all-from_AllPass is_plain_text scripts d)))) in
    let ends = leads_none s (schema ∷ base ∷ order ∷ scripts) _ leads
    (rw (one_or_more (length scripts) (omega arith) few) (any_texts scripts)) refl refl in
    enter s weave_entered program (schema ∷ base ∷ order ∷ scripts) ends.0
    ∙ ap (named_args (codes "weave")) ends.1
    ∙ rw (order_read (length scripts) order c, le-leb (length scripts) 10 few) refl

takes_weave : (program schema base order : Text) (scripts : List Text)
    → is_plain_text schema ≡ true → is_plain_text base ≡ true → IsOrder (length scripts) order
    → AllPass is_plain_text scripts → length scripts ≤ 10
    → command_of (program ∷ codes "weave" ∷ schema ∷ base ∷ order ∷ scripts)
    ≡ Some (Weave (record {
      schema = schema;
      base = base;
      order = map (λ digit. digit - 48) order;
      scripts = scripts;
      max_bytes = 2 ^ 28;
    }))
takes_weave program schema base order [] a b c d few = absurd (order_of_none order c)
takes_weave program schema base order (first ∷ others) a b c d few =
    takes_scripts program schema base order first others a b c d few

verify_entered : IsEntered (built_command verify_command)
unfolding walked
verify_entered = record { met = refl; none = refl; found = refl }

takes_verify : (program text file : Text) (bytes : List ℕ)
    → is_plain_text text ≡ true → is_plain_text file ≡ true → root_value text ≡ Some bytes
    → command_of (program ∷ codes "verify" ∷ text ∷ file ∷ [])
    ≡ Some (Verify (record { root = bytes; file = file }))
unfolding defaults_fault
takes_verify program text file bytes a b is =
    let s = built_command verify_command in
    let leads = leads_on s _ 1 text (file ∷ []) _
    (takes_next s _ 1 text _ a refl refl refl refl)
    (leads_on s _ 2 file [] _
    (takes_next s _ 2 file _ b refl refl refl refl)
    (leads_nowhere s _ 3)) in
    let ends = leads_none s (text ∷ file ∷ []) _ leads refl refl refl in
    enter s verify_entered program (text ∷ file ∷ []) ends.0
    ∙ ap (named_args (codes "verify")) ends.1 ∙ rw is refl

work_entered : IsEntered (built_command work_command)
unfolding walked
work_entered = record { met = refl; none = refl; found = refl }

takes_work : (program schema type_name seed edits : Text)
    → is_plain_text schema ≡ true → is_plain_text type_name ≡ true → IsDigits seed → IsDigits edits
    → digits_value 10 seed < 2 ^ 64 → digits_value 10 edits ≤ 1000000
    → command_of (program ∷ codes "work" ∷ schema ∷ type_name ∷ seed ∷ edits ∷ [])
    ≡ Some (Work (record {
      schema = schema;
      type_name = type_name;
      seed = digits_value 10 seed;
      edits = digits_value 10 edits;
    }))
unfolding defaults_fault
takes_work program schema type_name seed edits a b c d low few =
    let s = built_command work_command in
    let seeds = takes_seed seed c low in
    let leads = leads_on s _ 1 schema (type_name ∷ seed ∷ edits ∷ []) _
    (takes_next s _ 1 schema _ a refl refl refl refl)
    (leads_on s _ 2 type_name (seed ∷ edits ∷ []) _
    (takes_next s _ 2 type_name _ b refl refl refl refl)
    (leads_on s _ 3 seed (edits ∷ []) _
    (takes_next s _ 3 seed _ (order_plain 10 seed c) refl refl refl refl)
    (leads_on s _ 4 edits [] _
    (takes_next s _ 4 edits _ (order_plain 10 edits d) refl refl refl (rw seeds refl))
    (leads_nowhere s _ 5)))) in
    let ends = leads_none s (schema ∷ type_name ∷ seed ∷ edits ∷ []) _ leads
    (rw (takes_edits edits d few) refl) refl refl in
    enter s work_entered program (schema ∷ type_name ∷ seed ∷ edits ∷ []) ends.0
    ∙ ap (named_args (codes "work")) ends.1
    ∙ rw (seed_read seed c low, edits_read edits d few) refl

part_entered : IsEntered (built_command part_command)
unfolding walked
part_entered = record { met = refl; none = refl; found = refl }

takes_part : (program schema type_name file path : Text)
    → is_plain_text schema ≡ true → is_plain_text type_name ≡ true → is_plain_text file ≡ true
    → is_plain_text path ≡ true
    → command_of (program ∷ codes "part" ∷ schema ∷ type_name ∷ file ∷ path ∷ [])
    ≡ Some (Part (record {
      schema = schema;
      type_name = type_name;
      file = file;
      path = path;
      max_bytes = 2 ^ 28;
    }))
unfolding defaults_fault
takes_part program schema type_name file path a b c d =
    let s = built_command part_command in
    let leads = leads_on s _ 1 schema (type_name ∷ file ∷ path ∷ []) _
    (takes_next s _ 1 schema _ a refl refl refl refl)
    (leads_on s _ 2 type_name (file ∷ path ∷ []) _
    (takes_next s _ 2 type_name _ b refl refl refl refl)
    (leads_on s _ 3 file (path ∷ []) _
    (takes_next s _ 3 file _ c refl refl refl refl)
    (leads_on s _ 4 path [] _
    (takes_next s _ 4 path _ d refl refl refl refl)
    (leads_nowhere s _ 5)))) in
    let ends = leads_none s (schema ∷ type_name ∷ file ∷ path ∷ []) _ leads refl refl refl in
    enter s part_entered program (schema ∷ type_name ∷ file ∷ path ∷ []) ends.0
    ∙ ap (named_args (codes "part")) ends.1

partial_entered : IsEntered (built_command partial_command)
unfolding walked
partial_entered = record { met = refl; none = refl; found = refl }

takes_partial : (program schema type_name proof script : Text)
    → is_plain_text schema ≡ true → is_plain_text type_name ≡ true → is_plain_text proof ≡ true
    → is_plain_text script ≡ true
    → command_of (program ∷ codes "partial" ∷ schema ∷ type_name ∷ proof ∷ script ∷ [])
    ≡ Some (Partial (record {
      schema = schema;
      type_name = type_name;
      proof = proof;
      script = script;
    }))
unfolding defaults_fault
takes_partial program schema type_name proof script a b c d =
    let s = built_command partial_command in
    let leads = leads_on s _ 1 schema (type_name ∷ proof ∷ script ∷ []) _
    (takes_next s _ 1 schema _ a refl refl refl refl)
    (leads_on s _ 2 type_name (proof ∷ script ∷ []) _
    (takes_next s _ 2 type_name _ b refl refl refl refl)
    (leads_on s _ 3 proof (script ∷ []) _
    (takes_next s _ 3 proof _ c refl refl refl refl)
    (leads_on s _ 4 script [] _
    (takes_next s _ 4 script _ d refl refl refl refl)
    (leads_nowhere s _ 5)))) in
    let ends = leads_none s (schema ∷ type_name ∷ proof ∷ script ∷ []) _ leads refl refl refl in
    enter s partial_entered program (schema ∷ type_name ∷ proof ∷ script ∷ []) ends.0
    ∙ ap (named_args (codes "partial")) ends.1

clash_entered : IsEntered (built_command clash_command)
unfolding walked
clash_entered = record { met = refl; none = refl; found = refl }

takes_clash : (program first second : Text) → is_plain_text first ≡ true
    → is_plain_text second ≡ true
    → command_of (program ∷ codes "clash" ∷ first ∷ second ∷ [])
    ≡ Some (Clash (record { first = first; second = second }))
unfolding defaults_fault
takes_clash program first second a b =
    let s = built_command clash_command in
    let leads = leads_on s _ 1 first (second ∷ []) _
    (takes_next s _ 1 first _ a refl refl refl refl)
    (leads_on s _ 2 second [] _
    (takes_next s _ 2 second _ b refl refl refl refl)
    (leads_nowhere s _ 3)) in
    let ends = leads_none s (first ∷ second ∷ []) _ leads refl refl refl in
    enter s clash_entered program (first ∷ second ∷ []) ends.0
    ∙ ap (named_args (codes "clash")) ends.1

pub takes_plain_words : TakesPlainWords
takes_plain_words = record {
  root = takes_root;
  run = takes_run;
  weave = takes_weave;
  verify = takes_verify;
  work = takes_work;
  part = takes_part;
  partial = takes_partial;
  clash = takes_clash;
}
