-- A walk over words that has no fault finds for each argument only values that its parser takes.
use Rattle.std.proofs.Common.{◌≡◌, ◌&&◌, ℕ, zero, suc, Bool, true, false, List, [], ◌∷◌, length}
use Rattle.std.proofs.Common.{Option, Some, None, cond, refl, ap, ◌∙◌}
use Rattle.std.specs.Prelude.{fold, is_some, slice_get}
use Rattle.std.specs.Option.{option_map_or}
use Rattle.std.specs.List.{AllByRecursion}
use Rattle.std.specs.Str.{bytes_eq, chars}
use Rattle.clap.specs.Faults.{stray_fault, option_fault, flag_word_fault, long_fault, other_fault}
use Rattle.clap.specs.Faults.{positional_fault, react_fault, settle_fault, step_fault, turn_fault}
use Rattle.clap.specs.Faults.{use_fault, walk_fault, word_fault}
use Rattle.clap.specs.Kinds.{or_else}
use Rattle.clap.specs.Lexer.{long_of, short_of}
use Rattle.clap.specs.Simple.{Shape}
use Rattle.clap.specs.Walk.{after_step, is_pending, subcommand, takes_several, to_positional, value}
use Rattle.clap.specs.Walk.{walked_from, subcommand_met, subcommand_or_other, after_flag}
use Rattle.clap.specs.Walk.{bundle_step, done, idle, long_or_other, option, option_word, plain}
use Rattle.clap.specs.Walk.{plain_word, positional, refused, short_or_plain, short_word}
use Rattle.clap.specs.Walk.{takes_values, used_by_id, waits, Held, Names, Outcome, Row, Rule, Step}
use Rattle.clap.specs.Walk.{Text, Waiting, Walk, arg_by_id, arg_by_index, arg_by_long, arg_by_short}
use Rattle.clap.specs.Walk.{bundle, bundle_met, flag_met, long_met, next, option_met, reacted}
use Rattle.clap.specs.Walk.{settled, settled_rows, trailing, walked, word_met}
use Rattle.clap.specs.declared.error.ErrorKind.TheVariants.{TooManyValues}
use Rattle.ssz_words.proofs.ReadRows.{AreRead, AreRead-used, IsValueRule, find_in, or_else-both}

module _ (c : List Rule) (rules : AllByRecursion (IsValueRule c) c)
    (no_short : (x : ℕ) → arg_by_short c x ≡ None) where
  AreRead-used_by_id : (again : Bool) (id : Text) (o : Option Rule) (values : List Text)
      (rows : List Row) → arg_by_id c id ≡ o
      → option_map_or (λ a. use_fault again a values rows) o [] ≡ [] → AreRead c rows
      → AreRead c (used_by_id o values rows)
  AreRead-used_by_id again id None values rows is none h = h
  AreRead-used_by_id again id (Some a) values rows is none h = AreRead-used c again a values rows
      (find_in (IsValueRule c) (λ b. bytes_eq b.id id) c a rules is) none h

  AreRead-settled_rows : (again : Bool) (p : Option (Text × List Text)) (rows : List Row)
      → option_map_or (λ q. option_map_or (λ a. use_fault again a q.1 rows) (arg_by_id c q.0) [])
      p [] ≡ [] → AreRead c rows → AreRead c (settled_rows c p rows)
  AreRead-settled_rows again None rows none h = h
  AreRead-settled_rows again (Some q) rows none h = AreRead-used_by_id again q.0 (arg_by_id c q.0)
      q.1 rows refl none h

  pub AreRead-settled : (again : Bool) (h : Held) → settle_fault c again h ≡ []
      → AreRead c h.rows → AreRead c (settled c h).rows
  AreRead-settled again h none ok = AreRead-settled_rows again h.pending h.rows none ok

  AreRead-reacted : (again : Bool) (a : Rule) (values : List Text) (h : Held) → IsValueRule c a
      → react_fault c again a values h ≡ [] → AreRead c h.rows
      → AreRead c (reacted c a values h).rows
  AreRead-reacted again a values h rule none ok =
      let parts = or_else-both (settle_fault c again h)
      (use_fault again a values (settled c h).rows) none in
      AreRead-used c again a values (settled c h).rows rule parts.1
      (AreRead-settled again h parts.0 ok)

  -- ---- one word

  AreRead-option_met : (again : Bool) (a : Rule) (v : Option Text) (h : Held) → IsValueRule c a
      → option_fault c again a v h ≡ [] → AreRead c h.rows → AreRead c (option_met c a v h).0.rows
  AreRead-option_met again a (Some v) h rule none ok = AreRead-reacted again a (v
      ∷ []) h rule none ok
  AreRead-option_met again a None h rule none ok = AreRead-settled again h none ok

  AreRead-flag_met : (again : Bool) (a : Rule) (v : Option Text) (h : Held) → IsValueRule c a
      → cond (is_some v) (TooManyValues ∷ []) (react_fault c again a [] h) ≡ []
      → AreRead c h.rows → AreRead c (flag_met c a v h).0.rows
  AreRead-flag_met again a (Some v) h rule none ok = ok
  AreRead-flag_met again a None h rule none ok = AreRead-reacted again a [] h rule none ok

  AreRead-long_met : (again : Bool) (o : Option Rule) (v : Option Text) (h : Held)
      → ((a : Rule) → o ≡ Some a → IsValueRule c a) → long_fault c again o v h ≡ []
      → AreRead c h.rows
      → AreRead c (long_met c o v h).0.rows
  AreRead-long_met again None v h rule none ok = ok
  AreRead-long_met again (Some a) v h rule none ok = go (takes_values a) refl none
    where
      go : (b : Bool) → takes_values a ≡ b
          → cond (takes_values a) (option_fault c again a v h)
          (cond (is_some v) (TooManyValues ∷ []) (react_fault c again a [] h)) ≡ []
          → AreRead c (cond (takes_values a) (option_met c a v h) (flag_met c a v h)).0.rows
      go true e n = rw e (AreRead-option_met again a v h (rule a refl) (rw e at n) ok)
      go false e n = rw e (AreRead-flag_met again a v h (rule a refl) (rw e at n) ok)

  step_same : (o : Option ℕ) (flags : Text) (skip : ℕ) (so_far : Outcome) (h : Held)
      (after : Text → ℕ → Outcome → Held → Held × Outcome)
      → ((t : Text) (n : ℕ) (out : Outcome) (k : Held) → (after t n out k).0 ≡ k)
      → (bundle_step c o flags skip so_far h after).0 ≡ h
  step_same None flags skip so_far h after same = refl
  step_same (Some x) flags zero so_far h after same = rw (no_short x) refl
  step_same (Some x) flags (suc skip) so_far h after same = same _ skip so_far h

  bundle_same : (k : ℕ) (flags : Text) (skip : ℕ) (so_far : Outcome) (h : Held)
      → (bundle_met c k flags skip so_far h).0 ≡ h
  unfolding bundle_met
  bundle_same zero flags skip so_far h = refl
  bundle_same (suc k) flags skip so_far h = step_same (slice_get (chars flags) 0) flags skip
      so_far h (bundle_met c k) (bundle_same k)

  option_word_same : (o : Option Rule) (id word : Text) (h : Held)
      → (option_word o id word h).0.rows ≡ h.rows
  option_word_same None id word h = refl
  option_word_same (Some a) id word h = refl

  plain_same : (waiting : Waiting) (word : Text) (h : Held)
      → (plain_word c waiting word h).0.rows ≡ h.rows
  plain_same idle word h = refl
  plain_same (option id) word h = option_word_same (arg_by_id c id) id word h
  plain_same positional word h = refl

  after_same : (waiting : Waiting) (word : Text) (h : Held) (out : Outcome)
      → (after_flag c waiting word h out).0.rows ≡ h.rows
  after_same waiting word h done = refl
  after_same waiting word h (waits id) = refl
  after_same waiting word h plain = plain_same waiting word h
  after_same waiting word h refused = plain_same waiting word h

  AreRead-short_or_plain : (waiting : Waiting) (word : Text) (flags : Option Text) (h : Held)
      → AreRead c h.rows → AreRead c (short_or_plain c waiting word flags h).0.rows
  AreRead-short_or_plain waiting word (Some flags) h ok =
      let same : (short_word c waiting word flags h).0.rows ≡ h.rows =
      after_same waiting word (bundle c flags h).0 (bundle c flags h).1
      ∙ ap (λ (k : Held). k.rows)
      (bundle_same (length flags) flags h.skip plain (record h { skip = 0 })) in
      rw same ok
  AreRead-short_or_plain waiting word None h ok = rw (plain_same waiting word h) ok

  AreRead-long_or_other : (again : Bool) (waiting : Waiting) (word : Text)
      (o : Option (Text × Option Text)) (h : Held) → flag_word_fault c again o word h ≡ []
      → AreRead c h.rows
      → AreRead c (long_or_other c waiting word o h).0.rows
  AreRead-long_or_other again waiting word (Some p) h none ok =
      rw (after_same waiting word (long_met c (arg_by_long c p.0) p.1 h).0
      (long_met c (arg_by_long c p.0) p.1 h).1)
      (AreRead-long_met again (arg_by_long c p.0) p.1 h
      (λ a is. find_in (IsValueRule c) _ c a rules is) none ok)
  AreRead-long_or_other again waiting word None h none ok = AreRead-short_or_plain waiting word
      (short_of word) h ok

  -- ---- the walk, for a command with these arguments

  module _ (s : Shape) (ns : Names) where
    abbrev sh : Shape
    sh = record s { rules = c }

    AreRead-word_met : (is_trailing : Bool) (waiting : Waiting) (position : ℕ) (word : Text)
        (h : Held) → word_fault sh ns is_trailing waiting word h ≡ []
        → AreRead c h.rows → AreRead c (word_met c ns is_trailing waiting position word h).0.rows
    AreRead-word_met true waiting position word h none ok = ok
    AreRead-word_met false waiting position word h none ok = named
        (subcommand_met ns waiting word) none
      where
        named : (o : Option Text) → other_fault sh o word h ≡ []
            → AreRead c (subcommand_or_other c o waiting position word h).0.rows
        named (Some name) n = ok
        named None n = dashes (bytes_eq word (45 ∷ 45 ∷ [])) refl n
          where
            dashes : (b : Bool) → bytes_eq word (45 ∷ 45 ∷ []) ≡ b
                → cond (bytes_eq word (45 ∷ 45 ∷ [])) []
                (flag_word_fault c s.args_override_self (long_of word) word h) ≡ []
                → AreRead c
                (cond (bytes_eq word (45 ∷ 45 ∷ [])) (h, trailing position)
                (long_or_other c waiting word (long_of word) h)).0.rows
            dashes true e n = rw e ok
            dashes false e n = rw e
                (AreRead-long_or_other s.args_override_self waiting word (long_of word) h
                (rw e at n) ok)

    AreRead-to_positional : (o : Option Rule) (word : Text) (w : Walk) (h : Held)
        → option_map_or (λ a. positional_fault c s.args_override_self a h) o (stray_fault sh) ≡ []
        → AreRead c h.rows → AreRead c (to_positional c o word w h).held.rows
    AreRead-to_positional None word w h none ok = ok
    AreRead-to_positional (Some a) word w h none ok = go (is_pending a h.pending
        && takes_several a) refl none
      where
        go : (b : Bool) → (is_pending a h.pending && takes_several a) ≡ b
            → cond (is_pending a h.pending
            && takes_several a) [] (settle_fault c s.args_override_self h) ≡ []
            → AreRead c (cond (is_pending a h.pending && takes_several a) h (settled c h)).rows
        go true e n = rw e ok
        go false e n = rw e (AreRead-settled s.args_override_self h (rw e at n) ok)

    AreRead-after_step : (word : Text) (w : Walk) (h : Held) (st : Step)
        → step_fault sh w.position h st ≡ [] → AreRead c h.rows
        → AreRead c (after_step c word w h st).held.rows
    AreRead-after_step word w h (next waiting) none ok = ok
    AreRead-after_step word w h (trailing position) none ok = ok
    AreRead-after_step word w h (subcommand name) none ok = ok
    AreRead-after_step word w h value none ok = AreRead-to_positional (arg_by_index c w.position)
        word w h none ok

    AreRead-walked : (w : Walk) (word : Text) → turn_fault sh ns w word ≡ []
        → AreRead c w.held.rows → AreRead c (walked c ns w word).held.rows
    unfolding walked
    AreRead-walked w word none ok = go w.stopped none
      where
        met : Held × Step
        met = word_met c ns w.is_trailing w.waiting w.position word w.held

        go : (p : Option (Text × List Text))
            → cond (is_some p) [] (or_else (word_fault sh ns w.is_trailing w.waiting word w.held)
            (step_fault sh w.position
            (word_met c ns w.is_trailing w.waiting w.position word w.held).0
            (word_met c ns w.is_trailing w.waiting w.position word w.held).1)) ≡ []
            → AreRead c (walked_from c ns p w word).held.rows
        go (Some q) n = ok
        go None n =
            let parts = or_else-both (word_fault sh ns w.is_trailing w.waiting word w.held) _ n in
            AreRead-after_step word w _ _ parts.1
            (AreRead-word_met w.is_trailing w.waiting w.position word w.held parts.0 ok)

    pub AreRead-walk : (words : List Text) (w : Walk) → walk_fault sh ns w words ≡ []
        → AreRead c w.held.rows → AreRead c (fold (walked c ns) w words).held.rows
    unfolding walk_fault
    AreRead-walk [] w none ok = ok
    AreRead-walk (word ∷ rest) w none ok =
        let parts = or_else-both (turn_fault sh ns w word)
        (walk_fault sh ns (walked c ns w word) rest) none in
        AreRead-walk rest (walked c ns w word) parts.1 (AreRead-walked w word parts.0 ok)
