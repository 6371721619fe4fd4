-- Words that do not begin with a hyphen are the values of positionals, each in its turn.
use Rattle.std.proofs.Common.{◌≡◌, ◌+◌, ◌&&◌, ◌||◌, ℕ, Bool, true, false, ◌==◌, List, [], ◌∷◌, Some}
use Rattle.std.proofs.Common.{None, ◌++◌, append-nil, append_assoc, cond, refl, sym, ap, ◌∙◌}
use Rattle.std.specs.Prelude.{fold, min}
use Rattle.std.specs.List.{list_all}
use Rattle.std.specs.Str.{bytes_eq}
use Rattle.std.proofs.lemmas.Slice.Eq.{bytes_eq-Decides}
use Rattle.clap.specs.Faults.{check_fault, defaults_fault, level_fault, settle_fault}
use Rattle.clap.specs.Faults.{turn_fault, walk_fault}
use Rattle.clap.specs.Lexer.{long_of, short_of, strip_byte, usize_max}
use Rattle.clap.specs.Simple.{Shape}
use Rattle.clap.specs.Walk.{action_of, is_append, is_pending, Held, Rule, Text, Walk}
use Rattle.clap.specs.Walk.{arg_by_index, finished, idle, is_multiple, nothing_held, positional}
use Rattle.clap.specs.Walk.{pushed, rows_after, settled, takes_several}
use Rattle.clap.specs.Walk.{walked}
use Rattle.ssz_words.specs.Laws.{is_plain_text}

no_dashes : (s : Text) → is_plain_text s ≡ true → bytes_eq s (45 ∷ 45 ∷ []) ≡ false
no_dashes [] e = refl
no_dashes (x ∷ xs) e = go (x == 45) refl e
  where
    go : (b : Bool) → (x == 45) ≡ b → cond b false true ≡ true
        → bytes_eq (x ∷ xs) (45 ∷ 45 ∷ []) ≡ false
    go true is e = cc
    go false is e = rw is refl

no_hyphen : (s : Text) → is_plain_text s ≡ true → strip_byte 45 s ≡ None
no_hyphen [] e = refl
no_hyphen (x ∷ xs) e = go (x == 45) refl e
  where
    go : (b : Bool) → (x == 45) ≡ b → cond b false true ≡ true → strip_byte 45 (x ∷ xs) ≡ None
    go true is e = cc
    go false is e = rw is refl

no_long : (s : Text) → is_plain_text s ≡ true → long_of s ≡ None
no_long s e = rw (no_hyphen s e) refl

no_short : (s : Text) → is_plain_text s ≡ true → short_of s ≡ None
no_short s e = rw (no_hyphen s e) refl

neither : (a b : Bool) → (a || b) ≡ false → (a ≡ false) × (b ≡ false)
neither false b e = (refl, e)
neither true b e = cc

both_true : (a b : Bool) → (a && b) ≡ true → (a ≡ true) × (b ≡ true)
both_true true b e = (refl, e)
both_true false b e = cc

and_false : (b : Bool) → (b && false) ≡ false
and_false true = refl
and_false false = refl

module _ (s : Shape) where
  -- where a walk stands with nothing that waits for a value
  abbrev pub at : Held → ℕ → Walk
  at h position = record {
    held = h;
    waiting = idle;
    position = position;
    is_trailing = false;
    stopped = None;
  }

  -- the positional of this place has one value, and takes the word
  pub record TakesNext (h : Held) (position : ℕ) (word : Text) : Type 0 where
    pub rule : Rule
    pub plain : is_plain_text word ≡ true
    pub found : arg_by_index s.rules position ≡ Some rule
    pub single : is_multiple rule ≡ false
    pub not_trailing : rule.trailing_var_arg ≡ false
    pub settles : settle_fault s.rules s.args_override_self h ≡ []

  abbrev pub takes_next : (h : Held) (position : ℕ) (word : Text) (rule : Rule)
      → is_plain_text word ≡ true
      → arg_by_index s.rules position ≡ Some rule → is_multiple rule ≡ false
      → rule.trailing_var_arg ≡ false → settle_fault s.rules s.args_override_self h ≡ []
      → TakesNext h position word
  takes_next h position word rule plain found single not_trailing settles = record {
    rule = rule;
    plain = plain;
    found = found;
    single = single;
    not_trailing = not_trailing;
    settles = settles;
  }

  -- words lead a walk from one place to another, with no fault
  pub record Leads (h : Held) (position : ℕ) (words : List Text) (end : Walk) : Type 0 where
    pub goes : fold (walked s.rules []) (at h position) words ≡ end
    pub none : walk_fault s [] (at h position) words ≡ []

  pub leads_nowhere : (h : Held) (position : ℕ) → Leads h position [] (at h position)
  unfolding walk_fault
  leads_nowhere h position = record { goes = refl; none = refl }

  word_goes : (h : Held) (position : ℕ) (word : Text) (t : TakesNext h position word)
      → walked s.rules [] (at h position) word
      ≡ at (pushed t.rule.id word (settled s.rules h)) (min (position + 1) usize_max)
  unfolding walked
  word_goes h position word t =
      let one = neither (takes_several t.rule) (is_append (action_of t.rule)) t.single in
      rw (no_dashes word t.plain, no_long word t.plain, no_short word t.plain)
      (rw (t.found, one.0, one.1, t.not_trailing, and_false (is_pending t.rule h.pending)) refl)

  word_none : (h : Held) (position : ℕ) (word : Text) (t : TakesNext h position word)
      → turn_fault s [] (at h position) word ≡ []
  word_none h position word t =
      let one = neither (takes_several t.rule) (is_append (action_of t.rule)) t.single in
      rw (no_dashes word t.plain, no_long word t.plain, no_short word t.plain)
      (rw (t.found, one.0, and_false (is_pending t.rule h.pending)) t.settles)

  -- one more word
  pub leads_on : (h : Held) (position : ℕ) (word : Text) (words : List Text) (end : Walk)
      (t : TakesNext h position word)
      → Leads (pushed t.rule.id word (settled s.rules h)) (min (position + 1) usize_max) words end
      → Leads h position (word ∷ words) end
  unfolding walk_fault
  leads_on h position word words end t later =
      let goes = word_goes h position word t in
      record {
        goes = ap (λ w. fold (walked s.rules []) w words) goes ∙ later.goes;
        none = rw (word_none h position word t) (rw goes later.none);
      }

  -- where a walk stands whose last positional has these values, and takes each word that follows
  abbrev pub taking : Held → Text → List Text → ℕ → Walk
  taking h id values position = record {
    held = record h { pending = Some (id, values) };
    waiting = positional;
    position = position;
    is_trailing = false;
    stopped = None;
  }

  -- the positional of this place has several values, and takes all words from here on
  pub record TakesRest (h : Held) (position : ℕ) : Type 0 where
    pub rule : Rule
    pub found : arg_by_index s.rules position ≡ Some rule
    pub several : takes_several rule ≡ true
    pub first : is_pending rule h.pending ≡ false
    pub not_trailing : rule.trailing_var_arg ≡ false
    pub settles : settle_fault s.rules s.args_override_self h ≡ []

  abbrev pub takes_rest : (h : Held) (position : ℕ) (rule : Rule)
      → arg_by_index s.rules position ≡ Some rule → takes_several rule ≡ true
      → is_pending rule h.pending ≡ false → rule.trailing_var_arg ≡ false
      → settle_fault s.rules s.args_override_self h ≡ [] → TakesRest h position
  takes_rest h position rule found several first not_trailing settles = record {
    rule = rule;
    found = found;
    several = several;
    first = first;
    not_trailing = not_trailing;
    settles = settles;
  }

  first_goes : (h : Held) (position : ℕ) (word : Text) (t : TakesRest h position)
      → is_plain_text word ≡ true
      → walked s.rules [] (at h position) word
      ≡ taking (settled s.rules h) t.rule.id (word ∷ []) position
  unfolding walked
  first_goes h position word t plain =
      rw (no_dashes word plain, no_long word plain, no_short word plain)
      (rw (t.found, t.several, t.not_trailing, t.first) refl)

  first_none : (h : Held) (position : ℕ) (word : Text) (t : TakesRest h position)
      → is_plain_text word ≡ true → turn_fault s [] (at h position) word ≡ []
  first_none h position word t plain =
      rw (no_dashes word plain, no_long word plain, no_short word plain)
      (rw (t.found, t.first) t.settles)

  later_goes : (h now : Held) (position : ℕ) (values : List Text) (word : Text)
      (t : TakesRest h position) → is_plain_text word ≡ true
      → walked s.rules [] (taking now t.rule.id values position) word
      ≡ taking now t.rule.id (values ++ word ∷ []) position
  unfolding walked
  later_goes h now position values word t plain =
      let same = (bytes_eq-Decides t.rule.id t.rule.id).1 refl in
      rw (no_dashes word plain, no_long word plain, no_short word plain)
      (rw (t.found, same, t.several, t.not_trailing) refl)

  later_none : (h now : Held) (position : ℕ) (values : List Text) (word : Text)
      (t : TakesRest h position) → is_plain_text word ≡ true
      → turn_fault s [] (taking now t.rule.id values position) word ≡ []
  later_none h now position values word t plain =
      let same = (bytes_eq-Decides t.rule.id t.rule.id).1 refl in
      rw (no_dashes word plain, no_long word plain, no_short word plain)
      (rw (t.found, same, t.several) refl)

  rest_goes : (h now : Held) (position : ℕ) (values words : List Text) (t : TakesRest h position)
      → list_all is_plain_text words ≡ true
      → fold (walked s.rules []) (taking now t.rule.id values position) words
      ≡ taking now t.rule.id (values ++ words) position
  rest_goes h now position values [] t plain =
      ap (λ vs. taking now t.rule.id vs position) (sym (append-nil values))
  rest_goes h now position values (word ∷ words) t plain =
      let parts = both_true (is_plain_text word) (list_all is_plain_text words) plain in
      ap (λ w. fold (walked s.rules []) w words)
      (later_goes h now position values word t parts.0)
      ∙ rest_goes h now position (values ++ word ∷ []) words t parts.1
      ∙ ap (λ vs. taking now t.rule.id vs position) (append_assoc values (word ∷ []) words)

  rest_none : (h now : Held) (position : ℕ) (values words : List Text) (t : TakesRest h position)
      → list_all is_plain_text words ≡ true
      → walk_fault s [] (taking now t.rule.id values position) words ≡ []
  unfolding walk_fault
  rest_none h now position values [] t plain = refl
  rest_none h now position values (word ∷ words) t plain =
      let parts = both_true (is_plain_text word) (list_all is_plain_text words) plain in
      rw (later_none h now position values word t parts.0)
      (rw (later_goes h now position values word t parts.0)
      (rest_none h now position (values ++ word ∷ []) words t parts.1))

  -- all words that are left
  pub leads_rest : (h : Held) (position : ℕ) (word : Text) (words : List Text)
      (t : TakesRest h position) → list_all is_plain_text (word ∷ words) ≡ true
      → Leads h position (word ∷ words)
      (taking (settled s.rules h) t.rule.id (word ∷ words) position)
  unfolding walk_fault
  leads_rest h position word words t plain =
      let parts = both_true (is_plain_text word) (list_all is_plain_text words) plain in
      let goes = first_goes h position word t parts.0 in
      let held = settled s.rules h in
      record {
        goes = ap (λ w. fold (walked s.rules []) w words) goes
            ∙ rest_goes h held position (word ∷ []) words t parts.1;
        none = rw (first_none h position word t parts.0)
            (rw goes (rest_none h held position (word ∷ []) words t parts.1));
      }

  -- a walk that ends with no fault, where what is pending is taken and nothing is missing
  pub leads_none : (words : List Text) (end : Walk) → Leads nothing_held 1 words end
      → settle_fault s.rules s.args_override_self end.held ≡ []
      → defaults_fault (settled s.rules end.held).rows s.rules ≡ []
      → check_fault s (finished s.rules end.held) false ≡ []
      → (level_fault s [] nothing_held words false [] ≡ [])
      × (rows_after s.rules [] words ≡ finished s.rules end.held)
  leads_none words end leads settles defaults checks = (
    rw (leads.none, leads.goes, settles, defaults) checks,
    ap (λ (w : Walk). finished s.rules w.held) leads.goes,
  )
