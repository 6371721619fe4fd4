-- What a changed entry says of all entries.
use Rattle.std.proofs.Common.{◌≡◌, ℕ, ◌==◌, Bool, true, false, cond, List, Option, Some, None, Result, Ok, Err, refl, sym, ap, subst, ◌∙◌}
use Rattle.std.specs.Prelude.{OnErr, OnOk}
use Rattle.std.proofs.lemmas.Slice.Eq.{bytes_eq-Decides}
use Rattle.std.specs.FinMap as finite
use Rattle.std.specs.Ordering.{eq_by_cmp}
use Rattle.ssz_schema.specs.Unfolding.{Types}
use Rattle.ssz_arena.specs.Content.{ArenaContent as Nodes}
use Rattle.ssz_versions.specs.Content.{Entries, Held, held_at, with_held, without_held}
use Rattle.ssz_versions.specs.Keys.{key_cmp, key_cmp-total}
use Rattle.ssz_versions.specs.Outcomes.{Adopts}
use Rattle.ssz_decisions.specs.Standing.{IsSomeVersion, AreVersions}
use Rattle.ssz_decisions.proofs.Keys.{same_writer}

-- what is held after an entry was put in, and after one was taken away
pub held_at-with : (entries : Entries) (writer : ℕ) (name : List ℕ) (held : Held) (w : ℕ)
    (n : List ℕ) → held_at (with_held entries writer name held) w n
    ≡ cond (eq_by_cmp key_cmp (w, n) (writer, name)) (Some held) (held_at entries w n)
held_at-with entries writer name held w n =
    finite.get-insert key_cmp-total entries (writer, name) held (w, n)

pub held_at-without : (entries : Entries) (writer : ℕ) (name : List ℕ) (w : ℕ) (n : List ℕ)
    → held_at (without_held entries writer name) w n
    ≡ cond (eq_by_cmp key_cmp (w, n) (writer, name)) None (held_at entries w n)
held_at-without entries writer name w n =
    finite.get-remove key_cmp-total entries (writer, name) (w, n)

-- what is held under a name that was put in
pub held-there-now : (entries : Entries) (writer : ℕ) (name : List ℕ) (held : Held)
    → held_at (with_held entries writer name held) writer name ≡ Some held
held-there-now entries writer name held =
    held_at-with entries writer name held writer name
    ∙ ap (λ b. cond b (Some held) (held_at entries writer name))
    (same_writer writer name name ∙ (bytes_eq-Decides name name).1 refl)

pub some_held : (x y : Held) → Some x ≡ Some y → x ≡ y
some_held x y e = cc

-- an entry that was put in or was there already
pub one_of : (test : Bool) (held other : Held) (old : Option Held) (P : Held → Type 0) → P held
    → ((h : Held) → old ≡ Some h → P h) → cond test (Some held) old ≡ Some other → P other
one_of true held other old P new rest e = subst P (some_held held other e) new
one_of false held other old P new rest e = rest other e

-- an entry that was there already, and was not taken away
pub still_there : (test : Bool) (other : Held) (old : Option Held)
    → cond test None old ≡ Some other → old ≡ Some other
still_there true other old e = cc
still_there false other old e = e

module _ (types : Types) (arena : Nodes) (entries : Entries) (all : AreVersions types arena entries)
    (writer : ℕ) (name : List ℕ) where
  pub are-with : (held : Held) → IsSomeVersion types arena held
      → AreVersions types arena (with_held entries writer name held)
  are-with held new = record {
    each = λ w n other e. one_of (eq_by_cmp key_cmp (w, n) (writer, name)) held other
        (held_at entries w n) (IsSomeVersion types arena) new (all.each w n)
        (sym (held_at-with entries writer name held w n) ∙ e);
  }

  pub are-without : AreVersions types arena (without_held entries writer name)
  are-without = record {
    each = λ w n other e. all.each w n other
        (still_there (eq_by_cmp key_cmp (w, n) (writer, name)) other (held_at entries w n)
        (sym (held_at-without entries writer name w n) ∙ e));
  }

  -- the same of entries that are told by equations
  pub are-made : (before new : Entries) (held : Held) → before ≡ entries
      → new ≡ with_held before writer name held → IsSomeVersion types arena held
      → AreVersions types arena new
  are-made before new held same is stands =
      let e : new ≡ with_held entries writer name held
      = is ∙ ap (λ es. with_held es writer name held) same in
      subst (AreVersions types arena) (sym e) (are-with held stands)

  pub are-left : (before new : Entries) → before ≡ entries → new ≡ without_held before writer name
      → AreVersions types arena new
  are-left before new same is =
      let e : new ≡ without_held entries writer name
      = is ∙ ap (λ es. without_held es writer name) same in
      subst (AreVersions types arena) (sym e) are-without

-- what a writer took over from another
pub are-adopted : (types : Types) (arena : Nodes) (old new : Entries) (from to : ℕ)
    → AreVersions types arena old → Adopts old new from to → AreVersions types arena new
are-adopted types arena old new from to all adopts = record {
  each = λ w n held there. by w n held (w == to) (sym (adopts w n) ∙ there);
}
  where
    by : (w : ℕ) (n : List ℕ) (held : Held) (test : Bool)
        → cond test (held_at old from n) (held_at old w n) ≡ Some held
        → IsSomeVersion types arena held
    by w n held true there = all.each from n held there
    by w n held false there = all.each w n held there

-- or there was no memory for it
pub are-adopted-or-same : {A E : Type 0} (r : Result A E) (types : Types) (arena : Nodes)
    (before old new : Entries) (from to : ℕ) → before ≡ old → AreVersions types arena old
    → OnOk r (Adopts before new from to) → OnErr r (new ≡ before) → AreVersions types arena new
are-adopted-or-same (Ok x) types arena before old new from to same all adopts none =
    are-adopted types arena before new from to
    (subst (λ (es : Entries). AreVersions types arena es) (sym same) all) adopts
are-adopted-or-same (Err e) types arena before old new from to same all adopts none =
    subst (λ (es : Entries). AreVersions types arena es) (sym (none ∙ same)) all
