-- Steps of a plan, one behind another.
use Rattle.std.proofs.Common.{◌≡◌, inl, inr, ℕ, List, Option, Some, None, Result, Ok, Err, refl, sym, ap, subst, ◌∙◌}
use Rattle.std.specs.Prelude.{OnOk}
use Rattle.ssz_outside.specs.Content.{Content}
use Rattle.ssz_outside.specs.declared.outside.Files.{Ghosts}
use Rattle.ssz_tool.specs.declared.stop.Stop.{Stop}
use Rattle.ssz_tool.specs.declared.stop.Stop.TheVariants as stop
use Rattle.ssz_bytes.specs.declared.fault.Fault.{Fault}
use Rattle.ssz_tool.specs.Plans.{Plan, faultless, gives, need, refuses, reads, ◌>>=◌}
use Rattle.ssz_tool.specs.declared.line.Line.{Line}
use Rattle.ssz_tool.specs.declared.line.Line.TheVariants as line
use Rattle.ssz_outside.proofs.Asking.{asks-behind}
use Rattle.ssz_tool.specs.Follows.{AnswersPlan, ComesOf, CountsStop, Follows, LeavesFiles, is_cut_short}
use Rattle.ssz_tool.proofs.Comings.{answered, given, no_usage}
use Rattle.ssz_tool.proofs.Asking.{asks-answered, asks-stopped, asks-then}

-- what can be read before can be read later, so what cannot later could not before
pub weaker : {A T : Type 0} (told : Option Content) (P Q : List ℕ → Type 0) (S : A → T → Type 0)
    → ((name : List ℕ) → P name → Q name) → (plan : Plan A) (result : Result T Stop)
    → ComesOf told Q S plan result → ComesOf told P S plan result
weaker told P Q S more plan (Err stop.Memory) comes = tt
weaker told P Q S more (gives x) (Ok made) comes = comes
weaker told P Q S more (gives x) (Err stop.Usage) comes = comes
weaker told P Q S more (gives x) (Err (stop.Says said)) comes = comes
weaker told P Q S more (gives x) (Err stop.Read) comes = comes
weaker told P Q S more (refuses meant) (Ok made) comes = comes
weaker told P Q S more (refuses meant) (Err stop.Usage) comes = comes
weaker told P Q S more (refuses meant) (Err (stop.Says said)) comes = comes
weaker told P Q S more (refuses meant) (Err stop.Read) comes = comes
weaker told P Q S more (reads name most long next) (Ok made) (bytes, few, is, then) =
    (bytes, few, is, weaker told P Q S more (next bytes) (Ok made) then)
weaker told P Q S more (reads name most long next) (Err stop.Usage) comes = comes
weaker told P Q S more (reads name most long next) (Err stop.Read) (inl fails) =
    inl (λ can. fails (more name can))
weaker told P Q S more (reads name most long next) (Err stop.Read) (inr (bytes, few, is, then)) =
    inr (bytes, few, is, weaker told P Q S more (next bytes) (Err stop.Read) then)
weaker told P Q S more (reads name most long next) (Err (stop.Says said)) (inl many) = inl many
weaker told P Q S more (reads name most long next) (Err (stop.Says said))
    (inr (bytes, few, is, then)) =
    inr (bytes, few, is, weaker told P Q S more (next bytes) (Err (stop.Says said)) then)

-- a second plan behind a first
pub comes_then : {A B T U : Type 0} (told : Option Content) (P : List ℕ → Type 0)
    (S : A → T → Type 0) (R : B → U → Type 0) (plan : Plan A) (next : A → Plan B) (made : T)
    (result : Result U Stop) → ComesOf told P S plan (Ok made)
    → ((x : A) → S x made → ComesOf told P R (next x) result)
    → ComesOf told P R (plan >>= next) result
unfolding ◌>>=◌
comes_then told P S R plan next made (Err stop.Memory) comes then = tt
comes_then told P S R (gives x) next made (Ok done) comes then = then x comes
comes_then told P S R (gives x) next made (Err stop.Usage) comes then = then x comes
comes_then told P S R (gives x) next made (Err (stop.Says said)) comes then = then x comes
comes_then told P S R (gives x) next made (Err stop.Read) comes then = then x comes
comes_then told P S R (refuses meant) next made (Ok done) comes then = absurd comes
comes_then told P S R (refuses meant) next made (Err stop.Usage) comes then = absurd comes
comes_then told P S R (refuses meant) next made (Err (stop.Says said)) comes then = absurd comes
comes_then told P S R (refuses meant) next made (Err stop.Read) comes then = absurd comes
comes_then told P S R (reads name most long first) next made (Ok done) (bytes, few, is, rest) then =
    (bytes, few, is, comes_then told P S R (first bytes) next made (Ok done) rest then)
comes_then told P S R (reads name most long first) next made (Err stop.Usage) comes then =
    let x = given told P S (reads name most long first) made comes in
    no_usage told P R (next x.0) (then x.0 x.1)
comes_then told P S R (reads name most long first) next made (Err (stop.Says said))
    (bytes, few, is, rest) then =
    inr (
      bytes,
      few,
      is,
      comes_then told P S R (first bytes) next made (Err (stop.Says said)) rest
          then,
    )
comes_then told P S R (reads name most long first) next made (Err stop.Read)
    (bytes, few, is, rest) then =
    inr (bytes, few, is, comes_then told P S R (first bytes) next made (Err stop.Read) rest then)

-- a first plan that is stopped
pub comes_stopped : {A B T U : Type 0} (told : Option Content) (P : List ℕ → Type 0)
    (S : A → T → Type 0) (R : B → U → Type 0) (plan : Plan A) (next : A → Plan B) (why : Stop)
    → ComesOf told P S plan (Err why) → ComesOf told P R (plan >>= next) (Err why)
unfolding ◌>>=◌
comes_stopped told P S R plan next stop.Memory comes = tt
comes_stopped told P S R (gives x) next stop.Usage comes = absurd comes
comes_stopped told P S R (gives x) next (stop.Says said) comes = absurd comes
comes_stopped told P S R (gives x) next stop.Read comes = absurd comes
comes_stopped told P S R (refuses meant) next stop.Usage comes = comes
comes_stopped told P S R (refuses meant) next (stop.Says said) comes = comes
comes_stopped told P S R (refuses meant) next stop.Read comes = comes
comes_stopped told P S R (reads name most long first) next stop.Usage comes = comes
comes_stopped told P S R (reads name most long first) next stop.Read (inl fails) = inl fails
comes_stopped told P S R (reads name most long first) next stop.Read (inr (bytes, few, is, rest)) =
    inr (bytes, few, is, comes_stopped told P S R (first bytes) next stop.Read rest)
comes_stopped told P S R (reads name most long first) next (stop.Says said) (inl many) = inl many
comes_stopped told P S R (reads name most long first) next (stop.Says said)
    (inr (bytes, few, is, rest)) =
    inr (bytes, few, is, comes_stopped told P S R (first bytes) next (stop.Says said) rest)

stopped : (T U : Type 0) (why : Stop) (before now : ℕ)
    → CountsStop {T = T} (Err why) before now → CountsStop {T = U} (Err why) before now
stopped T U stop.Usage before now counts = counts
stopped T U (stop.Says said) before now counts = counts
stopped T U stop.Read before now counts = counts
stopped T U stop.Memory before now counts = counts

-- what is so in any case
where_ok : {T E P : Type 0} (result : Result T E) → P → OnOk result P
where_ok (Ok made) is = is
where_ok (Err why) is = tt

-- So it is of what is followed.
module _ {Self : Type 0} (F : Ghosts Self) where
  pub follows_then : {A B T U : Type 0} (S : A → T → Type 0) (R : B → U → Type 0) (plan : Plan A)
      (next : A → Plan B) (made : T) (result : Result U Stop) (old mid new : Self)
      → Follows F S plan (Ok made) old mid
      → ((x : A) → S x made → Follows F R (next x) result mid new)
      → Follows F R (plan >>= next) result old new
  follows_then S R plan next made result old mid new first then =
      let x = given (F.content old) (F.readable old) S plan made first.comes in
      let behind = (then x.0 x.1).leaves in
      record {
        comes = comes_then (F.content old) (F.readable old) S R plan next made result first.comes
            (λ x stands. weaker (F.content old) (F.readable old) (F.readable mid) R
            first.leaves.readable (next x) result
            (subst (λ told. ComesOf told (F.readable mid) R (next x) result) first.leaves.content
            (then x stands).comes));
        asks = λ held told.
            let comes = subst (λ t. ComesOf t (F.readable old) S plan (Ok made)) told first.comes in
            let x = given (Some held) (F.readable old) S plan made comes in
            rw (asks-then held (F.readable old) S plan next made comes)
            (asks-behind (is_cut_short result) _ _ (F.asked old) (F.asked mid) (F.asked new)
            (first.asks held told) ((then x.0 x.1).asks held (first.leaves.content ∙ told)));
        usable = λ can. (then x.0 x.1).usable (first.usable can);
        leaves = record {
          content = behind.content ∙ first.leaves.content;
          readable = λ name can. behind.readable name (first.leaves.readable name can);
          get_faults = subst (λ n. CountsStop result n (F.get_faults new)) first.leaves.get_faults
              behind.get_faults;
          put_faults = behind.put_faults ∙ first.leaves.put_faults;
        };
      }

  pub follows_stopped : {A B T U : Type 0} (S : A → T → Type 0) (R : B → U → Type 0)
      (plan : Plan A) (next : A → Plan B) (why : Stop) (old new : Self)
      → Follows F S plan (Err why) old new → Follows F R (plan >>= next) (Err why) old new
  follows_stopped {T = T} {U = U} S R plan next why old new first = record {
    comes = comes_stopped (F.content old) (F.readable old) S R plan next why first.comes;
    asks = λ held told. asks-stopped held (F.readable old) T U S plan next why
        (F.asked old) (F.asked new)
        (subst (λ t. ComesOf {T = T} t (F.readable old) S plan (Err why)) told first.comes)
        (first.asks held told);
    usable = λ can. tt;
    leaves = record {
      content = first.leaves.content;
      readable = first.leaves.readable;
      get_faults = stopped T U why (F.get_faults old) (F.get_faults new) first.leaves.get_faults;
      put_faults = first.leaves.put_faults;
    };
  }

  -- nothing is read for what is there
  pub follows_here : {A T : Type 0} (S : A → T → Type 0) (plan : Plan A) (result : Result T Stop)
      (files : Self) → CountsStop result (F.get_faults files) (F.get_faults files)
      → AnswersPlan S plan result → Follows F S plan result files files
  follows_here S plan result files counts is = record {
    comes = answered (F.content files) (F.readable files) S plan result is;
    asks = λ held told. asks-answered held S plan result (F.asked files) is;
    usable = λ can. where_ok result can;
    leaves = record {
      content = refl;
      readable = λ name can. can;
      get_faults = counts;
      put_faults = refl;
    };
  }

  -- memory may be wanting behind what was followed
  pub follows_wanting : {A B T U : Type 0} (S : A → T → Type 0) (R : B → U → Type 0)
      (plan : Plan A) (next : A → Plan B) (made : T) (old new : Self)
      → Follows F S plan (Ok made) old new
      → Follows {T = U} F R (plan >>= next) (Err stop.Memory) old new
  follows_wanting {U = U} S R plan next made old new first =
      follows_then S R plan next made (Err stop.Memory) old new new first
      (λ x stands. follows_here {T = U} R (next x) (Err stop.Memory) new refl tt)

  -- the exit of a `?`
  pub follows_exit : {A T : Type 0} (S : A → T → Type 0) (plan : Plan A) (result : Result T Stop)
      (said why : Stop) (old new : Self) → result ≡ Err said → said ≡ why
      → Follows F S plan (Err why) old new → Follows F S plan result old new
  follows_exit S plan result said why old new is same follows =
      subst (λ r. Follows F S plan r old new) (sym (is ∙ ap Err same)) follows

  -- what is there, and where nothing is
  pub follows_some : {A B U : Type 0} (R : B → U → Type 0) (missing : Line) (o : Option A) (x : A)
      (next : A → Plan B) (result : Result U Stop) (old new : Self) → o ≡ Some x
      → Follows F R (next x) result old new
      → Follows F R (need missing o >>= next) result old new
  unfolding ◌>>=◌
  follows_some R missing o x next result old new is follows = rw is follows

  pub follows_none : {A B U : Type 0} (R : B → U → Type 0) (missing : Line) (o : Option A)
      (next : A → Plan B) (files : Self) → o ≡ None
      → Follows {T = U} F R (need missing o >>= next) (Err (stop.Says missing)) files files
  unfolding ◌>>=◌
  follows_none {U = U} R missing o next files is =
      rw is (follows_here {T = U} R (refuses missing) (Err (stop.Says missing)) files refl refl)

  -- bytes without a fault, and with one
  pub follows_faultless : {B U : Type 0} (R : B → U → Type 0) (o : Option Fault)
      (next : Unit {0} → Plan B) (result : Result U Stop) (old new : Self) → o ≡ None
      → Follows F R (next tt) result old new
      → Follows F R (faultless o >>= next) result old new
  unfolding ◌>>=◌
  follows_faultless R o next result old new is follows = rw is follows

  pub follows_fault : {B U : Type 0} (R : B → U → Type 0) (o : Option Fault) (fault : Fault)
      (next : Unit {0} → Plan B) (files : Self) → o ≡ Some fault
      → Follows {T = U} F R (faultless o >>= next) (Err (stop.Says (line.Invalid fault))) files
      files
  unfolding ◌>>=◌
  follows_fault {U = U} R o fault next files is =
      rw is (follows_here {T = U} R (refuses (line.Invalid fault))
      (Err (stop.Says (line.Invalid fault))) files refl refl)

  -- what was followed behind other reads
  pub follows_behind : {A T : Type 0} (S : A → T → Type 0) (plan : Plan A) (result : Result T Stop)
      (old mid new : Self) → LeavesFiles {T = Unit {0}} F (Ok tt) old mid
      → Follows F S plan result mid new
      → ComesOf (F.content old) (F.readable old) S plan result × LeavesFiles F result old new
  follows_behind S plan result old mid new leaves follows = (
    weaker (F.content old) (F.readable old) (F.readable mid) S leaves.readable plan result
        (subst (λ told. ComesOf told (F.readable mid) S plan result) leaves.content follows.comes),
    record {
      content = follows.leaves.content ∙ leaves.content;
      readable = λ name can. follows.leaves.readable name (leaves.readable name can);
      get_faults = subst (λ n. CountsStop result n (F.get_faults new)) leaves.get_faults
          follows.leaves.get_faults;
      put_faults = follows.leaves.put_faults ∙ leaves.put_faults;
    },
  )

  -- what stopped says nothing of what would have been made
  pub leaves_stopped : {T U : Type 0} (why : Stop) (old new : Self)
      → LeavesFiles {T = T} F (Err why) old new → LeavesFiles {T = U} F (Err why) old new
  leaves_stopped {T = T} {U = U} why old new leaves = record {
    content = leaves.content;
    readable = leaves.readable;
    get_faults = stopped T U why (F.get_faults old) (F.get_faults new) leaves.get_faults;
    put_faults = leaves.put_faults;
  }
