-- Lines that were tried, one behind another.
use Rattle.std.proofs.Common.{ℕ, ◌≡◌, ◌≢◌, List, [], refl, sym, ap, ◌∙◌, subst, arith}
use Rattle.std.specs.Prelude.{Result, Ok, Err, IfErr}
use Rattle.ssz_arena.proofs.Keeping.{keeps_same, keeps_trans}
use Rattle.ssz_machine.specs.Machine.{Line}
use Rattle.ssz_engine.specs.Lines.{Tries}
use Rattle.ssz_decisions.specs.Outside.{CountsReads, CountsWrites}
use Rattle.ssz_engine.specs.Scripts.{Point}
use Rattle.ssz_decisions.specs.declared.fault.EngineFault.{EngineFault}
use Rattle.ssz_decisions.specs.declared.fault.EngineFault.TheVariants.{Read, Write, Memory}
use Rattle.ssz_engine.proofs.Leading.{keeps_on}

no-memory : (P : Type 0) (fault : EngineFault) → Memory ≡ fault → fault ≡ Read → P
no-memory P fault one other = cc

module _ (T U : Type 0) where
  same-reads : (fault : EngineFault) (before now : ℕ)
      → CountsReads {T = U} (Err fault) before now → CountsReads {T = T} (Err fault) before now
  same-reads Read before now counts = counts
  same-reads Write before now counts = counts
  same-reads Memory before now counts = counts

  same-writes : (fault : EngineFault) (before now : ℕ)
      → CountsWrites {T = U} (Err fault) before now → CountsWrites {T = T} (Err fault) before now
  same-writes Read before now counts = counts
  same-writes Write before now counts = counts
  same-writes Memory before now counts = counts

abbrev failed : (T : Type 0) → EngineFault → Result T EngineFault
failed T fault = Err fault

same-fault : (T : Type 0) (a b : EngineFault) → failed T a ≡ failed T b → a ≡ b
same-fault T a b same = cc

module _ {T : Type 0} where
  still-reads : (result : Result T EngineFault) (n : ℕ) → IfErr result (λ fault. fault ≡ Memory)
      → CountsReads result n n
  still-reads (Ok x) n only = refl
  still-reads (Err Read) n only = no-memory _ Read (sym only) refl
  still-reads (Err Write) n only = refl
  still-reads (Err Memory) n only = refl

  still-writes : (result : Result T EngineFault) (n : ℕ) → IfErr result (λ fault. fault ≡ Memory)
      → CountsWrites result n n
  still-writes (Ok x) n only = refl
  still-writes (Err Read) n only = refl
  still-writes (Err Write) n only = cc
  still-writes (Err Memory) n only = refl

  still-unread : (result : Result T EngineFault) → IfErr result (λ fault. fault ≡ Memory)
      → result ≢ Err Read
  still-unread (Ok x) only same = cc
  still-unread (Err fault) only same = cc

  -- nothing was changed, and only memory was wanting
  pub tries_still : {lines : List Line} {result : Result T EngineFault} {here : Point}
      → IfErr result (λ fault. fault ≡ Memory) → Tries lines result here here
  tries_still {lines} {result} {here} only = record {
    keeps = record { types = refl; most = refl; base = refl };
    nodes = λ none. keeps_same _ _ refl;
    rises = omega arith;
    readable = λ name is. is;
    gets = still-reads result here.get_faults only;
    puts = still-writes result here.put_faults only;
    fails = λ all. still-unread result only;
    asks = λ none. refl;
  }

  -- some were done, and others tried behind them
  pub tries_then : {U : Type 0} {made : U} {result : Result T EngineFault}
      {before mid after : Point} → Tries {T = U} [] (Ok made) before mid
      → Tries [] result mid after → Tries [] result before after
  tries_then {U} {made} {result} {before} {mid} {after} first more = record {
    keeps = keeps_on first.keeps more.keeps;
    nodes = λ none. keeps_trans (first.nodes tt) (more.nodes tt);
    rises = omega (arith, first.rises, more.rises);
    readable = λ name is. more.readable name (first.readable name is);
    gets = subst (λ n. CountsReads result n after.get_faults) first.gets more.gets;
    puts = subst (λ n. CountsWrites result n after.put_faults) first.puts more.puts;
    fails = λ all. more.fails tt;
    asks = λ none. more.asks refl ∙ first.asks refl;
  }

  -- they were done, whatever is answered
  pub tries_ok : {U : Type 0} {made : U} (answer : T) {before after : Point}
      → Tries {T = U} [] (Ok made) before after → Tries {T = T} [] (Ok answer) before after
  tries_ok answer tries = record {
    keeps = tries.keeps;
    nodes = tries.nodes;
    rises = tries.rises;
    readable = tries.readable;
    gets = tries.gets;
    puts = tries.puts;
    fails = λ all same. cc;
    asks = tries.asks;
  }

  -- a fault is passed on
  pub tries_exit : {U : Type 0} {result : Result T EngineFault} {fault was : EngineFault}
      {before after : Point} → result ≡ Err fault → fault ≡ was
      → Tries {T = U} [] (Err was) before after → Tries [] result before after
  tries_exit {U} {result} {fault} {was} {before} {after} is same tries =
      subst (λ (r : Result T EngineFault). Tries [] r before after) (sym is)
      (subst (λ (f : EngineFault). Tries {T = T} [] (Err f) before after) (sym same) (record {
        keeps = tries.keeps;
        nodes = tries.nodes;
        rises = tries.rises;
        readable = tries.readable;
        gets = same-reads T U was before.get_faults after.get_faults tries.gets;
        puts = same-writes T U was before.put_faults after.put_faults tries.puts;
        fails = λ all fails. tries.fails all (ap Err (same-fault T was Read fails));
        asks = tries.asks;
      }))
