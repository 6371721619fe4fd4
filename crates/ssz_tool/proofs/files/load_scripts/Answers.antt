use Rattle.std.proofs.Common.{◌≡◌, ◌++◌, ◌∷◌, ◌∙◌, [], ◌+◌, take, Some, Ok, Err, Vec, Global, false, List, ℕ, refl, ap, subst, sym}
use Rattle.std.proofs.lemmas.List.{take_all}
use Rattle.std.proofs.lemmas.Result.{err_from_is_err_and}
use Rattle.ssz_tool.specs.Commands.{script_file, script_files}
use Rattle.ssz_tool.specs.Tasks.{AreItems, HasItems}
use Rattle.ssz_outside.proofs.Asking.{asks-nothing}
use Rattle.ssz_outside.specs.Asked.{AsksOf}
use Rattle.ssz_tool.specs.Follows.{ComesOf}
use Rattle.ssz_tool.specs.declared.stop.Stop.TheVariants as stop
use Rattle.ssz_tool.specs.Plans.{asks_in}
use Rattle.ssz_tool.proofs.Reading.{AreRead, asks-ended, asks-next, asks-wanting, comes_as, next_read, next_stopped}
use Rattle.ssz_tool.proofs.Steps.{follows_behind, follows_exit, leaves_stopped}
use Rattle.ssz_tool.proofs.files.load_scripts.Goals as goal

pub loop-name-init : goal.loop-name-init
unfolding script_files
loop-name-init g c = record {
  read = c.new-scripts.ensures.items;
  asks = λ held told. asks-nothing false _;
  usable = c.requires.usable;
  leaves = record {
    content = refl;
    readable = λ name can. can;
    get_faults = refl;
    put_faults = refl;
  };
}

pub returns-in_err-script : goal.returns-in_err-script
returns-in_err-script g c =
    let loop = c.loop-name in
    let why = c.in_err-script.field-0.0 in
    let told = g.F.Files.content c.args.files.now in
    let can = g.F.Files.readable c.args.files.now in
    let behind = follows_behind g.F.Files HasItems _ _ c.args.files.now _ _ loop.invariant.leaves
    (rw c.as_str.ensures at c.in_err-script.ensures) in
    let exit = err_from_is_err_and c.from_residual.result c.from_residual.ensures.1 in
    follows_exit g.F.Files AreItems _ _ exit.0 why _ _ exit.1 exit.2 (record {
      comes = next_stopped told can HasItems AreItems c.args.names.now loop.scripts.items
          loop.name-index c.name-item.result why c.loop-name-test.true c.name-item.is
          loop.invariant.read behind.0;
      asks = λ held told. asks-ended held can (Vec ℕ Global) (Vec (List ℕ) Global) HasItems
          c.args.names.now loop.scripts.items loop.name-index c.name-item.result why _ _ _
          c.loop-name-test.true c.name-item.is
          (subst (λ t. AreRead t can (take loop.name-index c.args.names.now) loop.scripts.items)
          told loop.invariant.read)
          (subst (λ t. ComesOf t can HasItems (script_file c.name-item.result) (Err why)) told
          behind.0)
          (loop.invariant.asks held told)
          ((rw c.as_str.ensures at c.in_err-script.ensures).asks held
          (loop.invariant.leaves.content ∙ told));
      usable = λ can. tt;
      leaves = leaves_stopped g.F.Files why _ _ behind.1;
    })

pub loop-name-preserved : goal.loop-name-preserved
loop-name-preserved g c =
    let loop = c.loop-name in
    let told = g.F.Files.content c.args.files.now in
    let can = g.F.Files.readable c.args.files.now in
    let behind = follows_behind g.F.Files HasItems _ _ c.args.files.now _ _ loop.invariant.leaves
    (rw c.as_str.ensures at c.in_ok-script.ensures) in
    let pushed : c.push.new.self.items ≡ loop.scripts.items ++ c.in_ok-script.script.items ∷ [] =
    c.in_ok-push.ensures.items
    ∙ ap (λ (s : List ℕ). loop.scripts.items ++ s ∷ []) c.from_bytes.ensures in
    record {
      read = subst (λ scripts. AreRead told can (take (loop.name-index + 1) c.args.names.now)
          scripts) (sym pushed)
          (next_read told can c.args.names.now loop.scripts.items loop.name-index
          c.name-item.result c.in_ok-script.script.items c.loop-name-test.true c.name-item.is
          loop.invariant.read
          (comes_as told can HasItems (λ meant made. made ≡ meant) (script_file c.name-item.result)
          c.in_ok-script.script c.in_ok-script.script.items (λ bytes is. is) behind.0));
      asks = λ held told. asks-next held can c.args.names.now loop.scripts.items loop.name-index
          c.name-item.result _ _ _ c.loop-name-test.true c.name-item.is
          (subst (λ t. AreRead t can (take loop.name-index c.args.names.now) loop.scripts.items)
          told loop.invariant.read)
          (loop.invariant.asks held told)
          ((rw c.as_str.ensures at c.in_ok-script.ensures).asks held
          (loop.invariant.leaves.content ∙ told));
      usable = c.in_ok-script.ensures.usable loop.invariant.usable;
      leaves = record {
        content = behind.1.content;
        readable = behind.1.readable;
        get_faults = behind.1.get_faults;
        put_faults = behind.1.put_faults;
      };
    }

pub returns : goal.returns
returns g c =
    let loop = c.loop-name in
    let told = g.F.Files.content c.args.files.now in
    let can = g.F.Files.readable c.args.files.now in
    record {
      comes = comes_as told can (λ meant made. made ≡ meant) AreItems
          (script_files c.args.names.now) loop.scripts.items loop.scripts (λ scripts is. is)
          (subst (λ names. AreRead told can names loop.scripts.items)
          (take_all loop.name-index c.args.names.now c.loop-name-test.false) loop.invariant.read);
      asks = λ held now. subst (λ names. AsksOf false (asks_in held (script_files names))
          (g.F.Files.asked c.args.files.now) (g.F.Files.asked loop.files))
          (take_all loop.name-index c.args.names.now c.loop-name-test.false)
          (loop.invariant.asks held now);
      usable = λ can. loop.invariant.usable;
      leaves = record {
        content = loop.invariant.leaves.content;
        readable = loop.invariant.leaves.readable;
        get_faults = loop.invariant.leaves.get_faults;
        put_faults = loop.invariant.leaves.put_faults;
      };
    }

pub returns-in_err-push : goal.returns-in_err-push
returns-in_err-push g c =
    let loop = c.loop-name in
    let told = g.F.Files.content c.args.files.now in
    let can = g.F.Files.readable c.args.files.now in
    let behind = follows_behind g.F.Files HasItems _ _ c.args.files.now _ _ loop.invariant.leaves
    (rw c.as_str.ensures at c.in_ok-script.ensures) in
    let exit = err_from_is_err_and c.from_residual-in_err-push.result
    c.from_residual-in_err-push.ensures.1 in
    follows_exit g.F.Files AreItems _ _ exit.0 stop.Memory _ _ exit.1 exit.2 (record {
      comes = tt;
      asks = λ held now.
          let read = subst (λ t. AreRead t can (take loop.name-index c.args.names.now)
          loop.scripts.items) now loop.invariant.read in
          let got = comes_as (Some held) can HasItems (λ meant made. made ≡ meant)
          (script_file c.name-item.result) c.in_ok-script.script c.in_ok-script.script.items
          (λ bytes is. is)
          (subst (λ t. ComesOf t can HasItems (script_file c.name-item.result)
          (Ok c.in_ok-script.script)) now behind.0) in
          asks-wanting held can c.args.names.now
          (loop.scripts.items ++ c.in_ok-script.script.items ∷ []) (loop.name-index + 1) _ _
          (next_read (Some held) can c.args.names.now loop.scripts.items loop.name-index
          c.name-item.result c.in_ok-script.script.items c.loop-name-test.true c.name-item.is read
          got)
          (asks-next held can c.args.names.now loop.scripts.items loop.name-index
          c.name-item.result _ _ _ c.loop-name-test.true c.name-item.is read
          (loop.invariant.asks held now)
          ((rw c.as_str.ensures at c.in_ok-script.ensures).asks held
          (loop.invariant.leaves.content ∙ now)));
      usable = λ can. tt;
      leaves = record {
        content = behind.1.content;
        readable = behind.1.readable;
        get_faults = behind.1.get_faults;
        put_faults = behind.1.put_faults;
      };
    })
