use Rattle.std.proofs.Common.{◌≤◌, ◌+◌, ℕ, false, subst, sym, ap, ◌∙◌}
use Rattle.std.specs.Prelude.{is_some}
use Rattle.std.specs.List.{AllByRecursion}
use Rattle.ssz_outside.proofs.Asking.{asks-behind, asks-within}
use Rattle.ssz_tool.proofs.Asking.{asks-alone}
use Rattle.ssz_outside.specs.Asked.{is_cut}
use Rattle.ssz_outside.specs.declared.status.Status.TheVariants.{Usage}
use Rattle.ssz_engine.proofs.Reaching.{all_names}
use Rattle.ssz_tool.specs.Commands.{plan_of, texts}
use Rattle.ssz_tool.specs.Lines.{usage_text}
use Rattle.ssz_tool.specs.Runs.{RisesWhere, asks_of_task, least_of_task, reached_first, task_by, task_of}
use Rattle.ssz_tool.specs.ToDo.{Task, printed}
use Rattle.ssz_tool.proofs.Beginnings.{all_back, all_front, does_quietly, does_same, fails_first, said_does, wants_memory_first, zero_table}
use Rattle.ssz_tool.proofs.Followed.{line_said, not_taken, read_failed, readable_words, taken_failed, task_made, task_ready, unreadable_words}
use Rattle.ssz_tool.proofs.top.run.Goals as goal

pub do_task-requires-clause-ready : goal.do_task-requires-clause-ready
do_task-requires-clause-ready g c =
    task_ready (g.F.Files.content c.args.files.now) (g.F.Files.readable c.args.files.now)
    (plan_of (texts c.args.words.now))
    c.in-Ok.task c.in-Ok.ensures.comes

pub returns-in-Ok-clause-ends : goal.returns-in-Ok-clause-ends
returns-in-Ok-clause-ends g c = λ held told.
    let made = task_made held (g.F.Files.readable c.args.files.now)
    (plan_of (texts c.args.words.now)) c.in-Ok.task (rw told at c.in-Ok.ensures.comes) in
    does_same g.H.PairHash.pair_of held (is_some (plan_of (texts c.args.words.now)))
    (task_of held (texts c.args.words.now)) _ c.do_task.result
    (g.H.PairHash.pairs c.args.hasher.now) (g.H.PairHash.pairs c.do_task.new.hasher) _ made.same
    (c.do_task.ensures.ends (is_some (plan_of (texts c.args.words.now))) held
    (c.in-Ok.ensures.leaves.content ∙ told))

pub returns-in-Ok-clause-main_theorem : goal.returns-in-Ok-clause-main_theorem
returns-in-Ok-clause-main_theorem g c = λ held told gets puts sinks memory.
    does_quietly (g.S.Sink.ample c.args.out.now) _ _ c.do_task.result _ _ _ _ _ _ _ _ _ _ _
    (returns-in-Ok-clause-ends g c held told)
    (rw (c.in-Ok.ensures.leaves.get_faults, c.in-Ok.ensures.leaves.put_faults) at
    c.do_task.ensures.counts)
    gets puts sinks memory

pub returns-in-Ok-clause-in_turn : goal.returns-in-Ok-clause-in_turn
returns-in-Ok-clause-in_turn g c = λ held told readable.
    let made = task_made held (g.F.Files.readable c.args.files.now)
    (plan_of (texts c.args.words.now)) c.in-Ok.task (rw told at c.in-Ok.ensures.comes) in
    does_same g.H.PairHash.pair_of held false (task_of held (texts c.args.words.now)) _
    c.do_task.result
    (g.H.PairHash.pairs c.args.hasher.now) (g.H.PairHash.pairs c.do_task.new.hasher) _ made.same
    (c.do_task.ensures.ends false held (c.in-Ok.ensures.leaves.content ∙ told))

pub returns-in-Ok-clause-reached : goal.returns-in-Ok-clause-reached
returns-in-Ok-clause-reached g c = λ held told all.
    let made = task_made held (g.F.Files.readable c.args.files.now)
    (plan_of (texts c.args.words.now)) c.in-Ok.task (rw told at c.in-Ok.ensures.comes) in
    let behind = all_back (g.F.Files.readable c.args.files.now)
    (reached_first held (texts c.args.words.now)) _ all in
    c.do_task.ensures.reached held (c.in-Ok.ensures.leaves.content ∙ told)
    (all_names _ _ c.in-Ok.ensures.leaves.readable _
    (subst (AllByRecursion (g.F.Files.readable c.args.files.now))
    (made.same.reached g.H.PairHash.pair_of held) behind))

pub returns-in-Ok-clause-readable : goal.returns-in-Ok-clause-readable
returns-in-Ok-clause-readable g c = λ plan is all.
    c.do_task.ensures.readable (λ script name. c.in-Ok.ensures.leaves.readable name
    (readable_words (g.F.Files.content c.args.files.now) (g.F.Files.readable c.args.files.now)
    (plan_of (texts c.args.words.now))
    c.in-Ok.task plan is c.in-Ok.ensures.comes all script name))

pub returns-in-Ok-clause-pairs : goal.returns-in-Ok-clause-pairs
returns-in-Ok-clause-pairs g c = λ held told.
    let made = task_made held (g.F.Files.readable c.args.files.now)
    (plan_of (texts c.args.words.now)) c.in-Ok.task (rw told at c.in-Ok.ensures.comes) in
    subst (λ (n : ℕ). g.H.PairHash.pairs c.do_task.new.hasher
    ≤ g.H.PairHash.pairs c.args.hasher.now + n) (sym (made.same.pairs g.H.PairHash.pair_of held))
    (c.do_task.ensures.pairs held (c.in-Ok.ensures.leaves.content ∙ told))

pub returns-in-Ok-clause-least : goal.returns-in-Ok-clause-least
returns-in-Ok-clause-least g c = λ held told memory read.
    let made = task_made held (g.F.Files.readable c.args.files.now)
    (plan_of (texts c.args.words.now)) c.in-Ok.task (rw told at c.in-Ok.ensures.comes) in
    subst (λ n. RisesWhere n (g.H.PairHash.pairs c.args.hasher.now)
    (g.H.PairHash.pairs c.do_task.new.hasher))
    (sym (made.same.least g.H.PairHash.pair_of held))
    (c.do_task.ensures.least held (c.in-Ok.ensures.leaves.content ∙ told) memory)

pub returns-in-Err-Usage-clause-ends : goal.returns-in-Err-Usage-clause-ends
returns-in-Err-Usage-clause-ends g c = λ held told.
    let none = not_taken (g.F.Files.content c.args.files.now) (g.F.Files.readable c.args.files.now)
    (plan_of (texts c.args.words.now)) (rw c.in-Err-Usage.field-0-is at
    c.in-Err-Usage.ensures.comes) in
    said_does (g.S.Sink.ample c.args.out.now) g.H.PairHash.pair_of held
    (is_some (plan_of (texts c.args.words.now))) (task_of held (texts c.args.words.now))
    (λ pair_of. record { text = usage_text; status = Usage }) 0 c.say_line.result
    (g.H.PairHash.pairs c.args.hasher.now) (g.H.PairHash.pairs c.args.hasher.now)
    (g.S.Sink.pieces c.args.out.now) (g.S.Sink.pieces c.say_line.new.out)
    (g.F.Files.content c.task_of.new.files)
    (ap (task_by held) none) (c.task_of.ensures.leaves.content ∙ told)
    (c.say_line.ensures.ends held (is_some (plan_of (texts c.args.words.now))))

pub returns-in-Err-Usage-clause-in_turn : goal.returns-in-Err-Usage-clause-in_turn
returns-in-Err-Usage-clause-in_turn g c = λ held told readable.
    let none = not_taken (g.F.Files.content c.args.files.now) (g.F.Files.readable c.args.files.now)
    (plan_of (texts c.args.words.now)) (rw c.in-Err-Usage.field-0-is at
    c.in-Err-Usage.ensures.comes) in
    said_does (g.S.Sink.ample c.args.out.now) g.H.PairHash.pair_of held false
    (task_of held (texts c.args.words.now))
    (λ pair_of. record { text = usage_text; status = Usage }) 0 c.say_line.result
    (g.H.PairHash.pairs c.args.hasher.now) (g.H.PairHash.pairs c.args.hasher.now)
    (g.S.Sink.pieces c.args.out.now) (g.S.Sink.pieces c.say_line.new.out)
    (g.F.Files.content c.task_of.new.files)
    (ap (task_by held) none) (c.task_of.ensures.leaves.content ∙ told)
    (c.say_line.ensures.ends held false)

pub returns-in-Err-Usage-clause-main_theorem : goal.returns-in-Err-Usage-clause-main_theorem
returns-in-Err-Usage-clause-main_theorem g c = λ held told gets puts sinks memory.
    does_quietly (g.S.Sink.ample c.args.out.now) _ _ c.say_line.result _ _ _ _ _ _ _ _ _ _ _
    (returns-in-Err-Usage-clause-ends g c held told) (c.say_line.ensures.counts
    (g.F.Files.get_faults c.args.files.now) (g.F.Files.put_faults c.args.files.now))
    (rw (rw c.in-Err-Usage.field-0-is at c.in-Err-Usage.ensures.leaves.get_faults) at gets)
    (rw c.task_of.ensures.leaves.put_faults at puts) sinks memory

pub returns-in-Err-Says-clause-ends : goal.returns-in-Err-Says-clause-ends
returns-in-Err-Says-clause-ends g c = λ held told.
    let is = line_said held (g.F.Files.readable c.args.files.now)
    (plan_of (texts c.args.words.now)) c.in-Err-Says.line
    (rw (c.in-Err-Says.field-0-is, told) at c.in-Err-Says.ensures.comes) in
    said_does (g.S.Sink.ample c.args.out.now) g.H.PairHash.pair_of held
    (is_some (plan_of (texts c.args.words.now))) (task_of held (texts c.args.words.now))
    (λ pair_of. printed c.in-Err-Says.line) 0 c.print_line.result
    (g.H.PairHash.pairs c.args.hasher.now) (g.H.PairHash.pairs c.args.hasher.now)
    (g.S.Sink.pieces c.args.out.now) (g.S.Sink.pieces c.print_line.new.out)
    (g.F.Files.content c.task_of.new.files)
    is (c.task_of.ensures.leaves.content ∙ told)
    (c.print_line.ensures.ends held (is_some (plan_of (texts c.args.words.now))))

pub returns-in-Err-Says-clause-in_turn : goal.returns-in-Err-Says-clause-in_turn
returns-in-Err-Says-clause-in_turn g c = λ held told readable.
    let is = line_said held (g.F.Files.readable c.args.files.now)
    (plan_of (texts c.args.words.now)) c.in-Err-Says.line
    (rw (c.in-Err-Says.field-0-is, told) at c.in-Err-Says.ensures.comes) in
    said_does (g.S.Sink.ample c.args.out.now) g.H.PairHash.pair_of held false
    (task_of held (texts c.args.words.now))
    (λ pair_of. printed c.in-Err-Says.line) 0 c.print_line.result
    (g.H.PairHash.pairs c.args.hasher.now) (g.H.PairHash.pairs c.args.hasher.now)
    (g.S.Sink.pieces c.args.out.now) (g.S.Sink.pieces c.print_line.new.out)
    (g.F.Files.content c.task_of.new.files)
    is (c.task_of.ensures.leaves.content ∙ told) (c.print_line.ensures.ends held false)

pub returns-in-Err-Says-clause-main_theorem : goal.returns-in-Err-Says-clause-main_theorem
returns-in-Err-Says-clause-main_theorem g c = λ held told gets puts sinks memory.
    does_quietly (g.S.Sink.ample c.args.out.now) _ _ c.print_line.result _ _ _ _ _ _ _ _ _ _ _
    (returns-in-Err-Says-clause-ends g c held told) (c.print_line.ensures.counts
    (g.F.Files.get_faults c.args.files.now) (g.F.Files.put_faults c.args.files.now))
    (rw (rw c.in-Err-Says.field-0-is at c.in-Err-Says.ensures.leaves.get_faults) at gets)
    (rw c.task_of.ensures.leaves.put_faults at puts) sinks memory

pub returns-in-Err-Says-clause-least : goal.returns-in-Err-Says-clause-least
returns-in-Err-Says-clause-least g c = λ held told memory read.
    let is = line_said held (g.F.Files.readable c.args.files.now)
    (plan_of (texts c.args.words.now)) c.in-Err-Says.line
    (rw (c.in-Err-Says.field-0-is, told) at c.in-Err-Says.ensures.comes) in
    subst (λ (task : Task). RisesWhere (least_of_task g.H.PairHash.pair_of held task)
    (g.H.PairHash.pairs c.args.hasher.now)
    (g.H.PairHash.pairs c.args.hasher.now)) (sym is) tt

pub returns-in-Err-Read-clause-ends : goal.returns-in-Err-Read-clause-ends
returns-in-Err-Read-clause-ends g c = λ held told.
    rw (c.task_of.ensures.leaves.content, told) (fails_first (g.S.Sink.ample c.args.out.now)
    g.H.PairHash.pair_of held (is_some (plan_of (texts c.args.words.now)))
    (task_of held (texts c.args.words.now))
    (g.H.PairHash.pairs c.args.hasher.now) (g.H.PairHash.pairs c.args.hasher.now)
    (g.S.Sink.pieces c.args.out.now)
    (taken_failed (g.F.Files.content c.args.files.now) (g.F.Files.readable c.args.files.now)
    (plan_of (texts c.args.words.now))
    (rw c.in-Err-Read.field-0-is at c.in-Err-Read.ensures.comes)))

pub returns-in-Err-Read-clause-in_turn : goal.returns-in-Err-Read-clause-in_turn
returns-in-Err-Read-clause-in_turn g c = λ held told readable.
    absurd (read_failed held (g.F.Files.readable c.args.files.now)
    (plan_of (texts c.args.words.now))
    (rw (c.in-Err-Read.field-0-is, told) at c.in-Err-Read.ensures.comes) readable)

pub returns-in-Err-Read-clause-reached : goal.returns-in-Err-Read-clause-reached
returns-in-Err-Read-clause-reached g c = λ held told all same.
    read_failed held (g.F.Files.readable c.args.files.now) (plan_of (texts c.args.words.now))
    (rw (c.in-Err-Read.field-0-is, told) at c.in-Err-Read.ensures.comes)
    (all_front (g.F.Files.readable c.args.files.now) (reached_first held (texts c.args.words.now))
    _ all)

pub returns-in-Err-Read-clause-readable : goal.returns-in-Err-Read-clause-readable
returns-in-Err-Read-clause-readable g c = λ plan is all same.
    unreadable_words (g.F.Files.content c.args.files.now) (g.F.Files.readable c.args.files.now)
    (plan_of (texts c.args.words.now))
    plan is (rw c.in-Err-Read.field-0-is at c.in-Err-Read.ensures.comes) all

pub returns-in-Err-Memory-clause-ends : goal.returns-in-Err-Memory-clause-ends
returns-in-Err-Memory-clause-ends g c = λ held told.
    rw (c.task_of.ensures.leaves.content, told) (wants_memory_first (g.S.Sink.ample c.args.out.now)
    g.H.PairHash.pair_of held (is_some (plan_of (texts c.args.words.now)))
    (task_of held (texts c.args.words.now))
    (g.H.PairHash.pairs c.args.hasher.now) _ (g.H.PairHash.pairs c.args.hasher.now)
    (g.S.Sink.pieces c.args.out.now) (zero_table (g.H.PairHash.pairs c.args.hasher.now)))

pub returns-in-Err-Memory-clause-in_turn : goal.returns-in-Err-Memory-clause-in_turn
returns-in-Err-Memory-clause-in_turn g c = λ held told readable.
    rw (c.task_of.ensures.leaves.content, told) (wants_memory_first (g.S.Sink.ample c.args.out.now)
    g.H.PairHash.pair_of held false (task_of held (texts c.args.words.now))
    (g.H.PairHash.pairs c.args.hasher.now) _ (g.H.PairHash.pairs c.args.hasher.now)
    (g.S.Sink.pieces c.args.out.now) (zero_table (g.H.PairHash.pairs c.args.hasher.now)))

pub returns-in-Ok-clause-asked : goal.returns-in-Ok-clause-asked
returns-in-Ok-clause-asked g c = λ held told.
    let made = task_made held (g.F.Files.readable c.args.files.now)
    (plan_of (texts c.args.words.now)) c.in-Ok.task (rw told at c.in-Ok.ensures.comes) in
    asks-behind (is_cut c.do_task.result) _ _ _ _ _ (c.in-Ok.ensures.asks held told)
    (rw (made.same.asks g.H.PairHash.pair_of held)
    (c.do_task.ensures.asks held (c.in-Ok.ensures.leaves.content ∙ told)))

pub returns-in-Err-Usage-clause-asked : goal.returns-in-Err-Usage-clause-asked
returns-in-Err-Usage-clause-asked g c = λ held told.
    let none = not_taken (g.F.Files.content c.args.files.now) (g.F.Files.readable c.args.files.now)
    (plan_of (texts c.args.words.now)) (rw c.in-Err-Usage.field-0-is at
    c.in-Err-Usage.ensures.comes) in
    asks-alone (is_cut c.say_line.result) _ _ _ _
    (ap (λ (task : Task). asks_of_task g.H.PairHash.pair_of held task) (ap (task_by held) none))
    (rw c.in-Err-Usage.field-0-is at (c.in-Err-Usage.ensures.asks held told))

pub returns-in-Err-Says-clause-asked : goal.returns-in-Err-Says-clause-asked
returns-in-Err-Says-clause-asked g c = λ held told.
    let is = line_said held (g.F.Files.readable c.args.files.now)
    (plan_of (texts c.args.words.now)) c.in-Err-Says.line
    (rw (c.in-Err-Says.field-0-is, told) at c.in-Err-Says.ensures.comes) in
    asks-alone (is_cut c.print_line.result) _ _ _ _
    (ap (λ (task : Task). asks_of_task g.H.PairHash.pair_of held task) is)
    (rw c.in-Err-Says.field-0-is at (c.in-Err-Says.ensures.asks held told))

pub returns-in-Err-Read-clause-asked : goal.returns-in-Err-Read-clause-asked
returns-in-Err-Read-clause-asked g c = λ held told.
    asks-within _ _ _ _ (rw c.in-Err-Read.field-0-is at (c.in-Err-Read.ensures.asks held told))

pub returns-in-Err-Memory-clause-asked : goal.returns-in-Err-Memory-clause-asked
returns-in-Err-Memory-clause-asked g c = λ held told.
    asks-within _ _ _ _ (rw c.in-Err-Memory.field-0-is at (c.in-Err-Memory.ensures.asks held told))
