use Rattle.ssz_words.specs.CommandSet.{program}
use Rattle.ssz_words.proofs.command_set.program.Goals as goal

pub returns : goal.returns
unfolding program
returns c = c.with_command.ensures _ _ (c.with_command-program-7.ensures _ _
    (c.with_command-program-6.ensures _ _ (c.with_command-program-5.ensures _ _
    (c.with_command-program-4.ensures _ _ (c.with_command-program-3.ensures _ _
    (c.with_command-program-2.ensures _ _ (c.with_command-program.ensures _ _
    c.bare_program.ensures c.root_command.ensures) c.run_command.ensures) c.weave_command.ensures)
    c.verify_command.ensures) c.work_command.ensures) c.part_command.ensures)
    c.partial_command.ensures) c.clash_command.ensures
