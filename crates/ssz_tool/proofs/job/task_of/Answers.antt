use Rattle.std.proofs.Common.{false, refl}
use Rattle.ssz_outside.proofs.Asking.{asks-none_yet, asks-nothing}
use Rattle.ssz_tool.specs.Commands.{plan_of, texts}
use Rattle.ssz_tool.proofs.Followed.{wants_memory}
use Rattle.ssz_tool.proofs.job.task_of.Goals as goal

pub returns-in-Ok : goal.returns-in-Ok
unfolding plan_of
returns-in-Ok g c = rw c.in-Ok.ensures.exact c.task_of_command.ensures

pub returns-in-Err-NotTaken : goal.returns-in-Err-NotTaken
unfolding plan_of
returns-in-Err-NotTaken g c =
    rw (rw c.in-Err-NotTaken.field-0-is at c.in-Err-NotTaken.ensures.exact) (record {
      comes = tt;
      asks = λ held told. asks-nothing false _;
      usable = λ can. tt;
      leaves = record {
        content = refl;
        readable = λ name can. can;
        get_faults = refl;
        put_faults = refl;
      };
    })

pub returns-in-Err-Memory : goal.returns-in-Err-Memory
returns-in-Err-Memory g c = record {
  comes = wants_memory _ _ (plan_of (texts c.args.words.now));
  asks = λ held told. asks-none_yet _ _;
  usable = λ can. tt;
  leaves = record {
    content = refl;
    readable = λ name can. can;
    get_faults = refl;
    put_faults = refl;
  };
}
