use Rattle.ssz_tool.proofs.job.task_of_command.Goals as goal

pub returns-in-Root : goal.returns-in-Root
returns-in-Root g c =
    rw c.in-Root.is (record {
      comes = c.task_of_root.ensures.comes;
      asks = c.task_of_root.ensures.asks;
      usable = c.task_of_root.ensures.usable;
      leaves = c.task_of_root.ensures.leaves;
    })

pub returns-in-Verify : goal.returns-in-Verify
returns-in-Verify g c =
    rw c.in-Verify.is (record {
      comes = c.task_of_verify.ensures.comes;
      asks = c.task_of_verify.ensures.asks;
      usable = c.task_of_verify.ensures.usable;
      leaves = c.task_of_verify.ensures.leaves;
    })

pub returns-in-Run : goal.returns-in-Run
returns-in-Run g c =
    rw c.in-Run.is (record {
      comes = c.task_of_run.ensures.comes;
      asks = c.task_of_run.ensures.asks;
      usable = c.task_of_run.ensures.usable;
      leaves = c.task_of_run.ensures.leaves;
    })

pub returns-in-Weave : goal.returns-in-Weave
returns-in-Weave g c =
    rw c.in-Weave.is (record {
      comes = c.task_of_weave.ensures.comes;
      asks = c.task_of_weave.ensures.asks;
      usable = c.task_of_weave.ensures.usable;
      leaves = c.task_of_weave.ensures.leaves;
    })

pub returns-in-Work : goal.returns-in-Work
returns-in-Work g c =
    rw c.in-Work.is (record {
      comes = c.task_of_work.ensures.comes;
      asks = c.task_of_work.ensures.asks;
      usable = c.task_of_work.ensures.usable;
      leaves = c.task_of_work.ensures.leaves;
    })

pub returns-in-Clash : goal.returns-in-Clash
returns-in-Clash g c =
    rw c.in-Clash.is (record {
      comes = c.task_of_clash.ensures.comes;
      asks = c.task_of_clash.ensures.asks;
      usable = c.task_of_clash.ensures.usable;
      leaves = c.task_of_clash.ensures.leaves;
    })
