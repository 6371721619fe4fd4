use Rattle.ssz_handles.specs.Answering.{scene_at}
use Rattle.ssz_handles.proofs.ReachSteps.{reaches}
use Rattle.ssz_handles.proofs.session.Session.reach.Goals as goal

pub returns-clause-does : goal.returns-clause-does
returns-clause-does c =
    let answer = c.answer.ensures in
    reaches (scene_at c.args.self.now) c.args.statement.now c.answer.new.self
    c.answer.new.hasher answer.keeps c.answer.result answer.ok answer.stops answer.err
    answer.nodes answer.intact

pub returns-clause-leaves : goal.returns-clause-leaves
returns-clause-leaves c =
    let answer = c.answer.ensures in
    record {
      each = record {
        nodes = answer.nodes;
        whole = answer.whole;
        entries = answer.err;
        intact = answer.intact;
        finds = answer.found;
        rises = answer.rises;
        most = answer.hashed;
        due = answer.due;
        some = answer.some;
        still = answer.still;
      };
      compacts = answer.compacted;
      does = answer.ok;
    }
