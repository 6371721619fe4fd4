use Rattle.ssz_types.proofs.BasicLemmas.{IsBasicEntry-boolean}
use Rattle.ssz_types.proofs.entry.Entry.boolean.Goals as goal

pub returns : goal.returns
returns c = IsBasicEntry-boolean c.basic.result c.new.result c.basic.ensures c.new.ensures.items
