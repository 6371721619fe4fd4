use Rattle.ssz_types.proofs.BasicLemmas.{IsBasicEntry-uint}
use Rattle.ssz_types.proofs.entry.Entry.uint.Goals as goal

pub returns : goal.returns
returns c = IsBasicEntry-uint c.args.width c.basic.result c.new.result c.byte_count.result
    c.byte_count.ensures.exact c.basic.ensures c.new.ensures.items
