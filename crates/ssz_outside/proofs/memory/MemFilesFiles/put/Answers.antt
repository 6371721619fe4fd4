use Rattle.std.proofs.Common.{ap, ◌∙◌}
use Rattle.std.specs.FinMap as map
use Rattle.ssz_outside.proofs.Readable.{IsReadable-insert}
use Rattle.ssz_outside.proofs.memory.MemFilesFiles.put.Goals as goal

pub returns-clause-readable : goal.returns-clause-readable
returns-clause-readable c = λ other readable.
    let name = c.args.name.now in
    let bytes = c.args.bytes.now in
    let same = ap (λ f. f.failing) c.self.view_is in
    let put = c.in_ok-insert-2.ensures.ok
    ∙ ap (λ f. map.insert f.named name bytes) c.self.view_is in
    IsReadable-insert c.args.self.now _ name bytes other same put readable
