use Rattle.std.proofs.Common.{◌∙◌}
use Rattle.ssz_offsets.proofs.FourBytes.{four_read}
use Rattle.ssz_offsets.proofs.checks.read_offset.Goals as goal

pub returns : goal.returns
returns c = c.read_u32.ensures ∙ four_read c.args.bytes.now c.requires
