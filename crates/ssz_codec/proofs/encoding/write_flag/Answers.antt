use Rattle.std.proofs.Common.{◌∙◌, ap}
use Rattle.ssz_value.specs.Standing.{value_of}
use Rattle.ssz_value.proofs.ValueLemmas.{flag_is}
use Rattle.ssz_basic.proofs.PutLemmas.{bit_number}
use Rattle.ssz_codec.proofs.EncodingLemmas.{flag_writes}
use Rattle.ssz_codec.proofs.encoding.write_flag.Goals as goal

pub returns-in-Bool : goal.returns-in-Bool
returns-in-Bool c =
    flag_writes (value_of c.args.value.now) c.in-Bool.flag c.from.result c.args.room.now
    (ap value_of c.in-Bool.is ∙ flag_is c.in-Bool.flag) c.requires.room (c.from.ensures
    ∙ bit_number c.in-Bool.flag)
